-- Line 25 with A in main of a lane: the chain of the task becomes the end of main.
use mathlib.Core.Path.{◌≡◌, refl, ◌∙◌}
use mathlib.Core.Logic.{◌≢◌, ◌⊎◌, inl, inr}
use mathlib.Core.Bool.{Bool}
use Prim.Native.Nat.{ℕ, suc, ◌+◌, ◌-◌, ◌≤◌, ◌<◌}
use native.Mathlib.Omega.{arith}
use Rattle.machine.specs.Sides.{Side}
use Rattle.machine.specs.Values.{Value, N, X}
use Rattle.machine.specs.Tasks.{no_node}
use Rattle.machine.proofs.Basics.Contradiction.{clash, equal?, less?, refute}
use Rattle.machine.proofs.Basics.Updates.{Wrote}
use Rattle.machine.proofs.Words.Memories.{View}
use Rattle.machine.proofs.Linearizability.Model.Classes.{Class, main, spur, Old}
use Rattle.machine.proofs.Linearizability.Writes.ClassChanges.{Joined, joins, not-joined, Extended}
use Rattle.machine.proofs.Linearizability.Model.Structure.{CutFrom, Main, Frame, MainValues, Spur, Structure}
use Rattle.machine.proofs.Linearizability.Model.Chain.{Chain}
use Rattle.machine.proofs.Linearizability.Model.Guarantee.{Guarantee, Guarantees}
use Rattle.machine.proofs.Linearizability.Model.Nodes.{at-apart, X-at-n}
use Rattle.machine.proofs.Linearizability.Writes.Joined.{old-same, new-joins, joined-chains}

-- An index of the longer main: of main as it was, or of the chain.
data Place (at node at' : ℕ → ℕ) (n m i : ℕ) : Type 0 where
  in-front : i ≤ n → at' i ≡ at i → Place at node at' n m i
  in-chain : (j : ℕ) → i ≡ suc (n + j) → j ≤ m → at' i ≡ node j → Place at node at' n m i

-- Main with the nodes 0 .. last of a chain behind it.
abbrev pub spliced_frame : Frame → (at' index' : ℕ → ℕ) (last : ℕ) → Frame
spliced_frame F at' index' last =
    record { at = at'; index = index'; n = suc (F.n + last); a = F.a; b = F.b; bags = F.bags }

module _ {ℓ : ℕ} {s o : Side} {m : View} {class : ℕ → Class} {F : Frame} (S : Structure ℓ s o m class F)
    {k : ℕ} {node place : ℕ → ℕ} {last : ℕ} (C : Chain s k m.out m.inn m.val class node place last)
    {A : ℕ} {out' : ℕ → ℕ} (wrote-out : Wrote m.out A (node 0) out')
    {val' : ℕ → Value} (wrote-val : Wrote m.val A (N s) val')
    (A-X : m.val A ≡ X s) (head_in : m.inn (node 0) ≡ A)
    {class' : ℕ → Class} (join : (x : ℕ) → Joined k (main ℓ) class class' x)
    {at' index' : ℕ → ℕ} (E : Extended ℓ k class F.at F.index F.n node place at' index')
    (A-main : class A ≡ main ℓ) where
  open m use {out, inn, val, hats}
  open F use {at, index, n, a, b}

  A-last : A ≡ at n
  A-last =
      let e = S.main_list.at-index A A-main in
      let z = X-at-n S (index A) (S.main_list.index-le A A-main) (cc) in
      cc

  0<n : 0 < n
  0<n = omega (arith, S.a<b, S.b≤n)

  -- ---- The classes.
  spur-stays : (x : ℕ) (z : Side) → class x ≡ spur z → class' x ≡ spur z
  spur-stays x z h = cc (old-same join x (cc))

  was-spur : (x : ℕ) (z : Side) → class' x ≡ spur z → class x ≡ spur z
  was-spur x z h = elim (join x) [ joins p e ↦ clash (cc) | not-joined p e ↦ cc ]

  pub splice-main-stays : (x j : ℕ) → class x ≡ main j → class' x ≡ main j
  splice-main-stays x j h = cc (old-same join x (cc))

  -- A node of main was there, or has joined lane ℓ.
  pub splice-was-main : (x j : ℕ) → class' x ≡ main j → (class x ≡ main j) ⊎ (j ≡ ℓ)
  splice-was-main x j h = elim (join x) [ joins p e ↦ inr (cc) | not-joined p e ↦ inl (cc) ]

  stays-old : (x : ℕ) → Old class x → Old class' x
  stays-old x h = cc (old-same join x h)

  joined_at : (j : ℕ) → j ≤ last → class' (node j) ≡ main ℓ
  joined_at j h = new-joins join (node j) (C.is_new j h)

  -- ---- The words: only A's outward link and value change.
  same-val-spur : (x : ℕ) (z : Side) → class x ≡ spur z → val' x ≡ val x
  same-val-spur x z h = wrote-val.elsewhere x (λ e. refute (cc))

  same-out-spur : (x : ℕ) (z : Side) → class x ≡ spur z → out' x ≡ out x
  same-out-spur x z h = wrote-out.elsewhere x (λ e. refute (cc))

  same-val-new : (j : ℕ) → j ≤ last → val' (node j) ≡ val (node j)
  same-val-new j h = wrote-val.elsewhere (node j) (λ e. refute (cc (C.is_new j h)))

  same-out-new : (j : ℕ) → j ≤ last → out' (node j) ≡ out (node j)
  same-out-new j h = wrote-out.elsewhere (node j) (λ e. refute (cc (C.is_new j h)))

  not-A : (i : ℕ) → i < n → at i ≢ A
  not-A i h = λ e. at-apart S i n (omega arith) (omega arith) (omega arith) (cc (A-last))

  same-val-at : (i : ℕ) → i < n → val' (at i) ≡ val (at i)
  same-val-at i h = wrote-val.elsewhere (at i) (not-A i h)

  same-out-at : (i : ℕ) → i < n → out' (at i) ≡ out (at i)
  same-out-at i h = wrote-out.elsewhere (at i) (not-A i h)

  near-cut-from : {x y : ℕ} → CutFrom s inn val class y x → CutFrom s inn val' class' y x
  near-cut-from h =
      record {
        in-spur = spur-stays _ _ h.in-spur;
        is-Y = same-val-spur _ _ h.in-spur ∙ h.is-Y;
        leads-back = h.leads-back;
      }

  far-cut-from : {x y : ℕ} → CutFrom o out val class y x → CutFrom o out' val' class' y x
  far-cut-from h =
      record {
        in-spur = spur-stays _ _ h.in-spur;
        is-Y = same-val-spur _ _ h.in-spur ∙ h.is-Y;
        leads-back = same-out-spur _ _ h.in-spur ∙ h.leads-back;
      }

  -- ---- Main, which is longer by the chain.
  place? : (i : ℕ) → i ≤ suc (n + last) → Place at node at' n last i
  place? i h =
      elim (less? n i) [
        | inr l ↦ in-front l (E.before i l)
        | inl l ↦
            let e : i ≡ suc (n + (i - suc n)) = omega arith in
            in-chain (i - suc n) e (omega arith) (E.behind i (i - suc n) e)
      ]

  spliced-main-list : Main ℓ class' at' index' (suc (n + last))
  spliced-main-list =
      record {
        is-main =
            λ i h. elim (place? i h) [
              | in-front l e ↦ cc (splice-main-stays (at i) ℓ (S.main_list.is-main i l))
              | in-chain j p l e ↦ cc (joined_at j l)
            ];
        index_at =
            λ i h. elim (place? i h) [
              | in-front l e ↦
                  cc (E.index-main (at i) (S.main_list.is-main i l), S.main_list.index_at i l)
              | in-chain j p l e ↦ cc (E.index-new (node j) (C.is_new j l), C.place-node j l)
            ];
        index-le =
            λ x h. elim (join x) [
              | joins p e ↦ let z = E.index-new x p in omega (arith, C.place-le x p)
              | not-joined p e ↦
                  let d : class x ≡ main ℓ = cc in
                  let z = E.index-main x d in
                  omega (arith, S.main_list.index-le x d)
            ];
        at-index =
            λ x h. elim (join x) [
              | joins p e ↦ E.behind (index' x) (place x) (E.index-new x p) ∙ C.node-place x p
              | not-joined p e ↦
                  let d : class x ≡ main ℓ = cc in
                  let l = S.main_list.index-le x d in
                  cc (E.index-main x d, E.before (index x) l, S.main_list.at-index x d)
            ];
      }

  spliced-links-out : (i : ℕ) → i < suc (n + last) → out' (at' i) ≡ at' (suc i)
  spliced-links-out i h =
      elim (less? i n) [
        | inl l ↦ cc (E.before i (omega arith), E.before (suc i) l, same-out-at i l, S.links.links-out i l)
        | inr l ↦
            elim (less? n i) [
              | inl q ↦
                  let j : ℕ = i - suc n in
                  let e = E.behind i j (omega arith) in
                  let f = E.behind (suc i) (suc j) (omega arith) in
                  cc (same-out-new j (omega arith), C.links.links-out j (omega arith))
              | inr q ↦
                  let z : i ≡ n = omega arith in
                  cc (E.before i (omega arith), E.behind (suc i) 0 (omega arith), A-last, wrote-out.here)
            ]
      ]

  spliced-links-in : (i : ℕ) → i < suc (n + last) → inn (at' (suc i)) ≡ at' i
  spliced-links-in i h =
      elim (less? i n) [
        | inl l ↦ cc (E.before i (omega arith), E.before (suc i) l, S.links.links-in i l)
        | inr l ↦
            elim (less? n i) [
              | inl q ↦
                  let j : ℕ = i - suc n in
                  let e = E.behind i j (omega arith) in
                  let f = E.behind (suc i) (suc j) (omega arith) in
                  cc (C.links.links-in j (omega arith))
              | inr q ↦
                  let z : i ≡ n = omega arith in
                  cc (E.before i (omega arith), E.behind (suc i) 0 (omega arith), A-last)
            ]
      ]

  spliced-N-near : (i : ℕ) → b ≤ i → i < suc (n + last) → val' (at' i) ≡ N s
  spliced-N-near i h l =
      elim (less? i n) [
        | inl p ↦ cc (E.before i (omega arith), same-val-at i p, S.values.N-near i h p)
        | inr p ↦
            elim (less? n i) [
              | inl q ↦
                  let j : ℕ = i - suc n in
                  cc (E.behind i j (omega arith), same-val-new j (omega arith), C.N-before j (omega arith))
              | inr q ↦ let z : i ≡ n = omega arith in cc (E.before i (omega arith), A-last, wrote-val.here)
            ]
      ]

  spliced-values : MainValues s o val' (spliced_frame F at' index' last)
  spliced-values =
      let p = S.a<b in
      let q = S.b≤n in
      record {
        X-first = cc (E.before 0 (omega arith), same-val-at 0 0<n, S.values.X-first);
        N-far = λ i h l. cc (E.before i (omega arith), same-val-at i (omega arith), S.values.N-far i h l);
        bag-between =
            λ i h l. cc (E.before i (omega arith), same-val-at i (omega arith), S.values.bag-between i h l);
        N-near = spliced-N-near;
        X-last = cc (E.behind (suc (n + last)) last refl, same-val-new last (omega arith), C.X-last);
      }

  spliced-near-spur : Spur s out' inn val' class'
  spliced-near-spur =
      record {
        own-mark = λ x h. let c = was-spur x s h in cc (same-val-spur x s c, S.near-spur.own-mark x c);
        inward-old = λ x h. stays-old _ (S.near-spur.inward-old x (was-spur x s h));
        outward-spur =
            λ x h. let c = was-spur x s h in let f = same-out-spur x s c in
            elim (S.near-spur.outward-spur x c) [ inl e ↦ inl (cc) | inr e ↦ inr (cc (spur-stays _ _ e)) ];
      }

  spliced-far-spur : Spur o inn out' val' class'
  spliced-far-spur =
      record {
        own-mark = λ x h. let c = was-spur x o h in cc (same-val-spur x o c, S.far_spur.own-mark x c);
        inward-old =
            λ x h. let c = was-spur x o h in
            cc (same-out-spur x o c, stays-old _ (S.far_spur.inward-old x c));
        outward-spur =
            λ x h. elim (S.far_spur.outward-spur x (was-spur x o h)) [
              | inl e ↦ inl e
              | inr e ↦ inr (spur-stays _ _ e)
            ];
      }

  pub splice-keeps : Structure ℓ s o (record { out = out'; inn = inn; val = val'; hats = hats }) class'
      (spliced_frame F at' index' last)
  splice-keeps =
      let p = S.a<b in
      let q = S.b≤n in
      record {
        sides = S.sides;
        none_free =
            elim (join no_node) [ joins p e ↦ clash (cc S.none_free) | not-joined p e ↦ cc S.none_free ];
        a<b = S.a<b;
        b≤n = omega arith;
        main_list = spliced-main-list;
        values = spliced-values;
        links = record { links-out = spliced-links-out; links-in = spliced-links-in };
        last_out = inl (cc (E.behind (suc (n + last)) last refl, same-out-new last (omega arith), C.last_out));
        first-in =
            rw (E.before 0 (omega arith))
            (elim S.first-in [ inl h ↦ inl h | inr y ↦ inr (far-cut-from y) ]);
        near-hat =
            λ j e. rw (E.before j (omega arith), E.before b S.b≤n)
            (elim (S.near-hat j e) [ inl h ↦ inl h | inr y ↦ inr (near-cut-from y) ]);
        far-hat =
            rw (E.before a (omega arith), E.before (suc a) (omega arith))
            (elim S.far-hat [ inl h ↦ inl h | inr y ↦ inr (far-cut-from y) ]);
        near-spur = spliced-near-spur;
        far_spur = spliced-far-spur;
      }

  -- ---- The guarantee: what A led to before was cut off behind it.
  splice-outward : (x j : ℕ) → class x ≡ main j → out x ≢ no_node
      → (out' x ≡ out x) ⊎ CutFrom s inn val' class' (out x) x
  splice-outward x j h ne =
      elim (equal? x A) [
        | inr e ↦ inl (wrote-out.elsewhere x e)
        | inl e ↦
            elim S.last_out [
              | inl f ↦ absurd (ne (cc (A-last)))
              | inr y ↦ let z : x ≡ at n = e ∙ A-last in inr (rw z (near-cut-from y))
            ]
      ]

  splice-near : (held : ℕ → Bool) → Guarantee held s out inn val class out' inn val' class'
  splice-near held =
      record {
        spur-stays = λ x _ h. spur-stays x s h;
        spur-inward = λ x _ h. refl;
        Y-stays = λ x _ h y. same-val-spur x s h ∙ y;
        spur-not-main = λ x j h e. refute (cc (spur-stays x s h));
        main-old = λ x j h. stays-old x (cc);
        main-outward = splice-outward;
        cut-inward = λ x j h c. refl;
        cut-behind-main = λ x j h c. clash (cc (splice-main-stays x j h));
      }

  splice-far : (held : ℕ → Bool) → Guarantee held o inn out val class inn out' val' class'
  splice-far held =
      record {
        spur-stays = λ x _ h. spur-stays x o h;
        spur-inward = λ x _ h. same-out-spur x o h;
        Y-stays = λ x _ h y. same-val-spur x o h ∙ y;
        spur-not-main = λ x j h e. refute (cc (spur-stays x o h));
        main-old = λ x j h. stays-old x (cc);
        main-outward = λ x j h ne. inl refl;
        cut-inward = λ x j h c. clash (cc (splice-main-stays x j h));
        cut-behind-main = λ x j h c. clash (cc (splice-main-stays x j h));
      }

  pub splice-guarantees : (held : ℕ → Bool) → Guarantees held k s o out inn val class out' inn val' class'
  splice-guarantees held =
      record {
        near = splice-near held;
        far = splice-far held;
        chains = joined-chains join refl wrote-out wrote-val (cc);
      }
