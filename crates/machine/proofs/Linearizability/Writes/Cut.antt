-- Line 62 with A in main of a lane: main ends at A, and what was beyond goes to the spur.
use mathlib.Core.Path.{◌≡◌, refl, ap, sym, ◌∙◌}
use mathlib.Core.Logic.{◌≢◌, ◌⊎◌, inl, inr}
use mathlib.Core.Bool.{Bool}
use Prim.Native.Nat.{ℕ, suc, ◌-◌, ◌≤◌, ◌<◌}
use native.Mathlib.Omega.{arith}
use Rattle.machine.specs.Sides.{Side}
use Rattle.machine.specs.Values.{Value, N, X, Y}
use Rattle.machine.specs.Tasks.{no_node}
use Rattle.machine.proofs.Basics.Contradiction.{clash, equal?, less?, refute}
use Rattle.machine.proofs.Basics.Updates.{Wrote}
use Rattle.machine.proofs.Words.Memories.{View}
use Rattle.machine.proofs.Linearizability.Model.Classes.{Class, main, spur, Old, of, owner}
use Rattle.machine.proofs.Linearizability.Writes.ClassChanges.{Cut, goes-to-spur, not-cut}
use Rattle.machine.proofs.Linearizability.Model.Structure.{
  CutFrom,
  LinkedOrCut,
  linked,
  cut_off,
  Main,
  Frame,
  MainValues,
  Spur,
  Structure,
}
use Rattle.machine.proofs.Linearizability.Model.Guarantee.{Guarantee, ChainsKept, Guarantees}
use Rattle.machine.proofs.Linearizability.Model.Nodes.{
  first,
  far-zone,
  row-zone,
  near-zone,
  last,
  at-apart,
  zone,
  N-from-b,
  N-before-n,
}

-- Main ends at A.
abbrev pub cut_frame : Frame → (A : ℕ) → Frame
cut_frame F A = record { at = F.at; index = F.index; n = F.index A; a = F.a; b = F.b; bags = F.bags }

module _ {ℓ : ℕ} {s o : Side} {m : View} {class : ℕ → Class} {F : Frame} (S : Structure ℓ s o m class F)
    {A B : ℕ} {val₁ val' : ℕ → Value} (wrote-X : Wrote m.val A (X s) val₁) (wrote-Y : Wrote val₁ B (Y s) val')
    {class' : ℕ → Class} (cut : (x : ℕ) → Cut ℓ s class F.index (F.index A) class' x)
    (A-main : class A ≡ main ℓ) (A-N : m.val A ≡ N s) (B-N : m.val B ≡ N s)
    (next : LinkedOrCut s m.out m.val class A B) where
  open m use {out, inn, val, hats}
  open F use {at, index, n, b}

  -- ---- Where A and B are.
  A-at : A ≡ at (index A)
  A-at = sym (S.main_list.at-index A A-main)

  A≤n : index A ≤ n
  A≤n = S.main_list.index-le A A-main

  b≤A : b ≤ index A
  b≤A = N-from-b S (index A) A≤n (cc (A-at))

  A<n : index A < n
  A<n = N-before-n S (index A) A≤n (cc (A-at))

  B-at : B ≡ at (suc (index A))
  B-at = elim next [ linked e ↦ cc (A-at, S.links.links-out (index A) A<n) | cut_off c y ↦ clash (cc) ]

  B-main : class B ≡ main ℓ
  B-main = cc (B-at, S.main_list.is-main (suc (index A)) A<n)

  -- ---- The classes.
  spur-stays : (x : ℕ) (z : Side) → class x ≡ spur z → class' x ≡ spur z
  spur-stays x z h = elim (cut x) [ goes-to-spur c l e ↦ clash (cc) | not-cut l e ↦ cc ]

  was-far-spur : (x : ℕ) → class' x ≡ spur o → class x ≡ spur o
  was-far-spur x h =
      elim (cut x) [ goes-to-spur c l e ↦ clash (cc) | not-cut l e ↦ cc ]

  stays-old : (x : ℕ) → Old class x → Old class' x
  stays-old x h = elim (cut x) [ goes-to-spur c l e ↦ cc | not-cut l e ↦ cc ]

  beyond : (i : ℕ) → index A < i → i ≤ n → class' (at i) ≡ spur s
  beyond i h l =
      elim (cut (at i)) [
        | goes-to-spur c k e ↦ e
        | not-cut k e ↦
            clash (let q = k (S.main_list.is-main i l) in let p = S.main_list.index_at i l in omega arith)
      ]

  within : (i : ℕ) → i ≤ index A → class' (at i) ≡ main ℓ
  within i h =
      elim (cut (at i)) [
        | goes-to-spur c k e ↦ clash (let p = S.main_list.index_at i (omega (arith, A≤n)) in omega arith)
        | not-cut k e ↦ cc (S.main_list.is-main i (omega (arith, A≤n)))
      ]

  pub cut-A : class' A ≡ main ℓ
  cut-A = cc (within (index A) (omega arith), A-at)

  pub cut-B : class' B ≡ spur s
  cut-B = cc (beyond (suc (index A)) (omega arith) A<n, B-at)

  -- ---- The values: only those of A and B change.
  A≢B : A ≢ B
  A≢B = λ e. at-apart S (index A) (suc (index A)) A≤n A<n (omega arith) (cc (A-at, B-at))

  same : (x : ℕ) → x ≢ A → x ≢ B → val' x ≡ val x
  same x h k = wrote-Y.elsewhere x k ∙ wrote-X.elsewhere x h

  same_at : (i : ℕ) → i ≤ n → i ≢ index A → i ≢ suc (index A) → val' (at i) ≡ val (at i)
  same_at i l h k =
      same (at i) (λ e. at-apart S i (index A) l A≤n h (cc (A-at)))
      (λ e. at-apart S i (suc (index A)) l A<n k (cc (B-at)))

  same_spur : (x : ℕ) (z : Side) → class x ≡ spur z → val' x ≡ val x
  same_spur x z h = same x (λ e. refute (cc)) (λ e. refute (cc (B-main)))

  cut-from-stays : {link : ℕ → ℕ} {z : Side} {x y : ℕ} → CutFrom z link val class y x → CutFrom z link val' class' y x
  cut-from-stays h =
      record {
        in-spur = spur-stays _ _ h.in-spur;
        is-Y = same_spur _ _ h.in-spur ∙ h.is-Y;
        leads-back = h.leads-back;
      }

  -- ---- The nodes of main beyond A, which are in the spur now.
  mark-beyond : (x : ℕ) → class x ≡ main ℓ → index A < index x → owner (val' x) ≡ of s
  mark-beyond x c h =
      let l = S.a<b in
      let p = b≤A in
      elim (equal? x B) [
        | inl e ↦ cc wrote-Y.here
        | inr e ↦
            let q = same x (λ f. let y = ap index f in absurd (omega arith)) e in
            elim (zone S x c) [
              | first i v ↦ absurd (omega arith)
              | far-zone i j v ↦ absurd (omega arith)
              | row-zone u i j v ↦ absurd (omega arith)
              | near-zone i j v ↦ cc
              | last i v ↦ cc
            ]
      ]

  inward-beyond : (x : ℕ) → class x ≡ main ℓ → index A < index x → class (inn x) ≡ main ℓ
  inward-beyond x c h =
      let j : ℕ = index x - 1 in
      let e : suc j ≡ index x = omega arith in
      let l = S.main_list.index-le x c in
      cc (S.links.links-in j (omega arith), S.main_list.at-index x c, S.main_list.is-main j (omega arith))

  outward-beyond : (x : ℕ) → class x ≡ main ℓ → index A < index x → (out x ≡ no_node) ⊎ (class' (out x) ≡ spur s)
  outward-beyond x c h =
      let e = S.main_list.at-index x c in
      let l = S.main_list.index-le x c in
      elim (less? (index x) n) [
        | inl k ↦ inr (cc (S.links.links-out (index x) k, beyond (suc (index x)) (omega arith) k))
        | inr k ↦
            let z : index x ≡ n = omega arith in
            elim S.last_out [ inl f ↦ inl (cc) | inr y ↦ inr (cc (spur-stays _ _ y.in-spur)) ]
      ]

  cut-near-spur : Spur s out inn val' class'
  cut-near-spur =
      record {
        own-mark =
            λ x h. elim (cut x) [
              | goes-to-spur c l e ↦ mark-beyond x c l
              | not-cut l e ↦ let q : class x ≡ spur s = cc in cc (same_spur x s q, S.near-spur.own-mark x q)
            ];
        inward-old =
            λ x h. elim (cut x) [
              | goes-to-spur c l e ↦ stays-old (inn x) (cc (inward-beyond x c l))
              | not-cut l e ↦ stays-old (inn x) (S.near-spur.inward-old x (cc))
            ];
        outward-spur =
            λ x h. elim (cut x) [
              | goes-to-spur c l e ↦ outward-beyond x c l
              | not-cut l e ↦
                  elim (S.near-spur.outward-spur x (cc)) [ inl f ↦ inl f | inr f ↦ inr (spur-stays _ _ f) ]
            ];
      }

  cut-far-spur : Spur o inn out val' class'
  cut-far-spur =
      record {
        own-mark = λ x h. let q = was-far-spur x h in cc (same_spur x o q, S.far_spur.own-mark x q);
        inward-old = λ x h. stays-old _ (S.far_spur.inward-old x (was-far-spur x h));
        outward-spur =
            λ x h. elim (S.far_spur.outward-spur x (was-far-spur x h)) [
              | inl e ↦ inl e
              | inr c ↦ inr (spur-stays _ _ c)
            ];
      }

  -- ---- Main, which ends at A now.
  cut-main-list : Main ℓ class' at index (index A)
  cut-main-list =
      record {
        is-main = within;
        index_at = λ i h. S.main_list.index_at i (omega (arith, A≤n));
        index-le = λ x h. elim (cut x) [ goes-to-spur c l e ↦ clash (cc) | not-cut l e ↦ l (cc) ];
        at-index =
            λ x h. elim (cut x) [ goes-to-spur c l e ↦ clash (cc) | not-cut l e ↦ S.main_list.at-index x (cc) ];
      }

  cut-values : MainValues s o val' (cut_frame F A)
  cut-values =
      let l = S.a<b in
      let p = b≤A in
      let q = A<n in
      record {
        X-first = same_at 0 (omega arith) (omega arith) (omega arith) ∙ S.values.X-first;
        N-far = λ i h k. same_at i (omega arith) (omega arith) (omega arith) ∙ S.values.N-far i h k;
        bag-between = λ i h k. same_at i (omega arith) (omega arith) (omega arith) ∙ S.values.bag-between i h k;
        N-near =
            λ i h k. same_at i (omega arith) (omega arith) (omega arith) ∙ S.values.N-near i h (omega arith);
        X-last = ap val' (sym A-at) ∙ wrote-Y.elsewhere A A≢B ∙ wrote-X.here;
      }

  cut-last-out : (out (at (index A)) ≡ no_node) ⊎ CutFrom s inn val' class' (out (at (index A))) (at (index A))
  cut-last-out =
      let e : out (at (index A)) ≡ B = cc (S.links.links-out (index A) A<n, B-at) in
      inr (record {
        in-spur = cc (cut-B);
        is-Y = cc wrote-Y.here;
        leads-back = cc (S.links.links-in (index A) A<n, B-at);
      })

  pub cut_keeps : Structure ℓ s o (record { out = out; inn = inn; val = val'; hats = hats }) class' (cut_frame F A)
  cut_keeps =
      record {
        sides = S.sides;
        none_free =
            elim (cut no_node) [ goes-to-spur c l e ↦ clash (cc S.none_free) | not-cut l e ↦ cc S.none_free ];
        a<b = S.a<b;
        b≤n = b≤A;
        main_list = cut-main-list;
        values = cut-values;
        links =
            record {
              links-out = λ i h. S.links.links-out i (omega (arith, A<n));
              links-in = λ i h. S.links.links-in i (omega (arith, A<n));
            };
        last_out = cut-last-out;
        first-in = elim S.first-in [ inl h ↦ inl h | inr y ↦ inr (cut-from-stays y) ];
        near-hat = λ j e. elim (S.near-hat j e) [ inl h ↦ inl h | inr y ↦ inr (cut-from-stays y) ];
        far-hat = elim S.far-hat [ inl h ↦ inl h | inr y ↦ inr (cut-from-stays y) ];
        near-spur = cut-near-spur;
        far_spur = cut-far-spur;
      }

  -- The other lanes keep their nodes and the words of these.
  pub cut-stays-main : (x j : ℕ) → j ≢ ℓ → class x ≡ main j → class' x ≡ main j
  cut-stays-main x j ne h = elim (cut x) [ goes-to-spur c l e ↦ absurd (ne (cc)) | not-cut l e ↦ cc ]

  pub cut-was-main : (x j : ℕ) → class' x ≡ main j → class x ≡ main j
  cut-was-main x j h = elim (cut x) [ goes-to-spur c l e ↦ clash (cc) | not-cut l e ↦ cc ]

  pub cut-same-value : (x j : ℕ) → j ≢ ℓ → class x ≡ main j → val' x ≡ val x
  cut-same-value x j ne h = same x (λ e. ne (cc)) (λ e. ne (cc (B-main)))

  -- ---- The guarantee.
  cut-near : (held : ℕ → Bool) → Guarantee held s out inn val class out inn val' class'
  cut-near held =
      record {
        spur-stays = λ x _ h. spur-stays x s h;
        spur-inward = λ x _ h. refl;
        Y-stays = λ x _ h y. same_spur x s h ∙ y;
        spur-not-main = λ x j h e. refute (cc (spur-stays x s h));
        main-old = λ x j h. stays-old x (cc);
        main-outward = λ x j _ _. inl refl;
        cut-inward = λ x j h c. refl;
        cut-behind-main =
            λ x j h c. elim (cut x) [ goes-to-spur k l e ↦ cc (inward-beyond x k l) | not-cut l e ↦ clash (cc) ];
      }

  cut-far : (held : ℕ → Bool) → Guarantee held o inn out val class inn out val' class'
  cut-far held =
      record {
        spur-stays = λ x _ h. spur-stays x o h;
        spur-inward = λ x _ h. refl;
        Y-stays = λ x _ h y. same_spur x o h ∙ y;
        spur-not-main = λ x j h e. refute (cc (spur-stays x o h));
        main-old = λ x j h. stays-old x (cc);
        main-outward = λ x j _ _. inl refl;
        cut-inward = λ x j h c. refl;
        cut-behind-main = λ x j h c. clash (cc (was-far-spur x c));
      }

  cut-chains : (k : ℕ) → ChainsKept k out inn val class out inn val' class'
  cut-chains k =
      record {
        stays-new = λ x j _ h. elim (cut x) [ goes-to-spur c l e ↦ clash (cc) | not-cut l e ↦ cc ];
        same-words =
            λ x j _ h. record {
              same_out = refl;
              same-inn = refl;
              same-val = same x (λ e. refute (cc)) (λ e. refute (cc (B-main)));
            };
        was-new = λ x j _ h. elim (cut x) [ goes-to-spur c l e ↦ clash (cc) | not-cut l e ↦ cc ];
      }

  pub cut-guarantees : (held : ℕ → Bool) (k : ℕ) → Guarantees held k s o out inn val class out inn val' class'
  cut-guarantees held k = record { near = cut-near held; far = cut-far held; chains = cut-chains k }
