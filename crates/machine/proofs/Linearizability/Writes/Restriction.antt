-- Taking a node: the structure and the guarantee where main and the spur nodes that are held keep their class.
use mathlib.Core.Path.{◌≡◌, ◌∙◌}
use mathlib.Core.Logic.{◌⊎◌, inl, inr}
use mathlib.Core.Bool.{Bool, true}
use Prim.Native.Nat.{ℕ, suc, ◌-◌, ◌≤◌, ◌<◌}
use native.Mathlib.Omega.{arith}
use Rattle.machine.specs.Sides.{Side}
use Rattle.machine.specs.Values.{Value}
use Rattle.machine.specs.Tasks.{no_node}
use Rattle.machine.proofs.Basics.Contradiction.{clash, refute}
use Rattle.machine.proofs.Words.Memories.{View}
use Rattle.machine.proofs.Linearizability.Model.Classes.{
  Class,
  free,
  main,
  spur,
  Old,
  in-main,
  in_near,
  in-far,
  old-class,
}
use Rattle.machine.proofs.Linearizability.Model.Structure.{
  CutFrom,
  Main,
  Frame,
  MainValues,
  Linked,
  Spur,
  Structure,
}
use Rattle.machine.proofs.Linearizability.Model.Guarantee.{Guarantee, SameWords}
use Rattle.machine.proofs.Linearizability.Model.Held.{ClosedSet, closed-swapped, main-held}
use Rattle.machine.proofs.Linearizability.Model.Nodes.{old-some}
use Rattle.machine.proofs.Linearizability.Model.Reversal.{reversed}

-- A change of classes that keeps main and the spur nodes that are held, with the words of what is old afterwards.
pub record Restricted (held : ℕ → Bool)
    (out inn : ℕ → ℕ) (val : ℕ → Value) (class : ℕ → Class)
    (out' inn' : ℕ → ℕ) (val' : ℕ → Value) (class' : ℕ → Class) : Type 0 where
  pub main-stays : (x l : ℕ) → class x ≡ main l → class' x ≡ main l
  pub was-main : (x l : ℕ) → class' x ≡ main l → class x ≡ main l
  pub spur-stays : (x : ℕ) (z : Side) → held x ≡ true → class x ≡ spur z → class' x ≡ spur z
  pub was-spur : (x : ℕ) (z : Side) → class' x ≡ spur z → class x ≡ spur z
  pub spur-held : (x : ℕ) (z : Side) → class' x ≡ spur z → held x ≡ true
  pub none_free : class' no_node ≡ free
  pub same-words : (x : ℕ) → Old class' x → SameWords out inn val out' inn' val' x

module _ {held : ℕ → Bool} {out inn : ℕ → ℕ} {val : ℕ → Value} {class : ℕ → Class}
    {out' inn' : ℕ → ℕ} {val' : ℕ → Value} {class' : ℕ → Class}
    (T : Restricted held out inn val class out' inn' val' class') where
  pub restricted-swap : Restricted held inn out val class inn' out' val' class'
  restricted-swap =
      record {
        main-stays = T.main-stays;
        was-main = T.was-main;
        spur-stays = T.spur-stays;
        was-spur = T.was-spur;
        spur-held = T.spur-held;
        none_free = T.none_free;
        same-words =
            λ x h. let w = T.same-words x h in
            record { same_out = w.same-inn; same-inn = w.same_out; same-val = w.same-val };
      }

  restricted-cut-from : {s : Side} {x y : ℕ}
      → held y ≡ true
      → CutFrom s inn val class y x
      → CutFrom s inn' val' class' y x
  restricted-cut-from {s} {x} {y} r h =
      let c = T.spur-stays y s r h.in-spur in
      let w = T.same-words y (cc) in
      record { in-spur = c; is-Y = cc; leads-back = cc }

  pub restricted-guarantee : {s : Side} → Guarantee held s out inn val class out' inn' val' class'
  restricted-guarantee {s} =
      record {
        spur-stays = λ x r h. T.spur-stays x s r h;
        spur-inward = λ x r h. let c = T.spur-stays x s r h in (T.same-words x (cc)).same-inn;
        Y-stays = λ x r h y. let c = T.spur-stays x s r h in (T.same-words x (cc)).same-val ∙ y;
        spur-not-main = λ x l h e. refute (cc (T.was-main x l e));
        main-old = λ x l h. cc (T.main-stays x l h);
        main-outward = λ x l h ne. inl (T.same-words x (cc (T.main-stays x l h))).same_out;
        cut-inward = λ x l h c. clash (cc (T.main-stays x l h));
        cut-behind-main = λ x l h c. clash (cc (T.main-stays x l h));
      }

module _ {ℓ : ℕ} {s o : Side} {m : View} {class : ℕ → Class} {F : Frame} (S : Structure ℓ s o m class F)
    {L : ℕ} {held : ℕ → Bool} (H : ClosedSet L held m) (is_lane : ℓ < L)
    {out' inn' : ℕ → ℕ} {val' : ℕ → Value} {class' : ℕ → Class}
    (T : Restricted held m.out m.inn m.val class out' inn' val' class') where
  open m use {out, inn, val}
  open F use {at, index, n}

  stays-old : (x : ℕ) → Old class x → held x ≡ true → Old class' x
  stays-old x h r =
      elim (old-class S.sides (class x) h) [
        | in-main l e ↦ cc (T.main-stays x l e)
        | in_near e ↦ cc (T.spur-stays x s r e)
        | in-far e ↦ cc (T.spur-stays x o r e)
      ]

  words-at : (i : ℕ) → i ≤ n → SameWords out inn val out' inn' val' (at i)
  words-at i h = T.same-words (at i) (cc (T.main-stays (at i) ℓ (S.main_list.is-main i h)))

  restricted-main-list : Main ℓ class' at index n
  restricted-main-list =
      record {
        is-main = λ i h. T.main-stays _ ℓ (S.main_list.is-main i h);
        index_at = S.main_list.index_at;
        index-le = λ x h. S.main_list.index-le x (T.was-main x ℓ h);
        at-index = λ x h. S.main_list.at-index x (T.was-main x ℓ h);
      }

  restricted-values : MainValues s o val' F
  restricted-values =
      let p = S.a<b in
      let q = S.b≤n in
      record {
        X-first = (words-at 0 (omega arith)).same-val ∙ S.values.X-first;
        N-far = λ i h l. (words-at i (omega arith)).same-val ∙ S.values.N-far i h l;
        bag-between = λ i h l. (words-at i (omega arith)).same-val ∙ S.values.bag-between i h l;
        N-near = λ i h l. (words-at i (omega arith)).same-val ∙ S.values.N-near i h l;
        X-last = (words-at n (omega arith)).same-val ∙ S.values.X-last;
      }

  restricted-links : Linked out' inn' at n
  restricted-links =
      record {
        links-out = λ i h. (words-at i (omega arith)).same_out ∙ S.links.links-out i h;
        links-in = λ i h. (words-at (suc i) h).same-inn ∙ S.links.links-in i h;
      }

  -- The outward end of main and the near spur; the far ones are these of the structure reversed.
  restricted-last-out : (out' (at n) ≡ no_node) ⊎ CutFrom s inn' val' class' (out' (at n)) (at n)
  restricted-last-out =
      let last-held = main-held S H is_lane (at n) (S.main_list.is-main n (omega arith)) in
      rw (words-at n (omega arith)).same_out
      (elim S.last_out [
        | inl h ↦ inl h
        | inr y ↦ inr (restricted-cut-from T (H.out-closed (at n) last-held (old-some S _ (cc y.in-spur))) y)
      ])

  restricted-near-spur : Spur s out' inn' val' class'
  restricted-near-spur =
      record {
        own-mark =
            λ x h. cc ((T.same-words x (cc)).same-val, S.near-spur.own-mark x (T.was-spur x s h));
        inward-old =
            λ x h.
            let i = S.near-spur.inward-old x (T.was-spur x s h) in
            let r = H.inn-closed x (T.spur-held x s h) (old-some S _ i) in
            cc ((T.same-words x (cc)).same-inn, stays-old (inn x) i r);
        outward-spur =
            λ x h.
            let w = T.same-words x (cc) in
            elim (S.near-spur.outward-spur x (T.was-spur x s h)) [
              | inl e ↦ inl (cc)
              | inr e ↦
                  let r = H.out-closed x (T.spur-held x s h) (old-some S _ (cc)) in
                  inr (cc (T.spur-stays (out x) s r e))
            ];
      }

module _ {ℓ : ℕ} {s o : Side} {m : View} {class : ℕ → Class} {F : Frame} (S : Structure ℓ s o m class F)
    {L : ℕ} {held : ℕ → Bool} (H : ClosedSet L held m) (is_lane : ℓ < L)
    {out' inn' : ℕ → ℕ} {val' : ℕ → Value} {class' : ℕ → Class}
    (T : Restricted held m.out m.inn m.val class out' inn' val' class') where
  open m use {hats}
  open F use {at, n}

  n-n : n - n ≡ 0
  n-n = omega arith

  restricted-first-in : (inn' (at 0) ≡ no_node) ⊎ CutFrom o out' val' class' (inn' (at 0)) (at 0)
  restricted-first-in =
      rw (← n-n) (restricted-last-out (reversed S) (closed-swapped H) is_lane (restricted-swap T))

  pub restricted-keeps : Structure ℓ s o (record { out = out'; inn = inn'; val = val'; hats = hats }) class' F
  restricted-keeps =
      record {
        sides = S.sides;
        none_free = T.none_free;
        a<b = S.a<b;
        b≤n = S.b≤n;
        main_list = restricted-main-list S H is_lane T;
        values = restricted-values S H is_lane T;
        links = restricted-links S H is_lane T;
        last_out = restricted-last-out S H is_lane T;
        first-in = restricted-first-in;
        near-hat =
            λ j e.
            elim (S.near-hat j e) [ inl h ↦ inl h | inr y ↦ inr (restricted-cut-from T (H.hats-held ℓ s is_lane) y) ];
        far-hat =
            elim S.far-hat [
              | inl h ↦ inl h
              | inr y ↦ inr (restricted-cut-from (restricted-swap T) (H.hats-held ℓ o is_lane) y)
            ];
        near-spur = restricted-near-spur S H is_lane T;
        far_spur = restricted-near-spur (reversed S) (closed-swapped H) is_lane (restricted-swap T);
      }
