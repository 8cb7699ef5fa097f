-- The facts that steps rely on are stable: they survive whatever keeps the guarantee.
use mathlib.Core.Path.{◌≡◌, ◌∙◌}
use mathlib.Core.Logic.{◌≢◌, inl, inr}
use mathlib.Core.Bool.{Bool, true}
use Prim.Native.Nat.{ℕ}
use Rattle.machine.specs.Sides.{Side}
use Rattle.machine.specs.Values.{Value}
use Rattle.machine.specs.Tasks.{no_node}
use Rattle.machine.proofs.Basics.Contradiction.{clash, refute}
use Rattle.machine.proofs.Linearizability.Model.Sides.{Opposite}
use Rattle.machine.proofs.Linearizability.Model.Classes.{
  Class,
  free,
  main,
  spur,
  Old,
  in-main,
  in_near,
  in-far,
  old-class,
}
use Rattle.machine.proofs.Linearizability.Model.Structure.{
  CutFrom,
  Follows,
  LinkedOrCut,
  linked,
  cut_off,
  Precedes,
  Spur,
}
use Rattle.machine.proofs.Linearizability.Model.Guarantee.{Guarantee}

-- From one side's guarantee.
module _ {held : ℕ → Bool} {s : Side}
    {out inn : ℕ → ℕ} {val : ℕ → Value} {class : ℕ → Class} {out' inn' : ℕ → ℕ} {val' : ℕ → Value} {class' : ℕ → Class}
    (G : Guarantee held s out inn val class out' inn' val' class') where
  pub cut-from-stable : (x y : ℕ) → held y ≡ true → CutFrom s inn val class y x → CutFrom s inn' val' class' y x
  cut-from-stable x y r h =
      record {
        in-spur = G.spur-stays y r h.in-spur;
        is-Y = G.Y-stays y r h.in-spur h.is-Y;
        leads-back = G.spur-inward y r h.in-spur ∙ h.leads-back;
      }

  linked-or-cut-stable : class no_node ≡ free
      → (x y l : ℕ)
      → class x ≡ main l
      → held y ≡ true
      → Old class y
      → LinkedOrCut s out val class x y
      → LinkedOrCut s out' val' class' x y
  linked-or-cut-stable none_free x y l c r y-old (linked e) =
      elim (G.main-outward x l c (λ z. refute (cc))) [
        | inl g ↦ linked (cc)
        | inr q ↦ cut_off (cc q.in-spur) (cc q.is-Y)
      ]
  linked-or-cut-stable none_free x y l c r y-old (cut_off d v) =
      cut_off (G.spur-stays y r d) (G.Y-stays y r d v)

-- From both sides' guarantees.
module _ {held : ℕ → Bool} {s o : Side} (w : Opposite s o)
    {out inn : ℕ → ℕ} {val : ℕ → Value} {class : ℕ → Class} {out' inn' : ℕ → ℕ} {val' : ℕ → Value} {class' : ℕ → Class}
    (near : Guarantee held s out inn val class out' inn' val' class')
    (far : Guarantee held o inn out val class inn' out' val' class') (none_free : class no_node ≡ free) where
  pub old-stable : (x : ℕ) → held x ≡ true → Old class x → Old class' x
  old-stable x r h =
      elim (old-class w (class x) h) [
        | in-main l e ↦ near.main-old x l e
        | in_near e ↦ cc (near.spur-stays x r e)
        | in-far e ↦ cc (far.spur-stays x r e)
      ]

  -- What is in main of some lane was in main.
  was-main : (x l : ℕ) → Old class x → class' x ≡ main l → (j : ℕ) × (class x ≡ main j)
  was-main x l h m =
      elim (old-class w (class x) h) [
        | in-main j e ↦ (j, e)
        | in_near e ↦ absurd (near.spur-not-main x l e m)
        | in-far e ↦ absurd (far.spur-not-main x l e m)
      ]

  -- Lines 5 and 72.
  pub follows-stable : (x y : ℕ)
      → held y ≡ true
      → Old class x
      → Old class y
      → Follows s out inn val class x y
      → Follows s out' inn' val' class' x y
  follows-stable x y r x-old y-old follows l m =
      let j = (was-main x l x-old m).0 in
      let c = (was-main x l x-old m).1 in
      elim (follows j c) [
        | inl e ↦
            elim (near.main-outward x j c (λ z. refute (cc))) [ inl g ↦ inl (cc) | inr q ↦ inr (rw (← e) q) ]
        | inr q ↦ inr (cut-from-stable near x y r q)
      ]

  -- Lines 42, 48 and 51.
  pub precedes-stable : (x y : ℕ)
      → held x ≡ true
      → held y ≡ true
      → Old class x
      → Old class y
      → Precedes o inn val class x y
      → Precedes o inn' val' class' x y
  precedes-stable x y rx ry x-old y-old (inl c) = inl (far.spur-stays x rx c)
  precedes-stable x y rx ry x-old y-old (inr (cut_off c v)) =
      inr (cut_off (far.spur-stays y ry c) (far.Y-stays y ry c v))
  precedes-stable x y rx ry x-old y-old (inr (linked e)) =
      elim (old-class w (class x) x-old) [
        | in-main l c ↦ inr (linked-or-cut-stable far none_free x y l c ry y-old (linked e))
        | in_near c ↦ inr (linked (near.spur-inward x rx c ∙ e))
        | in-far c ↦ inl (far.spur-stays x rx c)
      ]

  -- Line 64.
  pub not-far-stable : (x y : ℕ)
      → held x ≡ true
      → Old class x
      → class y ≡ spur s
      → (class x ≡ spur o → out x ≢ y)
      → class' x ≡ spur o
      → out' x ≢ y
  not-far-stable x y r x-old y-spur not-far c' =
      elim (old-class w (class x) x-old) [
        | in-main l c ↦ λ e. refute (cc (far.cut-inward x l c c', far.cut-behind-main x l c c'))
        | in_near c ↦ clash (cc (near.spur-stays x r c))
        | in-far c ↦ λ e. not-far c (cc (far.spur-inward x r c))
      ]

  -- Line 62.
  pub main-next-stable : (x y : ℕ)
      → held y ≡ true
      → Old class x
      → Old class y
      → ((l : ℕ) → class x ≡ main l → LinkedOrCut s out val class x y)
      → (l : ℕ)
      → class' x ≡ main l
      → LinkedOrCut s out' val' class' x y
  main-next-stable x y r x-old y-old next l m =
      let j = (was-main x l x-old m).0 in
      let c = (was-main x l x-old m).1 in
      linked-or-cut-stable near none_free x y j c r y-old (next j c)

  -- If x went from main to the spur, y went with it: this looks at the spur after the tick.
  pub spur-next-stable : Spur s out' inn' val' class'
      → class' no_node ≡ free
      → (x y : ℕ)
      → held x ≡ true
      → held y ≡ true
      → Old class x
      → Old class y
      → ((l : ℕ) → class x ≡ main l → LinkedOrCut s out val class x y)
      → (class x ≡ spur s → class y ≡ spur s)
      → class' x ≡ spur s
      → class' y ≡ spur s
  spur-next-stable spur' none-free' x y rx ry x-old y-old next spur-next c' =
      elim (old-class w (class x) x-old) [
        | in-main l c ↦
            elim (linked-or-cut-stable near none_free x y l c ry y-old (next l c)) [
              | linked e ↦
                  elim (spur'.outward-spur x c') [
                    | inl z ↦ clash (cc (old-stable y ry y-old))
                    | inr z ↦ cc
                  ]
              | cut_off d v ↦ d
            ]
        | in_near c ↦ near.spur-stays y ry (spur-next c)
        | in-far c ↦ clash (cc (far.spur-stays x rx c))
      ]
