-- Functions changed at one place, and the relation that says so.
use mathlib.Core.Path.{◌≡◌, refl, sym, ap, subst, ◌∙◌, fun_ext}
use mathlib.Core.Logic.{◌≢◌, inl, inr}
use Prim.Native.Nat.{ℕ}
use Rattle.machine.specs.Choice.{◌≟◌, if?◌then◌else◌}
use Rattle.machine.specs.Sides.{Side, left, right, opposite}
use Rattle.machine.proofs.Basics.Contradiction.{equal?}
use Rattle.machine.proofs.Basics.Choices.{if_yes, if_no}

-- ---- A function with one place written.
unfoldable pub update : {T : Type 0} → (ℕ → T) → ℕ → T → ℕ → T
update f x v y = if? y ≟ x then v else f y

module _ {T : Type 0} (f : ℕ → T) (x : ℕ) (v : T) where
  pub update_same : update f x v x ≡ v
  unfolding update
  update_same = go (x ≟ x)
    where
      go : (d : Dec (x ≡ x)) → (if? d then v else f x) ≡ v
      go (yes h) = refl
      go (no h) = absurd (h refl)

  pub update_other : (y : ℕ) → y ≢ x → update f x v y ≡ f y
  unfolding update
  update_other y n = go (y ≟ x)
    where
      go : (d : Dec (y ≡ x)) → (if? d then v else f y) ≡ f y
      go (yes h) = absurd (n h)
      go (no h) = refl

  -- A function that has the value at the place and agrees elsewhere is the one written.
  pub is-update : (f' : ℕ → T) → f' x ≡ v → ((y : ℕ) → y ≢ x → f' y ≡ f y) → f' ≡ update f x v
  is-update f' same other =
      fun_ext (λ y.
      elim (y ≟ x) [
        | yes h ↦ ap f' h ∙ same ∙ sym update_same ∙ ap (update f x v) (sym h)
        | no h ↦ other y h ∙ sym (update_other y h)
      ])

  -- What holds of the value written and of all others holds everywhere.
  pub update_all : (P : T → Type 0) → P v → ((y : ℕ) → P (f y)) → (y : ℕ) → P (update f x v y)
  unfolding update
  update_all P here others y = go (y ≟ x)
    where
      go : (d : Dec (y ≡ x)) → P (if? d then v else f y)
      go (yes h) = here
      go (no h) = others y

pub map-update :
    {T U : Type 0} (h : T → U) (f : ℕ → T) (x : ℕ) (v : T) (u : U)
    → h v ≡ u
    → (λ (y : ℕ). h (update f x v y)) ≡ update (λ (y : ℕ). h (f y)) x u
map-update h f x v u e =
    is-update (λ y. h (f y)) x u (λ y. h (update f x v y)) (ap h (update_same f x v) ∙ e)
    (λ y n. ap h (update_other f x v y n))

-- ---- A function of the side with one side written.
abbrev pub update_side : {T : Type 0} → (Side → T) → Side → T → Side → T
update_side f left v left = v
update_side f left v right = f right
update_side f right v left = f left
update_side f right v right = v

update_side-same : {T : Type 0} (f : Side → T) (s : Side) (v : T) → update_side f s v s ≡ v
update_side-same f left v = refl
update_side-same f right v = refl

-- A function that has the value at the side and agrees at the opposite one is the one written.
pub is-update_side :
    {T : Type 0} (f f' : Side → T) (s : Side) (v : T)
    → f' s ≡ v
    → f' (opposite s) ≡ f (opposite s)
    → f' ≡ update_side f s v
is-update_side f f' left v here there = fun_ext (elim [ left ↦ here | right ↦ there ])
is-update_side f f' right v here there = fun_ext (elim [ left ↦ there | right ↦ here ])

pub update_side-all :
    {T : Type 0} (f : Side → T) (s : Side) (v : T) (P : T → Type 0)
    → P v
    → ((z : Side) → P (f z))
    → (z : Side)
    → P (update_side f s v z)
update_side-all f left v P here others left = here
update_side-all f left v P here others right = others right
update_side-all f right v P here others left = others left
update_side-all f right v P here others right = here

-- ---- A function of a number and a side with one value written: the hats of the lanes.
abbrev pub update_hat : {T : Type 0} → (ℕ → Side → T) → ℕ → Side → T → ℕ → Side → T
update_hat f l s v = update f l (update_side (f l) s v)

module _ {T : Type 0} (f : ℕ → Side → T) (l : ℕ) (s : Side) (v : T) where
  pub update_hat-own : update_hat f l s v l ≡ update_side (f l) s v
  update_hat-own = update_same f l (update_side (f l) s v)

  pub update_hat-same : update_hat f l s v l s ≡ v
  update_hat-same = ap (λ (g : Side → T). g s) update_hat-own ∙ update_side-same (f l) s v

  pub update_hat-elsewhere : (j : ℕ) → j ≢ l → update_hat f l s v j ≡ f j
  update_hat-elsewhere = update_other f l (update_side (f l) s v)

-- ---- The relation.

-- f' is f with v at x: what proofs use, however f' is computed.
pub record Wrote {T : Type 0} (f : ℕ → T) (x : ℕ) (v : T) (f' : ℕ → T) : Type 0 where
  pub here : f' x ≡ v
  pub elsewhere : (y : ℕ) → y ≢ x → f' y ≡ f y

pub update-wrote : {T : Type 0} (f : ℕ → T) (x : ℕ) (v : T) → Wrote f x v (update f x v)
unfolding update
update-wrote f x v =
    record { here = if_yes (x ≟ x) v (f x) refl; elsewhere = λ y h. if_no (y ≟ x) v (f y) h }

-- A number is the one written, or another.
pub data WroteAt {T : Type 0} (f : ℕ → T) (x : ℕ) (v : T) (f' : ℕ → T) (y : ℕ) : Type 0 where
  it-is : y ≡ x → f' y ≡ v → WroteAt f x v f' y
  it-is-not : y ≢ x → f' y ≡ f y → WroteAt f x v f' y

pub wrote? : {T : Type 0} {f f' : ℕ → T} {x : ℕ} {v : T} → Wrote f x v f' → (y : ℕ) → WroteAt f x v f' y
wrote? {f' = f'} {x = x} w y =
    elim (equal? y x) [ inl e ↦ it-is e (ap f' e ∙ w.here) | inr h ↦ it-is-not h (w.elsewhere y h) ]

-- What holds of the value written and of all the others holds everywhere.
pub wrote-all : {T : Type 0} (P : ℕ → T → Type 0) {f f' : ℕ → T} {k : ℕ} {v : T}
    → Wrote f k v f'
    → P k v
    → ((j : ℕ) → j ≢ k → P j (f j))
    → (j : ℕ)
    → P j (f' j)
wrote-all {T} P {v = v} w h g j =
    elim (wrote? w j) [
      | it-is e q ↦ subst (λ (y : T). P j y) (sym q) (subst (λ (i : ℕ). P i v) (sym e) h)
      | it-is-not ne q ↦ subst (λ (y : T). P j y) (sym q) (g j ne)
    ]
