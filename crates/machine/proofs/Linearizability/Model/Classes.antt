-- The class of each node: ghost state that the table does not hold.
use mathlib.Core.Path.{◌≡◌, refl}
use mathlib.Core.Logic.{◌≢◌, inl, inr}
use mathlib.Core.Bool.{Bool, true, false}
use Prim.Native.Nat.{ℕ}
use Rattle.machine.specs.Sides.{Side}
use Rattle.machine.specs.Values.{Value, never, bag, N, X, Y}
use Rattle.machine.specs.Tasks.{no_node}
use Rattle.machine.proofs.Basics.Contradiction.{clash, refute}
use Rattle.machine.proofs.Linearizability.Model.Sides.{Opposite}

-- main l: in the list that carries the row of lane l. spur s: cut off on side s at some time. new k: in the chain that
-- task k builds and has not spliced in. free: none of these, so what it holds does not matter.
pub data Class : Type 0 where
  free : Class
  main : ℕ → Class
  spur : Side → Class
  new : ℕ → Class

-- Old: main of any lane, or a spur of either side.
abbrev pub old : Class → Bool
old free = false
old (main l) = true
old (spur z) = true
old (new k) = false

abbrev pub Old : (ℕ → Class) → ℕ → Type 0
Old class x = old (class x) ≡ true

-- The class of an old node, where s and o are the two sides.
pub data OldClass (s o : Side) (c : Class) : Type 0 where
  in-main : (l : ℕ) → c ≡ main l → OldClass s o c
  in_near : c ≡ spur s → OldClass s o c
  in-far : c ≡ spur o → OldClass s o c

pub old-class : {s o : Side} → Opposite s o → (c : Class) → old c ≡ true → OldClass s o c
old-class w free h = clash (cc)
old-class w (main l) h = in-main l refl
old-class w (spur z) h = elim (w.either z) [ inl e ↦ in_near (cc) | inr e ↦ in-far (cc) ]
old-class w (new k) h = clash (cc)

-- None is in no class, so an old node is not none.
pub old-not-none : (class : ℕ → Class) → class no_node ≡ free → (x : ℕ) → Old class x → x ≢ no_node
old-not-none class none_free x h = λ e. refute (cc)

-- Whose mark a value is.
pub data Owner : Type 0 where
  nobody : Owner
  of : Side → Owner

abbrev pub owner : Value → Owner
owner never = nobody
owner (bag v) = nobody
owner (N z) = of z
owner (X z) = of z
owner (Y z) = of z
