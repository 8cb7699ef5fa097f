-- The table as a side sees it, with the hats of all lanes: what a line sees of it, and what a tick's writes make of it.
use mathlib.Core.Path.{◌≡◌, refl}
use mathlib.Core.List.{List, [], ◌∷◌}
use Prim.Native.Nat.{ℕ}
use Rattle.machine.specs.Sides.{Side, left, right, opposite}
use Rattle.machine.specs.Values.{Value}
use Rattle.machine.specs.Table.{hat, link, value}
use Rattle.machine.specs.Lines.{Memory, seen, Write, out≔, inn≔, val≔, hat≔}
use Rattle.machine.proofs.Basics.Updates.{update, update_hat}

-- Links lead outward and inward from the side that looks; the hats are those of the lanes, and of the sides by name.
pub record View : Type 0 where
  pub out : ℕ → ℕ
  pub inn : ℕ → ℕ
  pub val : ℕ → Value
  pub hats : (lane : ℕ) → Side → ℕ

abbrev pub viewed : Side → List ℕ → View
viewed s ws = record { out = link ws s; inn = link ws (opposite s); val = value ws; hats = hat ws }

-- What a line of side s of a lane sees: its own hat alone.
abbrev pub seen_in : (lane : ℕ) → Side → View → Memory
seen_in l s m = record { out = m.out; inn = m.inn; val = m.val; hat = m.hats l s }

-- One write of a task on side s of a lane, and several in order.
abbrev pub write : (lane : ℕ) → Side → Write → View → View
write l s (out≔ x y) m = record { out = update m.out x y; inn = m.inn; val = m.val; hats = m.hats }
write l s (inn≔ x y) m = record { out = m.out; inn = update m.inn x y; val = m.val; hats = m.hats }
write l s (val≔ x v) m = record { out = m.out; inn = m.inn; val = update m.val x v; hats = m.hats }
write l s (hat≔ x) m = record { out = m.out; inn = m.inn; val = m.val; hats = update_hat m.hats l s x }

abbrev pub written : (lane : ℕ) → Side → List Write → View → View
written l s [] m = m
written l s (w ∷ more) m = written l s more (write l s w m)

abbrev pub swapped : View → View
swapped m = record { out = m.inn; inn = m.out; val = m.val; hats = m.hats }

-- The view of a side, from the right side's, and back.
abbrev pub view : Side → View → View
view left m = swapped m
view right m = m

-- What the writes of a task on side s of a lane make of the right side's view.
abbrev pub view_after : (lane : ℕ) → Side → List Write → View → View
view_after l s ws M = view s (written l s ws (view s M))

pub view-view : (s : Side) (m : View) → view s (view s m) ≡ m
view-view left m = refl
view-view right m = refl

pub view-viewed : (s : Side) (ws : List ℕ) → view s (viewed right ws) ≡ viewed s ws
view-viewed left ws = refl
view-viewed right ws = refl

-- What the line of a side sees of the words it sees of their view.
pub seen-viewed : (l : ℕ) (s : Side) (ws : List ℕ) → seen_in l s (view s (viewed right ws)) ≡ seen l s ws
seen-viewed l left ws = refl
seen-viewed l right ws = refl

pub view-equal : {m n : View} → m.out ≡ n.out → m.inn ≡ n.inn → m.val ≡ n.val → m.hats ≡ n.hats → m ≡ n
view-equal o i v h = λ j. record { out = o j; inn = i j; val = v j; hats = h j }
