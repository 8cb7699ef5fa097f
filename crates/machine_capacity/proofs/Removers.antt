-- Which outward links a remove is about to cut, by its step; and what its step says of the marks of A and B.
use mathlib.Core.Path.{◌≡◌}
use mathlib.Core.Logic.{◌≢◌, ◌⊎◌}
use Prim.Native.Nat.{ℕ}
use Rattle.machine.specs.Sides.{Side}
use Rattle.machine.specs.Values.{Value, X, Y}
use Rattle.machine.specs.Steps.{Step, rest}
use Rattle.machine.specs.Steps as Steps
use Rattle.machine.specs.Tasks.{Task, no_node}
use Rattle.machine.proofs.Words.Memories.{View, view}

-- What a step has to do with outward links. before-cut: A and B are to be marked. cut-pair: A is X and leads to B,
-- which is Y. at-B, at-A, at_both: the registers named are Y.
pub data Duty : Type 0 where
  no-duty before-cut cut-pair at-B at-A at_both : Duty

abbrev pub duty : Step → Duty
duty Steps.line62 = before-cut
duty Steps.line64 = cut-pair
duty Steps.line74 = at-B
duty Steps.line77 = at-A
duty Steps.line78 = at-A
duty Steps.line79 = at_both
duty Steps.line81 = at-A
duty Steps.line82 = at-A
duty rest = no-duty
duty Steps.line2 = no-duty
duty Steps.line3 = no-duty
duty Steps.line5 = no-duty
duty Steps.line8 = no-duty
duty Steps.line15 = no-duty
duty Steps.line17 = no-duty
duty Steps.line18 = no-duty
duty Steps.line24 = no-duty
duty Steps.line25 = no-duty
duty Steps.line28 = no-duty
duty Steps.line31 = no-duty
duty Steps.line39 = no-duty
duty Steps.line40 = no-duty
duty Steps.line42 = no-duty
duty Steps.line48 = no-duty
duty Steps.line51 = no-duty
duty Steps.line54 = no-duty
duty Steps.line56 = no-duty
duty Steps.line58 = no-duty
duty Steps.line60 = no-duty
duty Steps.line67 = no-duty
duty Steps.line68 = no-duty
duty Steps.line69 = no-duty
duty Steps.line70 = no-duty
duty Steps.line72 = no-duty

-- The marks of nodes whose outward link is to be cut: X, the last node left, and Y, a node cut off.
pub data Mark : Type 0 where
  end cut : Mark

abbrev pub marked : Mark → Side → Value
marked end s = X s
marked cut s = Y s

-- The task's duty is to cut the outward link of n, which leads to l.
abbrev pub Cuts : Duty → Mark → Task → (n l : ℕ) → Type 0
Cuts no-duty μ t n l = ⊥
Cuts before-cut μ t n l = ⊥
Cuts cut-pair end t n l = (t.A ≡ n) × (t.B ≡ l)
Cuts cut-pair cut t n l = t.B ≡ n
Cuts at-B end t n l = ⊥
Cuts at-B cut t n l = t.B ≡ n
Cuts at-A end t n l = ⊥
Cuts at-A cut t n l = t.A ≡ n
Cuts at_both end t n l = ⊥
Cuts at_both cut t n l = (t.A ≡ n) ⊎ (t.B ≡ n)

-- What a duty says of the marks of A and B, seen from the task's side.
abbrev pub Sure : Duty → Side → View → Task → Type 0
Sure no-duty s m t = Unit {0}
Sure before-cut s m t = (m.out t.A ≡ t.B) ⊎ ((m.val t.A ≡ Y s) ⊎ (m.val t.B ≡ Y s))
Sure cut-pair s m t = m.val t.B ≡ Y s
Sure at-B s m t = m.val t.B ≡ Y s
Sure at-A s m t = m.val t.A ≡ Y s
Sure at_both s m t = (m.val t.A ≡ Y s) × (m.val t.B ≡ Y s)

-- A task on side s cuts the outward link of n, which leads to l.
pub record CutBy (ts : ℕ → Task) (s : Side) (μ : Mark) (n l : ℕ) : Type 0 where
  pub cutter : ℕ
  pub on-side : (ts cutter).side ≡ s
  pub cuts : Cuts (duty (ts cutter).step) μ (ts cutter) n l

-- Seen from side s: of every node, whatever its class, the outward link of an X or a Y is none, or a remove is about to
-- cut it.
pub record HasRemovers (ts : ℕ → Task) (s : Side) (m : View) : Type 0 where
  pub remover : (μ : Mark) (n : ℕ) → m.val n ≡ marked μ s → m.out n ≢ no_node → CutBy ts s μ n (m.out n)

-- Links have removers, on both sides. M is the view from the right.
pub record LinksHaveRemovers (M : View) (ts : ℕ → Task) : Type 0 where
  pub has-removers : (s : Side) → HasRemovers ts s (view s M)
  pub sure : (j : ℕ) → Sure (duty (ts j).step) (ts j).side (view (ts j).side M) (ts j)
