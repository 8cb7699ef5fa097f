-- The node that line 31 is given in code is enough: where D is none, the line looks at none.
use mathlib.Core.Path.{◌≡◌, refl}
use mathlib.Core.Logic.{◌≢◌}
use mathlib.Core.List.{List}
use Prim.Native.Nat.{ℕ, ◌<◌}
use lib.ListN.{get_or}
use Rattle.machine.specs.Choice.{◌≟◌}
use Rattle.machine.specs.Steps.{line31}
use Rattle.machine.specs.Tasks.{no_node}
use Rattle.machine.specs.Lines.{act}
use Rattle.machine.proofs.Basics.Choices.{test-equal, by-if}
use Rattle.table_record.specs.declared.Task as Tasks
use Rattle.line_parts.specs.Lent.{line_of}
use Rattle.tick_once.specs.Steps.{found_at31}

pub found-enough :
    (ns : List ℕ) (h : ℕ) (t : Tasks.Task) (g f : ℕ)
    → line_of line31 ns h t g (found_at31 t f) ≡ line_of line31 ns h t g f
unfolding line_of act
found-enough ns h t g f =
    by-if (λ x. line_of line31 ns h t g x ≡ line_of line31 ns h t g f) (get_or t.registers 3 0 ≟ no_node)
    (λ e. rw (test-equal e)) (λ _. refl)

pub found-node : (t : Tasks.Task) (f S : ℕ) → (f ≢ no_node → f < S) → found_at31 t f ≢ no_node → found_at31 t f < S
found-node t f S h =
    by-if (λ x. x ≢ no_node → x < S) (get_or t.registers 3 0 ≟ no_node) (λ _ n. absurd (n refl)) (λ _. h)
