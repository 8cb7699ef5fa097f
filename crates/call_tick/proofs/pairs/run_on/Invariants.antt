-- `call_tick::pairs::run_on` meets its contract: the ticks made and the run of the pairs ahead are the run of the list.
use Rattle.std.proofs.Common.{◌≡◌, ℕ, ◌+◌, ◌*◌, List, length}
use Rattle.machine.specs.Calls.{run_on}
use Rattle.machine.specs.Shape.{WellFormed}
use Rattle.call_tick.proofs.Laws.RunWords.{ahead}
use Rattle.call_tick.proofs.pairs.run_on.Given as goal

-- What holds before each turn.
pub record Turn (t₀ list answers₀ t answers rest : List ℕ) (made : ℕ) : Type 0 where
  pub pairs-left : 2 * made + length rest ≡ length list
  pub well-formed : WellFormed t
  pub rest-alike : ahead made rest t answers ≡ run_on list t₀ answers₀

abbrev pub invariant-loop-rest : goal.invariant-loop-rest
invariant-loop-rest l = Turn l.initial.table l.list l.initial.answers l.table l.answers l.rest l.made

abbrev pub decreases-loop-rest : goal.decreases-loop-rest
decreases-loop-rest l = length l.rest
