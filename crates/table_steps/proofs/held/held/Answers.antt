-- `table_steps::held::held` meets its contract: the constant passes the one computed test of all its entries.
use mathlib.Core.Path.{refl}
use native.Mathlib.Decide.{ℕ_discrete}
use Rattle.machine.specs.Steps.{step_in, step_of}
use Rattle.table_steps.proofs.Laws.HeldTable.{agrees, entry_ok, exact-if}
use Rattle.table_steps.proofs.held.held.Goals as goal

pub returns : goal.returns
unfolding agrees entry_ok step_of step_in ℕ_discrete
returns c = exact-if _ refl tt
