-- `table_steps::owners::owners` meets its contract: the constant passes the one computed test of all its entries.
use mathlib.Core.Path.{refl}
use native.Mathlib.Decide.{ℕ_discrete}
use Rattle.machine.specs.Steps.{is_step_in}
use Rattle.table_steps.proofs.Laws.OwnerTable.{agrees, entry_ok, owners-if}
use Rattle.table_steps.proofs.owners.owners.Goals as goal

pub returns : goal.returns
unfolding agrees entry_ok is_step_in ℕ_discrete
returns c = owners-if _ refl tt
