-- `deque::lane_list_check` meets its contract: the number of `check`.
use mathlib.Core.Path.{ap, ◌∙◌}
use Rattle.airline_list.specs.Outcomes.{Checked}
use Rattle.deque.specs.Exports.{checked_number}
use Rattle.deque.proofs.lane_list_check.Goals as goal

pub returns : goal.returns
returns c = c.checked_number.ensures ∙ ap (λ (d : Checked). checked_number d) c.check.ensures
