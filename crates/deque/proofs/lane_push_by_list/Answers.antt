-- `deque::lane_push_by_list` meets its contract: the number and the words of `push_by_list`.
use mathlib.Core.Path.{ap, ◌∙◌}
use Rattle.machine.specs.PushByList.{PushedByList, push_by_list}
use Rattle.deque.specs.Exports.{by_list_number}
use Rattle.deque.proofs.lane_push_by_list.Goals as goal

pub returns : goal.returns
returns c =
    let a = c.args in
    let e =
    c.push_by_list.ensures
    ∙ ap (push_by_list a.list.now a.table.now a.task a.lane) c.of_words.ensures in record { value = c.by_list_number.ensures ∙ ap (λ (d : PushedByList). by_list_number d.answer) e; table_after = ap (λ (d : PushedByList). d.words) e }
