-- A line that lets its task go on leaves the operation, the side and the argument as they were: whatever stands in
-- memory.
use mathlib.Core.Path.{◌≡◌, refl, ap}
use mathlib.Core.List.{List}
use Prim.Native.Nat.{ℕ}
use Rattle.machine.specs.Outcomes.Answer.{Going}
use Rattle.machine.specs.Sides.{Side, opposite, side_number}
use Rattle.machine.specs.Values.{stored}
use Rattle.machine.specs.Operations.{operation_number}
use Rattle.machine.specs.Steps.{Step}
use Rattle.machine.specs.Tasks.{Task, goal}
use Rattle.machine.specs.Table.{growth, task}
use Rattle.machine.specs.Lines.{Memory, seen, Effect}
use Rattle.machine.specs.Allocate.{allocate}
use Rattle.machine.specs.Calls.{effect_of}
use Rattle.machine.specs.Row.{Note}
use Rattle.machine.proofs.Basics.Contradiction.{clash}
use Rattle.machine.proofs.Linearizability.Model.Invariant.{note_of}
use Rattle.machine.proofs.Lines.Branches.{Branch, stuck, moves, writes, ends, ends_it, branch}
use Rattle.table_record.specs.Coded.{coded_task, SameCall}

pub record KeepsCall (t : Task) (e : Effect) : Type 0 where
  pub kept : e.answer ≡ Going → note_of e.task ≡ note_of t

pub call_kept : {s o : Side} {m : Memory} {t : Task} {g f : ℕ} {st : Step} {e : Effect}
    → Branch s o m t g f st e → KeepsCall t e
call_kept (stuck _) = record { kept = λ q. clash (cc) }
call_kept (moves _) = record { kept = λ _. refl }
call_kept (writes _) = record { kept = λ _. refl }
call_kept (ends h) = record { kept = λ q. absurd (ends_it h q) }

pub effect-keeps : (ws : List ℕ) (k hint : ℕ) → KeepsCall (task ws k) (effect_of ws k hint)
unfolding effect_of
effect-keeps ws k hint =
    let t = task ws k in
    call_kept
    (branch t.side (opposite t.side) (seen t.lane t.side ws)
    t (goal (growth ws) t) (allocate ws hint) t.step)

-- In code.
pub coded-call : (t u : Task) → note_of t ≡ note_of u → SameCall (coded_task t) (coded_task u)
coded-call t u e = (
  ap (λ (n : Note). operation_number n.operation) e,
  ap (λ (n : Note). side_number n.side) e,
  ap (λ (n : Note). stored n.argument) e,
  ap (λ (n : Note). n.lane) e,
)
