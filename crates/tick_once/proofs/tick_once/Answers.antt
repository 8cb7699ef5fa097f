-- `tick_once::tick_once` meets its contract: each test is the definition's, and the tick that passes is `make`'s.
use mathlib.Core.Path.{◌≡◌, sym, ap, ◌∙◌}
use mathlib.Core.Bool.{Bool}
use mathlib.Core.List.{List}
use Prim.Native.Nat.{ℕ, ◌<◌}
use native.Mathlib.Omega.{arith}
use Rattle.machine.specs.Operations.{operation_of}
use Rattle.machine.specs.Tasks.{operation_word}
use Rattle.machine.specs.Table.{node_count, task_count, record_words}
use Rattle.machine.specs.Calls.{is_idle}
use Rattle.table_record.specs.declared.Task as Tasks
use Rattle.table_record.specs.Coded.{struct_of}
use Rattle.table_shape.proofs.Laws.TableWords.{header-long, record-within}
use Rattle.tick_once.proofs.Laws.TickTests.{busy-task, tick-5, tick-9, tick-10, tick-passes}
use Rattle.tick_once.proofs.tick_once.Goals as goal

-- What the test of the record read says of its words.
idle-is :
    (ws : List ℕ) (k : ℕ) {old : Tasks.Task} {r b : Bool}
    → old ≡ struct_of (record_words ws k)
    → r ≡ is_idle (operation_of old.operation)
    → r ≡ b
    → is_idle (operation_of (operation_word (record_words ws k))) ≡ b
idle-is ws k read tested e = sym (ap (λ (t : Tasks.Task). is_idle (operation_of t.operation)) read) ∙ sym tested ∙ e

pub tasks-requires : goal.tasks-requires
tasks-requires c = header-long c.args.table.now c.requires.length_passes

pub returns-then-tasks-task : goal.returns-then-tasks-task
returns-then-tasks-task c =
    let a = c.args in
    tick-5 a.table.now c.requires a.task a.hint (omega (arith, c.tasks.ensures, c.if-tasks-task.true))

pub slots-requires : goal.slots-requires
slots-requires c = header-long c.args.table.now c.requires.length_passes

pub returns-then-slots-hint : goal.returns-then-slots-hint
returns-then-slots-hint c =
    let a = c.args in
    tick-9 a.table.now c.requires a.task a.hint (omega (arith, c.tasks.ensures, c.if-tasks-task.false))
    (omega (arith, c.slots.ensures, c.if-slots-hint.true))

pub task-old-requires : goal.task-old-requires
task-old-requires c =
    record-within c.args.table.now c.requires.length_passes c.args.task
    (omega (arith, c.tasks.ensures, c.if-tasks-task.false))

pub returns-then-is_idle : goal.returns-then-is_idle
returns-then-is_idle c =
    let a = c.args in
    tick-10 a.table.now c.requires a.task a.hint (omega (arith, c.tasks.ensures, c.if-tasks-task.false))
    (omega (arith, c.slots.ensures, c.if-slots-hint.false))
    (idle-is c.args.table.now c.args.task c.task-old.ensures c.is_idle.ensures c.if-is_idle.true)

pub make-requires : goal.make-requires
make-requires c =
    let a = c.args in
    let is_task : a.task < task_count a.table.now = omega (arith, c.tasks.ensures, c.if-tasks-task.false) in
    let is_hint : a.hint < node_count a.table.now = omega (arith, c.slots.ensures, c.if-slots-hint.false) in
    let idle = idle-is c.args.table.now c.args.task c.task-old.ensures c.is_idle.ensures c.if-is_idle.false in
    record {
      may_tick =
          record {
            table = c.requires;
            is_task = is_task;
            is_hint = is_hint;
            busy = busy-task a.table.now c.requires a.task is_task idle;
          };
      value = c.task-old.ensures;
    }

pub returns : goal.returns
returns c =
    let a = c.args in
    c.make.ensures
    ∙ tick-passes a.table.now c.requires a.task a.hint (omega (arith, c.tasks.ensures, c.if-tasks-task.false))
    (omega (arith, c.slots.ensures, c.if-slots-hint.false))
    (idle-is c.args.table.now c.args.task c.task-old.ensures c.is_idle.ensures c.if-is_idle.false)
