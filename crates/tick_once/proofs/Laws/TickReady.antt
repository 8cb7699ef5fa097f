-- A busy task of an accepted table is ready for its line.
use mathlib.Core.Path.{◌≡◌, refl, sym, ap, ◌∙◌, subst}
use mathlib.Core.Bool.{true}
use mathlib.Core.Logic.{◌≢◌}
use mathlib.Core.List.{List}
use Prim.Native.Nat.{ℕ, zero, suc, ◌≤◌, ◌<◌}
use native.Mathlib.Omega.{arith}
use lib.ListN.{get_or}
use borrow.Author.Tests.{leb-true}
use Rattle.machine.specs.declared.Stored.{Stored}
use Rattle.machine.specs.Choice.{◌<?◌}
use Rattle.machine.specs.Sides.{Side, left, right, side_number, side_of}
use Rattle.machine.specs.Values.{never, number, encode, decode, bag_ok, value_ok}
use Rattle.machine.specs.Operations.{
  Operation,
  idle,
  push,
  pop,
  add,
  remove,
  operation_of,
  argument_ok,
  goal_of,
}
use Rattle.machine.specs.Steps.{step_number, step_of, steps_of, is_step_in}
use Rattle.machine.specs.Tasks.{no_node}
use Rattle.machine.specs.Table.{
  node_count,
  task_count,
  growth,
  lane_count,
  most_lanes,
  node_part,
  value_words,
  record_words,
  task,
}
use Rattle.machine.specs.Shape.{record_ok, sizes_of, WellSized}
use Rattle.machine.specs.Calls.{is_busy}
use Rattle.machine.proofs.Basics.Contradiction.{clash}
use Rattle.machine.proofs.Basics.Choices.{if_yes}
use Rattle.machine.proofs.Words.RecordLaws.{words-of-task}
use Rattle.machine.proofs.Words.Columns.{columns}
use Rattle.machine.proofs.Shape.ShapeLaws.{WellShaped}
use Rattle.machine.proofs.Shape.BusyLaws.{NodeOrNone, BusyFacts, counted-at-most}
use Rattle.machine.proofs.Shape.TickKeeps.{busy-facts}
use Rattle.table_record.specs.declared.Task as Tasks
use Rattle.table_record.specs.Coded.{struct_of, coded_task, task_meant}
use Rattle.table_layout.specs.Words.{HoldsNode, stored_in}
use Rattle.line_choice.specs.Groups.{all_steps, ReadyIn}
use Rattle.line_choice.proofs.StepChoice.{every-at}
use Rattle.table_layout.proofs.Laws.Views.{node-held, held-node, words-in, task-read}

number-low : (s : Side) → side_number s < 2
number-low left = omega arith
number-low right = omega arith

-- ---- Bounds of the goal.
goal-bound : (op : Operation) (g : ℕ) (u : Stored) → g ≤ 64 → argument_ok op u ≡ true → goal_of op g (number u) ≤ 1023
goal-bound idle g u h a = omega arith
goal-bound push g u h a = omega arith
goal-bound pop g u h a = omega arith
goal-bound add g u h a = let q = leb-true (number u) 64 a in omega arith
goal-bound remove g u h a = leb-true (number u) 1023 a

-- The steps of a busy task's operation are steps.
steps-of-busy :
    (op : Operation) (n : ℕ) → is_busy op ≡ true → is_step_in (steps_of op) n ≡ true → is_step_in all_steps n ≡ true
unfolding is_step_in
steps-of-busy idle n b h = clash (cc)
steps-of-busy push n b h = every-at (is_step_in all_steps) (steps_of push) n refl h
steps-of-busy pop n b h = every-at (is_step_in all_steps) (steps_of pop) n refl h
steps-of-busy add n b h = every-at (is_step_in all_steps) (steps_of add) n refl h
steps-of-busy remove n b h = every-at (is_step_in all_steps) (steps_of remove) n refl h

module _ (ws : List ℕ) (Z : WellSized (sizes_of ws)) (W : WellShaped (columns ws)) (k : ℕ)
    (is_task : k < task_count ws) where
  abbrev pub record-at : Tasks.Task
  record-at = struct_of (record_words ws k)

  -- What the record means is the task.
  pub meant-task : task_meant (struct_of (record_words ws k)) ≡ task ws k
  meant-task = task-read ws k is_task

  record-passes : record_ok (node_count ws) (growth ws) (lane_count ws) (record_words ws k) ≡ true
  record-passes = rw (if_yes (k <? task_count ws) (record_words ws k) _ is_task) at (W.records-ok k)

  canonical : coded_task (task_meant (struct_of (record_words ws k))) ≡ struct_of (record_words ws k)
  canonical = ap struct_of (words-of-task (node_count ws) (growth ws) (lane_count ws) (record_words ws k) record-passes)

  side-back : side_number (side_of record-at.side) ≡ record-at.side
  side-back = ap (λ (t : Tasks.Task). t.side) canonical

  pub side-low : record-at.side < 2
  side-low = let h = number-low (side_of record-at.side) in rw side-back at h

  pub held-or-none : (r : ℕ) → NodeOrNone (node_count ws) r → r ≢ no_node → HoldsNode (node_part ws) r
  held-or-none r h n = node-held ws Z.sized r (h n)

  values-held : (x : ℕ) → HoldsNode (node_part ws) x → value_ok (stored_in (node_part ws) x) ≡ true
  values-held x h =
      let l = held-node ws Z.sized x h in
      subst (λ (u : Stored). value_ok u ≡ true)
      (if_yes (x <? node_count ws) (value_words ws x) (encode never) l ∙ words-in ws Z.sized x l) (W.values-ok x)

  module _ (busy : is_busy (task ws k).operation ≡ true) where
    facts : BusyFacts (node_count ws) (growth ws) (lane_count ws) (task_meant (struct_of (record_words ws k)))
    facts = subst (BusyFacts (node_count ws) (growth ws) (lane_count ws)) (sym meant-task) (busy-facts ws W k busy)

    registers-held :
        (i : ℕ)
        → i < 4
        → get_or record-at.registers i 0 ≢ no_node
        → HoldsNode (node_part ws) (get_or record-at.registers i 0)
    registers-held i h = by_place i h
      where
        by_place :
            (i : ℕ)
            → i < 4
            → get_or record-at.registers i 0 ≢ no_node
            → HoldsNode (node_part ws) (get_or record-at.registers i 0)
        by_place zero h = held-or-none _ facts.A-ok
        by_place (suc zero) h = held-or-none _ facts.B-ok
        by_place (suc (suc zero)) h = held-or-none _ facts.C-ok
        by_place (suc (suc (suc zero))) h = held-or-none _ facts.D-ok
        by_place (suc (suc (suc (suc i)))) h = absurd (omega arith)

    pub lane_low : record-at.lane < most_lanes
    lane_low = let few = Z.most-lanes in let l = facts.lane-ok in omega arith

    step_back : step_number (step_of record-at.step) ≡ record-at.step
    step_back = ap (λ (t : Tasks.Task). t.step) canonical

    pub argument-fits : argument_ok (operation_of record-at.operation) record-at.argument ≡ true
    argument-fits =
        subst (λ (u : Stored). argument_ok (operation_of record-at.operation) u ≡ true)
        (ap (λ (t : Tasks.Task). t.argument) canonical) facts.argument-ok

    counted-few : record-at.counted < 1024
    counted-few =
        let c = counted-at-most facts in
        let g = goal-bound (operation_of record-at.operation) (growth ws) record-at.argument Z.most_growth
        argument-fits in
        omega arith

    is-step : is_step_in all_steps record-at.step ≡ true
    is-step =
        let F = facts in
        steps-of-busy (task_meant record-at).operation record-at.step F.busy (rw step_back at F.step_ok)

    bag_at_51 : record-at.step ≡ 51 → bag_ok record-at.value ≡ true
    bag_at_51 e =
        let n : step_number (step_of record-at.step) ≡ 51 = step_back ∙ e in
        let w : encode (decode record-at.value) ≡ record-at.value
        = ap (λ (t : Tasks.Task). t.value) canonical in
        subst (λ (u : Stored). bag_ok u ≡ true) w (rw n at facts.value-ok)

    pub ready-task : ReadyIn all_steps (node_part ws) record-at
    ready-task =
        record {
          ready =
              record {
                canonical = canonical;
                few = counted-few;
                held = registers-held;
                values = values-held;
              };
          in_group = is-step;
          bag_at_51 = bag_at_51;
        }
