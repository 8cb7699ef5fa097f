-- The tests of a begin, in 01's order, two by two; and the record that passes them all.
use mathlib.Core.Path.{◌≡◌, refl, sym, ap, ◌∙◌}
use mathlib.Core.Bool.{Bool, true, false, ◌&&◌}
use mathlib.Core.List.{List, [], ◌∷◌}
use mathlib.Core.Option.{Option, some, none}
use Prim.Native.Nat.{ℕ, ◌<◌}
use lib.Dec.{leb, ltb}
use borrow.Author.Tests.{ltb-true}
use Rattle.machine.specs.declared.Stored.{Stored}
use Rattle.machine.specs.Sides.{Side, side_number, side_of}
use Rattle.machine.specs.Values.{never, number, encode}
use Rattle.machine.specs.Operations.{Operation, operation_number, operation_of, argument_ok}
use Rattle.machine.specs.Steps.{step_number, first_step}
use Rattle.machine.specs.Tasks.{no_node}
use Rattle.machine.specs.Table.{task_count, lane_count, record_words, set_task}
use Rattle.machine.specs.Shape.{Sizes, sizes_of, Sized, length_ok, shape_ok}
use Rattle.machine.specs.Calls.{unless, table_refusal, begin_refusal, begun_task, changed, begin}
use Rattle.machine.specs.Lent.{lent_to}
use Rattle.machine.proofs.Words.ValueLaws.{argument-stored}
use Rattle.machine.proofs.Words.LentLaws.{lent-sizes, same-task-count, lent-lanes, own-task, far-task}
use Rattle.table_record.specs.declared.Task as Tasks
use Rattle.table_record.specs.Coded.{struct_of, record_of, coded_task, task_meant}
use Rattle.answers.proofs.Laws.Refusals.{two_pass}
use Rattle.table_layout.proofs.Laws.Views.{task-read}
use Rattle.call_begin.specs.declared.call.Call.{Call}
use Rattle.machine.specs.Asked.{operation_meant, side_meant}
use Rattle.call_begin.specs.OwnRecord.{WithOwn}
use Rattle.call_begin.specs.Tests.{place_refusal, Placed, asked_refusal, own_refusal}

-- ---- The record that is begun, by the words of the call.
abbrev begun_of : (lane : ℕ) → Operation → Side → Stored → Tasks.Task
begun_of l op s u =
    record {
      operation = operation_number op;
      step = step_number (first_step op);
      side = side_number s;
      argument = u;
      counted = 0;
      value = encode never;
      registers = no_node ∷ no_node ∷ no_node ∷ no_node ∷ [];
      lane = l;
    }

pub begun-record :
    (l : ℕ) (op : Operation) (s : Side) (u : Stored)
    → argument_ok op u ≡ true
    → begun_of l op s u ≡ coded_task (begun_task l op s (number u))
begun-record l op s u ok = ap (begun_of l op s) (sym (argument-stored op u ok))

-- The call that was asked for.
abbrev pub Asked : Call → (l op side : ℕ) → Stored → Type 0
Asked c l op side u =
    (c.lane ≡ l)
    × (operation_meant c.operation ≡ operation_of op)
    × (side_meant c.side ≡ side_of side)
    × (c.argument ≡ u)

pub begun-asked :
    (c : Call) {l : ℕ} (op side : ℕ) {u : Stored}
    → Asked c l op side u
    → begun_task c.lane (operation_meant c.operation) (side_meant c.side) (number c.argument)
    ≡ begun_task l (operation_of op) (side_of side) (number u)
begun-asked c op side is = λ i. begun_task (is.0 i) (is.1 i) (is.2 i) (number (is.3 i))

-- ---- Tests before others.
abbrev before : Option ℕ → Option ℕ → Option ℕ
before (some n) others = some n
before none others = others

two_before : (a b : Bool) (m n : ℕ) (others : Option ℕ)
    → unless a m (unless b n others) ≡ before (unless a m (unless b n none)) others
two_before true true m n others = refl
two_before true false m n others = refl
two_before false b m n others = refl

module _ (ws : List ℕ) (k l op side : ℕ) (argument : Stored) where
  abbrev tested : Option ℕ
  tested = begin_refusal ws k l op side argument

  two-by-two :
      tested
      ≡ before (table_refusal ws none)
      (before (place_refusal ws k l)
      (before (asked_refusal op side argument) (own_refusal ws k (operation_of op) argument)))
  two-by-two =
      two_before (length_ok ws) (shape_ok ws) 3 4 _
      ∙ ap (before (table_refusal ws none))
      (two_before (ltb l (lane_count ws)) (ltb k (task_count ws)) 26 5 _
      ∙ ap (before (place_refusal ws k l))
      (two_before (leb 1 op && leb op 4 && leb side 1) (argument_ok (operation_of op) argument) 6 7 _))

  pub by_table : {n : ℕ} → some n ≡ table_refusal ws none → tested ≡ some n
  by_table e = two-by-two ∙ rw (sym e)

  module _ (passes : none ≡ table_refusal ws none) where
    pub by_place : {n : ℕ} → some n ≡ place_refusal ws k l → tested ≡ some n
    by_place e = two-by-two ∙ rw (sym passes, sym e)

    module _ (placed : none ≡ place_refusal ws k l) where
      pub by_numbers : {n : ℕ} → some n ≡ asked_refusal op side argument → tested ≡ some n
      by_numbers e = two-by-two ∙ rw (sym passes, sym placed, sym e)

      pub by_own : {o : Option ℕ} (call : Call) → none ≡ asked_refusal op side argument
          → Asked call l op side argument → o ≡ own_refusal ws k (operation_meant call.operation) call.argument
          → tested ≡ o
      by_own call asked is e =
          two-by-two
          ∙ rw (sym passes, sym placed, sym asked)
          (sym (e ∙ λ i. own_refusal ws k (is.1 i) (is.3 i)))

  -- What a begin leaves, by its tests.
  pub begin-tested :
      {o : Option ℕ}
      → tested ≡ o
      → changed o ws (set_task k (begun_task l (operation_of op) (side_of side) (number argument)) ws)
      ≡ begin ws k l op side argument
  unfolding begin
  begin-tested e = rw (e, begin)

-- There is such a lane and such a task.
pub place-passed : (ws : List ℕ) (k l : ℕ) → none ≡ place_refusal ws k l → Placed ws k l
place-passed ws k l passed =
    let both = two_pass (ltb l (lane_count ws)) (ltb k (task_count ws)) 26 5 (sym passed) in
    record { is_lane = ltb-true l (lane_count ws) both.0; is_task = ltb-true k (task_count ws) both.1 }

-- ---- The record that stands in the table stands for itself.
pub own-in-place :
    (ws : List ℕ) (k : ℕ) (own : Tasks.Task) → k < task_count ws → own ≡ struct_of (record_words ws k)
    → WithOwn ws k own ws
own-in-place ws k own is_task e =
    record {
      lanes = refl;
      count = refl;
      its_task = sym (ap task_meant e ∙ task-read ws k is_task);
      others = λ j h. refl;
    }

-- ---- A record that is lent.
module _ (ws : List ℕ) (k : ℕ) (own : Tasks.Task) where
  abbrev lent : List ℕ
  lent = lent_to ws k (record_of own)

  pub lent-stands : k < task_count ws → Sized (sizes_of ws) → WithOwn ws k own lent
  lent-stands is_task sized =
      record {
        lanes = lent-lanes ws k (record_of own);
        count = same-task-count ws k (record_of own);
        its_task = own-task ws k (record_of own) is_task sized refl;
        others = far-task ws k (record_of own) is_task sized refl;
      }

  -- The lanes and the tasks are counted as in the table.
  pub same_place : (l : ℕ) → place_refusal ws k l ≡ place_refusal lent k l
  same_place l =
      ap (λ (z : Sizes). unless (ltb l z.lane_count) 26 (unless (ltb k z.task_count) 5 none))
      (sym (lent-sizes ws k (record_of own)))
