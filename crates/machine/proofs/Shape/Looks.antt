-- What begins and looks give back is told by what they look at: alike on two tables of which that is alike.
use mathlib.Core.Path.{◌≡◌, refl, sym, ap, ◌∙◌, subst}
use mathlib.Core.Logic.{inl, inr}
use mathlib.Core.Bool.{Bool, true, false}
use mathlib.Core.List.{List}
use mathlib.Core.Option.{Option, some, none}
use Prim.Native.Nat.{ℕ, zero, suc, ◌<◌, ◌≤◌}
use native.Mathlib.Omega.{arith}
use lib.Dec.{ltb}
use lib.ListN.{length}
use Rattle.machine.specs.declared.Stored.{Stored}
use Rattle.machine.specs.Outcomes.ByList.{Replied}
use Rattle.airline_list.specs.Outcomes.{Sent, To, NotSent}
use Rattle.airline_list.specs.Lists.{verdict, sent}
use Rattle.machine.specs.Choice.{◌<?◌}
use Rattle.machine.specs.Sides.{side_of, side_number}
use Rattle.machine.specs.Values.{number}
use Rattle.machine.specs.Operations.{Operation, idle, push, pop, add, remove, operation_of, operation_number}
use Rattle.machine.specs.Tasks.{Task, record_length, words_of}
use Rattle.machine.specs.Table.{node_count, task_count, growth, lane_count, task, set_task}
use Rattle.machine.specs.Shape.{record_ok, WellFormed, Sizes, sizes_of, Sized}
use Rattle.machine.specs.Calls.{
  lane,
  all_lanes,
  unless,
  lane_refusal,
  is_begun,
  seen_refusal,
  twice_refusal,
  begin_refusal,
  changed,
  begun_task,
  begin,
  unread,
  read_into,
  read,
}
use Rattle.machine.specs.Sheets.{sheet_into, sheet}
use Rattle.machine.specs.PushByList.{side_at, push_to, push_by_list}
use Rattle.machine.specs.Lent.{lent_to, begin_lent}
use Rattle.machine.specs.Demand3.{
  Call,
  start_call,
  begin_call,
  tick_call,
  ticks_call,
  dispatch_call,
  dispatches_call,
  run_call,
  panel_call,
  read_call,
  sheet_call,
  push_by_list_call,
  lent_begin_call,
  given,
  after,
}
use Rattle.machine.proofs.Basics.Contradiction.{equal?}
use Rattle.machine.proofs.Words.LaneLaws.{lanes-same}
use Rattle.machine.proofs.Words.LentLaws.{no_place, lent-sizes, lent-lane, own-task, far-task}
use Rattle.machine.proofs.Shape.ShapeLaws.{well_sized}
use Rattle.machine.proofs.Shape.ShapeKept.{table-passes}
use Rattle.machine.proofs.Shape.LentBegins.{length-there, accepted-there, shape-there, lent_is}

pub record SameLooks (ws vs : List ℕ) : Type 0 where
  pub accepted : WellFormed ws
  pub accepted' : WellFormed vs
  pub same_nodes : node_count vs ≡ node_count ws
  pub same_count : task_count vs ≡ task_count ws
  pub same_growth : growth vs ≡ growth ws
  pub same-lanes : lane_count vs ≡ lane_count ws
  pub same_lane : (l : ℕ) → lane vs l ≡ lane ws l
  pub same_operation : (k : ℕ) → (task vs k).operation ≡ (task ws k).operation
  pub same_argument : (k : ℕ) → (task vs k).argument ≡ (task ws k).argument

-- A look at a lane: it is refused by 3, 4 or 26, or told by the lane.
abbrev look_at : {R : Type 0} (l : ℕ) (refused : ℕ → R) (told : Option (List ℕ) → R) → List ℕ → R
look_at {R} l refused told ws =
    elim (lane_refusal ws l none) as (λ _. R) [ some n ↦ refused n | none ↦ told (lane ws l) ]

module _ {ws vs : List ℕ} (L : SameLooks ws vs) where
  begun-same : (m n : ℕ) → is_begun vs m n ≡ is_begun ws m n
  unfolding is_begun
  begun-same zero n = refl
  begun-same (suc m) n = rw (L.same_operation m, L.same_argument m, begun-same m n)

  twice_same : (op : Operation) (n : ℕ) (others : Option ℕ) → twice_refusal vs op n others ≡ twice_refusal ws op n others
  twice_same push n others = rw (lanes-same ws vs L.same-lanes L.same_lane) (go (all_lanes ws))
    where
      go : (bags : Option (List ℕ)) → seen_refusal vs n bags others ≡ seen_refusal ws n bags others
      go none = refl
      go (some bags) = rw (L.same_count, begun-same (task_count ws) n)
  twice_same idle n others = refl
  twice_same pop n others = refl
  twice_same add n others = refl
  twice_same remove n others = refl

  pub begin-same : (k l op side : ℕ) (argument : Stored)
      → begin_refusal vs k l op side argument ≡ begin_refusal ws k l op side argument
  begin-same k l op side argument =
      rw (
        table-passes ws L.accepted,
        table-passes vs L.accepted',
        L.same-lanes,
        L.same_count,
        L.same_operation k,
        twice_same (operation_of op),
      )

  begin-given : (k l op side : ℕ) (argument : Stored)
      → (begin vs k l op side argument).reply ≡ (begin ws k l op side argument).reply
  unfolding begin
  begin-given k l op side argument =
      ap (λ (r : Option ℕ). (changed r vs begun-there).reply) (begin-same k l op side argument)
      ∙ same-reply (begin_refusal ws k l op side argument)
    where
      begun-there : List ℕ
      begun-there = set_task k (begun_task l (operation_of op) (side_of side) (number argument)) vs

      begun-here : List ℕ
      begun-here = set_task k (begun_task l (operation_of op) (side_of side) (number argument)) ws

      same-reply : (r : Option ℕ) → (changed r vs begun-there).reply ≡ (changed r ws begun-here).reply
      same-reply (some n) = refl
      same-reply none = refl

  look-same : {R : Type 0} (l : ℕ) (refused : ℕ → R) (told : Option (List ℕ) → R)
      → look_at l refused told vs ≡ look_at l refused told ws
  look-same {R} l refused told = ap (given_by vs) same ∙ go (lane_refusal ws l none)
    where
      same : lane_refusal vs l none ≡ lane_refusal ws l none
      same =
          table-passes vs L.accepted' (unless (ltb l (lane_count vs)) 26 none)
          ∙ ap (λ (n : ℕ). unless (ltb l n) 26 none) L.same-lanes
          ∙ sym (table-passes ws L.accepted (unless (ltb l (lane_count ws)) 26 none))

      given_by : List ℕ → Option ℕ → R
      given_by xs r = elim r as (λ _. R) [ some n ↦ refused n | none ↦ told (lane xs l) ]

      go : (r : Option ℕ) → given_by vs r ≡ given_by ws r
      go (some n) = refl
      go none = ap told (L.same_lane l)

  read_same : (l : ℕ) (out : List ℕ) → read vs l out ≡ read ws l out
  unfolding read
  read_same l out = look-same l (λ n. unread n out) (λ bags. read_into bags out)

  sheet-same : (l page : ℕ) (out : List ℕ) → sheet vs l page out ≡ sheet ws l page out
  unfolding sheet
  sheet-same l page out = look-same l (λ n. changed (some n) out out) (λ bags. sheet_into bags page out)

  by-list-given : (s : Sent) (k l : ℕ) (argument : Stored)
      → (push_to s vs k l argument).answer ≡ (push_to s ws k l argument).answer
  by-list-given (To end) k l argument =
      ap Replied (begin-given k l (operation_number push) (side_number (side_at end)) argument)
  by-list-given (NotSent n line) k l argument = refl

-- ---- A begin over a lent record: the tables look alike with the record in its place, or neither has the right shape.
module _ {ws vs : List ℕ} (L : SameLooks ws vs) (lent : List ℕ) (whole : length lent ≡ record_length) (k : ℕ) where
  sized : (us : List ℕ) → WellFormed us → Sized (sizes_of us)
  sized us A = (well_sized us A.length_passes).sized

  abbrev record-fits : List ℕ → Bool
  record-fits us = record_ok (node_count us) (growth us) (lane_count us) lent

  fits-same : record-fits vs ≡ record-fits ws
  fits-same = λ i. record_ok (L.same_nodes i) (L.same_growth i) (L.same-lanes i) lent

  same-sizes : (f : Sizes → ℕ) → f (sizes_of vs) ≡ f (sizes_of ws)
      → f (sizes_of (lent_to vs k lent)) ≡ f (sizes_of (lent_to ws k lent))
  same-sizes f same = ap f (lent-sizes vs k lent) ∙ same ∙ ap f (sym (lent-sizes ws k lent))

  module _ (is_task : k < task_count ws) where
    is-task' : k < task_count vs
    is-task' = subst (λ (n : ℕ). k < n) (sym L.same_count) is_task

    -- What is alike of the other tasks is alike of all.
    same_of : {R : Type 0} (f : Task → R) → ((j : ℕ) → f (task vs j) ≡ f (task ws j))
        → (j : ℕ)
        → f (task (lent_to vs k lent) j) ≡ f (task (lent_to ws k lent) j)
    same_of f same j =
        elim (equal? j k) [
          | inl e ↦
              ap (λ (i : ℕ). f (task (lent_to vs k lent) i)) e
              ∙ ap f (own-task vs k lent is-task' (sized vs L.accepted') whole)
              ∙ ap f (sym (own-task ws k lent is_task (sized ws L.accepted) whole))
              ∙ ap (λ (i : ℕ). f (task (lent_to ws k lent) i)) (sym e)
          | inr n ↦
              ap f (far-task vs k lent is-task' (sized vs L.accepted') whole j n)
              ∙ same j
              ∙ ap f (sym (far-task ws k lent is_task (sized ws L.accepted) whole j n))
        ]

    looks-there : record-fits ws ≡ true → SameLooks (lent_to ws k lent) (lent_to vs k lent)
    looks-there ok =
        record {
          accepted = accepted-there ws L.accepted lent whole k is_task ok;
          accepted' = accepted-there vs L.accepted' lent whole k is-task' (fits-same ∙ ok);
          same_nodes = same-sizes (λ z. z.node_count) L.same_nodes;
          same_count = same-sizes (λ z. z.task_count) L.same_count;
          same_growth = same-sizes (λ z. z.growth) L.same_growth;
          same-lanes = same-sizes (λ z. z.lane_count) L.same-lanes;
          same_lane = λ l. lent-lane vs k lent l ∙ L.same_lane l ∙ sym (lent-lane ws k lent l);
          same_operation = same_of (λ t. t.operation) L.same_operation;
          same_argument = same_of (λ t. t.argument) L.same_argument;
        }

  module _ (l op side : ℕ) (argument : Stored) where
    abbrev tested : List ℕ → Option ℕ
    tested us = begin_refusal (lent_to us k lent) k l op side argument

    tested-same : tested vs ≡ tested ws
    tested-same = by_place (k <? task_count ws)
      where
        by-record : (is_task : k < task_count ws) (b : Bool) → record-fits ws ≡ b → tested vs ≡ tested ws
        by-record is_task true ok = begin-same (looks-there is_task ok) k l op side argument
        by-record is_task false broken =
            rw (
              length-there ws L.accepted lent whole k is_task,
              length-there vs L.accepted' lent whole k (is-task' is_task),
              shape-there ws L.accepted lent whole k is_task ∙ broken,
              shape-there vs L.accepted' lent whole k (is-task' is_task) ∙ fits-same ∙ broken,
            )

        by_place : Dec (k < task_count ws) → tested vs ≡ tested ws
        by_place (yes is_task) = by-record is_task (record-fits ws) refl
        by_place (no past) =
            let none_here : task_count ws ≤ k = omega arith in
            let none-there : task_count vs ≤ k = subst (λ (n : ℕ). n ≤ k) (sym L.same_count) none_here in
            rw (no_place ws k lent none_here, no_place vs k lent none-there) (begin-same L k l op side argument)

    lent_same : begin_lent vs lent k l op side argument ≡ begin_lent ws lent k l op side argument
    lent_same =
        let begun_words = words_of (begun_task l (operation_of op) (side_of side) (number argument)) in
        lent_is vs lent k l op side argument (sized vs L.accepted')
        ∙ ap (λ (r : Option ℕ). changed r lent begun_words) tested-same
        ∙ sym (lent_is ws lent k l op side argument (sized ws L.accepted))

-- What such a call leaves of two tables: both as they are, or both begun alike.
pub data LeftAlike (ws vs : List ℕ) : (ws' vs' : List ℕ) → Type 0 where
  both-left-alone : LeftAlike ws vs ws vs
  both-begun : (k l op side : ℕ) (argument : Stored)
      → LeftAlike ws vs (begin ws k l op side argument).words (begin vs k l op side argument).words

-- A begin, or a look.
pub record TicksNone (c : Call) : Type 0 where
  pub same-given : {ws vs : List ℕ} → SameLooks ws vs → given c vs ≡ given c ws
  pub left-alike : (ws vs : List ℕ) → LeftAlike ws vs (after c ws) (after c vs)

-- The calls, begins and looks as one: for what is said of two tables.
pub data View : Call → Type 0 where
  of-start : (S T g L : ℕ) → View (start_call S T g L)
  of-tick : (k h : ℕ) → View (tick_call k h)
  of-ticks : (k h n : ℕ) → View (ticks_call k h n)
  of-dispatch : (h : ℕ) → View (dispatch_call h)
  of-dispatches : (h n : ℕ) → View (dispatches_call h n)
  of-run : (list answers : List ℕ) → View (run_call list answers)
  of-panel : (list answers : List ℕ) → View (panel_call list answers)
  of_other : (c : Call) → TicksNone c → View c

by-list-left-alike : (s : Sent) (k l : ℕ) (argument : Stored) (ws vs : List ℕ)
    → LeftAlike ws vs (push_to s ws k l argument).words (push_to s vs k l argument).words
by-list-left-alike (To end) k l argument ws vs =
    both-begun k l (operation_number push) (side_number (side_at end)) argument
by-list-left-alike (NotSent n line) k l argument ws vs = both-left-alone

pub view : (c : Call) → View c
unfolding push_by_list
view (start_call S T g L) = of-start S T g L
view (begin_call k l op side argument) =
    of_other (begin_call k l op side argument)
    (record {
      same-given = λ L. begin-given L k l op side argument;
      left-alike = λ ws vs. both-begun k l op side argument;
    })
view (tick_call k h) = of-tick k h
view (ticks_call k h n) = of-ticks k h n
view (dispatch_call h) = of-dispatch h
view (dispatches_call h n) = of-dispatches h n
view (run_call list answers) = of-run list answers
view (panel_call list answers) = of-panel list answers
view (read_call l out) =
    of_other (read_call l out)
    (record {
      same-given = λ L i. ((read_same L l out i).reading, (read_same L l out i).out);
      left-alike = λ ws vs. both-left-alone;
    })
view (sheet_call l page out) =
    of_other (sheet_call l page out)
    (record {
      same-given = λ L i. ((sheet-same L l page out i).reply, (sheet-same L l page out i).words);
      left-alike = λ ws vs. both-left-alone;
    })
view (push_by_list_call list k l argument) =
    of_other (push_by_list_call list k l argument)
    (record {
      same-given = λ L. by-list-given L (sent (verdict list) (number argument)) k l argument;
      left-alike = by-list-left-alike (sent (verdict list) (number argument)) k l argument;
    })
view (lent_begin_call lent whole k l op side argument) =
    of_other (lent_begin_call lent whole k l op side argument)
    (record {
      same-given = λ L i.
          let same = lent_same L lent whole k l op side argument in ((same i).reply, (same i).words);
      left-alike = λ ws vs. both-left-alone;
    })
