-- The claims: on the lists of all entries the right machine passes, and each wrong one fails as its entry says.
use Rattle.std.specs.Prelude.{◌≡◌, Bool, true, false, List, [], ◌∷◌, ◌++◌, map, ℕ, replicate}
use Rattle.std.proofs.Math.Option.{some}
use Rattle.machine.specs.Sides.{right}
use Rattle.machine.specs.Operations.{push}
use Rattle.machine.specs.Table.{table_length}
use Rattle.machine.specs.Allocate.{marked}
use Rattle.machine.specs.Calls.{is_begun, all_lanes, lane, start}
use Rattle.machine.specs.Row.{empty_row}
use Rattle.machine_refuted.specs.Machines.{Act, right_machine}
use Rattle.machine_refuted.specs.Judged.{
  Verdict,
  passes,
  not_the_row's_answer,
  lane_is_not_the_row,
  other_answer,
  other_table,
  made_by,
  by_row,
  by_definitions,
  after_all_by,
  going_alone,
  dispatches_to_idle,
  free_below,
}
use Rattle.machine_refuted.specs.Entries.{
  Entry,
  begins,
  added_and_removed,
  two_removes,
  pushed_at_once,
  pushed_again,
  pushed_again_behind,
  pushed_in_lanes,
  pushed_in_lanes_at_once,
  each_call,
}
use Rattle.machine_refuted.specs.WrongTicks.{going_forever, refuses_all, tick_entries}
use Rattle.machine_refuted.specs.WrongLines.{failed_swap_spins, remove_leaves_link, line_entries}
use Rattle.machine_refuted.specs.WrongSearches.{search_entries}
use Rattle.machine_refuted.specs.WrongRuns.{run_entries}
use Rattle.machine_refuted.specs.WrongBegins.{
  searches_lane_alone,
  searches_pushes_alone,
  searches_left_end_alone,
  tests_when_answering,
  begin_entries,
}
use Rattle.machine_refuted.specs.WrongTags.{tag_entries}
use Rattle.machine_refuted.specs.WrongDispatches.{dispatch_entries}
use Rattle.machine_refuted.specs.WrongLanes.{searches_own_lane, searches_own_pushes, lane_entries}
use Rattle.machine_refuted.specs.WrongConsecutive.{consecutive_entries}

-- The entries of all wrong machines.
abbrev pub entries : List Entry
entries =
    tick_entries
    ++ line_entries
    ++ search_entries
    ++ run_entries
    ++ begin_entries
    ++ tag_entries
    ++ dispatch_entries
    ++ consecutive_entries
    ++ lane_entries

-- A table begun with so many nodes, tasks and lanes, and growth 0.
abbrev pub begun_with : (S T lanes : ℕ) → List ℕ
begun_with S T lanes = (start (replicate (table_length S T) 7) S T 0 lanes).words

-- ---- The claim: on every list the right machine passes, and the wrong one fails as is said.
pub record Judged : Type 0 where
  pub right_by_row : Verdict
  pub right_by_definitions : Verdict
  pub wrong_by_row : Verdict
  pub wrong_by_definitions : Verdict

unfoldable pub judged : Entry → Judged
judged e =
    let ws = begun_with e.S e.T e.lanes in
    let rightly = made_by right_machine e.calls ws in
    let wrongly = made_by e.wrong e.calls ws in
    record {
      right_by_row = by_row right_machine rightly 1 (empty_row e.T e.lanes);
      right_by_definitions = by_definitions rightly 1;
      wrong_by_row = by_row e.wrong wrongly 1 (empty_row e.T e.lanes);
      wrong_by_definitions = by_definitions wrongly 1;
    }

abbrev pub expected : Entry → Judged
expected e =
    record {
      right_by_row = passes;
      right_by_definitions = passes;
      wrong_by_row = e.row_says;
      wrong_by_definitions = e.definitions-say;
    }

-- A verdict that is a fault. By the definitions every wrong machine has one.
abbrev pub fault : Verdict → Bool
fault passes = false
fault (not_the_row's_answer n) = true
fault (lane_is_not_the_row n) = true
fault (other_answer n) = true
fault (other_table n) = true

abbrev pub AllRefuted : Type 0
AllRefuted =
    (map judged entries ≡ map expected entries)
    × (map (λ (e : Entry). fault e.definitions-say) entries ≡ map (λ (e : Entry). true) entries)

-- With task 0 busy, each of the calls alone tells the machine that refuses all from the right one.
abbrev pub RefusesEach : Type 0
RefusesEach =
    let ws = after_all_by right_machine (begins 0 push right 51) (begun_with 4 2 1) in
    map (λ (a : Act). by_definitions (made_by refuses_all (a ∷ []) ws) 1) each_call
    ≡ map (λ (a : Act). other_answer 1) each_call

-- ---- What the further theorems exclude, on the same lists.

-- A remove alone answers within 4S + 154 of its ticks (2026-08), which are 178 for 6 nodes; the one that spins does
-- not.
abbrev pub Spins : Type 0
Spins =
    (going_alone failed_swap_spins 178 0 (after_all_by failed_swap_spins two_removes (begun_with 6 2 1)) ≡ 178)
    × (going_alone right_machine 178 0 (after_all_by right_machine two_removes (begun_with 6 2 1)) ≡ 4)

-- Dispatches alone come to "idle", with one task in a call after 4S + 154 of them at the most, which are 162 for 2
-- nodes; those of a call that begins again for ever do not.
abbrev pub NeverDrains : Type 0
NeverDrains =
    (dispatches_to_idle going_forever 163 (after_all_by going_forever (begins 0 push right 51) (begun_with 2 1 1)) ≡ 163)
    × (dispatches_to_idle right_machine 163 (after_all_by right_machine (begins 0 push right 51) (begun_with 2 1 1)) ≡ 4)

-- With no task in a call and no bag, all nodes but the two sentinels are free; the link that is left holds one more.
abbrev pub Leaks : Type 0
Leaks =
    (free_below 4 (marked (after_all_by remove_leaves_link added_and_removed (begun_with 4 1 1))) ≡ 1)
    × (free_below 4 (marked (after_all_by right_machine added_and_removed (begun_with 4 1 1))) ≡ 2)

-- No lane has a bag twice (2026-03), no two lanes have it (2026-12), and no busy push is of a bag that a lane has.
abbrev pub Doubles : Type 0
Doubles =
    (lane (after_all_by searches_lane_alone pushed_at_once (begun_with 4 2 1)) 0 ≡ some (51 ∷ 51 ∷ []))
    × (lane (after_all_by searches_pushes_alone pushed_again (begun_with 4 1 1)) 0 ≡ some (51 ∷ 51 ∷ []))
    × (lane (after_all_by searches_left_end_alone pushed_again_behind (begun_with 5 1 1)) 0 ≡ some (52 ∷ 51 ∷ 51 ∷ []))
    × (lane (after_all_by tests_when_answering pushed_at_once (begun_with 4 2 1)) 0 ≡ some (51 ∷ []))
    × (is_begun (after_all_by tests_when_answering pushed_at_once (begun_with 4 2 1)) 2 51 ≡ true)
    × (lane (after_all_by right_machine pushed_at_once (begun_with 4 2 1)) 0 ≡ some (51 ∷ []))
    × (is_begun (after_all_by right_machine pushed_at_once (begun_with 4 2 1)) 2 51 ≡ false)
    × (lane (after_all_by right_machine pushed_again (begun_with 4 1 1)) 0 ≡ some (51 ∷ []))
    × (lane (after_all_by right_machine pushed_again_behind (begun_with 5 1 1)) 0 ≡ some (52 ∷ 51 ∷ []))
    × (all_lanes (after_all_by searches_own_lane pushed_in_lanes (begun_with 6 1 2)) ≡ some (51 ∷ 51 ∷ []))
    × (all_lanes (after_all_by right_machine pushed_in_lanes (begun_with 6 1 2)) ≡ some (51 ∷ []))
    × (all_lanes (after_all_by searches_own_pushes pushed_in_lanes_at_once (begun_with 6 2 2)) ≡ some (51 ∷ 51 ∷ []))
    × (all_lanes (after_all_by right_machine pushed_in_lanes_at_once (begun_with 6 2 2)) ≡ some (51 ∷ []))
