-- The tests of run and panel, in the papers' order: those that both begin with, 15, and the last.
use Rattle.std.proofs.Common.{◌≡◌, ◌≢◌, sym, ap, ◌∙◌, Bool, true, false, ◌&&◌, List, ℕ, ◌%◌, ◌≤◌, ◌<◌, ◌*◌, ◌/◌, length, eq-eqb, ne_eqb}
use Rattle.std.proofs.Math.Option.{Option, some, none}
use lib.Dec.{leb, eqb}
use borrow.Author.Tests.{le-leb, lt-leb, eqb-true, leb-true}
use Rattle.machine.specs.Shape.{length_ok, shape_ok, WellFormed}
use Rattle.machine.specs.Answers.{answer_length}
use Rattle.machine.specs.Calls.{
  unless,
  table_refusal,
  list_refusal,
  room_refusal,
  run_refusal,
  panel_refusal,
  RunDone,
  tested,
  run,
  panel,
}
use Rattle.machine.proofs.Basics.Contradiction.{clash}
use Rattle.machine.proofs.Basics.Tests.{and_left, and_right, test-passed, tests_left}
use Rattle.table_shape.proofs.Laws.PassedTable.{table-refused, table-passed}
use Rattle.call_tick.specs.Runs.{MayRun}

-- ---- 3 and 4, and 13.
abbrev list_ok : List ℕ → Bool
list_ok list = eqb (length list % 2) 0 && leb (length list) 8192

-- They decide alone where one of them fails, and leave the rest to the others where all pass.
decided :
    (a b c : Bool) {n : ℕ} (others : Option ℕ)
    → some n ≡ unless a 3 (unless b 4 (unless c 13 none))
    → some n ≡ unless a 3 (unless b 4 (unless c 13 others))
decided true true true others e = clash (cc)
decided true true false others e = e
decided true false c others e = e
decided false b c others e = e

module _ (ws list : List ℕ) where
  pub list-3-4 : {n : ℕ} → some n ≡ table_refusal ws none → some n ≡ list_refusal ws list none
  list-3-4 said = sym (table-refused ws said _)

  module _ (said : none ≡ table_refusal ws none) where
    P : WellFormed ws
    P = table-passed ws said

    pub list-13-odd : length list % 2 ≢ 0 → some 13 ≡ list_refusal ws list none
    list-13-odd odd = rw (P.length_passes, P.shape_passes, ne_eqb (length list % 2) 0 odd)

    module _ (even : length list % 2 ≡ 0) where
      pub list-13-long : 8192 < length list → some 13 ≡ list_refusal ws list none
      list-13-long long =
          rw (P.length_passes, P.shape_passes, eq-eqb (length list % 2) 0 even, lt-leb (length list) 8192 long)

      pub list-passes : length list ≤ 8192 → none ≡ list_refusal ws list none
      list-passes fits =
          rw (P.length_passes, P.shape_passes, eq-eqb (length list % 2) 0 even, le-leb (length list) 8192 fits)

  pub refused-first : {n : ℕ} → some n ≡ list_refusal ws list none → (others : Option ℕ) → some n ≡ list_refusal ws list others
  refused-first said others = decided (length_ok ws) (shape_ok ws) (list_ok list) others said

  left-to : none ≡ list_refusal ws list none → (others : Option ℕ) → others ≡ list_refusal ws list others
  left-to said others =
      let e : list_refusal ws list none ≡ none = sym said in
      let long : length_ok ws ≡ true = search test-passed in
      let shaped : shape_ok ws ≡ true = search (test-passed, tests_left) in
      let listed : list_ok list ≡ true = search (test-passed, tests_left) in
      rw (long, shaped, listed)

module _ (list answers : List ℕ) where
  -- ---- 14.
  pub room-14 : length answers < answer_length * (length list / 2) → some 14 ≡ room_refusal list answers
  room-14 short = rw (lt-leb (answer_length * (length list / 2)) (length answers) short)

  pub room-passes : answer_length * (length list / 2) ≤ length answers → none ≡ room_refusal list answers
  room-passes room = rw (le-leb (answer_length * (length list / 2)) (length answers) room)

  module _ (ws : List ℕ) where
    pub run-refused : {n : ℕ} → some n ≡ list_refusal ws list none → some n ≡ run_refusal ws list answers
    run-refused said = refused-first ws list said (room_refusal list answers)

    pub panel-refused : {n : ℕ} → some n ≡ list_refusal ws list none → some n ≡ panel_refusal ws list answers
    panel-refused said = refused-first ws list said (unless (leb (length list) 64) 15 (room_refusal list answers))

    module _ (said : none ≡ list_refusal ws list none) where
      pub run-left : {r : Option ℕ} → r ≡ room_refusal list answers → r ≡ run_refusal ws list answers
      run-left e = e ∙ left-to ws list said (room_refusal list answers)

      -- ---- 15.
      pub panel-15 : 64 < length list → some 15 ≡ panel_refusal ws list answers
      panel-15 over = rw (lt-leb (length list) 64 over) (left-to ws list said (some 15))

      pub panel-left : {r : Option ℕ} → length list ≤ 64 → r ≡ room_refusal list answers → r ≡ panel_refusal ws list answers
      panel-left fits e =
          rw (le-leb (length list) 64 fits) (e ∙ left-to ws list said (room_refusal list answers))

-- ---- What follows the tests.
module _ (ws list answers : List ℕ) where
  may-run : length_ok ws ≡ true → shape_ok ws ≡ true → list_ok list ≡ true
      → leb (answer_length * (length list / 2)) (length answers) ≡ true
      → MayRun ws list answers
  may-run long shaped listed room =
      record {
        taken = record {
          table = record { length_passes = long; shape_passes = shaped };
          paired = eqb-true (length list % 2) 0 (and_left (eqb (length list % 2) 0) (leb (length list) 8192) listed);
          short = leb-true (length list) 8192 (and_right (eqb (length list % 2) 0) (leb (length list) 8192) listed);
        };
        room = leb-true (answer_length * (length list / 2)) (length answers) room;
      }

  module _ {r : Option ℕ} where
    pub run-passed : r ≡ run_refusal ws list answers → r ≡ none → MayRun ws list answers
    run-passed is passed =
        let e : run_refusal ws list answers ≡ none = sym is ∙ passed in
        may-run (search test-passed) (search (test-passed, tests_left)) (search (test-passed, tests_left))
        (search (test-passed, tests_left))

    pub panel-passed : r ≡ panel_refusal ws list answers → r ≡ none → MayRun ws list answers
    panel-passed is passed =
        let e : panel_refusal ws list answers ≡ none = sym is ∙ passed in
        may-run (search test-passed) (search (test-passed, tests_left)) (search (test-passed, tests_left))
        (search (test-passed, tests_left))

    pub run-done : {d : RunDone} → r ≡ run_refusal ws list answers → d ≡ tested r ws list answers → d ≡ run ws list answers
    unfolding run
    run-done is e = e ∙ ap (λ (r : Option ℕ). tested r ws list answers) is

    pub panel-done : {d : RunDone} → r ≡ panel_refusal ws list answers → d ≡ tested r ws list answers → d ≡ panel ws list answers
    unfolding panel
    panel-done is e = e ∙ ap (λ (r : Option ℕ). tested r ws list answers) is

-- What the tests rest on, and the two calls.
pub ruleset lists = (list-3-4, list-13-odd, list-13-long, list-passes)

pub ruleset rooms = (room-14, room-passes)

pub ruleset runs = (run-refused, run-left)

pub ruleset panels = (panel-refused, panel-15, panel-left)

pub ruleset calls = (run-passed, panel-passed, run-done, panel-done)
