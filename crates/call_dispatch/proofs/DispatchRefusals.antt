-- Refusals 3, 4 and 9 of a dispatch, and what follows them.
use Rattle.std.proofs.Common.{◌≡◌, sym, List, ℕ, ◌≤◌, ◌<◌}
use Rattle.std.proofs.Math.Option.{some, none}
use lib.Dec.{ltb}
use borrow.Author.Tests.{lt-ltb, le-ltb, ltb-true}
use Rattle.machine.specs.Outcomes.Answer.{Refused}
use Rattle.machine.specs.Outcomes.Dispatch.{Answered}
use Rattle.machine.specs.Table.{node_count}
use Rattle.machine.specs.Shape.{WellFormed}
use Rattle.machine.specs.Calls.{unless, table_refusal, dispatch_refusal, dispatch_on, dispatch}
use Rattle.machine.proofs.Basics.Tests.{test-passed, tests_left}
use Rattle.table_layout.specs.Words.{HoldsHeader}
use Rattle.table_shape.proofs.Laws.TableWords.{header-long}
use Rattle.table_shape.proofs.Laws.PassedTable.{table-refused, table-passed}

-- ---- Test by test.
module _ (ws : List ℕ) (h : ℕ) where
  pub is-3-or-4 : {n : ℕ} → some n ≡ table_refusal ws none → some n ≡ dispatch_refusal ws h
  is-3-or-4 said = sym (table-refused ws said (unless (ltb h (node_count ws)) 9 none))

  module _ (P : WellFormed ws) where
    dispatch-9 : node_count ws ≤ h → some 9 ≡ dispatch_refusal ws h
    dispatch-9 b = rw (P.length_passes, P.shape_passes, le-ltb h (node_count ws) b)

    pub dispatch-passes : h < node_count ws → none ≡ dispatch_refusal ws h
    dispatch-passes b = rw (P.length_passes, P.shape_passes, lt-ltb h (node_count ws) b)

  module _ (said : none ≡ table_refusal ws none) where
    pub passed-long : HoldsHeader ws
    passed-long = header-long ws (table-passed ws said).length_passes

    pub is-9 : node_count ws ≤ h → some 9 ≡ dispatch_refusal ws h
    is-9 = dispatch-9 (table-passed ws said)

    pub is_none : h < node_count ws → none ≡ dispatch_refusal ws h
    is_none = dispatch-passes (table-passed ws said)

-- ---- What follows.
module _ (ws : List ℕ) (h : ℕ) where
  pub dispatch-refused : {n : ℕ} → some n ≡ dispatch_refusal ws h
      → record { answer = Answered (Refused n); words = ws } ≡ dispatch ws h
  unfolding dispatch
  dispatch-refused said = rw (sym said, dispatch)

  module _ (passed : none ≡ dispatch_refusal ws h) where
    pub dispatch-on : dispatch_on ws h ≡ dispatch ws h
    unfolding dispatch
    dispatch-on = rw (sym passed, dispatch)

    pub dispatch-tested : WellFormed ws
    dispatch-tested =
        let e : dispatch_refusal ws h ≡ none = sym passed in
        record { length_passes = search test-passed; shape_passes = search (test-passed, tests_left) }

    pub hint-passed : h < node_count ws
    hint-passed =
        let e : dispatch_refusal ws h ≡ none = sym passed in
        ltb-true h (node_count ws) (search (test-passed, tests_left))

-- What the tests of a dispatch rest on, and what a dispatch does.
pub ruleset tested = (is-3-or-4, passed-long, is-9, is_none)

pub ruleset passed = (dispatch-refused, dispatch-on, dispatch-tested)
