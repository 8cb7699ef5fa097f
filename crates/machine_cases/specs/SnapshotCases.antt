-- 2026-10: cases of taking a snapshot and putting it back, and of what is known then.
use Rattle.std.specs.Prelude.{List, [], ◌∷◌, ◌++◌, ℕ, replicate, set}
use Rattle.std.proofs.Math.Option.{Option, some, none}
use Rattle.machine.specs.Outcomes.Reply.{Accepted, Refused}
use Rattle.machine.specs.Values.{stored_of}
use Rattle.machine.specs.Tasks.{no_node, fresh, words_of}
use Rattle.machine.specs.Sides.{right}
use Rattle.machine.specs.Operations.{push}
use Rattle.machine.specs.Calls.{Changed, begun_task, start_words}
use Rattle.machine.specs.Snapshots.{by_columns, take_snapshot, put_back}
use Rattle.machine.specs.Row.{Note, Row}
use Rattle.machine.specs.Demand3.{start_call, begin_call, ticks_call}
use Rattle.machine.specs.Events.{Event, call_event, take_event, put_event, Known, nothing_known, every_copy, known_after}

-- ---- Words. S 3, T 1, one lane with the tag 7,000,000,051 in it.
abbrev header : List ℕ
header =
    3 ∷ 1 ∷ 0 ∷ 1 ∷ 9 ∷ 0 ∷ 0 ∷ 2 ∷ no_node ∷ no_node ∷ no_node ∷ no_node ∷ no_node ∷ no_node ∷ 0 ∷ 0 ∷ []

abbrev table : List ℕ
table =
    header
    ++ ((no_node ∷ 1 ∷ 1000000002 ∷ 0 ∷ [])
    ++ ((0 ∷ 2 ∷ 51 ∷ 7 ∷ [])
    ++ ((1 ∷ no_node ∷ 1000000005 ∷ 0 ∷ [])
    ++ words_of fresh)))

abbrev snapshot : List ℕ
snapshot =
    header
    ++ ((no_node ∷ 0 ∷ 1 ∷ [])
    ++ ((1 ∷ 2 ∷ no_node ∷ [])
    ++ ((1000000002 ∷ 51 ∷ 1000000005 ∷ [])
    ++ ((0 ∷ 7 ∷ 0 ∷ [])
    ++ words_of fresh))))

abbrev sevens : ℕ → List ℕ
sevens n = replicate n 7

-- What a take or a put comes to, and what it must.
pub record Compared : Type 0 where
  pub found : Changed
  pub expected : Changed

abbrev pub accepts : Changed → List ℕ → Compared
accepts c ws = record { found = c; expected = record { reply = Accepted; words = ws } }

abbrev pub refuses : Changed → ℕ → List ℕ → Compared
refuses c n ws = record { found = c; expected = record { reply = Refused n; words = ws } }

abbrev pub comparisons : List Compared
comparisons =
    -- Each word at its place, whatever the slice held; and back, whatever the table held.
    accepts (take_snapshot table (sevens 41)) snapshot
    ∷ accepts (put_back snapshot (sevens 41)) table
    -- 22 first, for both.
    ∷ refuses (take_snapshot table (sevens 40)) 22 (sevens 40)
    ∷ refuses (take_snapshot [] (sevens 1)) 22 (sevens 1)
    ∷ refuses (put_back snapshot (sevens 42)) 22 (sevens 42)
    ∷ refuses (put_back (sevens 41) (sevens 42)) 22 (sevens 42)
    -- 3 and 4 of the table in taking.
    ∷ refuses (take_snapshot (sevens 41) (sevens 41)) 3 (sevens 41)
    ∷ refuses (take_snapshot [] []) 3 []
    ∷ refuses (take_snapshot (set table 7 3) (sevens 41)) 4 (sevens 41)
    -- 3 and 4 of the result in putting back: the words in the table's order are no snapshot.
    ∷ refuses (put_back (sevens 41) table) 3 table
    ∷ refuses (put_back [] []) 3 []
    ∷ refuses (put_back (9 ∷ []) (sevens 1)) 3 (sevens 1)
    ∷ refuses (put_back table (sevens 41)) 4 (sevens 41)
    ∷ refuses (put_back (set snapshot 5 1) table) 4 table
    -- Other sizes of the same length.
    ∷ accepts (put_back (by_columns (start_words 2 5 0 1)) (start_words 15 1 0 1)) (start_words 2 5 0 1)
    ∷ []

-- ---- What is known. S 2, T 1: a push is begun, a snapshot is taken, and the push answers "full" at its fourth tick.
abbrev begun : List Event
begun = call_event (start_call 2 1 0 1) ∷ call_event (begin_call 0 0 1 1 (stored_of 0 51)) ∷ []

abbrev taking : Event
taking = take_event (sevens 37)

abbrev answered : List Event
answered = call_event (ticks_call 0 0 9) ∷ []

-- The snapshot that is taken then.
abbrev taken : List ℕ
taken =
    (2 ∷ 1 ∷ 0 ∷ 1 ∷ 0 ∷ 0 ∷ 0 ∷ 1 ∷ no_node ∷ no_node ∷ no_node ∷ no_node ∷ no_node ∷ no_node ∷ 0 ∷ 0 ∷ [])
    ++ ((no_node ∷ 0 ∷ []) ++ ((1 ∷ no_node ∷ []) ++ ((1000000002 ∷ 1000000005 ∷ []) ++ ((0 ∷ 0 ∷ [])
    ++ words_of (begun_task 0 push right 51)))))

-- What is known after a list of events: that the row does not give an answer, nothing, or a row in which task 0 has a
-- note or none.
pub data Told : Type 0 where
  not_explained : Told
  nothing-known : Told
  noted : Told
  not_noted : Told

abbrev told_by_note : Option Note → Told
told_by_note none = not_noted
told_by_note (some n) = noted

abbrev told_by_row : Option Row → Told
told_by_row none = nothing-known
told_by_row (some ρ) = told_by_note (ρ.notes 0)

abbrev pub told : Option Known → Told
told none = not_explained
told (some κ) = told_by_row κ.row

pub record Course : Type 0 where
  pub events : List Event
  pub tells : Told

infix 80 ◌⟶◌
abbrev ◌⟶◌ : List Event → Told → Course
◌⟶◌ es t = record { events = es; tells = t }

-- On words that are all 7.
abbrev pub tells_then : Course → Told
tells_then c = told (known_after every_copy c.events (sevens 37) nothing_known)

abbrev pub courses : List Course
courses =
    [] ⟶ nothing-known
    ∷ answered ⟶ nothing-known
    ∷ begun ⟶ noted
    ∷ (begun ++ answered) ⟶ not_noted
    ∷ (begun ++ (taking ∷ answered)) ⟶ not_noted
    -- Taken, gone on, put back: the note is there again, and is answered again.
    ∷ (begun ++ (taking ∷ (answered ++ (put_event taken ∷ [])))) ⟶ noted
    ∷ (begun ++ (taking ∷ (answered ++ (put_event taken ∷ answered)))) ⟶ not_noted
    -- A start does not spoil an older snapshot, and a refused put changes nothing.
    ∷ (begun ++ (taking ∷ call_event (start_call 2 1 0 1) ∷ put_event taken ∷ [])) ⟶ noted
    ∷ (begun ++ (taking ∷ put_event (set taken 5 1) ∷ [])) ⟶ noted
    -- Another tick count: accepted, and nothing is known, whatever is called, until a start or a put of the first kind.
    ∷ (begun ++ (taking ∷ put_event (set taken 4 1) ∷ [])) ⟶ nothing-known
    ∷ (begun ++ (taking ∷ put_event (set taken 4 1) ∷ answered)) ⟶ nothing-known
    ∷ (begun ++ (taking ∷ put_event (set taken 4 1) ∷ call_event (start_call 2 1 0 1) ∷ [])) ⟶ not_noted
    ∷ (begun ++ (taking ∷ put_event (set taken 4 1) ∷ put_event taken ∷ [])) ⟶ noted
    -- One taken while nothing is known is not kept.
    ∷ (begun ++ (put_event taken ∷ [])) ⟶ nothing-known
    ∷ (begun ++ (put_event taken ∷ taking ∷ put_event taken ∷ [])) ⟶ nothing-known
    ∷ []
