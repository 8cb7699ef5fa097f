-- 2026-14: cases of a begin over a lent record, of the panel's copy of it, and of what is known then.
use Rattle.std.specs.Prelude.{refl, List, [], ◌∷◌, ◌++◌, ℕ, replicate, set}
use Rattle.std.proofs.Math.Option.{some}
use Rattle.machine.specs.Outcomes.Answer.{Going, Pushed, Full, Yes, No}
use Rattle.machine.specs.declared.Stored.{Stored}
use Rattle.machine.specs.Sides.{right}
use Rattle.machine.specs.Values.{stored_of}
use Rattle.machine.specs.Operations.{push}
use Rattle.machine.specs.Tasks.{fresh, words_of}
use Rattle.machine.specs.Table.{record_at, set_task}
use Rattle.machine.specs.Calls.{begun_task, start_words}
use Rattle.machine.specs.Snapshots.{by_columns}
use Rattle.machine.specs.Lent.{begin_lent}
use Rattle.machine.specs.Demand3.{start_call, begin_call, tick_call, ticks_call, read_call, lent_begin_call}
use Rattle.machine.specs.Events.{
  Event,
  call_event,
  take_event,
  put_event,
  copy_event,
  write_event,
  nothing_known,
  Copies,
  every_copy,
  copied_alone,
  copied_over_idle,
  known_after,
}
use Rattle.machine_cases.specs.Cases.{
  starts,
  begins,
  copies_begun,
  ticks,
  looks_at_lane,
  answers,
  lane_is,
  Expected,
  ◌⟶◌,
  Case,
  ok,
}
use Rattle.machine_cases.specs.SnapshotCases.{
  Compared,
  accepts,
  refuses,
  Told,
  nothing-known,
  noted,
  not_noted,
  told,
}

-- ---- What is given back, and the record afterwards. S 2, T 2, one lane; a push of 51 at the right end.
abbrev table : List ℕ
table = start_words 2 2 0 1

abbrev bag51 : Stored
bag51 = stored_of 0 51

abbrev begun : List ℕ
begun = words_of (begun_task 0 push right 51)

abbrev idle : List ℕ
idle = words_of fresh

-- The first word of a task's place.
abbrev place : ℕ → ℕ
place k = record_at 2 k

-- Task k pushes 51.
abbrev pushing : ℕ → List ℕ
pushing k = set_task k (begun_task 0 push right 51) table

abbrev pub comparisons : List Compared
comparisons =
    accepts (begin_lent table idle 0 0 1 1 bag51) begun
    ∷ accepts (begin_lent table idle 1 0 1 1 bag51) begun
    -- The task's own words in the table are not looked at: they may be broken, busy, or push the same tag.
    ∷ accepts (begin_lent (set table (place 0) 9) idle 0 0 1 1 bag51) begun
    ∷ accepts (begin_lent (pushing 0) idle 0 0 1 1 bag51) begun
    -- Those of the others are, and so is the lent record: 4, 16 and 8.
    ∷ refuses (begin_lent (set table (place 1) 9) idle 0 0 1 1 bag51) 4 idle
    ∷ refuses (begin_lent table (set idle 0 9) 0 0 1 1 bag51) 4 (set idle 0 9)
    ∷ refuses (begin_lent table (set idle 12 1) 0 0 1 1 bag51) 4 (set idle 12 1)
    ∷ refuses (begin_lent (pushing 1) idle 0 0 1 1 bag51) 16 idle
    ∷ refuses (begin_lent table begun 0 0 1 1 bag51) 16 begun
    ∷ refuses (begin_lent table begun 0 0 2 1 (stored_of 0 0)) 8 begun
    -- Of a number that is no task the record is not looked at: 5, and 26 before it.
    ∷ refuses (begin_lent table (set idle 0 9) 2 0 1 1 bag51) 5 (set idle 0 9)
    ∷ refuses (begin_lent table (set idle 0 9) 2 1 1 1 bag51) 26 (set idle 0 9)
    ∷ refuses (begin_lent (set table (place 1) 9) idle 2 0 1 1 bag51) 4 idle
    -- The others as in begin.
    ∷ refuses (begin_lent (7 ∷ []) idle 0 0 1 1 bag51) 3 idle
    ∷ refuses (begin_lent table idle 0 1 1 1 bag51) 26 idle
    ∷ refuses (begin_lent table idle 0 0 5 1 bag51) 6 idle
    ∷ refuses (begin_lent table idle 0 0 2 1 bag51) 7 idle
    ∷ []

-- ---- What is known. The table is lent to a panel for each task.
abbrev started : Event
started = call_event (start_call 2 2 0 1)

abbrev lends : ℕ → Event
lends k = call_event (lent_begin_call idle refl k 0 1 1 bag51)

abbrev pops : ℕ → Event
pops k = call_event (begin_call k 0 2 1 (stored_of 0 0))

abbrev copies : ℕ → Event
copies k = copy_event k begun

abbrev sevens : List ℕ
sevens = replicate 50 7

pub record Course : Type 0 where
  pub outlasts : Copies
  pub events : List Event
  pub tells : Told

abbrev by : Copies → List Event → Told → Course
by outlasts es t = record { outlasts = outlasts; events = es; tells = t }

-- On words that are all 7: whether task 0 has a note.
abbrev pub tells_then : Course → Told
tells_then c = told (known_after c.outlasts c.events sevens nothing_known)

abbrev pub courses : List Course
courses =
    -- A begin not copied leaves the notes; the copy sets the task's, which is then answered as any.
    by every_copy (started ∷ lends 0 ∷ []) not_noted
    ∷ by every_copy (started ∷ lends 0 ∷ copies 0 ∷ []) noted
    ∷ by every_copy (started ∷ lends 0 ∷ copies 0 ∷ copies 0 ∷ []) noted
    ∷ by every_copy (started ∷ lends 0 ∷ copies 0 ∷ call_event (ticks_call 0 0 9) ∷ []) not_noted
    -- Not begun, another task's place, other words, or anything else that is written.
    ∷ by every_copy (started ∷ copies 0 ∷ []) nothing-known
    ∷ by every_copy (started ∷ lends 0 ∷ copies 1 ∷ []) nothing-known
    ∷ by every_copy (started ∷ lends 0 ∷ copy_event 0 idle ∷ []) nothing-known
    ∷ by every_copy (started ∷ lends 0 ∷ write_event table ∷ []) nothing-known
    ∷ by every_copy (started ∷ lends 0 ∷ write_event table ∷ started ∷ []) not_noted
    -- Looks and refused calls leave it pending; a call that writes the table does not.
    ∷ by every_copy
    (started ∷ lends 0 ∷ call_event (read_call 1 []) ∷ call_event (tick_call 0 0) ∷ take_event sevens ∷ copies 0 ∷ [])
    noted
    ∷ by every_copy (started ∷ lends 0 ∷ pops 1 ∷ copies 0 ∷ []) nothing-known
    ∷ by every_copy (started ∷ lends 0 ∷ started ∷ copies 0 ∷ []) nothing-known
    -- A snapshot of before brings back the row of before.
    ∷ by every_copy (started ∷ take_event sevens ∷ lends 0 ∷ copies 0 ∷ put_event (by_columns table) ∷ []) not_noted
    -- Two panels begin with the same tag, and both copy: what is answered is explained, but the tag is there twice.
    ∷ by every_copy (started ∷ lends 0 ∷ lends 1 ∷ copies 1 ∷ copies 0 ∷ []) noted
    ∷ by copied_alone (started ∷ lends 0 ∷ lends 1 ∷ copies 1 ∷ copies 0 ∷ []) nothing-known
    ∷ by copied_alone (started ∷ lends 0 ∷ lends 1 ∷ copies 0 ∷ copies 0 ∷ []) noted
    -- Over a call that is under way: that one is left off.
    ∷ by copied_alone (started ∷ pops 0 ∷ lends 0 ∷ copies 0 ∷ []) noted
    ∷ by copied_over_idle (started ∷ pops 0 ∷ lends 0 ∷ copies 0 ∷ []) nothing-known
    ∷ by copied_over_idle (started ∷ lends 0 ∷ copies 0 ∷ []) noted
    ∷ []

-- ---- What a copy over a call under way costs. S 4: the list has a spare node on the left, and a remove there has
-- made its cut (62). Gone on with, it gives the node back, and a push finds room. Left off by a copy, it does not: no
-- task is in a call, the lane is empty, and a push at either end is "full".
abbrev cut : List Expected
cut =
    starts 4 1 0 1 ⟶ ok
    ∷ begins 0 0 3 0 0 1 ⟶ ok
    ∷ ticks 0 0 100 ⟶ answers 6 Yes
    ∷ begins 0 0 4 0 0 0 ⟶ ok
    ∷ ticks 0 0 3 ⟶ answers 3 Going
    ∷ []

abbrev pub leaks : List Case
leaks =
    record {
      words = 45;
      script =
          cut
          ++ (ticks 0 0 100 ⟶ answers 7 Yes
          ∷ begins 0 0 1 1 0 51 ⟶ ok
          ∷ ticks 0 0 100 ⟶ answers 11 Pushed
          ∷ []);
    }
    ∷ record {
      words = 45;
      script =
          cut
          ++ (copies_begun 0 0 3 0 0 0 ⟶ ok
          ∷ ticks 0 0 100 ⟶ answers 1 No
          ∷ looks_at_lane 0 ⟶ lane_is (some [])
          ∷ begins 0 0 1 0 0 51 ⟶ ok
          ∷ ticks 0 0 100 ⟶ answers 5 Full
          ∷ begins 0 0 1 1 0 51 ⟶ ok
          ∷ ticks 0 0 100 ⟶ answers 4 Full
          ∷ []);
    }
    ∷ []
