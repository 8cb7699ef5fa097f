-- Pushes by list on small tables, with what each answers and the side of the task's call afterwards; `proofs/Worked`
-- computes them.
use Rattle.std.specs.Prelude.{List, [], ◌∷◌, ℕ}
use Rattle.machine.specs.Outcomes.Reply.{Accepted, Refused}
use Rattle.machine.specs.declared.Stored.{Stored}
use Rattle.machine.specs.Sides.{Side, left, right}
use Rattle.machine.specs.Values.{stored, stored_of}
use Rattle.machine.specs.Table.{task}
use Rattle.machine.specs.Calls.{start_words}
use Rattle.text.specs.Text.{bytes}
use Rattle.machine.specs.Outcomes.ByList.{ByList, Replied, Faulty}
use Rattle.machine.specs.PushByList.{PushedByList, push_by_list}

-- A push by list.
pub record Push : Type 0 where
  pub list : List ℕ
  pub table : List ℕ
  pub task : ℕ
  pub lane : ℕ
  pub argument : Stored

abbrev pub by : Push → PushedByList
by p = push_by_list p.list p.table p.task p.lane p.argument

-- ---- What is given: a list, of which code 125 is loaded at the left, a list with a fault, and a fresh table of one
-- task.
abbrev pub good : List ℕ
good = bytes "(airline (code 125) left)\n(others right)\n"

abbrev pub bad : List ℕ
bad = bytes "(airline (code 125) left)\n(others up)\n"

abbrev pub fresh : List ℕ
fresh = start_words 2 1 0 1

-- ---- The answers.
pub record Example : Type 0 where
  pub given : Push
  pub answers : ByList

abbrev example : (list table : List ℕ) (k l : ℕ) (argument : Stored) (answers : ByList) → Example
example list table k l argument answers =
    record {
      given = record { list = list; table = table; task = k; lane = l; argument = argument };
      answers = answers;
    }

unfoldable pub examples : List Example
examples =
    example good fresh 0 0 (stored 125_000_051) (Replied Accepted)
    -- 02: the list is tested "before 3": whatever the table, the task, the lane and the argument are.
    ∷ example bad fresh 0 0 (stored 125_000_051) (Faulty 27 2)
    ∷ example bad [] 9 9 (stored 0) (Faulty 27 2)
    -- Then the begin's refusals: 3, 26, 5 and 7. An argument that is no tag is sent too.
    ∷ example good [] 0 0 (stored 125_000_051) (Replied (Refused 3))
    ∷ example good fresh 9 1 (stored 0) (Replied (Refused 26))
    ∷ example good fresh 1 0 (stored 0) (Replied (Refused 5))
    ∷ example good fresh 0 0 (stored 0) (Replied (Refused 7))
    ∷ example good fresh 0 0 (stored_of 0 1_125_000_051) (Replied (Refused 7))
    ∷ []

-- ---- The sides.
pub record Sided : Type 0 where
  pub tag : ℕ
  pub side : Side

infix 80 ◌at◌
abbrev pub ◌at◌ : ℕ → Side → Sided
tag at side = record { tag = tag; side = side }

-- The side of the task's call after a push of the tag.
abbrev pub side_after : Sided → Side
side_after s = (task (push_by_list good fresh 0 0 (stored s.tag)).words 0).side

unfoldable pub sides : List Sided
sides = 125_000_051 at left ∷ 9_125_000_051 at left ∷ 51 at right ∷ 1_250_000_051 at right ∷ []
