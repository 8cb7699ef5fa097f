-- A push by list (2026-13): for every text, every table and all numbers, the answer and every word of the table
-- afterwards.
use Rattle.std.specs.Prelude.{List, ℕ}
use Rattle.machine.specs.declared.Stored.{Stored}
use Rattle.machine.specs.Sides.{Side, left, right, side_number}
use Rattle.machine.specs.Values.{number}
use Rattle.machine.specs.Operations.{push, operation_number}
use Rattle.machine.specs.Calls.{Changed, begin}
use Rattle.airline_list.specs.declared.End.{End}
use Rattle.airline_list.specs.declared.End.TheVariants.{Left, Right}
use Rattle.airline_list.specs.Outcomes.{Sent, To, NotSent}
use Rattle.airline_list.specs.Lists.{verdict, sent}
use Rattle.machine.specs.Outcomes.ByList.{ByList, Replied, Faulty}

-- The deque's side at an end of the lane.
abbrev pub side_at : End → Side
side_at Left = left
side_at Right = right

pub record PushedByList : Type 0 where
  pub answer : ByList
  pub words : List ℕ

-- What the call in code gives back, with the table that it leaves.
abbrev pub replied_of : ByList → (words : List ℕ) → PushedByList
replied_of answer words = record { answer = answer; words = words }

-- The begin of a push at an end.
abbrev pub push_at : End → List ℕ → (k lane : ℕ) (argument : Stored) → Changed
push_at end ws k l argument = begin ws k l (operation_number push) (side_number (side_at end)) argument

-- What comes of where the list sends the tag. The list's fault is named "before 3 is tested".
abbrev pub push_to : Sent → List ℕ → (k lane : ℕ) (argument : Stored) → PushedByList
push_to (To end) ws k l argument =
    let begun = push_at end ws k l argument in replied_of (Replied begun.reply) begun.words
push_to (NotSent number line) ws k l argument = replied_of (Faulty number line) ws

-- 02: "A push by list begins at the end named for the tag's code, or at the closing line's end, and is otherwise the
-- same push." An argument that is no tag is sent by its digits too, and refused by the begin.
unfoldable pub push_by_list : (list ws : List ℕ) (k lane : ℕ) (argument : Stored) → PushedByList
push_by_list list ws k l argument = push_to (sent (verdict list) (number argument)) ws k l argument
