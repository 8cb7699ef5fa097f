-- Wrong pushes by list as definitions, each with a push that tells it from the right one; `proofs/Refuted` computes it.
use Rattle.std.specs.Prelude.{◌≡◌, cond, List, [], ◌∷◌, map, ℕ}
use Rattle.std.proofs.Math.Option.{Option, some, none}
use Rattle.machine.specs.Outcomes.Reply.{Accepted, Refused}
use Rattle.machine.specs.declared.Stored.{Stored}
use Rattle.machine.specs.Sides.{Side, left, right, opposite, side_number}
use Rattle.machine.specs.Values.{number, stored, bag_ok}
use Rattle.machine.specs.Operations.{push, operation_number}
use Rattle.machine.specs.Table.{task}
use Rattle.machine.specs.Calls.{table_refusal, begin}
use Rattle.airline_list.specs.Outcomes.{Sent, To, NotSent}
use Rattle.airline_list.specs.Lists.{verdict, sent}
use Rattle.machine.specs.Outcomes.ByList.{ByList, Replied, Faulty}
use Rattle.machine.specs.PushByList.{side_at, PushedByList, replied_of, push_by_list}
use Rattle.call_push_by_list.specs.Examples.{good, bad, fresh}

abbrev Pusher : Type 0
Pusher = (list ws : List ℕ) (k lane : ℕ) (argument : Stored) → PushedByList

-- 3 and 4 are tested before the list.
abbrev refused_first : Option ℕ → Pusher
refused_first (some n) list ws k l argument = replied_of (Replied (Refused n)) ws
refused_first none list ws k l argument = push_by_list list ws k l argument

abbrev table_first : Pusher
table_first list ws k l argument = refused_first (table_refusal ws none) list ws k l argument

-- 7 is tested before the list.
abbrev tag_first : Pusher
tag_first list ws k l argument =
    cond (bag_ok argument) (push_by_list list ws k l argument) (replied_of (Replied (Refused 7)) ws)

-- The push begins at the other end.
abbrev other_end_to : Sent → (ws : List ℕ) (k lane : ℕ) (argument : Stored) → PushedByList
other_end_to (To end) ws k l argument =
    let begun = begin ws k l (operation_number push) (side_number (opposite (side_at end))) argument in
    replied_of (Replied begun.reply) begun.words
other_end_to (NotSent number line) ws k l argument = replied_of (Faulty number line) ws

abbrev other_end : Pusher
other_end list ws k l argument = other_end_to (sent (verdict list) (number argument)) ws k l argument

-- ---- Each with a push: what the right one answers and the wrong one; and the side of the task's call afterwards.
pub record Outcome : Type 0 where
  pub answer : ByList
  pub side : Side

abbrev outcome : ByList → Side → Outcome
outcome a s = record { answer = a; side = s }

pub record Case : Type 0 where
  pub wrong : Pusher
  pub list : List ℕ
  pub table : List ℕ
  pub argument : Stored
  pub right_comes_to : Outcome
  pub wrong_comes_to : Outcome

abbrev case : Pusher → (list table : List ℕ) (argument : Stored) (right_comes_to wrong_comes_to : Outcome) → Case
case P list table argument r w =
    record {
      wrong = P;
      list = list;
      table = table;
      argument = argument;
      right_comes_to = r;
      wrong_comes_to = w;
    }

abbrev comes_to : Pusher → Case → Outcome
comes_to P c =
    let pushed = P c.list c.table 0 0 c.argument in
    record { answer = pushed.answer; side = (task pushed.words 0).side }

unfoldable pub cases : List Case
cases =
    -- Wrong: 3 is tested before the list.
    case table_first bad [] (stored 51) (outcome (Faulty 27 2) left) (outcome (Replied (Refused 3)) left)
    -- Wrong: 7 is tested before the list.
    ∷ case tag_first bad fresh (stored 0) (outcome (Faulty 27 2) left) (outcome (Replied (Refused 7)) left)
    -- Wrong: The push begins at the other end.
    ∷ case other_end good fresh (stored 51) (outcome (Replied Accepted) right) (outcome (Replied Accepted) left)
    ∷ []

-- ---- The claim: both come to what is said.
abbrev pub AllRefuted : Type 0
AllRefuted =
    (map (comes_to push_by_list) cases ≡ map (λ (c : Case). c.right_comes_to) cases)
    × (map (λ (c : Case). comes_to c.wrong c) cases ≡ map (λ (c : Case). c.wrong_comes_to) cases)
