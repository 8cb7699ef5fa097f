-- What a push by list is alike: the begin that it makes, or nothing; and the push by the same list in another order.
use Rattle.std.specs.Prelude.{List, ◌≡◌, ℕ}
use Rattle.machine.specs.declared.Stored.{Stored}
use Rattle.machine.specs.Values.{number}
use Rattle.airline_list.specs.declared.End.{End}
use Rattle.airline_list.specs.Lists.{code_of, Entry, says, faulty, verdict, end_for}
use Rattle.airline_list.specs.Accepted.{Reordered}
use Rattle.machine.specs.Outcomes.ByList.{Replied, Faulty}
use Rattle.machine.specs.PushByList.{replied_of, push_at, push_by_list}

-- 02: "is otherwise the same push": with an accepted list it is the begin of a push at the end that is named for the
-- tag's code, or at the closing line's end.
abbrev pub IsThatBegin : Type 0
IsThatBegin =
    (list : List ℕ) (es : List Entry) (closing : End)
    → verdict list ≡ says es closing
    → (ws : List ℕ) (k l : ℕ) (argument : Stored)
    → let begun = push_at (end_for (code_of (number argument)) es closing) ws k l argument in
    push_by_list list ws k l argument ≡ replied_of (Replied begun.reply) begun.words

-- With any other list it is nothing: it answers the fault, and leaves the table.
abbrev pub IsNoCall : Type 0
IsNoCall =
    (list : List ℕ) (number line : ℕ)
    → verdict list ≡ faulty number line
    → (ws : List ℕ) (k l : ℕ) (argument : Stored)
    → push_by_list list ws k l argument ≡ replied_of (Faulty number line) ws

-- 02: "Two lists with the same closing line, and the same codes and ends in another order, send every tag alike."
abbrev pub PushAlike : Type 0
PushAlike =
    (one other : List ℕ) (es fs : List Entry) (closing : End)
    → verdict one ≡ says es closing
    → verdict other ≡ says fs closing
    → Reordered es fs
    → (ws : List ℕ) (k l : ℕ) (argument : Stored) → push_by_list one ws k l argument ≡ push_by_list other ws k l argument
