-- A step on a loan is the step on any state that the loan holds.
use mathlib.Core.Path.{◌≡◌, refl}
use mathlib.Core.Bool.{Bool, true, false, cond}
use mathlib.Core.List.{List, [], ◌∷◌, ◌++◌}
use Prim.Native.Nat.{ℕ, ◌≤◌}
use native.Mathlib.Omega.{arith}
use lib.Dec.{eqb}
use lib.ListN.{length, take, drop, length-append, length-drop}
use lib.Seq.{take-append_seam}
use Rattle.text.specs.Lines.{line_feed}
use Rattle.text_scan.specs.Kept.{text_places}
use Rattle.text_scan.proofs.Laws.ScanLaws.{first-kept, first-represents, byte-scan-kept, byte-represents}
use Rattle.program_command.specs.Commands.{command_of}
use Rattle.program_command.specs.KeptCommand.{kept_command}
use Rattle.program_command.proofs.Laws.CommandLaws.{command-represents}
use Rattle.program_answer.specs.Run.{answer}
use Rattle.program_answer.specs.Space.{largest_table}
use Rattle.program_stream.specs.Session.{
  Step,
  silent,
  take_byte,
  take_bytes,
  end_input,
  take_input,
  State,
  at_first,
  end_line,
  go_on,
  meant,
}
use Rattle.program_stream.specs.Carried.{
  Loan,
  line_of,
  end_line_in,
  go_on_in,
  lent,
  lent_at_first,
  Serves,
  InOrder,
  Holds,
  Makes,
}

-- ---- At first.
module _ (space text : List ℕ) where
  pub first-in-order : largest_table ≤ length space → length text ≡ text_places → InOrder (lent_at_first space text)
  first-in-order large places =
      record { table_room = omega arith; largest = large; scan_kept = first-kept text places }

  pub first_holds : Holds (lent_at_first space text) at_first
  first_holds = record { table = refl; line = first-represents text; begun = refl }

-- ---- What is lent stays in order.
abbrev Orderly : (Loan → Step Loan) → Type 0
Orderly step = (l : Loan) → InOrder l → InOrder (step l).state

-- A table laid on a space.
module _ (words space : List ℕ) where
  laid-room : length words ≤ length (words ++ drop (length words) space)
  laid-room = simp length-append (omega arith)

  laid-long : length space ≤ length (words ++ drop (length words) space)
  laid-long = simp (length-append, length-drop) (omega arith)

ended-in-order : Orderly end_line_in
unfolding end_line_in
ended-in-order l in_order =
    let words = (answer (kept_command (line_of l)) (take l.carried.len l.space)).words in
    record {
      table_room = laid-room words l.space;
      largest = omega (arith, in_order.largest, laid-long words l.space);
      scan_kept = first-kept l.text in_order.scan_kept.text-places;
    }

go_on-in-order : (b : ℕ) (l : Loan) → InOrder l → InOrder (go_on_in b l)
go_on-in-order b l in_order =
    record {
      table_room = in_order.table_room;
      largest = in_order.largest;
      scan_kept = byte-scan-kept in_order.scan_kept b;
    }

byte-in-order : (b : ℕ) → Orderly (take_byte lent b)
unfolding take_byte
byte-in-order b l in_order = go (eqb b line_feed)
  where
    go : (fed : Bool) → InOrder (cond fed (end_line_in l) (silent (go_on_in b l))).state
    go true = ended-in-order l in_order
    go false = go_on-in-order b l in_order

bytes-in-order : (bytes : List ℕ) → Orderly (take_bytes lent bytes)
unfolding take_bytes
bytes-in-order [] l in_order = in_order
bytes-in-order (b ∷ bs) l in_order = bytes-in-order bs (take_byte lent b l).state (byte-in-order b l in_order)

end-in-order : Orderly (end_input lent)
unfolding end_input
end-in-order l in_order = go l.carried.begun
  where
    go : (begun : Bool) → InOrder (cond begun (end_line_in l) (silent l)).state
    go true = ended-in-order l in_order
    go false = in_order

-- ---- The step on the loan leaves the state that the step on the state leads to, and prints the same.
pub record Agrees (a : Step Loan) (b : Step State) : Type 0 where
  pub holds : Holds a.state b.state
  pub same_text : a.text ≡ b.text

abbrev pub Follows : (Loan → Step Loan) → (State → Step State) → Type 0
Follows step meaning = (l : Loan) → InOrder l → (s : State) → Holds l s → Agrees (step l) (meaning s)

ended-follows : Follows end_line_in end_line
unfolding end_line_in end_line
ended-follows l in_order s h =
    rw (command-represents h.line, h.table)
    (record {
      holds =
          record {
            table = take-append_seam (answer (command_of s.line) s.words).words _;
            line = first-represents l.text;
            begun = refl;
          };
      same_text = refl;
    })

go_on-holds : (b : ℕ) (l : Loan) → InOrder l → (s : State) → Holds l s → Holds (go_on_in b l) (go_on b s)
go_on-holds b l in_order s h =
    record { table = h.table; line = byte-represents in_order.scan_kept h.line b; begun = refl }

byte-follows : (b : ℕ) → Follows (take_byte lent b) (take_byte meant b)
unfolding take_byte
byte-follows b l in_order s h = go (eqb b line_feed)
  where
    go : (fed : Bool)
        → Agrees (cond fed (end_line_in l) (silent (go_on_in b l))) (cond fed (end_line s) (silent (go_on b s)))
    go true = ended-follows l in_order s h
    go false = record { holds = go_on-holds b l in_order s h; same_text = refl }

pub bytes-follow : (bytes : List ℕ) → Follows (take_bytes lent bytes) (take_bytes meant bytes)
unfolding take_bytes
bytes-follow [] l in_order s h = record { holds = h; same_text = refl }
bytes-follow (b ∷ bs) l in_order s h =
    let one = byte-follows b l in_order s h in
    let rest = bytes-follow bs (take_byte lent b l).state (byte-in-order b l in_order) _ one.holds in
    record { holds = rest.holds; same_text = rw (one.same_text, rest.same_text) }

end-follows : Follows (end_input lent) (end_input meant)
unfolding end_input
end-follows l in_order s h = go l.carried.begun s.begun h.begun
  where
    go : (x y : Bool) → x ≡ y → Agrees (cond x (end_line_in l) (silent l)) (cond y (end_line s) (silent s))
    go true y e = rw (← e) (ended-follows l in_order s h)
    go false y e = rw (← e) (record { holds = h; same_text = refl })

pub input-follows : (bytes : List ℕ) → Follows (take_input lent bytes) (take_input meant bytes)
input-follows bytes l in_order s h =
    let one = bytes-follow bytes l in_order s h in
    let rest = end-follows (take_bytes lent bytes l).state (bytes-in-order bytes l in_order) _ one.holds in
    record { holds = rest.holds; same_text = rw (one.same_text, rest.same_text) }

-- ---- So a call that serves a loan makes the step of the session.
module _ {step : Loan → Step Loan} {meaning : State → Step State} (orderly : Orderly step)
    (follows : Follows step meaning) {before after : Loan} {out out' : List ℕ} {at at' : ℕ} where
  makes : InOrder before → Serves step before after out at out' at' → Makes meaning before after out at out' at'
  makes in_order served =
      record {
        in_order = rw served.leaves (orderly before in_order);
        leads = λ s h. rw served.leaves (follows before in_order s h).holds;
        prints = λ s h. rw (← (follows before in_order s h).same_text) served.writes;
      }

module _ {before after : Loan} {out out' : List ℕ} {at at' : ℕ} where
  pub bytes-made : (bytes : List ℕ) → InOrder before
      → Serves (take_bytes lent bytes) before after out at out' at'
      → Makes (take_bytes meant bytes) before after out at out' at'
  bytes-made bytes = makes (bytes-in-order bytes) (bytes-follow bytes)

  pub end-made : InOrder before → Serves (end_input lent) before after out at out' at'
      → Makes (end_input meant) before after out at out' at'
  end-made = makes end-in-order end-follows
