-- What the calls leave of a loan.
use mathlib.Core.Path.{◌≡◌, refl, ap, ◌∙◌}
use mathlib.Core.Bool.{Bool, true, false, cond, ◌||◌}
use mathlib.Core.List.{List, ◌++◌}
use Prim.Native.Nat.{ℕ, ◌+◌, ◌≤◌, ◌<◌}
use native.Mathlib.Omega.{arith}
use lib.Dec.{ltb}
use lib.ListN.{length, take, drop, take-append-drop}
use lib.Seq.{slice, length-take-le}
use Rattle.text.specs.Lines.{first_line}
use Rattle.text.proofs.Laws.FirstLine.{line-within}
use Rattle.text.specs.Writing.{Written}
use Rattle.text.proofs.Laws.WritingLaws.{written-append}
use Rattle.text_scan.specs.Kept.{Kept, kept_at_first, ScansLine}
use Rattle.text_scan.proofs.Laws.ScanLaws.{bytes-scan-kept}
use Rattle.program_command.specs.Said.{Command}
use Rattle.program_command.specs.KeptCommand.{kept_command}
use Rattle.program_answer.specs.Run.{answer}
use Rattle.program_answer.specs.Space.{Leaves}
use Rattle.program_stream.specs.Session.{silent, take_bytes, end_input}
use Rattle.program_stream.specs.Carried.{Loan, line_of, loan_with, end_line_in, lent, Serves, InOrder, Onward}
use Rattle.program_stream.proofs.Laws.TakenLaws.{
  any-between,
  kept_on,
  part-taken,
  whole-taken,
  parts-taken,
  none-taken,
}

-- ---- The end of a line.
module _ (l : Loan) {command : Command} (read : command ≡ kept_command (line_of l)) {space : List ℕ} {len : ℕ}
    {printed : List ℕ}
    (answers : Leaves l.space space len printed (answer command (take l.carried.len l.space))) where
  -- The table is the first words of the space, and the others are as before.
  laid : take len space ++ drop (length (take len space)) l.space ≡ space
  laid = rw (length-take-le len space answers.room, ← answers.others) (take-append-drop len space)

  pub line-ends : {next : Kept} → next ≡ kept_at_first l.text → {out out' : List ℕ} {at at' : ℕ}
      → Written out at printed out' at' → Serves end_line_in l (loan_with space len next false) out at out' at'
  unfolding end_line_in
  line-ends cleared written =
      record {
        leaves = rw (cleared, ← read, ← answers.answers, laid, length-take-le len space answers.room);
        writes = rw (← read, ← answers.answers) written;
      }

-- ---- The bytes of a line.
module _ {chunk : List ℕ} {from to : ℕ} {before now : Kept} (within : from ≤ length chunk)
    (scanned : ScansLine chunk from before now to) where
  pub part-onward : length chunk ≤ to → Onward chunk from to
  part-onward h =
      record {
        forward = omega (arith, scanned.stops);
        within = omega (arith, scanned.stops, line-within chunk from within);
        further = λ some. omega arith;
      }

module _ (l : Loan) {chunk : List ℕ} {from to : ℕ} {now : Kept} {begun : Bool}
    (scanned : ScansLine chunk from (line_of l) now to) (begun-now : begun ≡ (l.carried.begun || ltb from to)) where
  abbrev scanned_loan : Loan
  scanned_loan = loan_with l.space l.carried.len now begun

  scanned-on : scanned_loan ≡ kept_on (first_line (drop from chunk)) l
  scanned-on =
      ap (λ (k : Kept). loan_with l.space l.carried.len k begun) scanned.keeps
      ∙ rw (begun-now, scanned.stops, any-between from (first_line (drop from chunk)))

  pub scanned-in-order : InOrder l → InOrder scanned_loan
  scanned-in-order in_order =
      rw scanned-on
      (record {
        table_room = in_order.table_room;
        largest = in_order.largest;
        scan_kept = bytes-scan-kept in_order.scan_kept (first_line (drop from chunk));
      })

  -- The chunk ends before the line does.
  pub part-served : (out : List ℕ) (at : ℕ)
      → Serves (take_bytes lent (slice from to chunk)) l scanned_loan out at out at
  part-served out at =
      let e = part-taken chunk from to l scanned.stops in
      record { leaves = rw e scanned-on; writes = rw e (record { buffer = refl; end = omega arith }) }

  -- The line ends.
  pub line-served : to < length chunk → {left : Loan} {out out' : List ℕ} {at at' : ℕ}
      → Serves end_line_in scanned_loan left out at out' at'
      → Serves (take_bytes lent (slice from (to + 1) chunk)) l left out at out' at'
  line-served h served =
      let e = whole-taken chunk from to l scanned.stops h in
      record { leaves = rw (e, ← scanned-on) served.leaves; writes = rw (e, ← scanned-on) served.writes }

-- ---- Part after part.
module _ (chunk : List ℕ) (a : ℕ) (first : Loan) where
  pub none-served : (out : List ℕ) → Serves (take_bytes lent (slice a a chunk)) first first out 0 out 0
  none-served out =
      let e = none-taken lent chunk a first in
      record { leaves = rw e; writes = rw e (record { buffer = refl; end = refl }) }

  module _ (b c : ℕ) {loan next : Loan} (ab : a ≤ b) (bc : Onward chunk b c) where
    next-leaves : loan ≡ (take_bytes lent (slice a b chunk) first).state
        → next ≡ (take_bytes lent (slice b c chunk) loan).state
        → next ≡ (take_bytes lent (slice a c chunk) first).state
    next-leaves done more =
        more
        ∙ rw (done, parts-taken lent chunk a b c first ab bc.forward bc.within)

    pub next-served : {out out' out'' : List ℕ} {at at' at'' : ℕ}
        → Serves (take_bytes lent (slice a b chunk)) first loan out at out' at'
        → Serves (take_bytes lent (slice b c chunk)) loan next out' at' out'' at''
        → Serves (take_bytes lent (slice a c chunk)) first next out at out'' at''
    next-served done more =
        record {
          leaves = next-leaves done.leaves more.leaves;
          writes =
              rw (parts-taken lent chunk a b c first ab bc.forward bc.within, ← done.leaves)
              (written-append done.writes more.writes);
        }

-- ---- The end of the input.
ends_by : (l : Loan) {begun : Bool} → l.carried.begun ≡ begun
    → end_input lent l ≡ cond begun (end_line_in l) (silent l)
unfolding end_input
ends_by l e = ap (λ (begun : Bool). cond begun (end_line_in l) (silent l)) e

module _ (l : Loan) {out : List ℕ} where
  pub last_line : l.carried.begun ≡ true → {left : Loan} {out' : List ℕ} {at : ℕ}
      → Serves end_line_in l left out 0 out' at → Serves (end_input lent) l left out 0 out' at
  last_line e served =
      record { leaves = rw (ends_by l e) served.leaves; writes = rw (ends_by l e) served.writes }

  pub no-last-line : l.carried.begun ≡ false → Serves (end_input lent) l l out 0 out 0
  no-last-line e =
      record { leaves = rw (ends_by l e); writes = rw (ends_by l e) (record { buffer = refl; end = refl }) }
