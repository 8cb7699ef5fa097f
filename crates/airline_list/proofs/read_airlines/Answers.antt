-- `airline_list::read_airlines` meets its contract: a line that is told is an airline's, and another one follows.
use mathlib.Core.Path.{◌≡◌, refl, sym}
use mathlib.Core.Logic.{inl, inr}
use Prim.Native.Nat.{◌+◌}
use native.Mathlib.Omega.{arith}
use lib.ListN.{length}
use Rattle.airline_list.specs.Forms.{Airline, form_text}
use Rattle.airline_list.proofs.Laws.FormLaws.{airline-length, end_short}
use Rattle.airline_list.proofs.Laws.LineLaws.{form-lent, length-lent, code-small}
use Rattle.airline_list.proofs.Laws.ReadingLaws.{nothing_read, airline_more}
use Rattle.airline_list.proofs.read_airlines.Goals as goal
use Rattle.airline_list.proofs.read_airlines.Goals.{then-code-wanted, else-code-wanted}

pub loop-line-init : goal.loop-line-init
loop-line-init c = nothing_read c.args.list.now c.args.codes.now.bits c.requires

pub insert-requires : goal.insert-requires
insert-requires c =
    code-small c.args.list.now c.loop-line.from
    (form-lent c.args.list.now c.loop-line.from c.loop-line.invariant.within (sym c.in-Some.ensures.form))

pub loop-line-preserved : goal.loop-line-preserved
loop-line-preserved c =
    let list = c.args.list.now in
    let line = c.loop-line in
    let airline = c.in-Some in
    let to = line.from + length (form_text (Airline airline.code airline.end)) in
    let its = form-lent list line.from line.invariant.within (sym airline.ensures.form) in
    let lent = length-lent list line.from line.invariant.within in
    let long = airline.ensures.long in
    let its-length = airline-length airline.code airline.end in
    let short = end_short airline.end in
    let place : to + 1 ≡ line.from + (22 + c.length.result) = omega arith in
    rw (c.if-not-insert.ensures.with_code, ← place)
    (airline_more line.invariant (omega arith) its refl c.if-not-insert.ensures.is_new (omega arith) c.if-code-wanted.named
    (elim c.if-code-wanted.branch [
      | then-code-wanted w ↦ inl (w.if-code-wanted.true, w.named-is)
      | else-code-wanted w ↦ inr (w.if-code-wanted.false, w.named-is)
    ]))
