-- `program_answer::Space::start_command` meets its contract: the call is on as many words as the sizes ask for.
use mathlib.Core.Path.{◌≡◌, sym, ap, ◌∙◌, subst}
use mathlib.Core.List.{List, ◌++◌}
use Prim.Native.Nat.{ℕ, ◌≤◌}
use native.Mathlib.Omega.{arith}
use lib.ListN.{length, take, drop, take-append-drop}
use lib.Seq.{length-take-le}
use Rattle.std.proofs.Common.{Ok, Err}
use Rattle.std.proofs.lemmas.Result.{err_from_is_err_and}
use Rattle.machine.specs.declared.refusal.Refusal.{Refusal}
use Rattle.machine.specs.Outcomes.Reply.{Accepted, Refused}
use Rattle.machine.specs.Table.{table_length}
use Rattle.machine.specs.Calls.{start}
use Rattle.machine.specs.Results.{refusal_number, changed_of}
use Rattle.program_print.specs.Lines.{reply_text}
use Rattle.program_answer.specs.Forms.{lanes_started, start_command}
use Rattle.program_answer.specs.Space.{Leaves, table_of}
use Rattle.program_answer.proofs.Laws.SpaceLaws.{front-leaves, same-leaves}
use Rattle.program_answer.proofs.Laws.FormLaws.{too_large, start-done, start-kept}
use Rattle.program_answer.proofs.Space.start_command.Goals as goal

pub returns-then-self-need-clause-changes : goal.returns-then-self-need-clause-changes
returns-then-self-need-clause-changes c =
    let a = c.args in
    let s = a.self.now in
    same-leaves s.words.now s.len c.requires.0
    (too_large (table_of s) a.slots a.tasks a.growth
    (omega (arith, c.requires.1, c.if-self-need.true, c.table_length-need.ensures)))

-- What the call leaves, accepted or refused.
module _ (space new : List ℕ) (len need S T g : ℕ) (room : len ≤ length space) (fits : need ≤ length space)
    (asked : need ≡ table_length S T) (others : drop need new ≡ drop need space) (same : length new ≡ length space) where
  whole : take need new ++ drop need space ≡ new
  whole = ap (λ (l : List ℕ). take need new ++ l) (sym others) ∙ take-append-drop need new

  leaves-accepted : (done : Unit {0}) → changed_of {T = Unit {0}} (Ok done) (take need new) ≡ start (take need space) S T g lanes_started
      → Leaves space new need (reply_text Accepted) (start_command (take len space) S T g)
  leaves-accepted done said =
      let long = length-take-le need new (omega (arith, fits, same)) in
      subst (λ (l : List ℕ). Leaves space l need (reply_text Accepted) (start_command (take len space) S T g)) whole
      (front-leaves space (take need new) need fits (long ∙ sym (length-take-le need space fits))
      (start-done (take len space) S T g (take need space) (length-take-le need space fits ∙ asked) (Ok done) said))

  leaves-refused : (e : Refusal) → changed_of {T = Unit {0}} (Err e) (take need new) ≡ start (take need space) S T g lanes_started
      → Leaves space new len (reply_text (Refused (refusal_number e))) (start_command (take len space) S T g)
  leaves-refused e said =
      let long = length-take-le need space fits ∙ asked in
      let kept = start-kept (take len space) S T g (take need space) long e said in
      let back : space ≡ new =
      sym (take-append-drop need space) ∙ ap (λ (l : List ℕ). l ++ drop need space) (sym kept) ∙ whole in
      subst (λ (l : List ℕ). Leaves space l len (reply_text (Refused (refusal_number e))) (start_command (take len space) S T g)) back
      (same-leaves space len room (start-done (take len space) S T g (take need space) long (Err e) said))

pub returns-in_err-start_front-clause-changes : goal.returns-in_err-start_front-clause-changes
returns-in_err-start_front-clause-changes c =
    let a = c.args in
    let s = a.self.now in
    let done = c.start_front in
    let p = err_from_is_err_and c.from_residual.result c.from_residual.ensures.1 in
    rw (p.1, p.2)
    (leaves-refused s.words.now done.new.words s.len c.table_length-need.result a.slots a.tasks a.growth c.requires.0
    c.if-self-need.false c.table_length-need.ensures done.ensures.others done.auto.words c.in_err-start_front.field-0.0
    (rw c.in_err-start_front.was at done.ensures.done))

pub returns-clause-changes : goal.returns-clause-changes
returns-clause-changes c =
    let a = c.args in
    let s = a.self.now in
    let done = c.start_front in
    leaves-accepted s.words.now done.new.words s.len c.table_length-need.result a.slots a.tasks a.growth c.requires.0
    c.if-self-need.false c.table_length-need.ensures done.ensures.others done.auto.words c.in_ok-start_front.field-0
    (rw c.in_ok-start_front.was at done.ensures.done)
