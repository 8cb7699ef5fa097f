-- `answers::answer_of` meets its contract: each arm's kind stands for its answer.
use mathlib.Core.Path.{◌≡◌, refl, sym, ap, ◌∙◌}
use mathlib.Core.Option.{Option, some}
use native.Mathlib.Omega.{arith}
use native.Mathlib.Decide.{ℕ_discrete}
use borrow.Author.Rules.{rules}
use Rattle.machine.specs.Outcomes.Answer.{Answer, Bag}
use Rattle.machine.specs.Answers.{plain_answer_of}
use Rattle.answers.proofs.Laws.AnswerWords.{bag-words, plain-words, last-words}
use Rattle.answers.proofs.answer_of.Goals as goal

-- What an arm gives is the answer that there is.
stands-for : {o : Option Answer} {a r : Answer} → o ≡ some a → r ≡ a → some r ≡ o
stands-for is same = ap some same ∙ sym is

pub returns-in-0 : goal.returns-in-0
unfolding plain_answer_of ℕ_discrete
returns-in-0 c =
    let p = c.requires in
    stands-for p.1 (plain-words _ _ p.0 p.1 (λ q. absurd (omega (arith, q, c.in-0.is))) _
    (rw c.in-0.is refl))

pub returns-in-1 : goal.returns-in-1
unfolding plain_answer_of ℕ_discrete
returns-in-1 c =
    let p = c.requires in
    stands-for p.1 (plain-words _ _ p.0 p.1 (λ q. absurd (omega (arith, q, c.in-1.is))) _
    (rw c.in-1.is refl))

pub returns-in-2 : goal.returns-in-2
returns-in-2 c =
    let p = c.requires in
    stands-for p.1 (ap Bag c.number.ensures ∙ bag-words _ _ c.in-2.is p.0 p.1)

pub returns-in-3 : goal.returns-in-3
unfolding plain_answer_of ℕ_discrete
returns-in-3 c =
    let p = c.requires in
    stands-for p.1 (plain-words _ _ p.0 p.1 (λ q. absurd (omega (arith, q, c.in-3.is))) _
    (rw c.in-3.is refl))

pub returns-in-4 : goal.returns-in-4
unfolding plain_answer_of ℕ_discrete
returns-in-4 c =
    let p = c.requires in
    stands-for p.1 (plain-words _ _ p.0 p.1 (λ q. absurd (omega (arith, q, c.in-4.is))) _
    (rw c.in-4.is refl))

pub returns-in-5 : goal.returns-in-5
unfolding plain_answer_of ℕ_discrete
returns-in-5 c =
    let p = c.requires in
    stands-for p.1 (plain-words _ _ p.0 p.1 (λ q. absurd (omega (arith, q, c.in-5.is))) _
    (rw c.in-5.is refl))

pub returns-in_default : goal.returns-in_default
returns-in_default c =
    let p = c.requires in
    let k = c.in_default.in_default-own.rest in
    stands-for p.1
    (last-words _ _ p.0 p.1 k.0.0.0.0.0.1 k.0.0.0.0.1 k.0.0.0.1 k.0.0.1 k.0.1
    k.1)
