-- A run and the panel's list: the ticks made, one after another, each explained by the row.
use mathlib.Core.Path.{◌≡◌, refl, ap, sym, subst}
use mathlib.Core.List.{List, [], ◌∷◌}
use mathlib.Core.Option.{Option, some, none, bind}
use Prim.Native.Nat.{ℕ, zero, suc}
use native.Mathlib.Omega.{arith}
use native.Mathlib.Decide.{ℕ_discrete}
use lib.ListN.{drop}
use Rattle.tag.specs.Tags.{digit_of, low_of}
use Rattle.tag.proofs.TagLaws.{tag-of-words}
use Rattle.machine.specs.Outcomes.Answer.{Answer, Going, Pushed, Bag, Empty, Full, Yes, No, Refused}
use Rattle.machine.specs.Answers.{
  kind_of,
  payload_of,
  answer_length,
  refusal_of,
  plain_answer_of,
  answer_of,
}
use Rattle.machine.specs.Calls.{
  tick_refusal,
  run_refusal,
  panel_refusal,
  tick_on,
  RunDone,
  stopped,
  after_tick,
  run_on,
  tested,
  run,
  panel,
}
use Rattle.machine.specs.Row.{Row, feed_run}
use Rattle.machine.specs.Demand3.{run_call, panel_call, after_ticks, WithinList, Within}
use Rattle.machine.proofs.Words.TickLaws.{made-answer-fits}
use Rattle.machine.proofs.Shape.ShapeLaws.{well-shaped}
use Rattle.machine.proofs.Shape.Fits.{AnswerFits}
use Rattle.machine.proofs.Words.RunLaws.{by_first, first-tick}
use Rattle.machine.proofs.Linearizability.Calls.Agreement.{Agrees, lanes-are-rows}
use Rattle.machine.proofs.Linearizability.Calls.MadeTicks.{MadeTick, made-tick}
use Rattle.machine.proofs.Linearizability.Calls.CallsAgree.{Explains}

-- The words of an answer stand for it.
pub answer_back :
    (a : Answer) → AnswerFits a → answer_of (kind_of a) (digit_of (payload_of a)) (low_of (payload_of a)) ≡ some a
unfolding answer_of plain_answer_of ℕ_discrete
answer_back Going h = refl
answer_back Pushed h = refl
answer_back (Bag b) h = rw h (ap (λ n. some (Bag n)) (tag-of-words b))
answer_back Empty h = refl
answer_back Full h = refl
answer_back Yes h = refl
answer_back No h = refl
answer_back (Refused n) h = absurd h

-- What a list of ticks comes to, one after another.
record RunExplained (list ws : List ℕ) (ρ : Row) (r : RunDone) : Type 0 where
  pub row : Row
  pub given-by-row : feed_run ρ r.ran.made list r.answers ≡ some row
  pub agrees : Agrees r.words row
  pub within : WithinList list ws ρ r

-- No tick is made.
none_made : {ws : List ℕ} {ρ : Row} (A : Agrees ws ρ) (n : ℕ) (list answers : List ℕ)
    → RunExplained list ws ρ (stopped n ws answers)
unfolding feed_run after_ticks
none_made {ws} {ρ} A n list answers =
    record { row = ρ; given-by-row = refl; agrees = A; within = at_once }
  where
    at_once : WithinList list ws ρ (stopped n ws answers)
    at_once zero h = (ρ, refl, lanes-are-rows A)
    at_once (suc i) h = absurd (omega arith)

-- One tick is made, and then the others.
one-made : {ws : List ℕ} {ρ : Row} (A : Agrees ws ρ) (k h : ℕ) (list : List ℕ) (M : MadeTick ws ρ k h)
    → tick_refusal ws k h ≡ none
    → (r : RunDone)
    → RunExplained list (tick_on ws k h).words M.row r
    → RunExplained (k ∷ h ∷ list) ws ρ (after_tick (tick_on ws k h).answer r)
unfolding feed_run after_ticks bind
one-made {ws} {ρ} A k h list M allowed r R =
    record {
      row = R.row;
      given-by-row = rw (words_back, M.given) R.given-by-row;
      agrees = R.agrees;
      within = at;
    }
  where
    words_back :
        let a = (tick_on ws k h).answer in answer_of (kind_of a) (digit_of (payload_of a)) (low_of (payload_of a)) ≡ some a
    words_back =
        answer_back (tick_on ws k h).answer
        (made-answer-fits ws k h
        (well-shaped ws A.accepted.length_passes A.accepted.shape_passes) allowed M.no_number)

    at : WithinList (k ∷ h ∷ list) ws ρ (after_tick (tick_on ws k h).answer r)
    at zero l = (ρ, refl, lanes-are-rows A)
    at (suc i) l =
        let x = R.within i (omega arith) in
        (x.0, rw (words_back, M.given) x.1, x.2)

pub refused-tick : (ws : List ℕ) (k h n : ℕ) → tick_refusal ws k h ≡ some n → refusal_of (tick_on ws k h).answer ≡ some n
unfolding tick_on
refused-tick ws k h n e = rw (e, tick_on)

ticks-explained : (list : List ℕ) {ws : List ℕ} {ρ : Row} (answers : List ℕ) → Agrees ws ρ
    → RunExplained list ws ρ (run_on list ws answers)
unfolding run_on by_first
ticks-explained [] answers A = none_made A 0 [] answers
ticks-explained (k ∷ []) answers A = none_made A 0 (k ∷ []) answers
ticks-explained (k ∷ h ∷ list) {ws} {ρ} answers A =
    go (tick_refusal ws k h) refl (λ M. ticks-explained list (drop answer_length answers) M.agrees)
  where
    go :
        (r : Option ℕ)
        → tick_refusal ws k h ≡ r
        → ((M : MadeTick ws ρ k h)
        → RunExplained list (tick_on ws k h).words M.row
        (run_on list (tick_on ws k h).words (drop answer_length answers)))
        → RunExplained (k ∷ h ∷ list) ws ρ (run_on (k ∷ h ∷ list) ws answers)
    go (some n) e others =
        subst (RunExplained (k ∷ h ∷ list) ws ρ)
        (sym (first-tick k h list ws answers (some n) (refused-tick ws k h n e)))
        (none_made A n (k ∷ h ∷ list) answers)
    go none e others =
        let M = made-tick A k h e in
        subst (RunExplained (k ∷ h ∷ list) ws ρ)
        (sym (first-tick k h list ws answers none M.no_number))
        (one-made A k h list M e (run_on list (tick_on ws k h).words (drop answer_length answers)) (others M))

module _ {ws : List ℕ} {ρ : Row} (A : Agrees ws ρ) (list answers : List ℕ) where
  -- Whatever the tests were.
  tested-explained : (r : Option ℕ) → RunExplained list ws ρ (tested r ws list answers)
  tested-explained (some n) = none_made A n list answers
  tested-explained none = ticks-explained list answers A

  of-run : RunExplained list ws ρ (run ws list answers)
  unfolding run
  of-run = tested-explained (run_refusal ws list answers)

  of-panel : RunExplained list ws ρ (panel ws list answers)
  unfolding panel
  of-panel = tested-explained (panel_refusal ws list answers)

  pub run-explained : Explains ws ρ (run_call list answers)
  run-explained = record { row = of-run.row; given-by-row = of-run.given-by-row; agrees = of-run.agrees }

  pub run-within : Within (run_call list answers) ws ρ
  run-within = of-run.within

  pub panel-explained : Explains ws ρ (panel_call list answers)
  panel-explained = record { row = of-panel.row; given-by-row = of-panel.given-by-row; agrees = of-panel.agrees }

  pub panel-within : Within (panel_call list answers) ws ρ
  panel-within = of-panel.within
