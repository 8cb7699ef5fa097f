-- A list of one pair: what it comes to is what its tick does, and the words written say the tick's answer.
use Rattle.std.proofs.Common.{◌≡◌, ◌≢◌, refl, sym, ap, ◌∙◌, arith, List, [], ◌∷◌, ℕ}
use Rattle.std.proofs.Math.Option.{Option, some, none}
use lib.ListN.{get_or}
use Rattle.machine.specs.Outcomes.Answer.{Answer, Refused}
use Rattle.machine.specs.Answers.{refusal_of, answer_of}
use Rattle.machine.specs.Calls.{tick_refusal, tick_on, RunDone, run_on}
use Rattle.machine.specs.Shape.{WellFormed}
use Rattle.machine.proofs.Basics.Contradiction.{clash}
use Rattle.machine.proofs.Shape.ShapeLaws.{well-shaped}
use Rattle.machine.proofs.Words.RunLaws.{by_first, first-tick}
use Rattle.machine.proofs.Words.TickLaws.{refused-unchanged, made-answer-fits}
use Rattle.machine.proofs.Linearizability.Calls.Runs.{refused-tick, answer_back}
use Rattle.call_tick.proofs.Laws.RunWords.{left-with, refused-answer}

module _ (ws : List ℕ) (k h : ℕ) (answers : List ℕ) {d : RunDone} (ran : d ≡ run_on (k ∷ h ∷ []) ws answers) where
  -- By what its tick gives.
  by_tick : {o : Option ℕ} → refusal_of (tick_on ws k h).answer ≡ o → d ≡ by_first k h [] ws answers o
  by_tick {o} e = ran ∙ first-tick k h [] ws answers o e

  pub pair-refused : d.ran.made ≡ 0 → left-with (Refused d.ran.refusal) d.words ≡ tick_on ws k h
  unfolding by_first run_on
  pair-refused none_made = go (refusal_of (tick_on ws k h).answer) refl
    where
      go : (o : Option ℕ) → refusal_of (tick_on ws k h).answer ≡ o → left-with (Refused d.ran.refusal) d.words ≡ tick_on ws k h
      go (some n) e =
          let q = by_tick e in
          ap (λ (x : RunDone). left-with (Refused x.ran.refusal) x.words) q
          ∙ ap (λ (a : Answer). left-with a ws) (sym (refused-answer (tick_on ws k h).answer e))
          ∙ ap (left-with (tick_on ws k h).answer) (sym (refused-unchanged ws k h e))
      go none e = absurd (omega (arith, none_made, ap (λ (x : RunDone). x.ran.made) (by_tick e)))

  -- What the three words say.
  abbrev said : Option Answer
  said = answer_of (get_or d.answers 0 0) (get_or d.answers 1 0) (get_or d.answers 2 0)

  pub pair-said :
      WellFormed ws
      → d.ran.made ≢ 0
      → (said ≡ some (tick_on ws k h).answer) × (left-with (tick_on ws k h).answer d.words ≡ tick_on ws k h)
  unfolding by_first run_on
  pair-said W some-made = go (refusal_of (tick_on ws k h).answer) refl
    where
      allowed : refusal_of (tick_on ws k h).answer ≡ none → tick_refusal ws k h ≡ none
      allowed e = by (tick_refusal ws k h) refl
        where
          by : (o : Option ℕ) → tick_refusal ws k h ≡ o → o ≡ none
          by none q = refl
          by (some n) q = clash (cc (sym e ∙ refused-tick ws k h n q))

      go :
          (o : Option ℕ)
          → refusal_of (tick_on ws k h).answer ≡ o
          → (said ≡ some (tick_on ws k h).answer) × (left-with (tick_on ws k h).answer d.words ≡ tick_on ws k h)
      go (some n) e = absurd (some-made (ap (λ (x : RunDone). x.ran.made) (by_tick e)))
      go none e =
          let q = by_tick e in
          let fits = made-answer-fits ws k h (well-shaped ws W.length_passes W.shape_passes) (allowed e) e in
          let read =
          ap (λ (x : RunDone). answer_of (get_or x.answers 0 0) (get_or x.answers 1 0) (get_or x.answers 2 0)) q in (
            read ∙ answer_back (tick_on ws k h).answer fits,
            ap (λ (x : RunDone). left-with (tick_on ws k h).answer x.words) q,
          )

  pub pair_made : WellFormed ws → d.ran.made ≢ 0 → {a : Answer} → some a ≡ said → left-with a d.words ≡ tick_on ws k h
  pair_made W some-made {a} says =
      let one = pair-said W some-made in
      let is : some a ≡ some (tick_on ws k h).answer = says ∙ one.0 in
      let same : a ≡ (tick_on ws k h).answer = cc in
      ap (λ (b : Answer). left-with b d.words) same ∙ one.1
