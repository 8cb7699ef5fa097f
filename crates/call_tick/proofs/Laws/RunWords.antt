-- A list pair by pair: the ticks made so far, and the run of the pairs ahead.
use Rattle.std.proofs.Common.{◌≡◌, refl, sym, ap, ◌∙◌, subst, arith, List, [], ◌∷◌, ◌++◌, append_assoc, ℕ, suc, ◌+◌, ◌*◌, ◌≤◌, ◌<◌, length, take, drop}
use Rattle.std.proofs.Math.Option.{some, none}
use native.Mathlib.Nat.{add-zero, zero-add}
use lib.ListN.{get_or, take-append-drop}
use lib.Seq.{sets, drop-cons, drop-drop}
use Rattle.tag.specs.Tags.{largest_tag}
use Rattle.machine.specs.declared.answer.Answer.{Answer as Made}
use Rattle.machine.specs.declared.answer.Answer.TheVariants as made
use Rattle.machine.specs.Outcomes.Answer.{Answer, Going, Pushed, Bag, Empty, Full, Yes, No, Refused}
use Rattle.machine.specs.Outcomes.Ran.{Ran}
use Rattle.machine.specs.Answers.{payload_of, answer_length, answer_words, refusal_of}
use Rattle.machine.specs.Calls.{Ticked, tick_on, RunDone, stopped, after_tick, run_on}
use Rattle.machine.proofs.Basics.Contradiction.{clash}
use Rattle.machine.proofs.Shape.ShapeLaws.{well-shaped}
use Rattle.machine.proofs.Words.RunLaws.{by_first, first-tick}
use Rattle.machine.proofs.Words.TickLaws.{refused-unchanged, tick-on-number}
use Rattle.machine.specs.Results.{said}
use Rattle.machine.specs.Shape.{WellFormed}
use Rattle.table_layout.proofs.Laws.Fronts.{front-grows, rest-stays}

-- ---- One tick.

-- What it answers, with the words that it leaves.
abbrev pub left-with : Answer → List ℕ → Ticked
left-with answer words = record { answer = answer; words = words }

-- What a tick answers that is made is no refusal.
pub no-refusal : (a : Made) → refusal_of (said a) ≡ none
no-refusal made.Going = refl
no-refusal made.Pushed = refl
no-refusal (made.Bag b) = refl
no-refusal made.Empty = refl
no-refusal made.Full = refl
no-refusal made.Yes = refl
no-refusal made.No = refl

pub refused-answer : (a : Answer) {n : ℕ} → refusal_of a ≡ some n → a ≡ Refused n
refused-answer Going e = clash (cc)
refused-answer Pushed e = clash (cc)
refused-answer (Bag b) e = clash (cc)
refused-answer Empty e = clash (cc)
refused-answer Full e = clash (cc)
refused-answer Yes e = clash (cc)
refused-answer No e = clash (cc)
refused-answer (Refused m) e = cc

-- The number that it answers with is at most the largest tag.
pub tick-tag : (ws : List ℕ) (k h : ℕ) {t : Ticked} → t ≡ tick_on ws k h → WellFormed ws → payload_of t.answer ≤ largest_tag
tick-tag ws k h ticked P =
    subst (λ (t : Ticked). payload_of t.answer ≤ largest_tag) (sym ticked)
    (tick-on-number ws k h (well-shaped ws P.length_passes P.shape_passes))

-- ---- A run by its first tick.
module _ (k h : ℕ) (list ws answers : List ℕ) where
  first-refused : {n : ℕ} {vs : List ℕ} → left-with (Refused n) vs ≡ tick_on ws k h
      → run_on (k ∷ h ∷ list) ws answers ≡ stopped n vs answers
  unfolding by_first
  first-refused {n} ticked =
      let r : refusal_of (tick_on ws k h).answer ≡ some n = ap (λ (t : Ticked). refusal_of t.answer) (sym ticked) in
      first-tick k h list ws answers (some n) r
      ∙ ap (λ (l : List ℕ). stopped n l answers)
      (sym (refused-unchanged ws k h r) ∙ ap (λ (t : Ticked). t.words) (sym ticked))

  first_made : (a : Made) {vs : List ℕ} → left-with (said a) vs ≡ tick_on ws k h
      → run_on (k ∷ h ∷ list) ws answers ≡ after_tick (said a) (run_on list vs (drop answer_length answers))
  unfolding by_first
  first_made a ticked =
      first-tick k h list ws answers none (ap (λ (t : Ticked). refusal_of t.answer) (sym ticked) ∙ no-refusal a)
      ∙ ap (λ (t : Ticked). after_tick t.answer (run_on list t.words (drop answer_length answers))) (sym ticked)

-- ---- The run of the pairs ahead, behind the ticks made.
abbrev done : Ran → (ws answers : List ℕ) → RunDone
done ran ws answers = record { ran = ran; words = ws; answers = answers }

abbrev behind : (made : ℕ) (front : List ℕ) → RunDone → RunDone
behind made front r =
    record {
      ran = record { made = made + r.ran.made; refusal = r.ran.refusal };
      words = r.words;
      answers = front ++ r.answers;
    }

-- The words of the ticks made stand in front of the answers.
abbrev pub ahead : (made : ℕ) (left ws answers : List ℕ) → RunDone
ahead made left ws answers =
    let to = answer_length * made in behind made (take to answers) (run_on left ws (drop to answers))

pub run-begins : (list ws answers : List ℕ) → ahead 0 list ws answers ≡ run_on list ws answers
run-begins list ws answers =
    let r = run_on list ws answers in
    ap (λ (m : ℕ). done (record { made = m; refusal = r.ran.refusal }) r.words r.answers) (zero-add r.ran.made)

-- A run that stops here.
stops-here :
    (to made n : ℕ) (ws answers : List ℕ)
    → behind made (take to answers) (stopped n ws (drop to answers))
    ≡ done (record { made = made; refusal = n }) ws answers
stops-here to made n ws answers =
    ap (λ (m : ℕ). done (record { made = m; refusal = n }) ws (take to answers ++ drop to answers)) (add-zero made)
    ∙ ap (done (record { made = made; refusal = n }) ws) (take-append-drop to answers)

pub run_ends :
    (made : ℕ) (left ws answers : List ℕ)
    → length left ≤ 0
    → done (record { made = made; refusal = 0 }) ws answers ≡ ahead made left ws answers
unfolding run_on
run_ends made [] ws answers e = sym (stops-here (answer_length * made) made 0 ws answers)
run_ends made (n ∷ left) ws answers e = absurd (omega arith)

-- One tick more made is one less ahead.
one_more :
    (made : ℕ) (front : List ℕ) (a : Answer) (r : RunDone)
    → behind (made + 1) (front ++ answer_words a) r ≡ behind made front (after_tick a r)
one_more made front a r =
    let l = front ++ (answer_words a ++ r.answers) in
    let more : made + 1 + r.ran.made ≡ made + suc r.ran.made = omega arith in
    ap (done (record { made = made + 1 + r.ran.made; refusal = r.ran.refusal }) r.words)
    (append_assoc front (answer_words a) r.answers)
    ∙ ap (λ (m : ℕ). done (record { made = m; refusal = r.ran.refusal }) r.words l) more

-- The tick of the first pair that is left.
module _ (made : ℕ) (left ws answers : List ℕ) (more : 1 < length left) where
  abbrev pub first-pair : Ticked
  first-pair = tick_on ws (get_or left 0 0) (get_or left 1 0)

  pair-ahead : left ≡ get_or left 0 0 ∷ get_or left 1 0 ∷ drop 2 left
  pair-ahead =
      drop-cons left 0 0 (omega arith) ∙ ap (◌∷◌ (get_or left 0 0)) (drop-cons left 1 0 more)

  to : ℕ
  to = answer_length * made

  pub run-refused : {n : ℕ} {vs : List ℕ} → left-with (Refused n) vs ≡ first-pair
      → done (record { made = made; refusal = n }) vs answers ≡ ahead made left ws answers
  unfolding to
  run-refused {n} {vs} ticked =
      sym
      (ap (λ (l : List ℕ). behind made (take to answers) (run_on l ws (drop to answers))) pair-ahead
      ∙ ap (behind made (take to answers))
      (first-refused (get_or left 0 0) (get_or left 1 0) (drop 2 left) ws (drop to answers) ticked)
      ∙ stops-here to made n vs answers)

  pub run-made : (a : Made) {vs : List ℕ} → left-with (said a) vs ≡ first-pair
      → answer_length * made + answer_length ≤ length answers
      → ahead (made + 1) (drop 2 left) vs (sets answers (answer_length * made) (answer_words (said a)))
      ≡ ahead made left ws answers
  unfolding to
  run-made a {vs} ticked room =
      let w = sets answers to (answer_words (said a)) in
      let next : answer_length * (made + 1) ≡ to + answer_length = omega arith in
      ap (λ (j : ℕ). behind (made + 1) (take j w) (run_on (drop 2 left) vs (drop j w))) next
      ∙ ap (λ (f : List ℕ). behind (made + 1) f (run_on (drop 2 left) vs (drop (to + answer_length) w)))
      (front-grows answers (answer_words (said a)) to room)
      ∙ ap (λ (b : List ℕ). behind (made + 1) (take to answers ++ answer_words (said a)) (run_on (drop 2 left) vs b))
      (rest-stays answers (answer_words (said a)) to room ∙ sym (drop-drop answer_length to answers))
      ∙ one_more made (take to answers) (said a) (run_on (drop 2 left) vs (drop answer_length (drop to answers)))
      ∙ sym
      (ap (λ (l : List ℕ). behind made (take to answers) (run_on l ws (drop to answers))) pair-ahead
      ∙ ap (behind made (take to answers))
      (first_made (get_or left 0 0) (get_or left 1 0) (drop 2 left) ws (drop to answers) a ticked))
