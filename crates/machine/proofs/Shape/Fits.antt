-- Effects that fit a table of the right shape, and how a line's tests are taken apart to show that.
use mathlib.Core.Option.{none}
use mathlib.Core.Path.{◌≡◌, refl}
use mathlib.Core.Bool.{true}
use mathlib.Core.List.{List, [], ◌∷◌}
use Prim.Native.Nat.{ℕ, ◌≤◌, ◌<◌, zero-le}
use native.Mathlib.Omega.{arith}
use Rattle.tag.specs.Tags.{largest_tag}
use Rattle.machine.specs.Outcomes.Answer.{Answer, Going, Pushed, Bag, Empty, Full, Yes, No, Refused}
use Rattle.machine.specs.Answers.{payload_of, refusal_of}
use Rattle.machine.specs.Sides.{Side}
use Rattle.machine.specs.Values.{Value, N, X, Y, stored, encode, bag_ok, value_ok}
use Rattle.machine.specs.Steps.{Step}
use Rattle.machine.specs.Tasks.{Task, fresh, no_node}
use Rattle.machine.specs.Lines.{Memory, Write, out≔, inn≔, val≔, hat≔, Effect, refused}
use Rattle.machine.proofs.Words.ValueLaws.{HasWord, N-mark, X-mark, Y-mark, mark-has-word, mark-value-ok}
use Rattle.machine.proofs.Words.ValueLaws.{number-stored, bag-range}
use Rattle.machine.proofs.Shape.BusyLaws.{NodeOrNone, BusyAt, BusyFacts, value-read-ok}

-- ---- Writes, effects and memories that fit.
abbrev pub ValueFits : Value → Type 0
ValueFits v = HasWord v × (value_ok (encode v) ≡ true)

abbrev pub WriteFits : (S : ℕ) → Write → Type 0
WriteFits S (out≔ x y) = (x < S) × NodeOrNone S y
WriteFits S (inn≔ x y) = (x < S) × NodeOrNone S y
WriteFits S (val≔ x v) = (x < S) × ValueFits v
WriteFits S (hat≔ x) = x < S

abbrev pub WritesFit : (S : ℕ) → List Write → Type 0
WritesFit S [] = Unit {0}
WritesFit S (w ∷ l) = WriteFits S w × WritesFit S l

-- An answer that ends a tick: no refusal, and a bag has a tag.
abbrev pub AnswerFits : Answer → Type 0
AnswerFits Going = Unit {0}
AnswerFits Pushed = Unit {0}
AnswerFits (Bag b) = bag_ok (stored b) ≡ true
AnswerFits Empty = Unit {0}
AnswerFits Full = Unit {0}
AnswerFits Yes = Unit {0}
AnswerFits No = Unit {0}
AnswerFits (Refused n) = ⊥

pub answer-made : (a : Answer) → AnswerFits a → refusal_of a ≡ none
answer-made Going h = refl
answer-made Pushed h = refl
answer-made (Bag b) h = refl
answer-made Empty h = refl
answer-made Full h = refl
answer-made Yes h = refl
answer-made No h = refl
answer-made (Refused n) h = absurd h

pub answer-tag : (a : Answer) → AnswerFits a → payload_of a ≤ largest_tag
answer-tag Going h = zero-le
answer-tag Pushed h = zero-le
answer-tag (Bag b) h = let most = (bag-range (stored b) h).1 in let is = number-stored b in omega arith
answer-tag Empty h = zero-le
answer-tag Full h = zero-le
answer-tag Yes h = zero-le
answer-tag No h = zero-le
answer-tag (Refused n) h = absurd h

-- A tick is refused, or writes what fits and then goes on with a record that fits, or ends with a fresh one.
pub data Fits (S growth lanes : ℕ) : Effect → Type 0 where
  turns-back : {t : Task} → Fits S growth lanes (refused t)
  goes_on :
      {l : List Write} {t : Task}
      → WritesFit S l
      → BusyFacts S growth lanes t
      → Fits S growth lanes (record { writes = l; task = t; answer = Going })
  ends :
      {l : List Write} {a : Answer}
      → WritesFit S l
      → AnswerFits a
      → Fits S growth lanes (record { writes = l; task = fresh; answer = a })

pub record MemoryFits (S : ℕ) (m : Memory) : Type 0 where
  pub out-ok : (x : ℕ) → NodeOrNone S (m.out x)
  pub inn-ok : (x : ℕ) → NodeOrNone S (m.inn x)
  pub val-ok : (x : ℕ) → ValueFits (m.val x)
  pub hat-ok : m.hat < S

pub N-fits : (s : Side) → ValueFits (N s)
N-fits s = (mark-has-word {s = s} N-mark, mark-value-ok {s = s} N-mark)

pub X-fits : (s : Side) → ValueFits (X s)
X-fits s = (mark-has-word {s = s} X-mark, mark-value-ok {s = s} X-mark)

pub Y-fits : (s : Side) → ValueFits (Y s)
Y-fits s = (mark-has-word {s = s} Y-mark, mark-value-ok {s = s} Y-mark)

pub none-fits : {S : ℕ} → NodeOrNone S no_node
none-fits n = absurd (n refl)

-- What a task t may write, of which its line makes a choice: its registers, the value that it read, a mark, none.
module _ {S g L : ℕ} {st : Step} (t : Task) (F : BusyAt S g L st t) where
  pub A-fits : NodeOrNone S t.A
  A-fits = F.A-ok

  pub B-fits : NodeOrNone S t.B
  B-fits = F.B-ok

  pub C-fits : NodeOrNone S t.C
  C-fits = F.C-ok

  pub D-fits : NodeOrNone S t.D
  D-fits = F.D-ok

  pub value-fits : ValueFits t.value
  value-fits = (F.has_word, value-read-ok F)

pub ruleset fitting = (A-fits, B-fits, C-fits, D-fits, value-fits, N-fits, X-fits, Y-fits, none-fits)
