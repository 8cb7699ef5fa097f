-- Nothing in the columns of Registers.antt is too much: each use shows in the line's effect for some table, and each
-- way on is gone for some table.
use mathlib.Core.Path.{◌≡◌, refl, sym, ap, ◌∙◌}
use mathlib.Core.Logic.{◌≢◌, inl, inr}
use mathlib.Core.Bool.{Bool, true, false, not, ◌&&◌, ◌||◌, beq}
use mathlib.Core.List.{List, [], ◌∷◌, ◌++◌}
use Prim.Native.Nat.{ℕ}
use native.Mathlib.Decide.{ℕ_discrete}
use lib.Dec.{eqb}
use borrow.Author.Tests.{eqb-true, not-true}
use Rattle.machine.specs.Outcomes.Answer.{Answer}
use Rattle.machine.specs.Sides.{left, right}
use Rattle.machine.specs.Values.{Value, bag, N, X, Y, encode, stored_words, Value-discrete}
use Rattle.machine.specs.Operations.{push}
use Rattle.machine.specs.Steps.{Step, step_number, step_of}
use Rattle.machine.specs.Tasks.{Task, no_node, Register, in_a, in_b, in_c, in_d, register}
use Rattle.machine.specs.Registers.{among}
use Rattle.machine_registers.specs.Paths.{uses, Way, ways}
use Rattle.machine.specs.Shape.{same_words}
use Rattle.machine.specs.Lines.{Memory, Write, out≔, inn≔, val≔, hat≔, Effect, dcas, act}
use Rattle.machine.specs.Answers.{kind_of, payload_of}
use Rattle.machine_registers.specs.LinesUse.{with, SameBut, UseShows, UsesShow, WaysGone}
use Rattle.machine.proofs.Basics.Contradiction.{clash, refute}
use Rattle.machine.proofs.Words.RecordLaws.{same-words-refl}
use Rattle.machine.proofs.Words.StepLaws.{step-of-number}
use Rattle.machine.proofs.Basics.Tests.{beq-equal, and_left, and_right, or-either}
use Rattle.machine.proofs.Basics.Everywhere.{
  every_register,
  each_step,
  each-register,
  everywhere-at,
  implies,
  implies_true,
}
use Rattle.machine_registers.proofs.Paths.{every_way, each_way}

-- ---- Tables to try the lines on.

-- What a line may look at: every node has the same links and value; the task has read a value, and it has four
-- different registers.
record Sample : Type 0 where
  pub hat : ℕ
  pub out : ℕ
  pub value : Value
  pub read : Value
  pub D : ℕ
  pub goal : ℕ
  pub found : ℕ

abbrev sample : (hat out : ℕ) → (value read : Value) → (D goal found : ℕ) → Sample
sample h o v r d g f = record { hat = h; out = o; value = v; read = r; D = d; goal = g; found = f }

abbrev memory_of : Sample → Memory
memory_of a = record { out = λ x. a.out; inn = λ x. a.out; val = λ x. a.value; hat = a.hat }

-- A push of the right side that has counted nothing.
abbrev task_in : Sample → Step → Task
task_in a st =
    record {
      operation = push;
      step = st;
      side = right;
      argument = 1;
      counted = 0;
      value = a.read;
      A = 0;
      B = 1;
      C = 2;
      D = a.D;
      lane = 0;
    }

abbrev samples : List Sample
samples =
    sample 3 3 (N right) (N right) 5 0 6
    ∷ sample 3 3 (X right) (N right) 5 1 6
    ∷ sample 3 no_node (N right) (N right) no_node 0 no_node
    ∷ sample 3 no_node (Y right) (N right) 5 1 no_node
    ∷ sample 3 3 (bag 1) (N right) no_node 1 6
    ∷ sample 3 3 (N left) (N right) no_node 1 6
    ∷ sample 0 1 (X right) (X right) 5 1 6
    ∷ []

abbrev effect_in : Step → Sample → Task → Effect
effect_in st a t = act st right left (memory_of a) t a.goal a.found

-- ---- What an effect shows, besides what stands in one register afterwards.
abbrev write_words : Write → List ℕ
write_words (out≔ x y) = 1 ∷ x ∷ y ∷ []
write_words (inn≔ x y) = 2 ∷ x ∷ y ∷ []
write_words (val≔ x v) = 3 ∷ x ∷ stored_words (encode v)
write_words (hat≔ x) = 4 ∷ x ∷ []

abbrev all_words : List Write → List ℕ
all_words [] = []
all_words (w ∷ l) = write_words w ++ all_words l

abbrev others : Register → Task → List ℕ
others in_a t = t.B ∷ t.C ∷ t.D ∷ []
others in_b t = t.A ∷ t.C ∷ t.D ∷ []
others in_c t = t.A ∷ t.B ∷ t.D ∷ []
others in_d t = t.A ∷ t.B ∷ t.C ∷ []

abbrev shows : Register → Effect → List ℕ
shows r e =
    kind_of e.answer ∷ payload_of e.answer ∷ step_number e.task.step ∷ others r e.task ++ all_words e.writes

-- Effects that show different words are not the same.
shows_same : (r : Register) (e f : Effect) → SameBut r e f → shows r f ≡ shows r e
shows_same r e f S =
    ap (λ (a : Answer). kind_of a ∷ payload_of a ∷ step_number f.task.step ∷ others r f.task
    ++ all_words f.writes) S.same_answer
    ∙ ap (λ (st : Step). kind_of e.answer ∷ payload_of e.answer ∷ step_number st ∷ others r f.task
    ++ all_words f.writes) S.same_step
    ∙ ap (λ (l : List ℕ). kind_of e.answer ∷ payload_of e.answer ∷ step_number e.task.step ∷ l
    ++ all_words f.writes) (same_rest r S.same_others)
    ∙ ap (λ (l : List Write). kind_of e.answer ∷ payload_of e.answer ∷ step_number e.task.step
    ∷ others r e.task ++ all_words l) S.same_writes
  where
    same_rest : (r : Register) → ((q : Register) → q ≢ r → register f.task q ≡ register e.task q)
        → others r f.task ≡ others r e.task
    same_rest in_a h = λ i. h in_b (λ z. refute (cc)) i ∷ h in_c (λ z. refute (cc)) i ∷ h in_d (λ z. refute (cc)) i ∷ []
    same_rest in_b h = λ i. h in_a (λ z. refute (cc)) i ∷ h in_c (λ z. refute (cc)) i ∷ h in_d (λ z. refute (cc)) i ∷ []
    same_rest in_c h = λ i. h in_a (λ z. refute (cc)) i ∷ h in_b (λ z. refute (cc)) i ∷ h in_d (λ z. refute (cc)) i ∷ []
    same_rest in_d h = λ i. h in_a (λ z. refute (cc)) i ∷ h in_b (λ z. refute (cc)) i ∷ h in_c (λ z. refute (cc)) i ∷ []

-- ---- Tried.
abbrev some_sample : List Sample → (Sample → Bool) → Bool
some_sample [] p = false
some_sample (a ∷ l) p = p a || some_sample l p

some-sample : (p : Sample → Bool) (l : List Sample) → some_sample l p ≡ true → (a : Sample) × (p a ≡ true)
some-sample p [] e = clash (cc)
some-sample p (a ∷ l) e = elim (or-either (p a) (some_sample l p) e) [ inl h ↦ (a, h) | inr h ↦ some-sample p l h ]

abbrev differs_at : Step → Register → ℕ → Sample → Bool
differs_at st r x a =
    not (same_words (shows r (effect_in st a (task_in a st))) (shows r (effect_in st a (with r x (task_in a st)))))

abbrev use_tried : Step → Register → Bool
use_tried st r = some_sample samples (differs_at st r 4) || some_sample samples (differs_at st r no_node)

uses-tried : (st : Step) (r : Register) → implies (among (uses st) r) (use_tried st r) ≡ true
unfolding act dcas same_words ℕ_discrete Value-discrete
uses-tried = everywhere-at (λ st r. implies (among (uses st) r) (use_tried st r)) refl

abbrev set_right : Step → Way → Sample → Register → Bool
set_right st w a r =
    beq (eqb (register (task_in a st) r) (register (effect_in st a (task_in a st)).task r)) (not (among w.sets r))

abbrev gone_at : Step → Way → Sample → Bool
gone_at st w a =
    eqb (step_number (effect_in st a (task_in a st)).task.step) (step_number w.next) && every_register (set_right st w a)

abbrev way_tried : Step → Way → Bool
way_tried st w = some_sample samples (gone_at st w)

ways-tried : (st : Step) → every_way (ways st) (way_tried st) ≡ true
unfolding act dcas ℕ_discrete Value-discrete
ways-tried = each_step (λ st. every_way (ways st) (way_tried st)) refl

-- ---- Each use and each way.
differs-from : (st : Step) (r : Register) (x : ℕ) (a : Sample) → differs_at st r x a ≡ true → UseShows st r
differs-from st r x a d =
    record {
      memory = memory_of a;
      task = task_in a st;
      goal = a.goal;
      found = a.found;
      other = x;
      differs = λ S.
          let e = effect_in st a (task_in a st) in
          let f = effect_in st a (with r x (task_in a st)) in
          let no : same_words (shows r e) (shows r f) ≡ false = not-true (same_words (shows r e) (shows r f)) d in
          let yes : same_words (shows r e) (shows r f) ≡ true =
          ap (λ (l : List ℕ). same_words (shows r e) l) (shows_same r e f S) ∙ same-words-refl (shows r e) in
          refute (cc);
    }

pub uses-show : UsesShow
uses-show st r u =
    let h = implies_true (among (uses st) r) (use_tried st r) (uses-tried st r) u in
    elim (or-either (some_sample samples (differs_at st r 4)) (some_sample samples (differs_at st r no_node)) h) [
      | inl k ↦ let a = some-sample (differs_at st r 4) samples k in differs-from st r 4 a.0 a.1
      | inr k ↦ let a = some-sample (differs_at st r no_node) samples k in differs-from st r no_node a.0 a.1
    ]

number-injective : (a b : Step) → step_number a ≡ step_number b → a ≡ b
number-injective a b e = sym (step-of-number a) ∙ ap step_of e ∙ step-of-number b

pub ways-gone : WaysGone
ways-gone st w o =
    let k = some-sample (gone_at st w) samples (each_way (way_tried st) (ways st) (ways-tried st) w o) in
    let a : Sample = k.0 in
    let n = step_number (effect_in st a (task_in a st)).task.step in
    let there = and_left (eqb n (step_number w.next)) (every_register (set_right st w a)) k.1 in
    let set = and_right (eqb n (step_number w.next)) (every_register (set_right st w a)) k.1 in
    record {
      memory = memory_of a;
      task = task_in a st;
      goal = a.goal;
      found = a.found;
      goes_there = number-injective _ w.next (eqb-true n (step_number w.next) there);
      sets_these = λ r. beq-equal _ _ (each-register (set_right st w a) set r);
    }
