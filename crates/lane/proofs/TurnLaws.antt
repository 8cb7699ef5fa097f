-- Steps answered one after another: the parts of a chunk, and the turns of a run.
use mathlib.Core.Path.{◌≡◌, refl, sym, ap, ◌∙◌}
use mathlib.Core.Bool.{Bool, true, false}
use mathlib.Core.List.{List, [], ◌∷◌, ◌++◌, flatten, append_assoc, append-nil}
use Prim.Native.Nat.{ℕ, ◌≤◌, ◌<◌}
use native.Mathlib.Omega.{arith}
use lib.ListN.{length, take}
use lib.Seq.{slice, sets, length-sets, take-take, length-take-le}
use Rattle.machine.proofs.Basics.Contradiction.{clash}
use Rattle.program_answer.specs.Run.{belt_run}
use Rattle.program_stream.specs.Session.{Step, after, take_bytes, end_input, at_first, meant}
use Rattle.program_stream.specs.Carried.{Loan, lent, lent_at_first, Serves, InOrder, Onward}
use Rattle.program_stream.proofs.Laws.Chunks.{take_bytes-append}
use Rattle.program_stream.proofs.Laws.TakenLaws.{parts-taken}
use Rattle.program_stream.proofs.Laws.MeantLaws.{Agrees, first_holds, bytes-follow, input-follows}
use Rattle.program_stream.proofs.WholeRun.{input-is-belt-run}
use Rattle.lane.specs.Turns.{laid_in, EachFits, Answers, Taken, turn_with, Turned, input_taken, Ran}

-- ---- Pieces, and then others.
flatten-append : (xs ys : List (List ℕ)) → flatten (xs ++ ys) ≡ flatten xs ++ flatten ys
unfolding flatten
flatten-append [] ys = refl
flatten-append (x ∷ xs) ys =
    ap (λ (text : List ℕ). x ++ text) (flatten-append xs ys) ∙ sym (append_assoc x (flatten xs) (flatten ys))

laid-append : (xs ys : List (List ℕ)) (out : List ℕ) → laid_in out (xs ++ ys) ≡ laid_in (laid_in out xs) ys
laid-append [] ys out = refl
laid-append (x ∷ xs) ys out = laid-append xs ys (sets out 0 x)

laid-length : (xs : List (List ℕ)) (out : List ℕ) → length (laid_in out xs) ≡ length out
laid-length [] out = refl
laid-length (x ∷ xs) out = laid-length xs (sets out 0 x) ∙ length-sets out 0 x

fit_append : (room : ℕ) (xs ys : List (List ℕ)) → EachFits room xs → EachFits room ys → EachFits room (xs ++ ys)
fit_append room [] ys f g = g
fit_append room (x ∷ xs) ys f g = (f.0, fit_append room xs ys f.1 g)

-- ---- Steps answered.
answers-nothing : {first loan : Loan} {out : List ℕ} → loan ≡ first → InOrder loan
    → Answers (take_bytes lent []) first loan out out
unfolding take_bytes flatten
answers-nothing e in_order =
    record { in_order = in_order; leaves = e; pieces = []; whole = refl; fitting = tt; laid = refl }

module _ {step : Loan → Step Loan} {before next : Loan} {out out' : List ℕ} where
  pub answers-served : {at : ℕ} → Serves step before next out 0 out' at → InOrder next → at ≤ length out'
      → Answers step before next out out'
  unfolding flatten
  answers-served served in_order room =
      let same = ap length served.writes.buffer ∙ length-sets out 0 (step before).text in
      record {
        in_order = in_order;
        leaves = served.leaves;
        pieces = (step before).text ∷ [];
        whole = append-nil (step before).text;
        fitting = (omega (arith, same, served.writes.end, room), tt);
        laid = served.writes.buffer;
      }

  -- The same step otherwise said.
  answers-as : {other : Loan → Step Loan} → other before ≡ step before → Answers step before next out out'
      → Answers other before next out out'
  answers-as e A =
      record {
        in_order = A.in_order;
        leaves = A.leaves ∙ sym (ap (λ (d : Step Loan). d.state) e);
        pieces = A.pieces;
        whole = A.whole ∙ sym (ap (λ (d : Step Loan). d.text) e);
        fitting = A.fitting;
        laid = A.laid;
      }

-- A step and then another.
abbrev then : (one two : Loan → Step Loan) → Loan → Step Loan
then one two l = after (one l).text (two (one l).state)

answers-then : {one two : Loan → Step Loan} {a b c : Loan} {out out' out'' : List ℕ}
    → Answers one a b out out' → Answers two b c out' out'' → Answers (then one two) a c out out''
answers-then {one} {two} {a} {out = out} A B =
    let long = ap length A.laid ∙ laid-length A.pieces out in
    record {
      in_order = B.in_order;
      leaves = B.leaves ∙ ap (λ (l : Loan). (two l).state) A.leaves;
      pieces = A.pieces ++ B.pieces;
      whole = flatten-append A.pieces B.pieces ∙ rw (A.whole, B.whole, A.leaves);
      fitting = fit_append (length out) A.pieces B.pieces A.fitting (rw long at B.fitting);
      laid = B.laid ∙ rw A.laid (sym (laid-append A.pieces B.pieces out));
    }

bytes-then : (bytes more : List ℕ) {a b c : Loan} {out out' out'' : List ℕ}
    → Answers (take_bytes lent bytes) a b out out' → Answers (take_bytes lent more) b c out' out''
    → Answers (take_bytes lent (bytes ++ more)) a c out out''
bytes-then bytes more {a} A B = answers-as (take_bytes-append lent bytes more a) (answers-then A B)

-- ---- A chunk answered part by part: the bytes up to a place are taken.
pub record Answering (chunk : List ℕ) (first : Loan) (out₀ : List ℕ) (from : ℕ) (loan : Loan) (out : List ℕ) : Type 0
  where
    pub within : from ≤ length chunk
    pub answers : Answers (take_bytes lent (take from chunk)) first loan out₀ out
    pub same_out : length out ≡ length out₀

module _ (chunk : List ℕ) {first : Loan} {out₀ : List ℕ} where
  pub answering-starts : InOrder first → Answering chunk first out₀ 0 first out₀
  answering-starts in_order =
      record { within = omega arith; answers = answers-nothing refl in_order; same_out = refl }

  pub answering-goes-on : {from : ℕ} {loan : Loan} {out : List ℕ} → Answering chunk first out₀ from loan out
      → (to : ℕ) → Onward chunk from to → {next : Loan} {out' : List ℕ} {at : ℕ}
      → Serves (take_bytes lent (slice from to chunk)) loan next out 0 out' at → InOrder next → at ≤ length out'
      → length out' ≡ length out
      → Answering chunk first out₀ to next out'
  answering-goes-on {from} A to onward served in_order room same_out =
      let e = parts-taken lent chunk 0 from to first (omega arith) onward.forward onward.within in
      record {
        within = onward.within;
        answers = answers-as e (answers-then A.answers (answers-served served in_order room));
        same_out = same_out ∙ A.same_out;
      }

  -- All is answered.
  pub answering-ends : {from : ℕ} {loan : Loan} {out : List ℕ} → length chunk ≤ from
      → Answering chunk first out₀ from loan out → Taken chunk from true first loan out₀ out
  answering-ends h A =
      record {
        onward = record { forward = omega arith; within = A.within; further = λ some. omega arith };
        all = λ _. omega (arith, A.within);
        answers = A.answers;
      }

  -- A write failed after some of it was.
  pub answering-stops : {from : ℕ} {loan : Loan} {out : List ℕ} → 0 < from
      → Answering chunk first out₀ from loan out → Taken chunk from false first loan out₀ out
  answering-stops h A =
      record {
        onward = record { forward = omega arith; within = A.within; further = λ _. h };
        all = λ e. clash (cc);
        answers = A.answers;
      }

-- ---- A turn.
turn-takes : (bytes : List ℕ) (l : Loan) → 0 < length bytes → turn_with bytes l ≡ take_bytes lent bytes l
turn-takes [] l h = absurd (omega arith)
turn-takes (b ∷ bs) l h = refl

-- The first n bytes of the input came, and a part of them is taken.
pub turn-takes-some : {input : List ℕ} {taken : ℕ} {going : Bool} {before next : Loan} {out out' : List ℕ} (n : ℕ)
    → n ≤ length input → 0 < n → Taken (take n input) taken going before next out out'
    → Turned input taken going before next out out'
turn-takes-some {input} {taken} {before = before} n h came T =
    let long = length-take-le n input h in
    let some : 0 < taken = T.onward.further (omega arith) in
    let few : taken ≤ n = omega (arith, T.onward.within) in
    let any : 0 < length (take taken input) = simp (length-take-le taken input (omega arith)) some in
    record {
      within = omega arith;
      some = λ _. some;
      answers =
          answers-as (turn-takes (take taken input) before any) (rw (take-take taken n input few) at T.answers);
    }

-- None came.
pub turn-takes-none : {input : List ℕ} {before next : Loan} {out out' : List ℕ}
    → Answers (end_input lent) before next out out' → Turned input 0 false before next out out'
turn-takes-none A = record { within = omega arith; some = λ e. clash (cc); answers = A }

-- ---- A run: bytes are taken, turn by turn.
pub record Running (first loan : Loan) (out₀ out : List ℕ) : Type 0 where
  pub bytes : List ℕ
  pub answers : Answers (take_bytes lent bytes) first loan out₀ out

pub running-starts : {first loan : Loan} (out : List ℕ) → loan ≡ first → InOrder loan → Running first loan out out
running-starts out e in_order = record { bytes = []; answers = answers-nothing e in_order }

module _ {first loan next : Loan} {out₀ out out' : List ℕ} (R : Running first loan out₀ out) where
  pub running-goes-on : {input : List ℕ} {taken : ℕ} {going : Bool} → going ≡ true
      → Turned input taken going loan next out out' → Running first next out₀ out'
  running-goes-on {input} {taken} e T =
      let any : 0 < length (take taken input) = simp (length-take-le taken input T.within) (T.some e) in
      record {
        bytes = R.bytes ++ take taken input;
        answers = bytes-then R.bytes (take taken input) R.answers
            (answers-as (sym (turn-takes (take taken input) loan any)) T.answers);
      }

-- What a run did, whatever ended it.
module _ (space text : List ℕ) {next : Loan} {out₀ out' : List ℕ}
    (in_order : InOrder (lent_at_first space text)) where
  ran : (bytes : List ℕ) (ended : Bool)
      → Answers (input_taken lent bytes ended) (lent_at_first space text) next out₀ out'
      → Agrees (input_taken lent bytes ended (lent_at_first space text)) (input_taken meant bytes ended at_first)
      → (ended ≡ true → (input_taken meant bytes ended at_first).text ≡ belt_run bytes)
      → Ran space text out₀ next out'
  ran bytes ended A agrees run =
      record {
        bytes = bytes;
        ended = ended;
        answers = A;
        holds = rw A.leaves agrees.holds;
        prints = λ e. A.whole ∙ agrees.same_text ∙ run e;
      }

  -- It stopped with its input still open.
  pub ran-so-far : Running (lent_at_first space text) next out₀ out'
      → Ran space text out₀ next out'
  ran-so-far R =
      ran R.bytes false R.answers
      (bytes-follow R.bytes (lent_at_first space text) in_order at_first (first_holds space text)) (λ e. clash (cc))

  -- The turn that ended it: its input had no further byte, or a write failed.
  module _ {loan : Loan} {out : List ℕ} (R : Running (lent_at_first space text) loan out₀ out) where
    stopped : (bytes : List ℕ) → Answers (turn_with bytes) loan next out out'
        → Ran space text out₀ next out'
    stopped [] A =
        ran R.bytes true (answers-then R.answers A)
        (input-follows R.bytes (lent_at_first space text) in_order at_first (first_holds space text))
        (λ _. input-is-belt-run R.bytes)
    stopped (b ∷ bs) A =
        ran-so-far (record { bytes = R.bytes ++ (b ∷ bs); answers = bytes-then R.bytes (b ∷ bs) R.answers A })

    pub ran-to-stop : {input : List ℕ} {taken : ℕ} {going : Bool}
        → Turned input taken going loan next out out'
        → Ran space text out₀ next out'
    ran-to-stop {input} {taken} T = stopped (take taken input) T.answers
