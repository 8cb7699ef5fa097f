-- The words of an answer as they are put, and the answer that words stand for, by the kind.
use mathlib.Core.Path.{◌≡◌}
use mathlib.Core.Logic.{◌≢◌}
use mathlib.Core.Bool.{Bool, true, false, cond}
use mathlib.Core.List.{List}
use mathlib.Core.Option.{some, none}
use Prim.Native.Nat.{ℕ, ◌+◌}
use native.Mathlib.Numerals.{towards_suc}
use lib.ListN.{set}
use lib.Seq.{sets}
use native.Mathlib.Decide.{ℕ_discrete}
use Rattle.tag.specs.Tags.{tag_of, is_tag, digit_of, low_of}
use Rattle.machine.specs.Outcomes.Answer.{Answer, Bag, No}
use Rattle.machine.specs.Choice.{◌≟◌, if?◌then◌else◌}
use Rattle.machine.specs.Answers.{kind_of, payload_of, answer_words, plain_answer_of, answer_of}
use Rattle.machine.proofs.Basics.Choices.{test-unequal}
use Rattle.machine.proofs.Basics.Contradiction.{clash}

pub bag-words : {kind : ℕ} (digit low : ℕ) → kind ≡ 2 → (a : Answer) → answer_of kind digit low ≡ some a
    → Bag (tag_of digit low) ≡ a
unfolding answer_of ℕ_discrete
bag-words digit low k a e = go (is_tag digit low) (rw k at e)
  where
    go : (b : Bool) → cond b (some (Bag (tag_of digit low))) none ≡ some a → Bag (tag_of digit low) ≡ a
    go true e = cc
    go false e = clash (cc)

module _ {kind : ℕ} (digit low : ℕ) (a : Answer) (e : answer_of kind digit low ≡ some a) where
  -- Of any other kind.
  plain-says : kind ≢ 2 → plain_answer_of kind ≡ some a
  unfolding answer_of
  plain-says ne = go (tag_of digit low ≟ 0) (rw (test-unequal ne) at e)
    where
      go : (d : Dec (tag_of digit low ≡ 0)) → (if? d then plain_answer_of kind else none) ≡ some a
          → plain_answer_of kind ≡ some a
      go (yes z) e = e
      go (no z) e = clash (cc)

  pub plain-words : kind ≢ 2 → (b : Answer) → plain_answer_of kind ≡ some b → b ≡ a
  plain-words ne b is = let says = plain-says ne in cc

  pub last-words : kind ≢ 0 → kind ≢ 1 → kind ≢ 2 → kind ≢ 3 → kind ≢ 4 → kind ≢ 5 → No ≡ a
  unfolding plain_answer_of
  last-words n₀ n₁ n₂ n₃ n₄ n₅ =
      go (kind ≟ 6) (rw (test-unequal n₀, test-unequal n₁, test-unequal n₃, test-unequal n₄, test-unequal n₅) at
      plain-says n₂)
    where
      go : (d : Dec (kind ≡ 6)) → (if? d then some No else none) ≡ some a → No ≡ a
      go (yes s) e = cc
      go (no s) e = clash (cc)

-- The words of an answer, written one after the other.
pub answer-put :
    (answers : List ℕ) (at : ℕ) (a : Answer) {kind tag digit low : ℕ}
    → kind ≡ kind_of a
    → tag ≡ payload_of a
    → digit ≡ digit_of tag
    → low ≡ low_of tag
    → set (set (set answers at kind) (at + 1) digit) (at + 2) low ≡ sets answers at (answer_words a)
answer-put answers at a k p d l = rw (d, l, k, p) (simp (towards_suc))
