-- A list of tags in a form of the code, and the same list as its elements: what is tested and what is put out.
use Rattle.std.proofs.Common.{◌≡◌, ℕ, suc, ◌+◌, ◌*◌, ◌≤◌, List, [], ◌∷◌, ◌++◌, length, get_or, take, drop, refl, sym, ap, ◌∙◌, arith, length-append, length-drop, drop-drop, take_at, drop_at}
use Rattle.std.specs.List.{flat_map}
use Rattle.std.proofs.lemmas.List.{flat_map_more}
use Rattle.std.proofs.lemmas.List.Edits.{sets, sets-eq}
use native.Mathlib.Nat.{mul-suc, mul-zero}
use mathlib.Core.Bool.{not-not}
use borrow.Author.Tests.{not-false, ltb-false}
use Rattle.std.proofs.Common.{zero, ◌/◌, ◌%◌, eqb, Bool, true, false, cond, not, ◌&&◌, leb, ltb, Some, None, Result, Ok, Err, OnOk, OnErr}
use Rattle.std.specs.List.{position}
use Rattle.std.specs.Simd.{first_chunks}
use Rattle.std.proofs.lemmas.List.Sums.{fails_before_first}
use Rattle.tag.proofs.TagLaws.{clash}
use Rattle.tag_lists.specs.declared.ListError.{ListError}
use Rattle.tag_lists.specs.declared.ListError.TheVariants.{Tags, NoTag, TagsOut}
use Rattle.tag_lists.specs.TagLists.{count, refused, refused_at, outcome, outcome_of, Way, first_bad, turned_all, put_all, length_ok, list_taken}
use Rattle.tag_lists.specs.Forms.{are_tags, first_not, answer}

module _ {X A : Type 0} (turned : X → List A) (room : ℕ) (sized : (tag : X) → length (turned tag) ≡ room) where
  pub length-all : (tags : List X) → length (flat_map turned tags) ≡ room * length tags
  length-all [] = sym (mul-zero room)
  length-all (tag ∷ tags) =
      simp length-append (omega (arith, sized tag, length-all tags, mul-suc room (length tags)))

  -- The next tag put behind those before it.
  pub put-more : (before out : List A) (tags : List X) (tag : X) (n : ℕ) → length tags ≡ n → room * suc n ≤ length before
      → out ≡ flat_map turned tags ++ drop (room * n) before
      → sets out (room * n) (turned tag) ≡ flat_map turned (tags ++ tag ∷ []) ++ drop (room * suc n) before
  put-more before out tags tag n e fits so_far =
      let now = turned tag in
      let done = flat_map turned tags in
      let left = drop (room * n) before in
      let long : length done ≡ room * n = length-all tags ∙ ap (λ k. room * k) e in
      let wide : room * n + length now ≡ room * suc n = omega (arith, sized tag, mul-suc room n) in
      let whole : length (done ++ left) ≡ length before = simp (length-append, length-drop) (omega (arith, mul-suc room n)) in
      let rest : drop (room * n + length now) (done ++ left) ≡ drop (room * suc n) before =
      sym (drop-drop (length now) (room * n) (done ++ left))
      ∙ ap (drop (length now)) (drop_at done left (room * n) long)
      ∙ drop-drop (length now) (room * n) before
      ∙ ap (λ k. drop k before) wide in
      rw so_far
      (sets-eq now (done ++ left) (room * n) (omega arith)
      ∙ rw (take_at done left (room * n) long, rest, flat_map_more turned [] tags tag))

-- Where no tag is found that is none, each is one.
pub all-good : {A : Type 0} (good : A → Bool) (tags : List A) → position (λ tag. not (good tag)) tags ≡ None
    → are_tags good tags
all-good good tags none k d h =
    not-false (good (get_or tags k d))
    (fails_before_first (λ tag. not (good tag)) tags k d (omega (arith, past (ltb first (length tags)) refl none)))
  where
    first : ℕ
    first = first_not good tags

    past : (b : Bool) → ltb (first_not good tags) (length tags) ≡ b → cond b (Some (first_not good tags)) None ≡ None
        → length tags ≤ first_not good tags
    past true e h = clash (cc)
    past false e h = ltb-false (first_not good tags) (length tags) e

-- ---- The tags of a list, each with all its elements.
module _ (w : Way) where
  pub chunks-first : (n : ℕ) (list : List ℕ) → first_not w.good (first_chunks w.width n list) ≡ first_bad w n list
  unfolding first_bad
  chunks-first zero list = refl
  chunks-first (suc n) list =
      let one : 1 + first_bad w n (drop w.width list) ≡ suc (first_bad w n (drop w.width list)) = omega arith in
      rw (not-not (w.good (take w.width list)), chunks-first n (drop w.width list), one)

  pub chunks-turned : (n : ℕ) (list : List ℕ) → flat_map w.turned (first_chunks w.width n list) ≡ turned_all w n list
  unfolding turned_all
  chunks-turned zero list = refl
  chunks-turned (suc n) list = ap (◌++◌ (w.turned (take w.width list))) (chunks-turned n (drop w.width list))

-- The same tests in the same order.
tests : (whole bad short : Bool) (n place : ℕ) (put out left : List ℕ) {r : Result ℕ ListError}
    → r ≡ cond whole (cond bad (Err (NoTag place)) (cond short (Err TagsOut) (Ok n))) (Err Tags)
    → OnOk r (left ≡ put)
    → OnErr r (left ≡ out)
    → outcome_of r left
    ≡ cond whole (cond bad (outcome (refused_at 18 place) out) (cond short (outcome (refused 19) out) (outcome (count n) put)))
    (outcome (refused 17) out)
tests false bad short n place put out left e ok err = rw e (ap (outcome (refused 17)) (rw e at err))
tests true true short n place put out left e ok err = rw e (ap (outcome (refused_at 18 place)) (rw e at err))
tests true false true n place put out left e ok err = rw e (ap (outcome (refused 19)) (rw e at err))
tests true false false n place put out left e ok err = rw e (ap (outcome (count n)) (rw e at ok))

-- A list that is turned in a form of the code is taken as its elements are.
pub turned-taken : (w : Way) (list out left : List ℕ) (whole : Bool) (tags : List (List ℕ)) {r : Result ℕ ListError}
    → (let n = length list / w.width in
    tags ≡ first_chunks w.width n list
    → length tags ≡ n
    → (whole && leb n 1_024) ≡ length_ok w.width w.longest (length list)
    → r ≡ answer w.good w.room whole tags (length out)
    → OnOk r (left ≡ flat_map w.turned tags ++ drop (w.room * length tags) out)
    → OnErr r (left ≡ out)
    → outcome_of r left ≡ list_taken w list out)
turned-taken w list out left whole tags tags-are long sizes r-is ok err =
    let n = length list / w.width in
    tests (length_ok w.width w.longest (length list)) (ltb (first_bad w n list) n) (ltb (length out) (w.room * n)) n
    (first_bad w n list) (put_all w n list out) out left
    (rw (long, tags-are, chunks-first w n list, sizes) at r-is)
    (rw (long, tags-are, chunks-turned w n list) at ok) err

-- A list of whole tags has 1,024 at most.
pub five-each : (l : ℕ) → (eqb (l % 5) 0 && leb (l / 5) 1_024) ≡ length_ok 5 5_120 l
five-each l = grind arith

pub two-each : (l : ℕ) → (eqb (l % 2) 0 && leb (l / 2) 1_024) ≡ length_ok 2 2_048 l
two-each l = grind arith
