-- The tests of a list, one by one: what a list that fails one comes to, and what one that is taken has passed.
use mathlib.Core.Path.{◌≡◌, refl, sym, ap, ◌∙◌}
use mathlib.Core.Bool.{Bool, true, false, not}
use mathlib.Core.Logic.{◌≢◌}
use mathlib.Core.List.{List}
use Prim.Native.Nat.{ℕ, ◌*◌, ◌/◌, ◌%◌, ◌≤◌, ◌<◌}
use native.Mathlib.Nat.{div-add-mod}
use native.Mathlib.Decide.{dec_lt}
use native.Mathlib.Omega.{arith}
use lib.Dec.{leb, eqb}
use lib.ListN.{length}
use borrow.Author.Tests.{leb-true, eqb-true, lt-ltb, le-ltb, not-true, not-false}
use Rattle.tag.proofs.TagLaws.{clash, both_true}
use Rattle.tag_lists.specs.TagLists.{
  Answer,
  count,
  refused,
  refused_at,
  outcome,
  Way,
  first_bad,
  put_all,
  length_ok,
  list_taken,
}
use Rattle.tag_lists.specs.RoundTrips.{RefusalTouchesNothing}
use Rattle.tag_lists.proofs.Laws.Ways.{first-at-most}

-- A length that passes.
whole-tags : (width longest l : ℕ) → length_ok width longest l ≡ true → (width * (l / width) ≡ l) × (l ≤ longest)
whole-tags width longest l h =
    let p = both_true (eqb (l % width) 0) (leb l longest) h in
    (omega (arith, div-add-mod l width, eqb-true (l % width) 0 p.0), leb-true l longest p.1)

-- ---- The tests in their order, each with what the code has found.
module _
    (w : Way)
    (list out : List ℕ)
    {passed : Bool}
    (length-test : passed ≡ length_ok w.width w.longest (length list))
  where
    abbrev tags : ℕ
    tags = length list / w.width

    pub bad-length : not passed ≡ true → outcome (refused 17) out ≡ list_taken w list out
    bad-length bad = rw (← length-test, not-true passed bad)

    module _ (length-passed : not passed ≡ false) where
      module _ {bad : ℕ} (tag-test : bad ≡ first_bad w tags list) where
        pub bad-tag : bad < tags → outcome (refused_at 18 bad) out ≡ list_taken w list out
        bad-tag h = rw (← length-test, not-false passed length-passed, ← tag-test, lt-ltb bad tags h)

        pub none-bad : tags ≤ bad → first_bad w tags list ≡ tags
        none-bad h = omega (arith, first-at-most w tags list)

        pub too_short : tags ≤ bad → length out < w.room * tags → outcome (refused 19) out ≡ list_taken w list out
        too_short h short =
            rw (
              ← length-test,
              not-false passed length-passed,
              ← tag-test,
              le-ltb bad tags h,
              lt-ltb (length out) (w.room * tags) short,
            )

        pub all-taken : tags ≤ bad → w.room * tags ≤ length out
            → outcome (count tags) (put_all w tags list out) ≡ list_taken w list out
        all-taken h enough =
            rw (
              ← length-test,
              not-false passed length-passed,
              ← tag-test,
              le-ltb bad tags h,
              le-ltb (length out) (w.room * tags) enough,
            )

-- ---- How a list ends: taken, or refused with the out slice as it was.
pub record Accepted (w : Way) (list out : List ℕ) (n : ℕ) : Type 0 where
  pub whole : w.width * n ≡ length list
  pub fits : length list ≤ w.longest
  pub all-good : first_bad w n list ≡ n
  pub done : outcome (count n) (put_all w n list out) ≡ list_taken w list out

pub data Ending (w : Way) (list out : List ℕ) : Type 0 where
  taken : (n : ℕ) → Accepted w list out n → Ending w list out
  left : {a : Answer} → outcome a out ≡ list_taken w list out → ((n : ℕ) → a ≢ count n) → Ending w list out

list-ending : (w : Way) (list out : List ℕ) → Ending w list out
list-ending w list out = by_length (length_ok w.width w.longest (length list)) refl
  where
    n : ℕ
    n = length list / w.width

    by_tags :
        length_ok w.width w.longest (length list) ≡ true
        → Dec (first_bad w n list < n)
        → Dec (length out < w.room * n)
        → Ending w list out
    by_tags ok (yes bad) room = left (bad-tag w list out (sym ok) refl refl bad) (λ m e. clash (cc))
    by_tags ok (no good) (yes short) =
        left (too_short w list out (sym ok) refl refl (omega arith) short) (λ m e. clash (cc))
    by_tags ok (no good) (no enough) =
        let p = whole-tags w.width w.longest (length list) ok in
        taken n
        (record {
          whole = p.0;
          fits = p.1;
          all-good = none-bad w list out (sym ok) refl refl (omega arith);
          done = all-taken w list out (sym ok) refl refl (omega arith) (omega arith);
        })

    by_length : (ok : Bool) → length_ok w.width w.longest (length list) ≡ ok → Ending w list out
    by_length true ok = by_tags ok (dec_lt (first_bad w n list) n) (dec_lt (length out) (w.room * n))
    by_length false bad = left (bad-length w list out (sym bad) refl) (λ m e. clash (cc))

pub list-accepted : (w : Way) (list out : List ℕ) (n : ℕ) → (list_taken w list out).answer ≡ count n
    → Accepted w list out n
list-accepted w list out n e =
    elim (list-ending w list out) [
      | taken m a ↦
          let same : n ≡ m = cc (ap (λ o. o.answer) a.done) in
          rw same a
      | left done other ↦ absurd (other n (ap (λ o. o.answer) done ∙ e))
    ]

pub refusal-untouched : RefusalTouchesNothing
refusal-untouched w list out refusal =
    elim (list-ending w list out) [
      | taken n a ↦ absurd (refusal n (sym (ap (λ o. o.answer) a.done)))
      | left done other ↦ sym (ap (λ o. o.out) done)
    ]
