-- Two ways that undo each other do so for whole lists; reading and writing are two such ways.
use mathlib.Core.Path.{◌≡◌, refl, sym, ap, ◌∙◌}
use mathlib.Core.Bool.{true}
use mathlib.Core.List.{List, ◌++◌}
use Prim.Native.Nat.{ℕ, zero, suc, ◌*◌, ◌/◌, ◌%◌, ◌≤◌, ◌<◌}
use native.Mathlib.Nat.{mul-suc, mul-zero, mul-mod_right, mul-div_right}
use native.Mathlib.Omega.{arith}
use lib.ListN.{length, get_or, take, drop, length-drop, take-append-drop}
use lib.Seq.{length-take-le, take_all, take_at, drop_at}
use borrow.Author.Tests.{le-leb, eq-eqb}
use Rattle.tag.specs.Tags.{tag_of}
use Rattle.tag.proofs.TagLaws.{tag-of-words, digit-of-tag, low-of-tag, tag-range, number-is-tag}
use Rattle.tag_packed.specs.Packed.{packed_number}
use Rattle.tag_packed.proofs.Laws.Halves.{pairs-of-halves}
use Rattle.tag_packed.proofs.Laws.OneTag.{
  packed-digits,
  packed-range,
  bytes-number,
  bytes_good,
  two-words,
  length-unpacked,
  length-packed,
}
use Rattle.tag_lists.specs.TagLists.{
  count,
  outcome,
  Way,
  first_bad,
  turned_all,
  length_ok,
  list_taken,
  reading,
  writing,
}
use Rattle.tag_lists.specs.RoundTrips.{WrittenIsRead, ReadIsWritten}
use Rattle.tag_lists.proofs.Laws.Ways.{first_good, length-turned}
use Rattle.tag_lists.proofs.Laws.Taken.{list-accepted, all-taken}

-- What is put out for a good tag is good on the way back and turned into the same elements.
pub record Undoes (back there : Way) : Type 0 where
  pub width : there.room ≡ back.width
  pub some-width : 0 < back.width
  pub not-long : (n : ℕ) → there.width * n ≤ there.longest → back.width * n ≤ back.longest
  pub sized : (p : List ℕ) → length (there.turned p) ≡ there.room
  pub good : (p : List ℕ) → length p ≡ there.width → there.good p ≡ true → back.good (there.turned p) ≡ true
  pub undone : (p : List ℕ) → length p ≡ there.width → there.good p ≡ true → back.turned (there.turned p) ≡ p

module _ (back there : Way) (U : Undoes back there) where
  -- The first tag of a list of n + 1, and the others.
  first-length : (n : ℕ) (list : List ℕ) → there.width * suc n ≡ length list
      → (length (take there.width list) ≡ there.width) × (there.width * n ≡ length (drop there.width list))
  first-length n list e =
      let m = mul-suc there.width n in
      (length-take-le there.width list (omega arith), simp length-drop (omega arith))

  -- What was put out begins with what was put out for the first tag.
  first_part : (n : ℕ) (list : List ℕ)
      → (take back.width (turned_all there (suc n) list) ≡ there.turned (take there.width list))
      × (drop back.width (turned_all there (suc n) list) ≡ turned_all there n (drop there.width list))
  unfolding turned_all
  first_part n list =
      let p = take there.width list in
      let rest = turned_all there n (drop there.width list) in
      let e : length (there.turned p) ≡ back.width = U.sized p ∙ U.width in
      (take_at (there.turned p) rest back.width e, drop_at (there.turned p) rest back.width e)

  good-back : (n : ℕ) (list : List ℕ) → there.width * n ≡ length list → first_bad there n list ≡ n
      → first_bad back n (turned_all there n list) ≡ n
  unfolding first_bad
  good-back zero list e all = refl
  good-back (suc n) list e all =
      let p = take there.width list in
      let l = first-length n list e in
      let part = first_part n list in
      let h = first_good there n list all in
      rw (part.0, part.1, U.good p l.0 h.0) (ap suc (good-back n (drop there.width list) l.1 h.1))

  undone-back : (n : ℕ) (list : List ℕ) → there.width * n ≡ length list → first_bad there n list ≡ n
      → turned_all back n (turned_all there n list) ≡ list
  unfolding turned_all
  undone-back zero list e all = take_all 0 list (omega (arith, mul-zero there.width))
  undone-back (suc n) list e all =
      let p = take there.width list in
      let l = first-length n list e in
      let part = first_part n list in
      let h = first_good there n list all in
      rw (
        part.0,
        part.1,
        U.undone p l.0 h.0,
        undone-back n (drop there.width list) l.1 h.1,
      )
      (take-append-drop there.width list)

  pub undone-list : (list out dest : List ℕ) (n : ℕ) → (list_taken there list out).answer ≡ count n
      → back.room * n ≤ length dest
      → (list_taken back (take (back.width * n) (list_taken there list out).out) dest
      ≡ outcome (count n) (list ++ drop (back.room * n) dest))
      × (drop (back.width * n) (list_taken there list out).out ≡ drop (back.width * n) out)
  undone-list list out dest n e enough =
      let a = list-accepted there list out n e in
      let put = turned_all there n list in
      let long : length put ≡ back.width * n = length-turned there n list U.sized ∙ ap (λ k. k * n) U.width in
      let left : (list_taken there list out).out ≡ put ++ drop (back.width * n) out =
      sym (ap (λ o. o.out) a.done) ∙ rw U.width in
      let tags : length put / back.width ≡ n = rw long (mul-div_right n U.some-width) in
      let whole : length put % back.width ≡ 0 = rw long (mul-mod_right back.width n) in
      let short : length put ≤ back.longest = rw long (U.not-long n (rw a.whole a.fits)) in
      let ok : length_ok back.width back.longest (length put) ≡ true =
      rw (eq-eqb (length put % back.width) 0 whole, le-leb (length put) back.longest short) in
      let good : length put / back.width ≡ first_bad back (length put / back.width) put =
      rw tags (sym (good-back n list a.whole a.all-good)) in
      let done = all-taken back put dest (sym ok) refl good (omega arith) (rw tags enough) in (
        rw (left, take_at put (drop (back.width * n) out) (back.width * n) long)
            (sym done ∙ rw (tags, undone-back n list a.whole a.all-good)),
        rw (left, drop_at put (drop (back.width * n) out) (back.width * n) long),
      )

-- ---- Reading and writing.

writing-undoes-reading : Undoes writing reading
writing-undoes-reading = record {
  width = refl;
  some-width = omega arith;
  not-long = λ n h. omega arith;
  sized = length-unpacked;
  good = λ p l h. let r = packed-range p l h in number-is-tag (packed_number p) r.0 r.1;
  undone = λ p l h.
      rw (tag-of-words (packed_number p), packed-digits p l h) (pairs-of-halves 5 p l);
}

reading-undoes-writing : Undoes reading writing
reading-undoes-writing = record {
  width = refl;
  some-width = omega arith;
  not-long = λ n h. omega arith;
  sized = length-packed;
  good = λ p l h.
      let r = tag-range (get_or p 0 0) (get_or p 1 0) h in
      bytes_good (tag_of (get_or p 0 0) (get_or p 1 0)) r.not-zero r.at_most;
  undone = λ p l h.
      let d = get_or p 0 0 in
      let low = get_or p 1 0 in
      let r = tag-range d low h in
      rw (
        bytes-number (tag_of d low) r.at_most,
        digit-of-tag d low r.low_small,
        low-of-tag d low r.low_small,
      )
      (two-words p l);
}

pub read-is-written : ReadIsWritten
read-is-written = undone-list writing reading writing-undoes-reading

pub written-is-read : WrittenIsRead
written-is-read = undone-list reading writing reading-undoes-writing
