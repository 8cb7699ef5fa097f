use mathlib.Core.Path.{◌≡◌, refl, sym, ◌∙◌}
use mathlib.Core.List.{[], ◌∷◌, ◌++◌}
use Prim.Native.Nat.{suc}
use native.Mathlib.Omega.{arith}
use lib.ListN.{length, length-append}
use Rattle.std.specs.Slice.Iter.{chunks_exact_rest}
use Rattle.text.proofs.Laws.WritingLaws.{written-append, written-long}
use Rattle.text.proofs.Laws.Rows.{tag-length, pair-fits, pair-rest, pair-tag, no-tag-written, tag-written}
use Rattle.text.proofs.Writer.put_tags.Goals as goal

pub loop-pair-init : goal.loop-pair-init
loop-pair-init c =
    let a = c.args in
    let it = c.into_iter-pair-iterator.ensures.into_iter_gives in (
      rw it c.chunks_exact-pair-items.ensures.size,
      rw it c.chunks_exact-pair-items.ensures.rest,
      omega arith,
      omega arith,
      refl,
      refl,
      no-tag-written a.self.now.out.now a.words.now a.self.now.at,
    )

pub loop-pair-preserved : goal.loop-pair-preserved
loop-pair-preserved c =
    let l = c.loop-pair in
    let words = c.args.words.now in
    let k = length l.yielded in
    let pair = c.in-Some.pair.now in
    let steps = c.in-Some.ensures.steps in
    let rest = chunks_exact_rest c.next.new.self in
    let two = steps.1.1 ∙ l.invariant.0 in
    let left = sym l.invariant.1 ∙ steps.1.0 in
    let more : length (l.yielded ++ (c.in-Some.pair ∷ [])) ≡ suc k = simp length-append (omega arith) in
    let tag = c.number.ensures ∙ pair-tag words k pair rest left two in
    let one = written-append c.put.ensures.written c.put_tag.ensures.written in
    rw more (
      steps.0 ∙ l.invariant.0,
      pair-rest words k pair rest left two,
      omega (arith, pair-fits words k pair rest left two),
      omega (arith, l.invariant.3, one.end, tag-length c.number.result),
      c.put_tag.ensures.same_buffer ∙ c.put.ensures.same_buffer ∙ l.invariant.4,
      written-long one ∙ l.invariant.5,
      tag-written words k tag l.invariant.6 one,
    )
