-- `text::Writer::put_tags` meets its contract. The loop's invariant: the tags so far are written.
use mathlib.Core.Path.{◌≡◌}
use Prim.Native.Nat.{◌+◌, ◌*◌, ◌≤◌}
use lib.ListN.{length, drop}
use Rattle.std.specs.Slice.Iter.{chunks_exact_rest, chunks_exact_size}
use Rattle.tag.specs.Tags.{tags_in}
use Rattle.text.specs.Numerals.{spaced}
use Rattle.text.specs.Writing.{Written}
use Rattle.text.proofs.Writer.put_tags.Given as goal

abbrev pub invariant-loop-pair : goal.invariant-loop-pair
invariant-loop-pair l =
    let k = length l.yielded in
    let w = l.initial.self in
    (chunks_exact_size l.pair-iterator ≡ 2)
    × (chunks_exact_rest l.pair-iterator ≡ drop (2 * k) l.words)
    × (2 * k ≤ length l.words)
    × (l.self.at ≤ w.at + 11 * k)
    × (l.self.out.ghost_name ≡ w.out.ghost_name)
    × (length l.self.out.now ≡ length w.out.now)
    × Written w.out.now w.at (spaced (tags_in k l.words)) l.self.out.now l.self.at
