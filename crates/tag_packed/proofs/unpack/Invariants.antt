-- `tag_packed::unpack` meets its contract: after i bytes the first 2i digits are their halves.
use Rattle.std.proofs.Common.{◌≡◌, ◌*◌, length, take}
use Rattle.tag_packed.specs.Packed.{halves}
use Rattle.tag_packed.proofs.unpack.Given as goal

abbrev pub invariant-loop-i : goal.invariant-loop-i
invariant-loop-i l = (length l.digits ≡ 10) × (take (2 * l.i) l.digits ≡ take (2 * l.i) (halves l.byte-items))
