-- `tag_packed::pack` meets its contract: after i turns the first i bytes are those of the pairs.
use Rattle.std.proofs.Common.{◌≡◌, length, take}
use Rattle.tag_packed.specs.Packed.{pairs}
use Rattle.tag_packed.proofs.pack.Given as goal

abbrev pub invariant-loop-i : goal.invariant-loop-i
invariant-loop-i l = (length l.byte-items ≡ 5) × (take l.i l.byte-items ≡ take l.i (pairs 5 l.digits))
