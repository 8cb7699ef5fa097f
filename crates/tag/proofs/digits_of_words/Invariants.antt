-- `tag::digits_of_words` meets its contract: after i turns the first 2i digits are those of the numbers of two.
use Rattle.std.proofs.Common.{◌≡◌, ◌*◌, length, take}
use Rattle.tag.proofs.TwoDigits.{parted}
use Rattle.tag.proofs.digits_of_words.Given as goal

abbrev pub invariant-loop-i : goal.invariant-loop-i
invariant-loop-i l = (length l.digits ≡ 10) × (take (2 * l.i) l.digits ≡ take (2 * l.i) (parted l.two-items))
