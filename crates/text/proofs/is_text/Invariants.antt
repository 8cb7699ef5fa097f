-- `text::is_text` meets its contract. The loop's invariant: the flag tells of the bytes so far, and with what is left of
-- both texts of the whole.
use mathlib.Core.Path.{◌≡◌}
use mathlib.Core.Bool.{◌&&◌}
use lib.ListN.{length, drop}
use Rattle.text.specs.Text.{same}
use Rattle.text.proofs.is_text.Given as goal

abbrev pub invariant-loop-byte : goal.invariant-loop-byte
invariant-loop-byte l =
    let k = length l.yielded in
    (l.ok && same (drop k l.text) (drop k l.want)) ≡ same l.text l.want
