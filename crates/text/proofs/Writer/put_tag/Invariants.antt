-- `text::Writer::put_tag` meets its contract. The loop's invariant: the digits so far are characters.
use mathlib.Core.Path.{◌≡◌}
use mathlib.Core.List.{map, ◌++◌}
use Prim.Native.Nat.{ℕ, ◌+◌}
use lib.ListN.{take, drop}
use Rattle.tag.specs.Tags.{ten_digits}
use Rattle.text.proofs.Writer.put_tag.Given as goal

abbrev pub invariant-loop-digit : goal.invariant-loop-digit
invariant-loop-digit l =
    l.digit-items ≡ map (λ (d : ℕ). 48 + d) (take l.digit-index (ten_digits l.tag)) ++ drop l.digit-index (ten_digits l.tag)
