-- The text and the numerals that a line is written with decide alone what it says.
use mathlib.Core.List.{List, [], ◌∷◌, map}
use mathlib.Core.Path.{◌≡◌}
use Prim.Native.Nat.{ℕ}
use lib.ListN.{length}
use Rattle.text_scan.specs.Written.{value, Written, width_after, last_width}
use Rattle.text_scan.proofs.WrittenLaws.{written-scanned}
use Rattle.program_command.specs.Commands.{begin_text, push_of, command_with, command_of, command_read}

written-says : {line text : List ℕ} {numerals : List (List ℕ)} → Written line text numerals
    → command_read line ≡ command_with text (map value numerals) (last_width numerals)
unfolding command_read command_of last_width
written-says w = let r = written-scanned w in rw (r.text-found, r.numbers-found, r.width-found)

-- The tag of a push is its second numeral, and is as wide as that has digits.
pub push-left-says : {line ds es : List ℕ} → Written line (begin_text "push" "left") (ds ∷ es ∷ [])
    → command_read line ≡ push_of 0 (value ds) (value es) (length es)
unfolding command_with width_after last_width
push-left-says w = written-says w

pub push-right-says : {line ds es : List ℕ} → Written line (begin_text "push" "right") (ds ∷ es ∷ [])
    → command_read line ≡ push_of 1 (value ds) (value es) (length es)
unfolding command_with width_after last_width
push-right-says w = written-says w
