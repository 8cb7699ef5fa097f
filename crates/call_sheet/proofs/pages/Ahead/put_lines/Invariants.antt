-- `call_sheet::pages::Ahead::put_lines` meets its contract. The loop's invariant: storing the lines left gives what
-- storing all gives.
use mathlib.Core.Path.{◌≡◌}
use Prim.Native.Nat.{◌*◌, ◌-◌}
use lib.Seq.{sets}
use Rattle.text_page.specs.Page.{line_count, line_length, tag_line_count, tag_lines}
use Rattle.call_sheet.specs.Found.{tags_ahead}
use Rattle.call_sheet.proofs.pages.Ahead.put_lines.Given as goal

abbrev pub invariant-loop-i : goal.invariant-loop-i
invariant-loop-i l =
    sets l.out (line_length * l.i) (tag_lines (line_count - l.i) (tags_ahead l.rest))
    ≡ sets l.initial.out line_length (tag_lines tag_line_count (tags_ahead l.self))
