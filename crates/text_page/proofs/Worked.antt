-- Every page of the examples has the lines that it says, computed.
use mathlib.Core.Path.{◌≡◌, refl}
use mathlib.Core.List.{map}
use Rattle.tag.specs.Tags.{last_digits}
use Rattle.text.specs.Lines.{lines_of}
use Rattle.text_page.specs.Page.{cells, tag_lines, page_text}
use Rattle.text_page.specs.Examples.{Example, up_from, examples}

pub worked : map (λ (e : Example). e.given) examples ≡ map (λ (e : Example). e.are) examples
unfolding examples up_from page_text tag_lines cells lines_of last_digits
worked = refl
