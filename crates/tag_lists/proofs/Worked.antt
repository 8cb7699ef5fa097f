-- Every example comes to what it says, computed.
use mathlib.Core.Path.{◌≡◌, refl}
use mathlib.Core.List.{map}
use Rattle.tag.specs.Tags.{last_digits, number_from, are_digits}
use Rattle.tag_packed.specs.Packed.{halves, pairs}
use Rattle.tag_lists.specs.TagLists.{first_bad, turned_all}
use Rattle.tag_lists.specs.Examples.{Example, examples}

pub worked : map (λ (e : Example). e.given) examples ≡ map (λ (e : Example). e.is) examples
unfolding examples last_digits number_from are_digits halves pairs first_bad turned_all
worked = refl
