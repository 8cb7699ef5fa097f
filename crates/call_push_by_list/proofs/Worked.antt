-- Every example comes to what it says, computed.
use mathlib.Core.Path.{◌≡◌, refl}
use mathlib.Core.List.{map}
use mathlib.Core.Option.{bind}
use native.Mathlib.Decide.{ℕ_discrete, dec_lt}
use Rattle.tag.specs.Tags.{last_digits, number_from}
use Rattle.machine.specs.Values.{decode}
use Rattle.machine.specs.Table.{hat, link, value, task}
use Rattle.machine.specs.Shape.{all_below, same_words, node_ok, record_ok, shape_ok}
use Rattle.machine.specs.Calls.{times, start_nodes, start_words, begin, is_begun, lane_from, lane, lanes_below}
use Rattle.text.specs.Lines.{lines_of}
use Rattle.airline_list.specs.Forms.{form_of}
use Rattle.airline_list.specs.Lists.{named, judged, verdict, end_for}
use Rattle.machine.specs.PushByList.{push_by_list}
use Rattle.call_push_by_list.specs.Examples.{Example, by, examples, Sided, side_after, sides}

pub worked : map (λ (e : Example). (by e.given).answer) examples ≡ map (λ (e : Example). e.answers) examples
unfolding examples push_by_list last_digits number_from lines_of form_of named judged verdict end_for ℕ_discrete dec_lt decode
    hat link value task all_below same_words node_ok record_ok shape_ok times start_nodes start_words begin is_begun lane_from
    lane lanes_below bind
worked = refl

pub worked-sides : map side_after sides ≡ map (λ (s : Sided). s.side) sides
unfolding sides push_by_list last_digits number_from lines_of form_of named judged verdict end_for ℕ_discrete dec_lt decode hat
    link value task all_below same_words node_ok record_ok shape_ok times start_nodes start_words begin is_begun lane_from lane
    lanes_below bind
worked-sides = refl
