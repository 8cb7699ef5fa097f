-- Every example comes to what it says, computed.
use mathlib.Core.Path.{◌≡◌, refl}
use mathlib.Core.List.{map}
use Rattle.tag.specs.Tags.{last_digits, number_from}
use Rattle.text.specs.Lines.{lines_of}
use Rattle.airline_list.specs.Forms.{form_of}
use Rattle.airline_list.specs.Lists.{named, judged, verdict, end_for, list_text}
use Rattle.airline_list.specs.Examples.{Example, airlines, examples, Sending, sendings}

pub worked : map (λ (e : Example). e.given) examples ≡ map (λ (e : Example). e.is) examples
unfolding examples airlines last_digits number_from lines_of form_of named judged verdict list_text
worked = refl

pub worked-sendings : map (λ (s : Sending). s.given) sendings ≡ map (λ (s : Sending). s.is) sendings
unfolding sendings last_digits number_from lines_of form_of named judged verdict end_for
worked-sendings = refl
