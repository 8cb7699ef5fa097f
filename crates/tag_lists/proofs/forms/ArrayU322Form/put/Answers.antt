-- `put` of two words meets its contract: a tag has ten digits.
use Rattle.tag.proofs.DigitLaws.{last-are-digits}
use Rattle.tag_lists.proofs.forms.ArrayU322Form.put.Goals as goal

pub pack-requires : goal.pack-requires
pack-requires c = rw c.digits_of_words.ensures (last-are-digits 10 _)
