-- The largest tag and the largest number, and numbers with zeros, computed.
use mathlib.Core.Path.{◌≡◌, refl}
use Rattle.tag.specs.Tags.{last_digits}
use Rattle.text.specs.Text.{bytes}
use Rattle.text.specs.Numerals.{digits_in, decimal, tag_text}

pub largest-tag : tag_text 9_999_999_999 ≡ bytes "9999999999"
unfolding last_digits
largest-tag = refl

pub inner-zeros : tag_text 1_000_000_020 ≡ bytes "1000000020"
unfolding last_digits
inner-zeros = refl

pub largest-word : decimal 4294967295 ≡ bytes "4294967295"
unfolding digits_in
largest-word = refl

pub zero-digit : decimal 0 ≡ bytes "0"
unfolding digits_in
zero-digit = refl
