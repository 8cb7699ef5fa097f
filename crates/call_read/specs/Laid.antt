-- The bags of a lane as a read writes them.
use Rattle.std.specs.Prelude.{List, ◌++◌, ℕ, ◌*◌, length, drop}
use Rattle.std.proofs.Math.Option.{Option, some, none}
use Rattle.tag.specs.Tags.{all_tag_words}

-- 01: the read writes bags in order and touches no later word. 02: two words for a tag.
abbrev pub laid : Option (List ℕ) → (out : List ℕ) → List ℕ
laid none out = out
laid (some bags) out = all_tag_words bags ++ drop (2 * length bags) out
