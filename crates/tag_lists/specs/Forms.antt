-- A list of tags in either form of the code: what turning it into the other form answers.
use Rattle.std.specs.Prelude.{◌≡◌, ℕ, ◌*◌, Bool, true, cond, ◌&&◌, not, leb, ltb, List, length, Result, Ok, Err}
use Rattle.std.specs.List.{All, position_or_len}
use Rattle.tag_lists.specs.declared.ListError.{ListError}
use Rattle.tag_lists.specs.declared.ListError.TheVariants.{Tags, NoTag, TagsOut}

abbrev pub are_tags : {A : Type 0} (good : A → Bool) → List A → Type 0
are_tags good tags = All (λ tag. good tag ≡ true) tags

abbrev pub first_not : {A : Type 0} (good : A → Bool) → List A → ℕ
first_not good tags = position_or_len (λ tag. not (good tag)) tags

-- The refusals in their order. A list is whole where no part of a tag is left over.
abbrev pub answer : {A : Type 0} (good : A → Bool) (room : ℕ) (whole : Bool) (tags : List A) (length_of_out : ℕ)
    → Result ℕ ListError
answer good room whole tags n =
    cond (whole && leb (length tags) 1_024)
    (cond (ltb (first_not good tags) (length tags)) (Err (NoTag (first_not good tags)))
    (cond (ltb n (room * length tags)) (Err TagsOut) (Ok (length tags))))
    (Err Tags)
