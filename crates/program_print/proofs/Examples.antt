-- The lines of 01's belt run with the tags of 02, and the other lines, computed.
use mathlib.Core.Path.{◌≡◌, refl}
use mathlib.Core.List.{List, [], ◌∷◌, ◌++◌}
use Prim.Native.Nat.{ℕ}
use Rattle.tag.specs.Tags.{last_digits, tags_in}
use Rattle.std.proofs.Common.{Ok, Err}
use Rattle.machine.specs.declared.answer.Answer.TheVariants as Answers
use Rattle.text.specs.Text.{bytes}
use Rattle.text.specs.Numerals.{digits_in, spaced}
use Rattle.program_print.specs.declared.CommandOutcome.{CommandOutcome}
use Rattle.program_print.specs.declared.CommandOutcome.TheVariants.{Replied, Ticked, Lane, Unread}
use Rattle.program_print.specs.Outcomes.{text_of}

-- The lines of some outcomes, over the same words.
abbrev printed : List CommandOutcome → (words : List ℕ) → List ℕ
printed [] words = []
printed (o ∷ os) words = text_of o words ++ printed os words

pub belt-run : printed
    (Replied (Ok (record {}))
    ∷ Replied (Ok (record {}))
    ∷ Ticked (Ok Answers.Going)
    ∷ Ticked (Ok Answers.Pushed)
    ∷ Lane (Ok 1)
    ∷ Replied (Ok (record {}))
    ∷ Ticked (Ok (Answers.Bag 51))
    ∷ Replied (Ok (record {}))
    ∷ Ticked (Ok Answers.Empty)
    ∷ Ticked (Err 10)
    ∷ [])
    (0 ∷ 51 ∷ [])
    ≡ bytes "(ok)\n(ok)\n(going)\n(pushed)\n(lane 0000000051)\n(ok)\n(bag 0000000051)\n(ok)\n(empty)\n(refused 10)\n"
unfolding last_digits tags_in spaced digits_in
belt-run = refl

pub other-lines : printed
    (Ticked (Ok Answers.Full)
    ∷ Ticked (Ok Answers.Yes)
    ∷ Ticked (Ok Answers.No)
    ∷ Unread
    ∷ Lane (Ok 0)
    ∷ Lane (Ok 2)
    ∷ Lane (Err 3)
    ∷ Replied (Err 1)
    ∷ [])
    (0 ∷ 51 ∷ 9 ∷ 999_999_999 ∷ 0 ∷ 7 ∷ [])
    ≡ bytes "(full)\n(yes)\n(no)\n(unread)\n(lane)\n(lane 0000000051 9999999999)\n(refused 3)\n(refused 1)\n"
unfolding last_digits tags_in spaced digits_in
other-lines = refl
