-- The text is none of a push, and each number is small: the line has another form, or none.
use mathlib.Core.Path.{sym, ◌∙◌}
use borrow.Author.Tests.{le-leb}
use Rattle.program_command.specs.Commands.{command_with}
use Rattle.program_command.specs.KeptCommand.{kept_command}
use Rattle.program_command.proofs.scanned_command.Goals as goal

pub returns : goal.returns
unfolding command_with kept_command
returns c =
    rw (
      ← c.text-text.ensures,
      sym c.is_text.ensures ∙ c.if-is_text.false,
      sym c.is_text-2.ensures ∙ c.if-is_text-2.false,
      ← c.number.ensures,
      ← c.number-2.ensures,
      ← c.number-3.ensures,
      le-leb _ _ c.in_ok-within_word.ensures.1,
      le-leb _ _ c.in_ok-within_word-2.ensures.1,
      le-leb _ _ c.in_ok-within_word-3.ensures.1,
      ← c.in_ok-within_word.ensures.0,
      ← c.in_ok-within_word-2.ensures.0,
      ← c.in_ok-within_word-3.ensures.0,
    )
    c.form_of.ensures
