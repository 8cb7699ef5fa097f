-- What is kept of a line tells its command.
use mathlib.Core.Path.{◌≡◌}
use Rattle.text_scan.specs.Scanned.{Scanned}
use Rattle.text_scan.specs.Kept.{Kept, Represents}
use Rattle.program_command.specs.Commands.{command_of}
use Rattle.program_command.specs.KeptCommand.{kept_command}
use Rattle.program_command.proofs.Laws.FormLaws.{command-kept}

pub command-represents : {k : Kept} {σ : Scanned} → Represents k σ → kept_command k ≡ command_of σ
unfolding kept_command command_of
command-represents {k} {σ} R =
    rw (R.text_kept, R.width_kept) (command-kept σ R.well_scanned k.numbers R.first)
