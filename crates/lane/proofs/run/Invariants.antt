-- The loop keeps what the bytes so far led to.
use mathlib.Core.Path.{◌≡◌}
use Rattle.program_stream.specs.Carried.{loan}
use Rattle.lane.proofs.TurnLaws.{Running}
use Rattle.lane.proofs.run.Given as goal

abbrev pub invariant-loop : goal.invariant-loop
invariant-loop g l =
    record {
      same_space : l.session.space.words.ghost_name ≡ l.initial.session.space.words.ghost_name;
      running : Running (loan l.initial.session) (loan l.session) l.initial.out l.out;
    }
