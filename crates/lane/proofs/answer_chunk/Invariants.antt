-- The loop keeps what holds after each part of the chunk.
use Prim.Native.Nat.{◌-◌}
use mathlib.Core.Path.{◌≡◌}
use lib.ListN.{length}
use Rattle.program_stream.specs.Carried.{loan}
use Rattle.lane.proofs.TurnLaws.{Answering}
use Rattle.lane.proofs.answer_chunk.Given as goal

abbrev pub invariant-loop-from : goal.invariant-loop-from
invariant-loop-from g l =
    record {
      same_space : l.session.space.words.ghost_name ≡ l.initial.session.space.words.ghost_name;
      answering : Answering l.chunk (loan l.initial.session) l.initial.out l.from (loan l.session) l.out;
    }

abbrev pub decreases-loop-from : goal.decreases-loop-from
decreases-loop-from g l = length l.chunk - l.from
