-- `program_stream::Session::serve_lines` meets its contract. The loop keeps what holds after each line.
use Prim.Native.Nat.{◌-◌}
use mathlib.Core.Path.{◌≡◌}
use lib.ListN.{length}
use Rattle.program_stream.specs.Carried.{loan}
use Rattle.program_stream.proofs.Laws.ServingLaws.{Serving}
use Rattle.program_stream.proofs.Session.serve_lines.Given as goal

abbrev pub invariant-loop-from : goal.invariant-loop-from
invariant-loop-from l =
    record {
      same_space : l.self.space.words.ghost_name ≡ l.initial.self.space.words.ghost_name;
      serving : Serving l.chunk l.start (loan l.initial.self) l.initial.out l.from (loan l.self) l.out l.at;
    }

abbrev pub decreases-loop-from : goal.decreases-loop-from
decreases-loop-from l = length l.chunk - l.from
