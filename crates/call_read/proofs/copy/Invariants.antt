-- `call_read::copy` meets its contract: the words written and the bags ahead are the out slice wanted.
use mathlib.Core.Path.{◌≡◌}
use mathlib.Core.List.{List}
use mathlib.Core.Option.{some}
use Prim.Native.Nat.{ℕ, ◌-◌}
use Rattle.lane_walk.specs.Walks.{ahead, count_of}
use Rattle.call_read.specs.Laid.{laid}
use Rattle.call_read.proofs.ReadLaws.{written}
use Rattle.call_read.proofs.copy.Given as goal

-- What holds before each turn.
pub record Turn (table out₀ out : List ℕ) (from n x i : ℕ) : Type 0 where
  pub bags-left : count_of (ahead table x) ≡ some (n - i)
  pub out-alike : written i (ahead table x) out ≡ laid (ahead table from) out₀

abbrev pub invariant-loop-i : goal.invariant-loop-i
invariant-loop-i l = Turn l.lanes.table.now l.initial.out l.out l.from l.n l.x l.i
