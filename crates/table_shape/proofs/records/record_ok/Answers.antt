-- The operation decides which of the two tests is asked.
use mathlib.Core.Path.{◌≡◌, sym, ◌∙◌}
use mathlib.Core.Bool.{Bool}
use native.Mathlib.Omega.{arith}
use lib.Dec.{eqb}
use borrow.Author.Tests.{eqb-false}
use Rattle.machine.specs.Shape.{record_ok}
use Rattle.table_layout.proofs.Laws.Numbers.{idle-number}
use Prim.Native.Nat.{ℕ}
use Rattle.machine.specs.Operations.{operation_of}
use Rattle.machine.specs.Calls.{is_idle}
use Rattle.table_shape.proofs.records.record_ok.Goals as goal

by_word : (n : ℕ) {r b : Bool} → r ≡ is_idle (operation_of n) → r ≡ b → eqb n 0 ≡ b
by_word n says e = idle-number n ∙ sym says ∙ e

pub returns-then-is_idle : goal.returns-then-is_idle
unfolding record_ok
returns-then-is_idle c = rw (by_word c.args.t.operation c.is_idle.ensures c.if-is_idle.true) c.is_fresh.ensures

pub busy_ok-requires : goal.busy_ok-requires
busy_ok-requires c =
    let t = c.args.t in
    let busy = eqb-false t.operation 0 (by_word t.operation c.is_idle.ensures c.if-is_idle.false) in
    record { owners_ok = c.requires; le_operation = omega arith }

pub returns : goal.returns
unfolding record_ok
returns c = rw (by_word c.args.t.operation c.is_idle.ensures c.if-is_idle.false) c.busy_ok.ensures
