-- A busy task has 4S + 153 ticks left where it is alone, and 6S + 153 where others tick, wherever they have left it.
use mathlib.Core.Path.{◌≡◌, refl}
use mathlib.Core.Logic.{◌≢◌, ◌⊎◌}
use Prim.Native.Nat.{ℕ, zero, suc, ◌+◌, ◌*◌, ◌≤◌, ◌<◌}
use native.Mathlib.Omega.{arith}
use Rattle.machine.specs.Sides.{Side}
use Rattle.machine.specs.Operations.{idle, push, add}
use Rattle.machine.specs.Steps.{Step, rest, line31}
use Rattle.machine.specs.Steps as Steps
use Rattle.machine.specs.Tasks.{Task}
use Rattle.machine.proofs.Words.Memories.{View}
use Rattle.machine.proofs.Linearizability.Model.Classes.{Class}
use Rattle.machine.proofs.Linearizability.Model.Phases.{TaskOk}
use Rattle.machine_progress.proofs.SoloBound.Walks.{EndsWithin}
use Rattle.machine_progress.proofs.SoloBound.Budget.{
  late,
  walk_ticks,
  Walking,
  reads,
  fails,
  start-anywhere,
  push-stale,
  choose-stale,
  seek-stale,
  step-stale,
  Left,
}

-- The most ticks that a task has left.
abbrev pub most : (extra S : ℕ) → ℕ
most extra S = walk_ticks extra S + 153

-- The walk from x, which has at most S links.
whole-walk : {extra S : ℕ} {out : ℕ → ℕ} → ((x : ℕ) → EndsWithin out S x) → (x c : ℕ) → c ≤ 153
    → Walking extra out x c (most extra S)
whole-walk {extra} {S} short x c h = record { links = S; ends = short x; within = omega arith }

four-a-link : (extra S : ℕ) → 4 * S ≤ walk_ticks extra S
four-a-link extra zero = omega arith
four-a-link extra (suc S) = omega (arith, four-a-link extra S)

enough : (extra S : ℕ) → 4 * S + 153 ≤ most extra S
enough extra S = omega (arith, four-a-link extra S)

module _ (k extra S g : ℕ) (little : extra ≤ 2) {s o : Side} (m : View) {class : ℕ → Class}
    (short : (x : ℕ) → EndsWithin m.out S x) (t : Task) (busy : t.operation ≢ idle)
    (few : (t.operation ≡ push) ⊎ (t.operation ≡ add) → g ≤ 64) where
  pub left-at-first : (st : Step) → TaskOk k s o m class st t → (st ≡ line31 → t.counted < g)
      → Left extra st S g s m t (most extra S)
  left-at-first rest h c = absurd (busy h.belongs)
  left-at-first Steps.line2 h c = start-anywhere (omega (arith, enough extra S))
  left-at-first Steps.line3 h c = push-stale (omega (arith, enough extra S))
  left-at-first Steps.line5 h c = push-stale (omega (arith, enough extra S))
  left-at-first Steps.line8 h c = choose-stale (omega (arith, enough extra S))
  left-at-first Steps.line15 h c = late (omega (arith, enough extra S))
  left-at-first Steps.line17 h c = seek-stale (short t.A) (omega (arith, enough extra S))
  left-at-first Steps.line18 h c = step-stale (short t.A) (omega (arith, enough extra S))
  left-at-first Steps.line24 h c = late (omega (arith, enough extra S))
  left-at-first Steps.line25 h c = late (omega (arith, enough extra S))
  left-at-first Steps.line28 h c = late (omega (arith, enough extra S))
  left-at-first Steps.line31 h c =
      record { below = c refl; when = late (omega (arith, enough extra S, few h.belongs)) }
  left-at-first Steps.line39 h c = omega (arith, enough extra S)
  left-at-first Steps.line40 h c = late (omega (arith, enough extra S))
  left-at-first Steps.line42 h c = late (omega (arith, enough extra S))
  left-at-first Steps.line48 h c = late (omega (arith, enough extra S))
  left-at-first Steps.line51 h c = late (omega (arith, enough extra S))
  left-at-first Steps.line54 h c = omega arith
  left-at-first Steps.line56 h c = whole-walk short t.A 3 (omega arith)
  left-at-first Steps.line58 h c = whole-walk short t.A 2 (omega arith)
  left-at-first Steps.line60 h c = whole-walk short t.A 1 (omega arith)
  left-at-first Steps.line62 h c = whole-walk short t.B 4 (omega arith)
  left-at-first Steps.line64 h c = whole-walk short t.B 3 (omega arith)
  left-at-first Steps.line67 h c = omega (arith, enough extra S)
  left-at-first Steps.line68 h c = late (omega (arith, enough extra S))
  left-at-first Steps.line69 h c = late (omega (arith, enough extra S))
  left-at-first Steps.line70 h c = late (omega (arith, enough extra S))
  left-at-first Steps.line72 h c = late (omega (arith, enough extra S))
  left-at-first Steps.line74 h c = whole-walk short t.B 2 (omega arith)
  left-at-first Steps.line77 h c = reads (whole-walk short t.B (5 + extra) (omega arith))
  left-at-first Steps.line78 h c = fails (whole-walk short t.B (6 + extra) (omega arith))
  left-at-first Steps.line79 h c = whole-walk short t.B 3 (omega arith)
  left-at-first Steps.line81 h c = whole-walk short t.A 2 (omega arith)
  left-at-first Steps.line82 h c = omega (arith, enough extra S)
