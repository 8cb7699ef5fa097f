-- Consecutive ticks, one after another: the one made, and those left of the table that it leaves.
use Rattle.std.proofs.Common.{◌≡◌, sym, ap, ◌∙◌, subst, true, false, arith, List, ℕ, suc, ◌+◌, ◌-◌, ◌<◌}
use Rattle.machine.specs.Outcomes.Answer.{Going}
use Rattle.machine.specs.Answers.{is_going}
use Rattle.machine.specs.Shape.{WellFormed}
use Rattle.machine.specs.Calls.{Ticked, tick_on, tick, ticks}
use Rattle.machine.specs.Demand3.{tick_call}
use Rattle.machine.proofs.Shape.ShapeKept.{tick-passes, call-accepted}
use Rattle.machine.proofs.Words.RunLaws.{first-goes-on, first-is-last}
use Rattle.table_shape.proofs.Laws.PassedTable.{table-passed}
use Rattle.tick_once.proofs.Laws.TickTests.{tick-refused, ticks-refused}

-- ---- A tick on a table that has passed the tests of refusals 3 and 4.
module _ (ws : List ℕ) (P : WellFormed ws) (k h : ℕ) {t : Ticked} (ticked : t ≡ tick_on ws k h) where
  pub is_tick : t ≡ tick ws k h
  is_tick = ticked ∙ sym (tick-passes ws P k h)

  -- It leaves a table that passes the tests.
  pub tick-passed : WellFormed t.words
  tick-passed =
      subst WellFormed (sym (ap (λ (t : Ticked). t.words) is_tick)) (call-accepted ws P (tick_call k h))

  same-going : is_going (tick ws k h).answer ≡ is_going t.answer
  same-going = ap (λ (t : Ticked). is_going t.answer) (sym is_tick)

  -- It is the last of those left, or the others follow.
  module _ (times made : ℕ) (left : made < times) {all : Ticked} (so_far : ticks (times - made) ws k h ≡ all) where
    one-of-them : suc (times - (made + 1)) ≡ times - made
    one-of-them = omega arith

    as_left : ticks (suc (times - (made + 1))) ws k h ≡ all
    as_left = ap (λ (n : ℕ). ticks n ws k h) one-of-them ∙ so_far

    pub ticks_end : is_going t.answer ≡ false → t ≡ all
    ticks_end g = is_tick ∙ sym (first-is-last (times - (made + 1)) ws k h (same-going ∙ g)) ∙ as_left

    pub others-follow : is_going t.answer ≡ true → ticks (times - (made + 1)) t.words k h ≡ all
    others-follow g =
        ap (λ (t : Ticked). ticks (times - (made + 1)) t.words k h) is_tick
        ∙ sym (first-goes-on (times - (made + 1)) ws k h (same-going ∙ g))
        ∙ as_left

-- Before the first all are left, and after the last none.
pub all_left : (ws : List ℕ) (k h times : ℕ) → ticks (times - 0) ws k h ≡ ticks times ws k h
all_left ws k h times = let e : times - 0 ≡ times = omega arith in ap (λ (n : ℕ). ticks n ws k h) e

pub none_left : (ws : List ℕ) (k h : ℕ) {n : ℕ} → n ≡ 0 → record { answer = Going; words = ws } ≡ ticks n ws k h
unfolding ticks
none_left ws k h e = rw e

-- What a tick, and consecutive ones, rest on.
pub ruleset made = (all_left, none_left)

pub ruleset passed = (table-passed, tick-refused, ticks-refused, none_left, is_tick)
