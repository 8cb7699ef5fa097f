-- Request 2026-01: the panel's list beside a run of the same list. The two statements leave no choice.
use Rattle.std.specs.Prelude.{◌≡◌, List, ℕ, ◌≤◌, ◌<◌, length}
use Rattle.std.proofs.Math.Option.{some}
use Rattle.machine.specs.Calls.{list_refusal, tested, run, panel}

-- 02: up to 32 ticks both leave the same table and the same words and return the same. On any table, refused or not.
abbrev pub PanelIsRun : Type 0
PanelIsRun = (ws list answers : List ℕ) → length list ≤ 64 → panel ws list answers ≡ run ws list answers

-- Over 32 ticks none is made: 3, 4 and 13 are given as by a run, and else 15, whatever room there is for answers.
abbrev pub PanelTooLong : Type 0
PanelTooLong =
    (ws list answers : List ℕ)
    → 64 < length list
    → panel ws list answers ≡ tested (list_refusal ws list (some 15)) ws list answers
