-- A window fed after each tick counts the lost swaps.
use mathlib.Core.Path.{◌≡◌, refl, ap, ◌∙◌, subst}
use mathlib.Core.Bool.{Bool, true, false, cond}
use mathlib.Core.List.{List, [], ◌∷◌, map}
use Prim.Native.Nat.{ℕ, zero, suc, ◌+◌, ◌%◌, ◌^◌, ◌≤◌}
use native.Mathlib.Omega.{arith}
use lib.ListN.{take}
use borrow.Author.Tests.{eq-eqb}
use Rattle.machine.specs.Table.{tick_count}
use Rattle.machine.proofs.Basics.Contradiction.{clash}
use Rattle.window.specs.Lost.{is_lost}
use Rattle.window.specs.History.{Feed, lost_among, follows}
use Rattle.window.proofs.Kept.{Kept, kept_fresh, kept_on, answer-on}
use Rattle.window_contention.specs.LostSwaps.{step_at, Told}
use Rattle.window_contention.specs.Watched.{
  Tick,
  IsMade,
  by_tick,
  by_dispatch,
  in-run,
  in_panel,
  Consecutive,
  no_tick,
  first,
  later,
  LostCount,
  none_lost,
  one_lost,
  not_lost,
  feed_of,
  watched,
  CountsLostSwaps,
}
use Rattle.window_contention.proofs.Ticks.{lost-by-tick, lost-by-dispatch, lost-in-run, lost-in-panel}

-- Every tick that was made is told by the words.
told : {x : Tick} → IsMade x → Told x.before x.after x.task
told (by_tick ws k h made) = lost-by-tick ws k h made
told (by_dispatch ws h a is-a made) = lost-by-dispatch ws h a is-a made
told (in-run ws list answers i l) = lost-in-run ws list answers i l
told (in_panel ws list answers i l) = lost-in-panel ws list answers i l

-- ---- Consecutive ticks: all are made, and each count follows the one before.
abbrev AllMade : List Tick → Type 0
AllMade [] = Unit {0}
AllMade (x ∷ l) = IsMade x × AllMade l

row_made : {l : List Tick} → Consecutive l → AllMade l
row_made no_tick = tt
row_made (first made) = (made, tt)
row_made (later made same r) = (made, row_made r)

abbrev feeds : List Tick → List Feed
feeds l = map feed_of l

row-follows : {x : Tick} {l : List Tick} → Consecutive (x ∷ l) → follows (feeds l) (feed_of x) ≡ true
row-follows (first made) = refl
row-follows {x} (later {y = y} made same r) =
    eq-eqb (tick_count x.after) ((tick_count y.after + 1) % 2 ^ 32)
    ((told made).count_next ∙ ap (λ (n : ℕ). (n + 1) % 2 ^ 32) same)

row-rest : {x : Tick} {l : List Tick} → Consecutive (x ∷ l) → Consecutive l
row-rest (first made) = no_tick
row-rest (later made same r) = r

watched-kept : (W : ℕ) → 1 ≤ W → W ≤ 4_096 → (l : List Tick) → Consecutive l → Kept W (feeds l) (watched W l)
unfolding watched
watched-kept W least most [] r = kept_fresh W least most
watched-kept W least most (x ∷ l) r =
    kept_on (watched-kept W least most l (row-rest r)) (feed_of x) (row-follows r)

-- ---- The number of lost pairs is that of lost swaps.
one_more : (x : Tick) {l : List Tick} {n : ℕ} → IsMade x → LostCount l n
    → LostCount (x ∷ l) (cond (is_lost (step_at x.before x.task) (step_at x.after x.task)) 1 0 + n)
one_more x {l} {n} made C = go (is_lost (step_at x.before x.task) (step_at x.after x.task)) refl
  where
    go : (b : Bool) → is_lost (step_at x.before x.task) (step_at x.after x.task) ≡ b
        → LostCount (x ∷ l) (cond b 1 0 + n)
    go true e =
        let more : suc n ≡ 1 + n = omega arith in
        subst (LostCount (x ∷ l)) more (one_lost ((told made).lost_told.0 e) C)
    go false e =
        let same : n ≡ 0 + n = omega arith in
        subst (LostCount (x ∷ l)) same (not_lost (λ is. clash (cc ((told made).lost_told.1 is, e))) C)

counted : (n : ℕ) (l : List Tick) → AllMade l → LostCount (take n l) (lost_among (take n (feeds l)))
unfolding lost_among
counted zero l made = none_lost
counted (suc n) [] made = none_lost
counted (suc n) (x ∷ l) made = one_more x made.0 (counted n l made.1)

pub counts-lost-swaps : CountsLostSwaps
counts-lost-swaps W least most x l r =
    let kept = watched-kept W least most l (row-rest r) in
    (lost_among (take W (feeds (x ∷ l))), answer-on kept (feed_of x) (row-follows r), counted W (x ∷ l) (row_made r))
