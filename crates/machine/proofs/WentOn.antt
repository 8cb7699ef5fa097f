-- Consecutive dispatches: how many went on is told by the tick count, which each tick made raises by one.
use mathlib.Core.Path.{◌≡◌, refl, sym, ap, ◌∙◌}
use mathlib.Core.Bool.{Bool, true, false, cond}
use mathlib.Core.List.{List}
use mathlib.Core.Option.{some, none}
use Prim.Native.Nat.{ℕ, zero, suc, ◌+◌, ◌%◌, ◌^◌, ◌<◌, ◌≤◌}
use native.Mathlib.Omega.{arith}
use Rattle.machine.specs.Outcomes.Answer.{Going, Pushed, Bag, Empty, Full, Yes, No, Refused}
use Rattle.machine.specs.Outcomes.Dispatch.{Dispatch, Idle, Answered}
use Rattle.machine.specs.Table.{tick_count, set_dispatched}
use Rattle.machine.specs.Shape.{WellFormed, sizes_of, WellSized}
use Rattle.machine.specs.Answers.{refusal_of, dispatch_goes_on, ends_call}
use Rattle.machine.specs.Calls.{tick_refusal, tick_on, Dispatched, dispatch, dispatches, went_on}
use Rattle.machine.specs.Demand3.{dispatch_call}
use Rattle.machine.specs.WentOn.{ended_one, CountTells}
use Rattle.machine.proofs.Basics.Contradiction.{clash}
use Rattle.machine.proofs.Words.Columns.{columns}
use Rattle.machine.proofs.Words.TableLaws.{columns-set_dispatched}
use Rattle.machine.proofs.Words.TickLaws.{tick-answer, tick-columns}
use Rattle.machine.proofs.Words.DispatchLaws.{others-follow, one-went-on, none-follows, none-went-on}
use Rattle.machine.proofs.Shape.ShapeLaws.{WellShaped, well_sized, well-shaped}
use Rattle.machine.proofs.Shape.TickKeeps.{tick-kept}
use Rattle.machine.proofs.Shape.DispatchCases.{by_dispatch}
use Rattle.machine.proofs.Shape.ShapeKept.{is-accepted, call-accepted}

-- The ticks that a dispatch makes: one, unless it is refused or finds no task busy.
ticks_of : Dispatch → ℕ
ticks_of Idle = 0
ticks_of (Answered a) = elim (refusal_of a) as (λ _. ℕ) [ some n ↦ 0 | none ↦ 1 ]

-- One that goes on is one tick; another one is if it ends a call.
goes-on-ticks : (d : Dispatch) → dispatch_goes_on d ≡ true → ticks_of d ≡ 1
unfolding ticks_of
goes-on-ticks Idle e = clash (cc)
goes-on-ticks (Answered Going) e = refl
goes-on-ticks (Answered Pushed) e = clash (cc)
goes-on-ticks (Answered (Bag b)) e = clash (cc)
goes-on-ticks (Answered Empty) e = clash (cc)
goes-on-ticks (Answered Full) e = clash (cc)
goes-on-ticks (Answered Yes) e = clash (cc)
goes-on-ticks (Answered No) e = clash (cc)
goes-on-ticks (Answered (Refused n)) e = clash (cc)

last-ticks : (d : Dispatch) → dispatch_goes_on d ≡ false → ticks_of d ≡ ended_one d
unfolding ticks_of
last-ticks Idle e = refl
last-ticks (Answered Going) e = clash (cc)
last-ticks (Answered Pushed) e = refl
last-ticks (Answered (Bag b)) e = refl
last-ticks (Answered Empty) e = refl
last-ticks (Answered Full) e = refl
last-ticks (Answered Yes) e = refl
last-ticks (Answered No) e = refl
last-ticks (Answered (Refused n)) e = refl

module _ (ws : List ℕ) (A : WellFormed ws) (h : ℕ) where
  Z : WellSized (sizes_of ws)
  Z = well_sized ws A.length_passes

  W : WellShaped (columns ws)
  W = well-shaped ws A.length_passes A.shape_passes

  made_counted : (k : ℕ) → tick_refusal ws k h ≡ none → refusal_of (tick_on ws k h).answer ≡ none
      → tick_count (set_dispatched k (tick_on ws k h).words) ≡ (tick_count ws + 1) % 2 ^ 32
  made_counted k passes made =
      ap (λ c. c.counts.tick_count)
      (columns-set_dispatched (tick_on ws k h).words (tick-kept ws Z W k h).well_sized.sized k)
      ∙ ap (λ c. c.counts.tick_count)
      (tick-columns ws k h passes Z W (ap refusal_of (sym (tick-answer ws k h passes)) ∙ made))

  dispatch-counted : tick_count ws < 2 ^ 32
      → tick_count (dispatch ws h).words ≡ (tick_count ws + ticks_of (dispatch ws h).answer) % 2 ^ 32
  unfolding ticks_of
  dispatch-counted is_IsWord =
      by_dispatch ws A h (λ (r : Dispatched). tick_count r.words ≡ (tick_count ws + ticks_of r.answer) % 2 ^ 32)
      (omega arith) (λ e. omega arith) (λ k n e q. rw (q, ticks_of) (omega arith))
      (λ k e passes made. rw (made, ticks_of) (made_counted k passes made))

-- The sum, not yet wrapped: what the ticks so far and those left come to.
row-counted : (n : ℕ) (ws : List ℕ) → WellFormed ws → tick_count ws < 2 ^ 32 → (h : ℕ)
    → tick_count (dispatches n ws h).words
    ≡ (tick_count ws + (went_on n ws h + ended_one (dispatches n ws h).answer)) % 2 ^ 32
unfolding dispatches went_on
row-counted zero ws A is_IsWord h = omega arith
row-counted (suc n) ws A is_IsWord h =
    go (dispatch_goes_on (dispatch ws h).answer) refl
    (λ w. row-counted n (dispatch ws h).words (call-accepted ws A (dispatch_call h)) w h)
  where
    first : tick_count (dispatch ws h).words ≡ (tick_count ws + ticks_of (dispatch ws h).answer) % 2 ^ 32
    first = dispatch-counted ws A h is_IsWord

    go : (b : Bool) → dispatch_goes_on (dispatch ws h).answer ≡ b
        → (tick_count (dispatch ws h).words < 2 ^ 32
        → tick_count (dispatches n (dispatch ws h).words h).words
        ≡ (tick_count (dispatch ws h).words
        + (went_on n (dispatch ws h).words h + ended_one (dispatches n (dispatch ws h).words h).answer))
        % 2 ^ 32)
        → tick_count (dispatches (suc n) ws h).words
        ≡ (tick_count ws + (went_on (suc n) ws h + ended_one (dispatches (suc n) ws h).answer)) % 2 ^ 32
    go false e others =
        rw (none-follows n ws h e, none-went-on n ws h e)
        (let same = last-ticks (dispatch ws h).answer e in omega (arith, first, same))
    go true e others =
        rw (others-follow n ws h e, one-went-on n ws h e)
        (let one = goes-on-ticks (dispatch ws h).answer e in
        let rest = others (omega (arith, first)) in
        omega (arith, first, one, rest))

-- At most one for each that is asked for.
one_at_most : (d : Dispatch) → ended_one d ≤ 1
one_at_most Idle = omega arith
one_at_most (Answered a) = go (ends_call a)
  where
    go : (b : Bool) → cond b 1 0 ≤ 1
    go true = omega arith
    go false = omega arith

row-bound : (n : ℕ) (ws : List ℕ) (h : ℕ) → went_on n ws h + ended_one (dispatches n ws h).answer ≤ n
unfolding dispatches went_on
row-bound zero ws h = omega arith
row-bound (suc n) ws h = go (dispatch_goes_on (dispatch ws h).answer) refl (row-bound n (dispatch ws h).words h)
  where
    go : (b : Bool) → dispatch_goes_on (dispatch ws h).answer ≡ b
        → went_on n (dispatch ws h).words h + ended_one (dispatches n (dispatch ws h).words h).answer ≤ n
        → went_on (suc n) ws h + ended_one (dispatches (suc n) ws h).answer ≤ suc n
    go false e others =
        rw (none-follows n ws h e, none-went-on n ws h e)
        (omega (arith, one_at_most (dispatch ws h).answer))
    go true e others = rw (others-follow n ws h e, one-went-on n ws h e) (omega arith)

pub count-tells : CountTells
count-tells ws passes is_IsWord h n few =
    let counted = row-counted n ws (is-accepted ws passes) is_IsWord h in
    let bound = row-bound n ws h in
    omega (arith, counted, bound)
