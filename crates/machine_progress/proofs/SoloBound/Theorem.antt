-- Request 2026-08: in every table that our calls lead to, and wherever a row is known, a busy task that alone is ticked
-- answers within 4S + 154 ticks, and so within 8S + 400.
use mathlib.Core.Path.{◌≡◌, refl, sym, ap, ◌∙◌, subst}
use mathlib.Core.Bool.{true}
use mathlib.Core.List.{List, [], ◌∷◌, map}
use mathlib.Core.Option.{none}
use Prim.Native.Nat.{ℕ, zero, suc, ◌+◌, ◌*◌, ◌-◌, ◌≤◌, ◌<◌}
use native.Mathlib.Omega.{arith}
use lib.ListN.{length}
use Rattle.machine.specs.Outcomes.Dispatch.{Answered}
use Rattle.machine.specs.Table.{node_count, task, set_dispatched}
use Rattle.machine.specs.Shape.{WellFormed}
use Rattle.machine.specs.Calls.{is_busy, tick_refusal, effect_of, Ticked, tick_on, tick, dispatch}
use Rattle.machine.specs.Demand3.{tick_call, dispatch_call}
use Rattle.machine_progress.specs.Solo.{
  AloneMove,
  own_tick,
  dispatch-to,
  other_call,
  own_ticks,
  Alone,
  AnswersAlone,
  answers_now,
  answers_later,
  dispatch-answers,
  dispatch-goes-on,
  words_left,
  AnswersWithinAt,
  SoloBound,
  SoloBoundWhereKnown,
  CloserSoloBound,
  HintsBelow,
}
use Rattle.machine.proofs.Basics.Contradiction.{clash}
use Rattle.machine.proofs.Words.TickLaws.{tick-answer}
use Rattle.machine.proofs.Shape.TickKeeps.{busy-passes}
use Rattle.machine.proofs.Shape.ShapeKept.{tick-call-kept, call-accepted}
use Rattle.machine.proofs.Linearizability.Calls.Agreement.{Agrees}
use Rattle.machine.proofs.Linearizability.Calls.MadeTicks.{effect-made}
use Rattle.machine.proofs.Linearizability.Corollaries.{tick-passes}
use Rattle.machine_progress.proofs.SoloBound.Led.{Led, begun-led, led-call, where-led}
use Rattle.machine_progress.proofs.SoloBound.Budget.{walk_ticks}
use Rattle.machine_progress.proofs.SoloBound.AtFirst.{most}
use Rattle.machine_progress.proofs.SoloBound.EndsOrGoes.{by_answer, ends-or-goes}
use Rattle.machine_progress.proofs.SoloBound.SoloTick.{LeftIn, left-in-first, continues}
use Rattle.machine_progress.proofs.Drain.DispatchTick.{
  Does,
  is-idle,
  is_tick,
  dispatch-does,
  own-then,
  left-then,
}

-- What the moves after the first come to, with more of the task's ticks to come than it has left.
abbrev Others : (k n : ℕ) → List AloneMove → List ℕ → Type 0
Others k n moves ws =
    Led ws
    → is_busy (task ws k).operation ≡ true
    → LeftIn 0 ws k n
    → n < own_ticks moves
    → Alone k moves ws
    → AnswersAlone k moves ws

module _ {ws : List ℕ} (X : Led ws) (k n h : ℕ) (busy : is_busy (task ws k).operation ≡ true) (B : LeftIn 0 ws k n)
    (moves : List AloneMove) (more : n < suc (own_ticks moves)) where
  A : Agrees ws X.row
  A = X.agrees

  -- A tick, and the others after it.
  by_tick : Alone k (own_tick h ∷ moves) ws → Others k (n - 1) moves (tick ws k h).words
      → AnswersAlone k (own_tick h ∷ moves) ws
  by_tick alone others =
      let p = busy-passes ws k h busy alone.0 in
      ends-or-goes X k h p (AnswersAlone k (own_tick h ∷ moves) ws) (λ e. answers_now e) (λ says going.
      let C = continues 0 X k h n p B going in
      let on = ap (λ (r : Ticked). r.words) (sym (tick-passes A k h)) in
      answers_later says
      (others (led-call X (tick_call k h))
      (subst (λ (vs : List ℕ). is_busy (task vs k).operation ≡ true) on C.busy-after)
      (subst (λ (vs : List ℕ). LeftIn 0 vs k (n - 1)) on C.left_after) (omega (arith, C.some)) (alone.1 says)))

  -- A dispatch that reaches the task is its tick.
  by_dispatch : Alone k (dispatch-to h ∷ moves) ws → Others k (n - 1) moves (dispatch ws h).words
      → AnswersAlone k (dispatch-to h ∷ moves) ws
  by_dispatch alone others = go (dispatch-does X h alone.0)
    where
      made : tick_refusal ws k h ≡ none
          → (dispatch ws h).answer ≡ Answered (tick_on ws k h).answer
          → (dispatch ws h).words ≡ set_dispatched k (tick_on ws k h).words
          → AnswersAlone k (dispatch-to h ∷ moves) ws
      made p says leaves =
          let is = says ∙ ap Answered (tick-answer ws k h p) in
          by_answer (effect_of ws k h).answer (effect-made A k h p) (AnswersAlone k (dispatch-to h ∷ moves) ws)
          (λ e. dispatch-answers (effect_of ws k h).answer is e)
          (λ going.
          let went_on = is ∙ ap Answered going in
          let on = sym leaves in
          let left = left-then X k h p going B in
          dispatch-goes-on went_on
          (others (led-call X (dispatch_call h))
          (subst (λ (vs : List ℕ). is_busy (task vs k).operation ≡ true) on (own-then X k h p going))
          (subst (λ (vs : List ℕ). LeftIn 0 vs k (n - 1)) on left.1) (omega (arith, left.0)) (alone.2 went_on)))

      go : Does X h alone.0 (dispatch ws h) → AnswersAlone k (dispatch-to h ∷ moves) ws
      go (is-idle e all-idle) = clash (cc (all-idle k))
      go (is_tick j chosen p says leaves) =
          let same : j ≡ k = cc alone.1 in
          made (subst (λ (i : ℕ). tick_refusal ws i h ≡ none) same p)
          (subst (λ (i : ℕ). (dispatch ws h).answer ≡ Answered (tick_on ws i h).answer) same says)
          (subst (λ (i : ℕ). (dispatch ws h).words ≡ set_dispatched i (tick_on ws i h).words) same leaves)

alone : (moves : List AloneMove) (ws : List ℕ) (k n : ℕ) → Others k n moves ws
alone [] ws k n X busy B more low = absurd (omega arith)
alone (own_tick h ∷ moves) ws k n X busy B more low =
    by_tick X k n h busy B moves more low (alone moves (tick ws k h).words k (n - 1))
alone (dispatch-to h ∷ moves) ws k n X busy B more low =
    by_dispatch X k n h busy B moves more low (alone moves (dispatch ws h).words k (n - 1))
alone (other_call c ∷ moves) ws k n X busy B more low =
    words_left c (subst (AnswersAlone k moves) (sym low.0) (alone moves ws k n X busy B more low.1))

-- A busy task has 4S + 153 ticks left at most.
pub walk-alone : (S : ℕ) → walk_ticks 0 S ≡ 4 * S
walk-alone zero = refl
walk-alone (suc S) = omega (arith, walk-alone S)

pub answers-alone : (ws : List ℕ) → Led ws → (k : ℕ) → is_busy (task ws k).operation ≡ true
    → (moves : List AloneMove)
    → 4 * node_count ws + 154 ≤ own_ticks moves
    → Alone k moves ws
    → AnswersAlone k moves ws
answers-alone ws X k busy moves enough low =
    alone moves ws k (most 0 (node_count ws)) X busy (left-in-first 0 X k busy (omega arith))
    (omega (arith, walk-alone (node_count ws))) low

pub closer-solo-bound : CloserSoloBound
closer-solo-bound ws B k busy moves enough low = answers-alone ws (begun-led B) k busy moves (omega arith) low

pub solo-bound : SoloBound
solo-bound ws B k busy moves enough low = answers-alone ws (begun-led B) k busy moves (omega arith) low

-- 2026-10, 2026-14: where a row is known.
pub solo-bound-where-known : SoloBoundWhereKnown
solo-bound-where-known =
    where-led {Claim = AnswersWithinAt (λ S. 8 * S + 400)} (λ ws X k busy moves enough low.
    answers-alone ws X k busy moves (omega arith) low)

-- ---- Ticks alone, with hints below S.
pub hints-alone : (hints ws : List ℕ) → WellFormed ws → (k : ℕ) → HintsBelow (node_count ws) hints
    → Alone k (map own_tick hints) ws
hints-alone [] ws A k low = tt
hints-alone (h ∷ hints) ws A k low =
    let same = (tick-call-kept ws A k h).same-sizes in (
      low.0,
      λ _.
          hints-alone hints (tick ws k h).words (call-accepted ws A (tick_call k h)) k
          (subst (λ z. HintsBelow z.node_count hints) (sym same) low.1),
    )

pub own-hints : (hints : List ℕ) → own_ticks (map own_tick hints) ≡ length hints
own-hints [] = refl
own-hints (h ∷ hints) = ap suc (own-hints hints)
