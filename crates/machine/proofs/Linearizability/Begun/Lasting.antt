-- Facts that last: what a start brings about, and what begins and ticks keep, is true of every table that our calls
-- lead to.
use mathlib.Core.Path.{◌≡◌, refl, sym, subst}
use mathlib.Core.Logic.{◌≢◌}
use mathlib.Core.Bool.{Bool, true, false}
use mathlib.Core.List.{List}
use mathlib.Core.Option.{Option, some, none}
use Prim.Native.Nat.{ℕ, ◌≤◌}
use Rattle.machine.specs.Values.{number}
use Rattle.machine.specs.Outcomes.Reply.{Accepted}
use Rattle.machine.specs.declared.Stored.{Stored}
use Rattle.machine.specs.Sides.{Side, right, opposite, side_of}
use Rattle.machine.specs.Operations.{Operation, idle, operation_of}
use Rattle.machine.specs.Tasks.{Task, fresh, no_node, goal}
use Rattle.machine.specs.Table.{growth, lane_count, most_lanes, task}
use Rattle.machine.specs.Shape.{lanes_ok, sizes_ok}
use Rattle.machine.specs.Allocate.{allocate}
use Rattle.machine.specs.Lines.{Memory, act}
use Rattle.machine.specs.Calls.{
  start_refusal,
  tick_refusal,
  changed,
  start_words,
  start,
  begun_task,
  begin,
  effect_of,
  tick_on,
  Dispatched,
  dispatch,
}
use Rattle.machine.specs.Row.{Row}
use Rattle.machine.specs.Demand3.{Call, after}
use Rattle.machine.specs.Begun.{Begun, by_start, by_call}
use Rattle.machine.proofs.Basics.Contradiction.{clash}
use Rattle.machine.proofs.Basics.Tests.{test-passed, tests_left}
use Rattle.machine.proofs.Basics.Updates.{update}
use Rattle.machine.proofs.Words.Memories.{View, viewed, view_after, seen-viewed}
use Rattle.machine.proofs.Words.StartLaws.{start_view, viewed-start, task-start}
use Rattle.machine.proofs.Words.EffectLaws.{viewed-set-dispatched, task-set-dispatched, lanes-set-dispatched}
use Rattle.machine.proofs.Words.Kinds.{kept-by-calls}
use Rattle.machine.proofs.Shape.TickKeeps.{tick-allowed}
use Rattle.machine.proofs.Shape.DispatchCases.{by_dispatch}
use Rattle.machine.proofs.Shape.ShapeKept.{start-sized}
use Rattle.machine.proofs.SlotRule.FirstFree.{allocate-not-kept}
use Rattle.machine.proofs.Linearizability.Model.Classes.{Class}
use Rattle.machine.proofs.Linearizability.Model.Invariant.{Invariant, Roots}
use Rattle.machine.proofs.Linearizability.Lines.InvariantTick.{effect_in}
use Rattle.machine.proofs.Linearizability.Calls.Agreement.{Agrees}
use Rattle.machine.proofs.Linearizability.Calls.MadeTicks.{well-linked, kept-roots, not-idle}
use Rattle.machine.proofs.Linearizability.Calls.CallsAgree.{start-explained, begin-explained, dispatch-explained}
use Rattle.machine.proofs.Linearizability.Begun.TableAfter.{viewed-after, tasks-after, lanes-after}
use Rattle.machine.proofs.Linearizability.Begun.TableBegun.{by-begin}
use Rattle.machine.proofs.Linearizability.Corollaries.{begun-agrees, tick-agrees, ticked-sized}

-- A fact about the number of lanes, the view and the tasks' records lasts.
pub record LastsFor (Fact : (lanes : ℕ) → View → (ℕ → Task) → Type 0) : Type 0 where
  pub at-start : (L : ℕ) {ts : ℕ → Task} → L ≤ most_lanes → ((k : ℕ) → ts k ≡ fresh) → Fact L (start_view L) ts
  pub at_begin : {L : ℕ} {M : View} {ts : ℕ → Task} → Fact L M ts → (k : ℕ) → ts k ≡ fresh
      → (l : ℕ) (op : Operation) (s : Side) (argument : ℕ)
      → Fact L M (update ts k (begun_task l op s argument))
  pub at_tick : {L : ℕ} {M : View} {ts : ℕ → Task} {class : ℕ → Class} {bags : ℕ → List ℕ} {held : ℕ → Bool}
      → Fact L M ts
      → Invariant L M ts class bags
      → Roots L held M ts
      → (k g f : ℕ)
      → (ts k).operation ≢ idle
      → (f ≢ no_node → held f ≡ false)
      → Fact L
      (view_after (ts k).lane (ts k).side (effect_in M ts k g f).writes M) (update ts k (effect_in M ts k g f).task)

-- One that does not ask how many lanes there are.
abbrev pub Lasts : (View → (ℕ → Task) → Type 0) → Type 0
Lasts Fact = LastsFor (λ L M ts. Fact M ts)

module _ {Fact : (lanes : ℕ) → View → (ℕ → Task) → Type 0} (L : LastsFor Fact) where
  -- The fact of a table.
  abbrev pub Of : List ℕ → Type 0
  Of ws = Fact (lane_count ws) (viewed right ws) (task ws)

  start_has : (S T g lanes : ℕ) → lanes_ok lanes ≡ true → sizes_ok S T g lanes ≡ true → Of (start_words S T g lanes)
  unfolding start_words
  start_has S T g lanes few ok =
      let Z = start-sized S T g lanes few ok in
      subst (λ (m : View). Fact lanes m (task (start_words S T g lanes)))
      (sym (viewed-start S T g lanes Z.lanes_fit Z.most-lanes))
      (L.at-start lanes Z.most-lanes (task-start S T g lanes Z.lanes_fit Z.most-lanes))

  module _ {ws : List ℕ} {ρ : Row} (A : Agrees ws ρ) (F : Of ws) where
    start-keeps : (S T g lanes : ℕ) → Of (start ws S T g lanes).words
    unfolding start
    start-keeps S T g lanes = go (start_refusal ws S T g lanes) refl
      where
        go : (r : Option ℕ) → start_refusal ws S T g lanes ≡ r → Of (changed r ws (start_words S T g lanes)).words
        go (some n) e = F
        go none e = start_has S T g lanes (search test-passed) (search (test-passed, tests_left))

    begin-keeps : (k l op side : ℕ) (argument : Stored) → Of (begin ws k l op side argument).words
    begin-keeps k l op side argument =
        by-begin A k l op side argument (λ c. Of c.words) (λ n. F) (λ vs T.
        rw (T.same-lanes, T.viewed-same right, T.tasks-then)
        (L.at_begin F k T.was-fresh l (operation_of op) (side_of side) (number argument)))

    made-keeps : (k h : ℕ) → tick_refusal ws k h ≡ none → Of (tick_on ws k h).words
    unfolding effect_of
    made-keeps k h passes =
        let t = task ws k in
        let s = t.side in
        let g = goal (growth ws) t in
        let f = allocate ws h in
        rw (lanes-after A k h passes, viewed-after A k h passes, tasks-after A k h passes)
        (subst
        (λ (m : Memory).
        Fact (lane_count ws) (view_after t.lane s (act t.step s (opposite s) m t g f).writes (viewed right ws))
        (update (task ws) k (act t.step s (opposite s) m t g f).task))
        (seen-viewed t.lane s ws)
        (L.at_tick F A.invariant (kept-roots A.accepted) k g f
        (not-idle t.operation (tick-allowed ws k h passes).2)
        (allocate-not-kept (well-linked A.accepted) (tick-allowed ws k h passes).1)))

    -- A tick, made or refused.
    tick-keeps : (k h : ℕ) → Of (tick_on ws k h).words
    unfolding tick_on
    tick-keeps k h = go (tick_refusal ws k h) refl
      where
        go : (r : Option ℕ) → tick_refusal ws k h ≡ r → Of (tick_on ws k h).words
        go (some n) e = rw (e, tick_on) F
        go none e = made-keeps k h e

    -- A dispatch, which is a tick or changes nothing.
    dispatch-keeps : (h : ℕ) → Of (dispatch ws h).words
    dispatch-keeps h =
        by_dispatch ws A.accepted h (λ (r : Dispatched). Of r.words) F (λ _. F) (λ k n _ _. F) (λ k _ _ _.
        let sized = ticked-sized A k h in
        let vs = (tick_on ws k h).words in
        rw (lanes-set-dispatched vs sized k, viewed-set-dispatched vs sized k right, task-set-dispatched vs sized k)
        (tick-keeps k h))

  -- The fact, and the agreement of table and row that ticks need.
  abbrev Both : List ℕ → Type 0
  Both ws = (ρ : Row) × Agrees ws ρ × Of ws

  pub call-has : {ws : List ℕ} {ρ : Row} → Agrees ws ρ → Of ws → (c : Call) → Of (after c ws)
  call-has {ws} {ρ} A F c =
      (kept-by-calls Both
      (record {
        by_start = λ ws x S T g lanes.
            let E = start-explained x.1 S T g lanes in (E.row, E.agrees, start-keeps x.1 x.2 S T g lanes);
        by-begin = λ ws x k l op side argument.
            let E = begin-explained x.1 k l op side argument in
            (E.row, E.agrees, begin-keeps x.1 x.2 k l op side argument);
        by_tick = λ ws x k h. let a = tick-agrees x.1 k h in (a.0, a.1, tick-keeps x.1 x.2 k h);
        by_dispatch = λ ws x h.
            let E = dispatch-explained x.1 h in (E.row, E.agrees, dispatch-keeps x.1 x.2 h);
      }) c ws (ρ, A, F)).2

  pub started-has : (S T g lanes : ℕ) (old : List ℕ) → (start old S T g lanes).reply ≡ Accepted
      → Of (start old S T g lanes).words
  unfolding start
  started-has S T g lanes old accepted = go (start_refusal old S T g lanes) refl accepted
    where
      go : (r : Option ℕ) → start_refusal old S T g lanes ≡ r → (changed r old (start_words S T g lanes)).reply ≡ Accepted
          → Of (changed r old (start_words S T g lanes)).words
      go (some n) e q = clash (cc)
      go none e q = start_has S T g lanes (search test-passed) (search (test-passed, tests_left))

  pub begun-has : {ws : List ℕ} → Begun ws → Of ws
  begun-has (by_start S T g lanes old accepted) = started-has S T g lanes old accepted
  begun-has (by_call B c) = call-has (begun-agrees B).1 (begun-has B) c
