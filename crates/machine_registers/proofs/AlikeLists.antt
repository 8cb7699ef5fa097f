-- What stands in registers that do not hold does not matter to any list of calls.
use mathlib.Core.Path.{◌≡◌, refl, ap, ◌∙◌}
use mathlib.Core.Bool.{Bool, true, false}
use mathlib.Core.List.{List, [], ◌∷◌}
use mathlib.Core.Option.{none}
use Prim.Native.Nat.{ℕ, zero, suc}
use Rattle.machine.specs.Answers.{is_going, dispatch_goes_on}
use Rattle.machine.specs.Sides.{Side}
use Rattle.machine.specs.Tasks.{Task}
use Rattle.machine.specs.Registers.{holds}
use Rattle.machine.specs.Table.{task}
use Rattle.machine.specs.Calls.{tick, ticks, dispatch, dispatches, went_on}
use Rattle.machine_registers.specs.Unseen.{Alike, SameFor}
use Rattle.machine.specs.Demand3.{Call, given, after}
use Rattle.machine.proofs.Shape.Looks.{
  LeftAlike,
  both-left-alone,
  both-begun,
  View,
  of-start,
  of-tick,
  of-ticks,
  of-dispatch,
  of-dispatches,
  of-run,
  of-panel,
  of_other,
  view,
}
use Rattle.machine.proofs.Words.RunLaws.{first-goes-on, first-is-last}
use Rattle.machine.proofs.Words.DispatchLaws.{others-follow, one-went-on, none-follows, none-went-on}
use Rattle.machine.proofs.Shape.ShapeKept.{table-passes}
use Rattle.machine_registers.proofs.Agreeing.{mixed-inside}
use Rattle.machine_registers.proofs.AlikeTables.{AlikeColumns, same_nodes, same_count, same_growth, same_ticks, same_dispatched, same-lanes, same-hat, same_links}
use Rattle.machine_registers.proofs.AlikeCalls.{
  TicksAlike,
  same_value,
  start-alike,
  looks,
  begin-alike,
  run-alike,
  panel-alike,
  tick-call-alike,
  dispatch-alike,
}

-- ---- Consecutive ticks.
ticks-alike : (n k h : ℕ) {ws vs : List ℕ} → AlikeColumns ws vs → TicksAlike (ticks n ws k h) (ticks n vs k h)
unfolding ticks
ticks-alike zero k h A = (refl, A)
ticks-alike (suc n) k h {ws} {vs} A =
    go (is_going (tick ws k h).answer) refl (ticks-alike n k h (tick-call-alike A k h).1)
  where
    same : is_going (tick vs k h).answer ≡ is_going (tick ws k h).answer
    same = ap is_going (tick-call-alike A k h).0

    go : (b : Bool) → is_going (tick ws k h).answer ≡ b
        → TicksAlike (ticks n (tick ws k h).words k h) (ticks n (tick vs k h).words k h)
        → TicksAlike (ticks (suc n) ws k h) (ticks (suc n) vs k h)
    go true e others = rw (first-goes-on n ws k h e, first-goes-on n vs k h (same ∙ e)) others
    go false e others = rw (first-is-last n ws k h e, first-is-last n vs k h (same ∙ e)) (tick-call-alike A k h)

-- ---- Consecutive dispatches.
dispatches-alike : (n h : ℕ) {ws vs : List ℕ} → AlikeColumns ws vs
    → ((dispatches n vs h).answer ≡ (dispatches n ws h).answer)
    × (went_on n vs h ≡ went_on n ws h)
    × AlikeColumns (dispatches n ws h).words (dispatches n vs h).words
unfolding dispatches went_on
dispatches-alike zero h A = (refl, refl, A)
dispatches-alike (suc n) h {ws} {vs} A =
    go (dispatch_goes_on (dispatch ws h).answer) refl (dispatches-alike n h (dispatch-alike A h).1)
  where
    same : dispatch_goes_on (dispatch vs h).answer ≡ dispatch_goes_on (dispatch ws h).answer
    same = ap dispatch_goes_on (dispatch-alike A h).0

    go : (b : Bool) → dispatch_goes_on (dispatch ws h).answer ≡ b
        → ((dispatches n (dispatch vs h).words h).answer ≡ (dispatches n (dispatch ws h).words h).answer)
        × (went_on n (dispatch vs h).words h ≡ went_on n (dispatch ws h).words h)
        × AlikeColumns (dispatches n (dispatch ws h).words h).words (dispatches n (dispatch vs h).words h).words
        → ((dispatches (suc n) vs h).answer ≡ (dispatches (suc n) ws h).answer)
        × (went_on (suc n) vs h ≡ went_on (suc n) ws h)
        × AlikeColumns (dispatches (suc n) ws h).words (dispatches (suc n) vs h).words
    go true e others =
        rw (
          others-follow n ws h e,
          others-follow n vs h (same ∙ e),
          one-went-on n ws h e,
          one-went-on n vs h (same ∙ e),
        )
        (others.0, ap suc others.1, others.2)
    go false e others =
        rw (
          none-follows n ws h e,
          none-follows n vs h (same ∙ e),
          none-went-on n ws h e,
          none-went-on n vs h (same ∙ e),
        )
        ((dispatch-alike A h).0, refl, (dispatch-alike A h).1)

-- ---- Every call has the same answer on both tables, and they differ only in registers that do not hold afterwards.
left-alike : {ws vs ws' vs' : List ℕ} → AlikeColumns ws vs → LeftAlike ws vs ws' vs' → AlikeColumns ws' vs'
left-alike A both-left-alone = A
left-alike A (both-begun k l op side argument) = (begin-alike A k l op side argument).1

call-alike : {ws vs : List ℕ} → AlikeColumns ws vs → (c : Call)
    → (given c vs ≡ given c ws) × AlikeColumns (after c ws) (after c vs)
call-alike {ws} {vs} A c = go (view c)
  where
    go : {c : Call} → View c → (given c vs ≡ given c ws) × AlikeColumns (after c ws) (after c vs)
    go (of-start S T g L) = start-alike A S T g L
    go (of-tick k h) = tick-call-alike A k h
    go (of-ticks k h n) = ticks-alike n k h A
    go (of-dispatch h) = dispatch-alike A h
    go (of-dispatches h n) = let R = dispatches-alike n h A in (λ i. (R.0 i, R.1 i), R.2)
    go (of-run list answers) =
        let R = run-alike A list answers in (λ i. (R.same-ran i, R.same-answers i), R.words-alike)
    go (of-panel list answers) =
        let R = panel-alike A list answers in (λ i. (R.same-ran i, R.same-answers i), R.words-alike)
    go (of_other c T) = (T.same-given (looks A), left-alike A (T.left-alike ws vs))

-- ---- Any list of calls.

-- What is said of the columns, said of the table's views.
views-alike : {ws vs : List ℕ} → AlikeColumns ws vs → Alike ws vs
views-alike {ws} {vs} A =
    record {
      accepted = table-passes ws A.accepted none;
      accepted' = table-passes vs A.accepted' none;
      same_nodes = same_nodes A;
      same_count = same_count A;
      same_growth = same_growth A;
      same-lanes = same-lanes A;
      same_hats = same-hat A;
      same_ticks = same_ticks A;
      same_dispatched = same_dispatched A;
      same_links = λ s x. ap (λ (l : Side → ℕ → ℕ). l s x) (same_links A);
      same_values = same_value A;
      same_tasks =
          λ k.
          let e = A.same_tasks k in
          record {
            same_operation = ap (λ (t : Task). t.operation) e;
            same_step = ap (λ (t : Task). t.step) e;
            same_side = ap (λ (t : Task). t.side) e;
            same_argument = ap (λ (t : Task). t.argument) e;
            same_counted = ap (λ (t : Task). t.counted) e;
            same_value = ap (λ (t : Task). t.value) e;
            same_lane = ap (λ (t : Task). t.lane) e;
            same_registers =
                λ r h. mixed-inside (holds (task ws k).step) (task ws k) (task vs k) (task vs k) e r h;
          };
    }

pub calls-alike : (cs : List Call) {ws vs : List ℕ} → AlikeColumns ws vs → SameFor cs ws vs
calls-alike [] A = views-alike A
calls-alike (c ∷ cs) A = let one = call-alike A c in (one.0, calls-alike cs one.1)
