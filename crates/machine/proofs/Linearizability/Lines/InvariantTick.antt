-- A tick of any busy task, on either side, keeps the invariant and moves the row as its answer says.
use mathlib.Core.Path.{◌≡◌, refl, ap, sym, subst, ◌∙◌}
use mathlib.Core.Logic.{◌≢◌}
use mathlib.Core.Bool.{Bool, false}
use mathlib.Core.List.{List}
use Prim.Native.Nat.{ℕ, ◌<◌}
use native.Mathlib.Omega.{arith}
use Rattle.machine.specs.Outcomes.Answer.{Answer, Refused}
use Rattle.machine.specs.Sides.{Side, left, right, opposite}
use Rattle.machine.specs.Operations.{idle}
use Rattle.machine.specs.Tasks.{Task, no_node}
use Rattle.machine.specs.Lines.{Effect, act}
use Rattle.machine.specs.Row.{Note}
use Rattle.machine.proofs.Basics.Updates.{update, update_all, update-wrote, wrote-all}
use Rattle.machine.proofs.Words.Memories.{View, seen_in, written, view, view_after, view-view}
use Rattle.machine.proofs.Linearizability.Model.Held.{closed-view}
use Rattle.machine.proofs.Linearizability.Model.RowViews.{row_from, row_from-row_from}
use Rattle.machine.proofs.Linearizability.Model.Sides.{sides}
use Rattle.machine.proofs.Linearizability.Model.Classes.{Class}
use Rattle.machine.proofs.Linearizability.Model.Guarantee.{GuaranteesIn, guarantees-swap}
use Rattle.machine.proofs.Linearizability.Model.Phases.{TaskOk}
use Rattle.machine.proofs.Linearizability.Model.Invariant.{Lanes, TaskOkIn, Invariant, Roots, RowStep, Kept}
use Rattle.machine.proofs.Linearizability.Model.Invariant.{goes_on, has_answered, TickOk}
use Rattle.machine.proofs.Linearizability.Model.LaneViews.{lane-view, lanes-view, lanes-unview}
use Rattle.machine.proofs.Linearizability.Survival.OtherTasks.{task-survives}
use Rattle.machine.proofs.Linearizability.Writes.FreeNode.{take-ok}
use Rattle.machine.proofs.Linearizability.Lines.Tick.{tick-ok}

-- ---- From the side of the task that ticks to the side of another, and to its own afterwards.
pub guarantees-view : (s z : Side) (M m' : View) {held : ℕ → Bool} {k : ℕ} {class class' : ℕ → Class}
    → GuaranteesIn held k s (opposite s) (view s M) class m' class'
    → GuaranteesIn held k z (opposite z) (view z M) class (view z (view s m')) class'
guarantees-view left left M m' G = G
guarantees-view left right M m' G = guarantees-swap G
guarantees-view right left M m' G = guarantees-swap G
guarantees-view right right M m' G = G

-- The record after a tick on the side of t, seen from its own side again.
own-task-ok : (k : ℕ) (t : Task) {m : View} {class : ℕ → Class} (e : Effect)
    → Kept t e
    → TaskOk k t.side (opposite t.side) m class e.task.step e.task
    → TaskOkIn k (view t.side m) class e.task
own-task-ok k t {m} {class} e (goes_on a n) h =
    let s : Side = t.side in
    let x : Task = e.task in
    let side_same : x.side ≡ s = ap (λ (n : Note). n.side) n in
    subst (λ (z : Side). TaskOk k z (opposite z) (view z (view s m)) class x.step x) (sym side_same)
    (subst (λ (y : View). TaskOk k s (opposite s) y class x.step x) (sym (view-view s m)) h)
own-task-ok k t {m} {class} e (has_answered a n) h =
    let s : Side = t.side in
    let f = subst (λ (y : Task). TaskOk k s (opposite s) m class y.step y) n h in
    subst (λ (y : Task). TaskOkIn k (view s m) class y) (sym n)
    (record { relies = tt; chain = f.chain; belongs = refl })

-- ---- The theorem.

-- The effect of the line of task k, with goal g and the node f to take.
abbrev pub effect_in : View → (ts : ℕ → Task) → (k g f : ℕ) → Effect
effect_in M ts k g f =
    let s = (ts k).side in act (ts k).step s (opposite s) (seen_in (ts k).lane s (view s M)) (ts k) g f

-- What a tick of task k with effect e does to the table: its answer moves the row of its lane, and no other.
pub record TickKeeps (L : ℕ) (M : View) (ts : ℕ → Task) (r : ℕ → List ℕ) (k : ℕ) (e : Effect) : Type 0 where
  pub class' : ℕ → Class
  pub r' : ℕ → List ℕ
  pub row_step :
      RowStep (ts k).operation (ts k).argument e.answer
      (row_from (ts k).side (r (ts k).lane)) (row_from (ts k).side (r' (ts k).lane))
  pub other-rows : (l : ℕ) → l ≢ (ts k).lane → r' l ≡ r l
  pub kept : Kept (ts k) e
  pub invariant : Invariant L (view_after (ts k).lane (ts k).side e.writes M) (update ts k e.task) class' r'

-- The row gives no refusal.
pub never-refused : {L : ℕ} {M : View} {ts : ℕ → Task} {r : ℕ → List ℕ} {k : ℕ} {e : Effect}
    → TickKeeps L M ts r k e
    → (n : ℕ)
    → e.answer ≢ Refused n
never-refused {ts = ts} {r} {k} T n q =
    let s : Side = (ts k).side in
    let l : ℕ = (ts k).lane in
    subst
    (λ (a : Answer). RowStep (ts k).operation (ts k).argument a (row_from s (r l)) (row_from s (T.r' l)))
    q T.row_step

-- A task that goes on stays on its lane, and one that has answered is on lane 0.
kept-lane : {L : ℕ} {t : Task} {e : Effect} → Kept t e → t.lane < L → e.task.lane < L
kept-lane {L} (goes_on a n) h = subst (λ (j : ℕ). j < L) (sym (ap (λ (m : Note). m.lane) n)) h
kept-lane {L} (has_answered a n) h =
    subst (λ (j : ℕ). j < L) (sym (ap (λ (x : Task). x.lane) n)) (omega arith)

module _ {L : ℕ} {held : ℕ → Bool} {M : View} {ts : ℕ → Task} {class : ℕ → Class} {r : ℕ → List ℕ}
    (I : Invariant L M ts class r) (R : Roots L held M ts)
    (k g f : ℕ) (busy : (ts k).operation ≢ idle) (free-f : f ≢ no_node → held f ≡ false) where
  abbrev s : Side
  s = (ts k).side

  abbrev ℓ : ℕ
  ℓ = (ts k).lane

  abbrev e : Effect
  e = effect_in M ts k g f

  -- The view after the tick, from the task's side and from the right.
  abbrev m' : View
  m' = written ℓ s e.writes (view s M)

  abbrev M' : View
  M' = view s m'

  effect-ok : TickOk held L k s (opposite s) (view s M) class (λ l. row_from s (r l)) (ts k) e
  effect-ok =
      tick-ok held k (lanes-view s I.lanes) (ts k) (I.own_lane k) g f (λ h. take-ok I R s f (free-f h)) busy
      (ts k).step (I.task-ok k)

  lanes-after : Lanes L right left M' effect-ok.class' (λ l. row_from s (effect-ok.r' l))
  lanes-after = lanes-unview s effect-ok.lanes

  -- The spurs are those of every lane: here of the task's own.
  other-task-ok : (j : ℕ) → j ≢ k → TaskOkIn j M' effect-ok.class' (ts j)
  other-task-ok j j≢k =
      let z : Side = (ts j).side in
      let before = (lane-view z (I.lanes.lane ℓ (I.own_lane k))).structure in
      let after = (lane-view z (lanes-after.lane ℓ (I.own_lane k))).structure in
      task-survives (sides z) (view z M) (view z M') (guarantees-view s z M m' effect-ok.guarantees)
      before.none_free after.none_free before.near-spur after.near-spur
      (closed-view z R.closed).inn-closed (ts j) j≢k (ts j).step (R.registers j) (I.task-ok j)

  pub invariant-tick : TickKeeps L M ts r k (effect_in M ts k g f)
  invariant-tick =
      record {
        class' = effect-ok.class';
        r' = λ l. row_from s (effect-ok.r' l);
        row_step = rw (row_from-row_from s (effect-ok.r' ℓ)) effect-ok.row_step;
        other-rows = λ l ne. ap (row_from s) (effect-ok.other-rows l ne) ∙ row_from-row_from s (r l);
        kept = effect-ok.kept;
        invariant =
            record {
              lanes = lanes-after;
              own_lane =
                  update_all ts k e.task (λ x. x.lane < L)
                  (kept-lane effect-ok.kept (I.own_lane k)) I.own_lane;
              task-ok =
                  wrote-all (λ j x. TaskOkIn j M' effect-ok.class' x) (update-wrote ts k e.task)
                  (own-task-ok k (ts k) e effect-ok.kept effect-ok.task-ok) other-task-ok;
            };
      }
