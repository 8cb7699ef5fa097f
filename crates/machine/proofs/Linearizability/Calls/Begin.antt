-- A begun record in a task's place keeps the invariant, whatever record stood there: the chain that the task was
-- building, if any, is let go, and nobody else relies on it.
use mathlib.Core.Path.{◌≡◌, refl, sym, ap, ◌∙◌}
use mathlib.Core.Logic.{◌≢◌, inr}
use mathlib.Core.Bool.{true}
use mathlib.Core.List.{List}
use Prim.Native.Nat.{ℕ, ◌<◌}
use Rattle.machine.specs.Choice.{◌≟◌, if?◌then◌else◌}
use Rattle.machine.specs.Sides.{Side, left, right, opposite}
use Rattle.machine.specs.Operations.{Operation, idle, push, pop, add, remove}
use Rattle.machine.specs.Steps.{first_step}
use Rattle.machine.specs.Tasks.{Task, no_node}
use Rattle.machine.specs.Calls.{begun_task}
use Rattle.machine.proofs.Basics.Contradiction.{refute}
use Rattle.machine.proofs.Basics.Choices.{if_no}
use Rattle.machine.proofs.Basics.Updates.{update, update_all, update-wrote, wrote-all}
use Rattle.machine.proofs.Words.Memories.{View, view}
use Rattle.machine.proofs.Linearizability.Model.Sides.{sides}
use Rattle.machine.proofs.Linearizability.Model.Classes.{Class, free, main, spur, new}
use Rattle.machine.proofs.Linearizability.Model.Guarantee.{GuaranteesIn}
use Rattle.machine.proofs.Linearizability.Model.Held.{all_closed}
use Rattle.machine.proofs.Linearizability.Model.Phases.{TaskOk}
use Rattle.machine.proofs.Linearizability.Model.Invariant.{Lanes, TaskOkIn, Invariant, same-lanes, none-is-free}
use Rattle.machine.proofs.Linearizability.Model.LaneViews.{lane-view}
use Rattle.machine.proofs.Linearizability.Writes.Restriction.{
  Restricted,
  restricted-swap,
  restricted-guarantee,
  restricted-keeps,
}
use Rattle.machine.proofs.Linearizability.Survival.OtherTasks.{task-survives}

-- ---- The nodes of a chain that is let go are free.
abbrev let_go : (k : ℕ) → Class → Class
let_go k free = free
let_go k (main l) = main l
let_go k (spur z) = spur z
let_go k (new j) = if? j ≟ k then free else new j

gone : (k : ℕ) (c : Class) → let_go k c ≢ new k
gone k free e = refute (cc)
gone k (main l) e = refute (cc)
gone k (spur z) e = refute (cc)
gone k (new j) e = go (j ≟ k) e
  where
    go : (d : Dec (j ≡ k)) → (if? d then free else new j) ≡ new k → ⊥
    go (yes q) e = refute (cc)
    go (no q) e = q (cc)

-- The chains of other tasks stay; and what is not free afterwards was in its class before.
stays : (k : ℕ) (c : Class) (j : ℕ) → j ≢ k → c ≡ new j → let_go k c ≡ new j
stays k c j n e = ap (let_go k) e ∙ if_no (j ≟ k) free (new j) n

was : (k : ℕ) (c d : Class) → d ≢ free → let_go k c ≡ d → c ≡ d
was k free d n e = absurd (n (sym e))
was k (main l) d n e = e
was k (spur z) d n e = e
was k (new j) d n e = go (j ≟ k) e
  where
    go : (q : Dec (j ≡ k)) → (if? q then free else new j) ≡ d → new j ≡ d
    go (yes q) e = absurd (n (sym e))
    go (no q) e = e

module _ (k : ℕ) (class : ℕ → Class) (none_free : class no_node ≡ free) where
  abbrev class' : ℕ → Class
  class' x = let_go k (class x)

  restricted : (m : View) → Restricted (λ _. true) m.out m.inn m.val class m.out m.inn m.val class'
  restricted m =
      record {
        main-stays = λ x l h. ap (let_go k) h;
        was-main = λ x l h. was k (class x) (main l) (λ e. refute (cc)) h;
        spur-stays = λ x z _ h. ap (let_go k) h;
        was-spur = λ x z h. was k (class x) (spur z) (λ e. refute (cc)) h;
        spur-held = λ x z h. refl;
        none_free = ap (let_go k) none_free;
        same-words = λ x h. record { same_out = refl; same-inn = refl; same-val = refl };
      }

  others_keep : (m : View) (s o : Side) → GuaranteesIn (λ _. true) k s o m class m class'
  others_keep m s o =
      record {
        near = restricted-guarantee (restricted m);
        far = restricted-guarantee (restricted-swap (restricted m));
        chains =
            record {
              stays-new = λ x j n h. stays k (class x) j n h;
              same-words = λ x j n h. record { same_out = refl; same-inn = refl; same-val = refl };
              was-new = λ x j n h. was k (class x) (new j) (λ e. refute (cc)) h;
            };
      }

-- ---- The record begun relies on nothing and has no chain.
begun_ok : {k : ℕ} {s o : Side} {m : View} {class : ℕ → Class}
    → ((x : ℕ) → class x ≢ new k)
    → (l : ℕ) (op : Operation) (z : Side) (v : ℕ)
    → TaskOk k s o m class (first_step op) (begun_task l op z v)
begun_ok h l idle z v = record { relies = tt; chain = record { none-new = h; no-head = refl }; belongs = refl }
begun_ok h l push z v = record { relies = tt; chain = record { none-new = h; no-head = refl }; belongs = refl }
begun_ok h l pop z v = record { relies = tt; chain = record { none-new = h; no-head = refl }; belongs = refl }
begun_ok h l add z v = record { relies = tt; chain = record { none-new = h; no-head = refl }; belongs = inr refl }
begun_ok h l remove z v = record { relies = tt; chain = record { none-new = h; no-head = refl }; belongs = refl }

module _ {L : ℕ} {M : View} {ts : ℕ → Task} {class : ℕ → Class} {r : ℕ → List ℕ} (I : Invariant L M ts class r)
    (k l : ℕ) (is_lane : l < L) (op : Operation) (z : Side) (v : ℕ) where
  abbrev pub class_then : ℕ → Class
  class_then x = let_go k (class x)

  none_free : class no_node ≡ free
  none_free = none-is-free I

  lanes-then : Lanes L right left M class_then r
  lanes-then =
      same-lanes I.lanes
      (λ i h. restricted-keeps (I.lanes.lane i h).structure all_closed h (restricted k class none_free M))
      (λ x i h. was k (class x) (main i) (λ e. refute (cc)) h)

  -- The spurs are those of every lane: here of the task's own.
  other-task-ok : (j : ℕ) → j ≢ k → TaskOkIn j M class_then (ts j)
  other-task-ok j j≢k =
      let s : Side = (ts j).side in
      let before = (lane-view s (I.lanes.lane (ts j).lane (I.own_lane j))).structure in
      let after = (lane-view s (lanes-then.lane (ts j).lane (I.own_lane j))).structure in
      task-survives (sides s) (view s M) (view s M) (others_keep k class none_free (view s M) s (opposite s))
      before.none_free after.none_free before.near-spur after.near-spur
      (λ _ _ _. refl) (ts j) j≢k (ts j).step (λ _ _ _. refl) (I.task-ok j)

  pub invariant-begun : Invariant L M (update ts k (begun_task l op z v)) class_then r
  invariant-begun =
      record {
        lanes = lanes-then;
        own_lane = update_all ts k (begun_task l op z v) (λ x. x.lane < L) is_lane I.own_lane;
        task-ok =
            wrote-all (λ j x. TaskOkIn j M class_then x) (update-wrote ts k (begun_task l op z v))
            (begun_ok (λ x. gone k (class x)) l op z v) other-task-ok;
      }
