-- Tables of words: what a lane leads to is what it leads to in their view, and a tick, a dispatch and a begin leave it.
use mathlib.Core.Path.{◌≡◌, refl, sym, ◌∙◌, subst}
use mathlib.Core.Logic.{◌≢◌}
use mathlib.Core.List.{List}
use mathlib.Core.Option.{Option, some, none}
use Prim.Native.Nat.{ℕ}
use Rattle.machine.specs.Sides.{Side, left, right, opposite}
use Rattle.machine.specs.Tasks.{goal}
use Rattle.machine.specs.Table.{growth, lane_count, link, task, set_dispatched}
use Rattle.machine.specs.Allocate.{allocate}
use Rattle.machine.specs.Lines.{Memory, act}
use Rattle.machine.specs.Calls.{tick_refusal, effect_of, tick_on}
use Rattle.machine.specs.Begun.{Begun}
use Rattle.machine.specs.Shape.{sizes_of, Sized}
use Rattle.machine.proofs.Basics.Updates.{update}
use Rattle.machine.proofs.Words.Memories.{viewed, view_after, seen-viewed}
use Rattle.machine.proofs.Words.EffectLaws.{viewed-set-dispatched, task-set-dispatched, lanes-set-dispatched}
use Rattle.machine.proofs.Words.TickLaws.{tick-stopped}
use Rattle.machine.proofs.Shape.TickKeeps.{tick-allowed}
use Rattle.machine.proofs.SlotRule.FirstFree.{allocate-not-kept}
use Rattle.machine.proofs.Linearizability.Calls.MadeTicks.{well-linked, kept-roots, not-idle}
use Rattle.machine.proofs.Linearizability.Begun.TableAfter.{viewed-after, tasks-after, other_after, lanes-after}
use Rattle.machine.proofs.Linearizability.Corollaries.{begun-agrees}
use Rattle.machine_separation.specs.Apart.{
  LedTo,
  from_hat as hat-led,
  from_register as register-led,
  along as link-led,
  SameLane,
  NotOn,
  OthersSame,
}
use Rattle.machine_separation.proofs.Leads.{
  Leads,
  from_hat,
  from_register,
  along,
  Stays,
  still-leads,
  was-led,
}
use Rattle.machine_separation.proofs.ApartTick.{tick-leaves}
use Rattle.machine_separation.proofs.BegunApart.{begun-apart}

-- ---- A table and its view.
abbrev LeadsIn : List ℕ → (l : ℕ) → ℕ → Type 0
LeadsIn ws l = Leads (lane_count ws) (viewed right ws) (task ws) l

pub in-view : {ws : List ℕ} {l x : ℕ} → LedTo ws l x → LeadsIn ws l x
in-view (hat-led s h) = from_hat s h
in-view (register-led k r e h n) = from_register k r e h n
in-view (link-led left c n) = along left (in-view c) n
in-view (link-led right c n) = along right (in-view c) n

in_words : {ws : List ℕ} {l x : ℕ} → LeadsIn ws l x → LedTo ws l x
in_words (from_hat s h) = hat-led s h
in_words (from_register k r e h n) = register-led k r e h n
in_words (along left c n) = link-led left (in_words c) n
in_words (along right c n) = link-led right (in_words c) n

-- From ws to vs lane m stays.
abbrev LaneStays : (m : ℕ) → (ws vs : List ℕ) → Type 0
LaneStays m ws vs = Stays (lane_count ws) (viewed right ws) (task ws) (viewed right vs) (task vs) m

pub same_lane : {m : ℕ} {ws vs : List ℕ} → lane_count vs ≡ lane_count ws → LaneStays m ws vs → SameLane m ws vs
same_lane {m} {ws} {vs} same_count S =
    record {
      same_hats = S.same_hats;
      same_links = links;
      same_values = λ x c. S.same_values x (in-view c);
      still_led_to =
          λ x c.
          in_words
          (subst (λ (L : ℕ). Leads L (viewed right vs) (task vs) m x) (sym same_count) (still-leads S (in-view c)));
      was_led_to =
          λ x c.
          in_words
          (was-led S (subst (λ (L : ℕ). Leads L (viewed right vs) (task vs) m x) same_count (in-view c)));
    }
  where
    links : (x : ℕ) → LedTo ws m x → (s : Side) → link vs s x ≡ link ws s x
    links x c left = S.same_links x (in-view c) left
    links x c right = S.same_links x (in-view c) right

-- ---- From ws to vs only task k has moved, in a lane of its own.
pub record OthersStay (k : ℕ) (ws vs : List ℕ) : Type 0 where
  pub same_count : lane_count vs ≡ lane_count ws
  pub other_tasks : (j : ℕ) → j ≢ k → task vs j ≡ task ws j
  pub other_lanes : (m : ℕ) → NotOn m ws k → LaneStays m ws vs

pub others_same : {k : ℕ} {ws vs : List ℕ} → OthersStay k ws vs → OthersSame k ws vs
others_same O =
    record {
      other_tasks = O.other_tasks;
      other_lanes = λ m not_on. same_lane O.same_count (O.other_lanes m not_on);
    }

pub lane-unchanged : (m : ℕ) (ws : List ℕ) → LaneStays m ws ws
lane-unchanged m ws =
    record {
      same_hats = λ s. refl;
      same_links = λ x _ z. refl;
      same_values = λ x _. refl;
      still-held = λ j r _ _ _. refl;
      was-held = λ j r _ _ _. refl;
    }

unchanged : (k : ℕ) (ws : List ℕ) → OthersStay k ws ws
unchanged k ws =
    record {
      same_count = refl;
      other_tasks = λ j _. refl;
      other_lanes = λ m _. lane-unchanged m ws;
    }

-- The word that a dispatch writes besides is in no lane.
pub dispatched-too : {k : ℕ} {ws vs : List ℕ} → Sized (sizes_of vs) → (j : ℕ) → OthersStay k ws vs
    → OthersStay k ws (set_dispatched j vs)
dispatched-too {vs = vs} sized j O =
    record {
      same_count = lanes-set-dispatched vs sized j ∙ O.same_count;
      other_tasks = rw (task-set-dispatched vs sized j) O.other_tasks;
      other_lanes = rw (viewed-set-dispatched vs sized j right, task-set-dispatched vs sized j) O.other_lanes;
    }

-- ---- A tick.
module _ {ws : List ℕ} (B : Begun ws) (k h : ℕ) where
  made-stays : tick_refusal ws k h ≡ none → (m : ℕ) → NotOn m ws k → LaneStays m ws (tick_on ws k h).words
  unfolding effect_of
  made-stays passes m not_on =
      let A = (begun-agrees B).1 in
      let t = task ws k in
      let s = t.side in
      let g = goal (growth ws) t in
      let f = allocate ws h in
      rw (viewed-after A k h passes, tasks-after A k h passes)
      (subst
      (λ (y : Memory).
      Stays (lane_count ws) (viewed right ws) (task ws)
      (view_after t.lane s (act t.step s (opposite s) y t g f).writes (viewed right ws))
      (update (task ws) k (act t.step s (opposite s) y t g f).task) m)
      (seen-viewed t.lane s ws)
      ((tick-leaves A.invariant (kept-roots A.accepted) (begun-apart B) k g f
      (not-idle t.operation (tick-allowed ws k h passes).2)
      (allocate-not-kept (well-linked A.accepted) (tick-allowed ws k h passes).1)
      ).others_same m (λ q. not_on (tick-allowed ws k h passes).2 (sym q))))

  -- Made or refused.
  pub tick-stays : OthersStay k ws (tick_on ws k h).words
  tick-stays = go (tick_refusal ws k h) refl
    where
      go : (r : Option ℕ) → tick_refusal ws k h ≡ r → OthersStay k ws (tick_on ws k h).words
      go (some n) e = rw (tick-stopped ws k h e) (unchanged k ws)
      go none e =
          let A = (begun-agrees B).1 in
          record {
            same_count = lanes-after A k h e;
            other_tasks = other_after A k h e;
            other_lanes = made-stays e;
          }
