-- Every call leaves a lane as it is, unless it ticks a task that is in a call on it.
use mathlib.Core.Path.{◌≡◌, refl, sym, ap, ◌∙◌, subst}
use mathlib.Core.Bool.{Bool, true, false}
use mathlib.Core.List.{List, [], ◌∷◌}
use mathlib.Core.Option.{Option, some, none}
use Prim.Native.Nat.{ℕ, zero, suc, ◌<◌}
use native.Mathlib.Omega.{arith}
use Rattle.machine.specs.declared.Stored.{Stored}
use Rattle.machine.specs.Choice.{◌≟◌}
use Rattle.machine.specs.Sides.{right, side_of}
use Rattle.machine.specs.Values.{number}
use Rattle.machine.specs.Operations.{operation_of}
use Rattle.machine.specs.Tasks.{Task}
use Rattle.machine.specs.Table.{task}
use Rattle.machine.specs.Answers.{dispatch_goes_on}
use Rattle.machine.specs.Calls.{
  is_busy,
  tick_refusal,
  begin,
  effect_of,
  tick_on,
  Dispatched,
  dispatch,
  dispatches,
  dispatches_made,
}
use Rattle.machine.specs.Row.{Note}
use Rattle.machine.specs.Demand3.{dispatch_call, after_ticks}
use Rattle.machine.specs.Kinds.{Asked, Did}
use Rattle.machine.specs.Begun.{Begun, by_call}
use Rattle.machine.proofs.Basics.Contradiction.{refute}
use Rattle.machine.proofs.Words.Kinds.{
  Comes,
  left_alone,
  is-started,
  is-begun,
  is-lent-begun,
  are-ticked,
  are-dispatched,
  call-comes,
}
use Rattle.machine.proofs.Words.DispatchLaws.{others-follow, one-more-made, none-follows, one-made}
use Rattle.machine.proofs.Words.TickLaws.{tick-stopped}
use Rattle.machine.proofs.Shape.DispatchCases.{by_dispatch}
use Rattle.machine.proofs.Linearizability.Model.Invariant.{Kept, goes_on, has_answered}
use Rattle.machine.proofs.Linearizability.Calls.MadeTicks.{keeps-invariant}
use Rattle.machine.proofs.Linearizability.Begun.TableAfter.{own-after, other_after}
use Rattle.machine.proofs.Linearizability.Begun.TableBegun.{by-begin}
use Rattle.machine.proofs.Linearizability.Corollaries.{begun-agrees, ticked-sized, begun-ticked}
use Rattle.machine_separation.specs.Apart.{SameLane, NotOn, NoneOn, ChoosesOther, Avoids, CallsUntouched}
use Rattle.machine_separation.proofs.BegunApart.{begin-stays}
use Rattle.machine_separation.proofs.Tables.{same_lane, lane-unchanged, others_same, dispatched-too, tick-stays}

-- ---- Lanes that stay, one change after another.
same-lane-refl : (m : ℕ) (ws : List ℕ) → SameLane m ws ws
same-lane-refl m ws = same_lane refl (lane-unchanged m ws)

then : {m : ℕ} {ws vs us : List ℕ} → SameLane m ws vs → SameLane m vs us → SameLane m ws us
then S T =
    record {
      same_hats = λ s. T.same_hats s ∙ S.same_hats s;
      same_links = λ x c s. T.same_links x (S.still_led_to x c) s ∙ S.same_links x c s;
      same_values = λ x c. T.same_values x (S.still_led_to x c) ∙ S.same_values x c;
      still_led_to = λ x c. T.still_led_to x (S.still_led_to x c);
      was_led_to = λ x c. S.was_led_to x (T.was_led_to x c);
    }

module _ {ws : List ℕ} (B : Begun ws) (m : ℕ) where
  -- A task in no call on lane m is in none after a tick.
  still-not-on : (k h j : ℕ) → NotOn m ws j → NotOn m (tick_on ws k h).words j
  still-not-on k h j not_on = go (tick_refusal ws k h) refl
    where
      ended-or-same : (passes : tick_refusal ws k h ≡ none) → NotOn m ws k → Kept (task ws k) (effect_of ws k h)
          → NotOn m (tick_on ws k h).words k
      ended-or-same passes n (goes_on _ same) =
          let now = own-after (begun-agrees B).1 k h passes in
          rw now (λ busy q. n (sym (ap (λ (x : Note). is_busy x.operation) same) ∙ busy)
          (sym (ap (λ (x : Note). x.lane) same) ∙ q))
      ended-or-same passes n (has_answered _ ended) =
          let now = own-after (begun-agrees B).1 k h passes in
          λ busy q. refute (cc (ap (λ (t : Task). is_busy t.operation) (now ∙ ended)))

      go : (r : Option ℕ) → tick_refusal ws k h ≡ r → NotOn m (tick_on ws k h).words j
      go (some n) e = rw (tick-stopped ws k h e) not_on
      go none e =
          elim (j ≟ k) [
            | yes q ↦
                subst (λ (i : ℕ). NotOn m (tick_on ws k h).words i) (sym q)
                (ended-or-same e (subst (λ (i : ℕ). NotOn m ws i) q not_on)
                (keeps-invariant (begun-agrees B).1 k h e).kept)
            | no q ↦ rw (other_after (begun-agrees B).1 k h e j q) not_on
          ]

  still-none-on : (k h : ℕ) (list : List ℕ) → NoneOn m ws list → NoneOn m (tick_on ws k h).words list
  still-none-on k h [] n = tt
  still-none-on k h (j ∷ []) n = tt
  still-none-on k h (j ∷ i ∷ list) n = (still-not-on k h j n.0, still-none-on k h list n.1)

  tick-keeps : (k h : ℕ) → NotOn m ws k → SameLane m ws (tick_on ws k h).words
  tick-keeps k h not_on = (others_same (tick-stays B k h)).other_lanes m not_on

-- ---- The calls.
ticks-keep : (i : ℕ) (list : List ℕ) {ws : List ℕ} → Begun ws → (m : ℕ) → NoneOn m ws list
    → SameLane m ws (after_ticks i list ws)
unfolding after_ticks
ticks-keep zero list {ws} B m n = same-lane-refl m ws
ticks-keep (suc i) [] {ws} B m n = same-lane-refl m ws
ticks-keep (suc i) (k ∷ []) {ws} B m n = same-lane-refl m ws
ticks-keep (suc i) (k ∷ h ∷ list) B m n =
    then (tick-keeps B m k h n.0) (ticks-keep i list (begun-ticked B k h) m (still-none-on B m k h list n.1))

begin-keeps : {ws : List ℕ} → Begun ws → (m k l op side : ℕ) (argument : Stored)
    → SameLane m ws (begin ws k l op side argument).words
begin-keeps {ws} B m k l op side argument =
    by-begin (begun-agrees B).1 k l op side argument (λ c. SameLane m ws c.words) (λ n. same-lane-refl m ws)
    (λ vs T.
    same_lane T.same-lanes
    (rw (T.viewed-same right, T.tasks-then)
    (begin-stays k T.was-fresh l (operation_of op) (side_of side) (number argument) m)))

dispatch-keeps : {ws : List ℕ} → Begun ws → (m h : ℕ) → ChoosesOther m ws
    → SameLane m ws (dispatch ws h).words
dispatch-keeps {ws} B m h not_on =
    let A = (begun-agrees B).1 in
    let same = same-lane-refl m ws in
    by_dispatch ws A.accepted h (λ (r : Dispatched). SameLane m ws r.words) same (λ _. same) (λ k n _ _. same)
    (λ k is-next _ _.
    (others_same (dispatched-too (ticked-sized A k h) k (tick-stays B k h))).other_lanes m (not_on k is-next))

dispatches-keep : (n : ℕ) {ws : List ℕ} → Begun ws → (m h : ℕ)
    → ((i : ℕ) → i < dispatches_made n ws h → ChoosesOther m (dispatches i ws h).words)
    → SameLane m ws (dispatches n ws h).words
unfolding dispatches
dispatches-keep zero {ws} B m h other = same-lane-refl m ws
dispatches-keep (suc n) {ws} B m h other =
    go (dispatch_goes_on (dispatch ws h).answer) refl (dispatches-keep n (by_call B (dispatch_call h)) m h)
  where
    vs : List ℕ
    vs = (dispatch ws h).words

    go : (b : Bool) → dispatch_goes_on (dispatch ws h).answer ≡ b
        → (((i : ℕ) → i < dispatches_made n vs h → ChoosesOther m (dispatches i vs h).words)
        → SameLane m vs (dispatches n vs h).words)
        → SameLane m ws (dispatches (suc n) ws h).words
    go false e others =
        rw (none-follows n ws h e) (dispatch-keeps B m h (other 0 (rw (one-made n ws h e) (omega arith))))
    go true e others =
        rw (others-follow n ws h e)
        (then (dispatch-keeps B m h (other 0 (rw (one-more-made n ws h e) (omega arith))))
        (others (λ i l.
        subst (λ (r : Dispatched). ChoosesOther m r.words) (others-follow i ws h e)
        (other (suc i) (rw (one-more-made n ws h e) (omega arith))))))

pub calls-untouched : CallsUntouched
calls-untouched ws B m c = go (call-comes c ws)
  where
    go : {a : Asked} {vs : List ℕ} {d : Did} → Comes ws a vs d → Avoids m ws a → SameLane m ws vs
    go (left_alone a e) x = same-lane-refl m ws
    go (is-started S T g L e) x = absurd (x e)
    go (is-begun k l op side argument e) x = begin-keeps B m k l op side argument
    go (is-lent-begun lent whole k l op side argument e) x = same-lane-refl m ws
    go (are-ticked i list ts) x = ticks-keep i list B m x
    go (are-dispatched h n ts) x = dispatches-keep n B m h x
