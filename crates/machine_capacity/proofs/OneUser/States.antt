-- What a whole call leaves of a state: the numbers of its own end, and all else as it was.
use mathlib.Core.Path.{◌≡◌, refl, sym, ap, ◌∙◌}
use mathlib.Core.Logic.{◌≢◌, inl, inr}
use mathlib.Core.List.{List}
use mathlib.Core.Option.{Option, none}
use Prim.Native.Nat.{ℕ, zero, suc, ◌+◌}
use native.Mathlib.Omega.{arith}
use lib.ListN.{length}
use Rattle.machine.specs.Choice.{◌≟◌}
use Rattle.machine.specs.Sides.{Side, left, right, opposite, side_number, side_of}
use Rattle.machine.specs.Values.{number, stored}
use Rattle.machine.specs.Operations.{Operation}
use Rattle.machine.specs.Twice.{rows_below}
use Rattle.machine_capacity.specs.Alone.{CallOutcome, alone}
use Rattle.machine_capacity.specs.OneUser.{
  LaneState,
  State,
  WholeCall,
  call_of,
  bags_of,
  refusal,
  outcome,
  with_side,
  lane_then,
  state_then,
  AfterCall,
  after_call,
  one_call,
}
use Rattle.machine.proofs.Basics.Choices.{by-if, if_yes, if_no}
use Rattle.machine.proofs.Words.RecordLaws.{operation-of-number, side-of-number}
use Rattle.machine.proofs.Words.ValueLaws.{number-stored}
use Rattle.machine_capacity.proofs.Alone.Ends.{OtherEnd}

-- ---- The two sides.
with-side : (s : Side) (n : ℕ) (f : Side → ℕ) → with_side s n f s ≡ n
with-side left n f = refl
with-side right n f = refl

far-side : (s : Side) (n : ℕ) (f : Side → ℕ) → with_side s n f (opposite s) ≡ f (opposite s)
far-side left n f = refl
far-side right n f = refl

-- ---- The own end.
pub record Numbers (σ : State) (l : ℕ) (s : Side) (bags : List ℕ) (r y f : ℕ) : Type 0 where
  pub bags-are : (σ.lane l).bags ≡ bags
  pub spare_is : (σ.lane l).spare s ≡ r
  pub spur_is : (σ.lane l).spur s ≡ y
  pub free-is : σ.free ≡ f

-- ---- All else.
pub record Elsewhere (σ τ : State) (l : ℕ) (s : Side) : Type 0 where
  pub same_tasks : τ.tasks ≡ σ.tasks
  pub same_growth : τ.growth ≡ σ.growth
  pub same-lanes : τ.lanes ≡ σ.lanes
  pub same-bags : (j : ℕ) → j ≢ l → (τ.lane j).bags ≡ (σ.lane j).bags
  pub same_spare : (j : ℕ) (z : Side) → OtherEnd l (opposite s) j z → (τ.lane j).spare z ≡ (σ.lane j).spare z
  pub same_spur : (j : ℕ) (z : Side) → OtherEnd l (opposite s) j z → (τ.lane j).spur z ≡ (σ.lane j).spur z

pub elsewhere-then : {σ τ υ : State} {l : ℕ} {s : Side} → Elsewhere σ τ l s → Elsewhere τ υ l s → Elsewhere σ υ l s
elsewhere-then E F =
    record {
      same_tasks = F.same_tasks ∙ E.same_tasks;
      same_growth = F.same_growth ∙ E.same_growth;
      same-lanes = F.same-lanes ∙ E.same-lanes;
      same-bags = λ j ne. F.same-bags j ne ∙ E.same-bags j ne;
      same_spare = λ j z o. F.same_spare j z o ∙ E.same_spare j z o;
      same_spur = λ j z o. F.same_spur j z o ∙ E.same_spur j z o;
    }

module _ (σ : State) (l : ℕ) (s : Side) (o : CallOutcome) where
  pub own_lane : (state_then σ l s o).lane l ≡ lane_then (σ.lane l) s o
  own_lane = if_yes (l ≟ l) _ _ refl

  other-lane : (j : ℕ) → j ≢ l → (state_then σ l s o).lane j ≡ σ.lane j
  other-lane j ne = if_no (j ≟ l) _ _ ne

  pub spare-then : ((state_then σ l s o).lane l).spare s ≡ o.spare
  spare-then = ap (λ (i : LaneState). i.spare s) own_lane ∙ with-side s o.spare (σ.lane l).spare

  pub spur-then : ((state_then σ l s o).lane l).spur s ≡ o.spur
  spur-then = ap (λ (i : LaneState). i.spur s) own_lane ∙ with-side s o.spur (σ.lane l).spur

  -- A number of another end, whichever it is.
  number-kept : (pick : LaneState → Side → ℕ)
      → pick (lane_then (σ.lane l) s o) (opposite s) ≡ pick (σ.lane l) (opposite s)
      → (j : ℕ) (z : Side)
      → OtherEnd l (opposite s) j z
      → pick ((state_then σ l s o).lane j) z ≡ pick (σ.lane j) z
  number-kept pick far j z (inl ne) = ap (λ (i : LaneState). pick i z) (other-lane j ne)
  number-kept pick far j z (inr e) =
      by-if (λ (i : LaneState). pick i z ≡ pick (σ.lane j) z) (j ≟ l)
      (λ q.
      ap (pick (lane_then (σ.lane l) s o)) e
      ∙ far
      ∙ ap (pick (σ.lane l)) (sym e)
      ∙ ap (λ (i : ℕ). pick (σ.lane i) z) (sym q))
      (λ _. refl)

  pub state-elsewhere : Elsewhere σ (state_then σ l s o) l s
  state-elsewhere =
      record {
        same_tasks = refl;
        same_growth = refl;
        same-lanes = refl;
        same-bags = λ j ne. ap (λ (i : LaneState). i.bags) (other-lane j ne);
        same_spare = number-kept (λ i. i.spare) (far-side s o.spare (σ.lane l).spare);
        same_spur = number-kept (λ i. i.spur) (far-side s o.spur (σ.lane l).spur);
      }

-- ---- A call that is not refused.
pub call-done : (σ : State) (k l : ℕ) (op : Operation) (s : Side) (n : ℕ) → refusal σ (call_of k l op s n) ≡ none
    → one_call σ (call_of k l op s n)
    ≡ record { answer = (outcome σ l op s n).answer; state = state_then σ l s (outcome σ l op s n) }
call-done σ k l op s n passes =
    let F : Operation → Side → ℕ → AfterCall =
    λ x z v. record { answer = (outcome σ l x z v).answer; state = state_then σ l z (outcome σ l x z v) } in
    ap (λ (r : Option ℕ). after_call r σ (call_of k l op s n)) passes
    ∙ ap (λ (x : Operation). F x (side_of (side_number s)) (number (stored n))) (operation-of-number op)
    ∙ ap (λ (z : Side). F op z (number (stored n))) (side-of-number s)
    ∙ ap (F op s) (number-stored n)

module _ {σ : State} {l : ℕ} {s : Side} {bags : List ℕ} {r y f : ℕ} (N : Numbers σ l s bags r y f) (k : ℕ)
    (op : Operation) (n : ℕ) (passes : refusal σ (call_of k l op s n) ≡ none) {o : CallOutcome}
    (comes-to : alone op s n σ.growth f bags r y ≡ o) where
  outcome-is : outcome σ l op s n ≡ o
  outcome-is =
      ap (λ (i : ℕ). alone op s n σ.growth i (σ.lane l).bags ((σ.lane l).spare s) ((σ.lane l).spur s)) N.free-is
      ∙ ap (λ (b : List ℕ). alone op s n σ.growth f b ((σ.lane l).spare s) ((σ.lane l).spur s)) N.bags-are
      ∙ ap (λ (i : ℕ). alone op s n σ.growth f bags i ((σ.lane l).spur s)) N.spare_is
      ∙ ap (λ (i : ℕ). alone op s n σ.growth f bags r i) N.spur_is
      ∙ comes-to

  done-is : one_call σ (call_of k l op s n) ≡ record { answer = o.answer; state = state_then σ l s o }
  done-is =
      call-done σ k l op s n passes
      ∙ ap (λ (x : CallOutcome). record { answer = x.answer; state = state_then σ l s x }) outcome-is

  pub call-answers : (one_call σ (call_of k l op s n)).answer ≡ o.answer
  call-answers = ap (λ (d : AfterCall). d.answer) done-is

  -- The own numbers and what is free keep their sum.
  pub call-numbers : (f' : ℕ) → f' + (o.spare + o.spur + length o.bags) ≡ f + (r + y + length bags)
      → Numbers (one_call σ (call_of k l op s n)).state l s o.bags o.spare o.spur f'
  call-numbers f' sum =
      let then = ap (λ (d : AfterCall). d.state) done-is in
      let a = N.spare_is in
      let b = N.spur_is in
      let c = N.free-is in
      let d = ap length N.bags-are in
      record {
        bags-are = ap (λ (τ : State). (τ.lane l).bags) then ∙ ap (λ (i : LaneState). i.bags) (own_lane σ l s o);
        spare_is = ap (λ (τ : State). (τ.lane l).spare s) then ∙ spare-then σ l s o;
        spur_is = ap (λ (τ : State). (τ.lane l).spur s) then ∙ spur-then σ l s o;
        free-is = ap (λ (τ : State). τ.free) then ∙ omega arith;
      }

  pub call-elsewhere : Elsewhere σ (one_call σ (call_of k l op s n)).state l s
  call-elsewhere = rw (done-is) (state-elsewhere σ l s o)

-- ---- What is refused depends on the tasks, the lanes and the bags.
rows_same : (f g : ℕ → List ℕ) (n : ℕ) → ((j : ℕ) → f j ≡ g j) → rows_below f n ≡ rows_below g n
unfolding rows_below
rows_same f g zero same = refl
rows_same f g (suc n) same = rw (rows_same f g n same, same n) refl

module _ (σ τ : State) (tasks : τ.tasks ≡ σ.tasks) (lanes : τ.lanes ≡ σ.lanes)
    (bags : (j : ℕ) → (τ.lane j).bags ≡ (σ.lane j).bags) where
  pub bags-same : bags_of τ ≡ bags_of σ
  bags-same =
      rows_same (λ j. (τ.lane j).bags) (λ j. (σ.lane j).bags) τ.lanes bags
      ∙ ap (rows_below (λ j. (σ.lane j).bags)) lanes

  pub refusal-same : (c : WholeCall) → refusal τ c ≡ refusal σ c
  refusal-same c =
      let same = rows_same (λ j. (τ.lane j).bags) (λ j. (σ.lane j).bags) σ.lanes bags in
      rw (lanes, tasks, same) refl
