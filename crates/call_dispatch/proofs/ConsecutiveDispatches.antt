-- Consecutive dispatches, one after another: the one made, and those left on the table that it leaves.
use Rattle.std.proofs.Common.{◌≡◌, ◌≢◌, refl, sym, ap, ◌∙◌, subst, arith, true, false, List, ℕ, zero, suc, ◌+◌, ◌-◌, ◌<◌}
use Rattle.std.proofs.Math.Option.{some, none}
use Rattle.machine.specs.Outcomes.Answer.{Going, Refused}
use Rattle.machine.specs.Outcomes.Dispatch.{Answered}
use Rattle.machine.specs.Answers.{dispatch_goes_on}
use Rattle.machine.specs.Calls.{dispatch_refusal, Dispatched, dispatch_on, dispatch, dispatches}
use Rattle.machine.specs.Demand3.{dispatch_call}
use Rattle.machine.proofs.Words.DispatchLaws.{others-follow, none-follows}
use Rattle.machine.proofs.Shape.ShapeKept.{dispatch-same-sizes, call-accepted}
use Rattle.call_dispatch.proofs.DispatchRefusals.{
  dispatch-passes,
  dispatch-refused,
  dispatch-on,
  dispatch-tested,
  hint-passed,
}

module _ (ws : List ℕ) (h : ℕ) (passed : dispatch_refusal ws h ≡ none) {d : Dispatched} (done : d ≡ dispatch_on ws h) where
  is-dispatch : d ≡ dispatch ws h
  is-dispatch = done ∙ dispatch-on ws h (sym passed)

  -- A dispatch leaves a table and sizes that pass the tests again.
  pub still-passed : dispatch_refusal d.words h ≡ none
  still-passed =
      let A = dispatch-tested ws h (sym passed) in
      let same_nodes = ap (λ z. z.node_count) (dispatch-same-sizes ws A h) in
      subst (λ (r : Dispatched). dispatch_refusal r.words h ≡ none) (sym is-dispatch)
      (sym
      (dispatch-passes (dispatch ws h).words h (call-accepted ws A (dispatch_call h))
      (subst (λ (n : ℕ). h < n) (sym same_nodes) (hint-passed ws h (sym passed)))))

  same-going : dispatch_goes_on (dispatch ws h).answer ≡ dispatch_goes_on d.answer
  same-going = ap (λ (r : Dispatched). dispatch_goes_on r.answer) (sym is-dispatch)

  -- It is the last of those left, or the others follow.
  module _ (times made : ℕ) (left : made < times) {all : Dispatched} (so_far : dispatches (times - made) ws h ≡ all) where
    one-of-them : suc (times - (made + 1)) ≡ times - made
    one-of-them = omega arith

    as_left : dispatches (suc (times - (made + 1))) ws h ≡ all
    as_left = ap (λ (n : ℕ). dispatches n ws h) one-of-them ∙ so_far

    pub dispatches_end : dispatch_goes_on d.answer ≡ false → d ≡ all
    dispatches_end g = is-dispatch ∙ sym (none-follows (times - (made + 1)) ws h (same-going ∙ g)) ∙ as_left

    pub others-left : dispatch_goes_on d.answer ≡ true → dispatches (times - (made + 1)) d.words h ≡ all
    others-left g =
        ap (λ (r : Dispatched). dispatches (times - (made + 1)) r.words h) is-dispatch
        ∙ sym (others-follow (times - (made + 1)) ws h (same-going ∙ g))
        ∙ as_left

-- Before the first all are left, and after the last none.
pub all_left : (ws : List ℕ) (h times : ℕ) → dispatches (times - 0) ws h ≡ dispatches times ws h
all_left ws h times = let e : times - 0 ≡ times = omega arith in ap (λ (n : ℕ). dispatches n ws h) e

pub none_left : (ws : List ℕ) (h : ℕ) {n : ℕ} → n ≡ 0
    → record { answer = Answered Going; words = ws } ≡ dispatches n ws h
unfolding dispatches
none_left ws h e = rw e

pub all-refused : (ws : List ℕ) (h : ℕ) {n : ℕ} → some n ≡ dispatch_refusal ws h → (times : ℕ) → times ≢ 0
    → record { answer = Answered (Refused n); words = ws } ≡ dispatches times ws h
all-refused ws h said zero asked = absurd (asked refl)
all-refused ws h said (suc m) asked =
    let e = dispatch-refused ws h said in
    e ∙ sym (none-follows m ws h (ap (λ (d : Dispatched). dispatch_goes_on d.answer) (sym e)))

-- What consecutive dispatches rest on.
pub ruleset made = (all_left, none_left)

pub ruleset refused = (none_left, all-refused)
