-- Consecutive dispatches: each is explained by the row as those before it left it.
use mathlib.Core.Path.{◌≡◌, refl, sym, ap, ◌∙◌, subst}
use mathlib.Core.Bool.{Bool, true, false}
use mathlib.Core.List.{List}
use mathlib.Core.Option.{some, bind}
use Prim.Native.Nat.{ℕ, zero, suc}
use Rattle.machine.specs.Outcomes.Answer.{Going}
use Rattle.machine.specs.Outcomes.Dispatch.{Dispatch, Answered}
use Rattle.machine.specs.Answers.{dispatch_goes_on}
use Rattle.machine.specs.Calls.{Dispatched, dispatch, dispatches, went_on}
use Rattle.machine.specs.Row.{Row, feed_dispatch}
use Rattle.machine.specs.Demand3.{dispatch_call, dispatches_call, feed_dispatches, Within}
use Rattle.machine.proofs.Words.DispatchLaws.{
  going-dispatch,
  others-follow,
  one-went-on,
  none-follows,
  none-went-on,
}
use Rattle.machine.proofs.Linearizability.Calls.Agreement.{Agrees, lanes-are-rows}
use Rattle.machine.proofs.Linearizability.Calls.CallsAgree.{Explains, dispatch-explained}

-- The row is fed the outcome and the count.
fed-alike : (ρ : Row) (n : ℕ) {m m' : ℕ} {r r' : Dispatched} → r ≡ r' → m ≡ m'
    → feed_dispatches ρ n m r.answer ≡ feed_dispatches ρ n m' r'.answer
fed-alike ρ n p q = λ i. feed_dispatches ρ n (q i) (p i).answer

-- It is fed the last, or one that went on before it.
fed-last : (ρ : Row) (n : ℕ) (d : Dispatch) → dispatch_goes_on d ≡ false
    → feed_dispatches ρ (suc n) 0 d ≡ feed_dispatch ρ d
unfolding feed_dispatches
fed-last ρ n d e = rw (e, feed_dispatches)

fed-before : (ρ : Row) (n m : ℕ) (d : Dispatch) {σ : Row} → feed_dispatch ρ (Answered Going) ≡ some σ
    → feed_dispatches ρ (suc n) (suc m) d ≡ feed_dispatches σ n m d
unfolding feed_dispatches bind
fed-before ρ n m d e = rw e

module _ (h : ℕ) where
  none-explained : {ws : List ℕ} {ρ : Row} → Agrees ws ρ → Explains ws ρ (dispatches_call h 0)
  unfolding dispatches went_on feed_dispatches
  none-explained {ws} {ρ} A = record { row = ρ; given-by-row = refl; agrees = A }

  pub dispatches-explained : (n : ℕ) {ws : List ℕ} {ρ : Row} → Agrees ws ρ → Explains ws ρ (dispatches_call h n)
  dispatches-explained zero A = none-explained A
  dispatches-explained (suc n) {ws} {ρ} A =
      go (dispatch_goes_on (dispatch ws h).answer) refl (dispatches-explained n first.agrees)
    where
      first : Explains ws ρ (dispatch_call h)
      first = dispatch-explained A h

      go : (b : Bool) → dispatch_goes_on (dispatch ws h).answer ≡ b
          → Explains (dispatch ws h).words first.row (dispatches_call h n)
          → Explains ws ρ (dispatches_call h (suc n))
      go false e others =
          record {
            row = first.row;
            given-by-row =
                fed-alike ρ (suc n) (none-follows n ws h e) (none-went-on n ws h e)
                ∙ fed-last ρ n (dispatch ws h).answer e
                ∙ first.given-by-row;
            agrees =
                subst (λ (r : Dispatched). Agrees r.words first.row) (sym (none-follows n ws h e))
                first.agrees;
          }
      go true e others =
          let went-on = ap (feed_dispatch ρ) (sym (going-dispatch _ e)) ∙ first.given-by-row in
          record {
            row = others.row;
            given-by-row =
                fed-alike ρ (suc n) (others-follow n ws h e) (one-went-on n ws h e)
                ∙ fed-before ρ n _ _ went-on
                ∙ others.given-by-row;
            agrees =
                subst (λ (r : Dispatched). Agrees r.words others.row) (sym (others-follow n ws h e))
                others.agrees;
          }

  pub dispatches-within : (n : ℕ) {ws : List ℕ} {ρ : Row} → Agrees ws ρ → Within (dispatches_call h n) ws ρ
  dispatches-within n A i l =
      let E = dispatches-explained i A in (E.row, E.given-by-row, lanes-are-rows E.agrees)
