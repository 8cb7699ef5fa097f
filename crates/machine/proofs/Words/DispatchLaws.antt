-- Consecutive dispatches, by the first and by the last; and what they keep.
use mathlib.Core.Path.{◌≡◌, refl, ap, sym, ◌∙◌}
use mathlib.Core.Bool.{Bool, true, false, cond}
use mathlib.Core.List.{List}
use Prim.Native.Nat.{ℕ, zero, suc, ◌<◌, ◌≤◌}
use native.Mathlib.Omega.{arith}
use native.Mathlib.Decide.{dec_lt}
use lib.Dec.{ltb}
use borrow.Author.Tests.{lt-ltb, le-ltb}
use Rattle.tag.specs.Tags.{largest_tag}
use Rattle.machine.specs.Outcomes.Answer.{Going}
use Rattle.machine.specs.Outcomes.Dispatch.{Dispatch, Idle, Answered}
use Rattle.machine.specs.Answers.{dispatch_goes_on, dispatch_payload_of}
use Rattle.machine.specs.Calls.{Dispatched, dispatch, dispatches, went_on, dispatches_made}
use Rattle.machine.proofs.Basics.Contradiction.{clash}
use Rattle.machine.proofs.Words.TickLaws.{dispatch-number}
use Rattle.machine.proofs.Words.RunLaws.{going-answer}

pub going-dispatch : (d : Dispatch) → dispatch_goes_on d ≡ true → d ≡ Answered Going
going-dispatch Idle h = clash (cc)
going-dispatch (Answered a) h = ap Answered (going-answer a h)

module _ (n : ℕ) (ws : List ℕ) (h : ℕ) where
  -- Where the first goes on, the others are made on its table.
  module _ (e : dispatch_goes_on (dispatch ws h).answer ≡ true) where
    pub others-follow : dispatches (suc n) ws h ≡ dispatches n (dispatch ws h).words h
    unfolding dispatches
    others-follow = rw (e, dispatches)

    pub one-went-on : went_on (suc n) ws h ≡ suc (went_on n (dispatch ws h).words h)
    unfolding went_on
    one-went-on = rw (e, went_on)

    pub one-more-made : dispatches_made (suc n) ws h ≡ suc (dispatches_made n (dispatch ws h).words h)
    one-more-made = rw one-went-on (go (dec_lt (went_on n (dispatch ws h).words h) n))
      where
        m : ℕ
        m = went_on n (dispatch ws h).words h

        go : Dec (m < n) → cond (ltb (suc m) (suc n)) (suc (suc m)) (suc m) ≡ suc (cond (ltb m n) (suc m) m)
        go (yes l) = rw (lt-ltb m n l, lt-ltb (suc m) (suc n) (omega arith))
        go (no f) = rw (le-ltb m n (omega arith), le-ltb (suc m) (suc n) (omega arith))

  -- Where it does not, it is the last.
  module _ (e : dispatch_goes_on (dispatch ws h).answer ≡ false) where
    pub none-follows : dispatches (suc n) ws h ≡ dispatch ws h
    unfolding dispatches
    none-follows = rw (e, dispatches)

    pub none-went-on : went_on (suc n) ws h ≡ 0
    unfolding went_on
    none-went-on = rw (e, went_on)

    pub one-made : dispatches_made (suc n) ws h ≡ 1
    one-made = rw (none-went-on, lt-ltb 0 (suc n) (omega arith))

-- One consecutive dispatch is a dispatch.
pub one-dispatch : (ws : List ℕ) (h : ℕ) → dispatches 1 ws h ≡ dispatch ws h
unfolding dispatches
one-dispatch ws h = go (dispatch_goes_on (dispatch ws h).answer) refl
  where
    go : (b : Bool) → dispatch_goes_on (dispatch ws h).answer ≡ b → dispatches 1 ws h ≡ dispatch ws h
    go false e = none-follows 0 ws h e
    go true e =
        others-follow 0 ws h e
        ∙ ap (λ (d : Dispatch). record { answer = d; words = (dispatch ws h).words }) (sym (going-dispatch _ e))

-- By the last: P holds of the table that it is made on, as it does of the first and a dispatch keeps it.
module _ (P : List ℕ → Type 0) (h : ℕ) (keeps : (ws : List ℕ) → P ws → P (dispatch ws h).words) where
  pub by-last-dispatch : (Q : Dispatched → Type 0)
      → ((ws : List ℕ) → P ws → Q (record { answer = Answered Going; words = ws }))
      → ((ws : List ℕ) → P ws → Q (dispatch ws h))
      → (n : ℕ) (ws : List ℕ)
      → P ws
      → Q (dispatches n ws h)
  unfolding dispatches
  by-last-dispatch Q none-asked last zero ws p = none-asked ws p
  by-last-dispatch Q none-asked last (suc n) ws p =
      go (dispatch_goes_on (dispatch ws h).answer) (by-last-dispatch Q none-asked last n (dispatch ws h).words
      (keeps ws p))
    where
      go : (b : Bool) → Q (dispatches n (dispatch ws h).words h)
          → Q
          (elim b as (λ _. Dispatched) [
            | true ↦ dispatches n (dispatch ws h).words h
            | false ↦ dispatch ws h
          ])
      go true others = others
      go false others = last ws p

  pub kept-in-dispatches : (n : ℕ) (ws : List ℕ) → P ws → P (dispatches n ws h).words
  kept-in-dispatches = by-last-dispatch (λ r. P r.words) (λ ws p. p) keeps

-- The number that comes with the last answer is a tag's, or a refusal's.
pub dispatches-number : (n : ℕ) (ws : List ℕ) (h : ℕ) → dispatch_payload_of (dispatches n ws h).answer ≤ largest_tag
dispatches-number n ws h =
    by-last-dispatch (λ vs. Unit {0}) h (λ vs p. tt) (λ r. dispatch_payload_of r.answer ≤ largest_tag)
    (λ vs p. omega arith) (λ vs p. dispatch-number vs h) n ws tt
