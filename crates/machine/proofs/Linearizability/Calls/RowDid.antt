-- What a call feeds the row is what it did: an accepted start, an accepted begin, or ticks that were made, one after
-- another. A lent record left begun feeds it nothing.
use mathlib.Core.Path.{◌≡◌, refl}
use mathlib.Core.Bool.{Bool, true, false, cond}
use mathlib.Core.List.{List, [], ◌∷◌}
use mathlib.Core.Option.{Option, some, none, map, bind}
use Prim.Native.Nat.{ℕ, zero, suc}
use Rattle.machine.specs.Outcomes.Answer.{Answer, Going}
use Rattle.machine.specs.Outcomes.Dispatch.{Dispatch, Idle, Answered}
use Rattle.machine.specs.Answers.{refusal_of, is_going, dispatch_goes_on, answer_of}
use Rattle.machine.specs.Row.{
  Row,
  empty_row,
  noted,
  feed_made,
  feed_run,
  next_noted,
  feed_dispatched,
  feed_idle,
  feed_dispatch,
}
use Rattle.machine.specs.Demand3.{feed_tick, feed_ticks, feed_dispatches}
use Rattle.machine.specs.Kinds.{
  Tick,
  of_task,
  of_next,
  Did,
  started,
  begun,
  lent_begun,
  ticked,
  tick_did,
  ticks_did,
  dispatch_did,
  dispatches_did,
  run_did,
}
use Rattle.machine.proofs.Basics.Contradiction.{clash}

-- ---- Options taken apart.
pub bind-some : {T U : Type 0} (o : Option T) (f : T → Option U) {y : U} → bind o f ≡ some y
    → (x : T) × (o ≡ some x) × (f x ≡ some y)
unfolding bind
bind-some none f e = clash (cc)
bind-some (some x) f e = (x, refl, e)

pub map-some : {T U : Type 0} (o : Option T) (f : T → U) {y : U} → map f o ≡ some y
    → (x : T) × (o ≡ some x) × (f x ≡ y)
map-some none f e = clash (cc)
map-some (some x) f e = (x, refl, cc)

-- A row that passes a test is left as it is.
pub same_if : {ρ ρ' : Row} (b : Bool) → cond b (some ρ) none ≡ some ρ' → (b ≡ true) × (ρ ≡ ρ')
same_if true q = (refl, cc)
same_if false q = clash (cc)

-- A row that is fed where a test fails.
unless-going : {r : Option Row} {ρ' : Row} (b : Bool) → cond b none r ≡ some ρ' → r ≡ some ρ'
unless-going true q = clash (cc)
unless-going false q = q

-- ---- The row fed what a call did.
abbrev pub feed_made_tick : Row → Tick → Option Row
feed_made_tick ρ (of_task k a) = feed_made ρ k a
feed_made_tick ρ (of_next a) = feed_dispatched ρ a

unfoldable pub feed_made_ticks : Row → List Tick → Option Row
feed_made_ticks ρ [] = some ρ
feed_made_ticks ρ (t ∷ ts) = bind (feed_made_tick ρ t) (λ ρ'. feed_made_ticks ρ' ts)

abbrev pub feed_did : Row → Did → Option Row
feed_did ρ (started T lanes) = some (empty_row T lanes)
feed_did ρ (begun k n) = some (noted ρ k (some n))
feed_did ρ (lent_begun k n words) = some ρ
feed_did ρ (ticked ts) = feed_made_ticks ρ ts

-- ---- Ticks.
made-fed : (ρ : Row) {ρ' : Row} (t : Tick) → feed_made_tick ρ t ≡ some ρ' → feed_made_ticks ρ (t ∷ []) ≡ some ρ'
unfolding feed_made_ticks bind
made-fed ρ t e = rw e

pub tick-fed : (ρ : Row) {ρ' : Row} (k : ℕ) (a : Answer) → feed_tick ρ k a ≡ some ρ' → feed_made_ticks ρ (tick_did k a)
    ≡ some ρ'
unfolding feed_tick feed_made_ticks
tick-fed ρ {ρ'} k a e = go (refusal_of a) e
  where
    go : (o : Option ℕ)
        → elim o as (λ _. Option Row) [ some n ↦ some ρ | none ↦ feed_made ρ k a ] ≡ some ρ'
        → feed_made_ticks ρ (elim o as (λ _. List Tick) [ some n ↦ [] | none ↦ of_task k a ∷ [] ]) ≡ some ρ'
    go (some n) q = q
    go none q = made-fed ρ (of_task k a) q

pub ticks-fed : (ρ : Row) {ρ' : Row} (k n : ℕ) (a : Answer) → feed_ticks ρ k n a ≡ some ρ'
    → feed_made_ticks ρ (ticks_did k n a) ≡ some ρ'
unfolding feed_made_ticks
ticks-fed ρ {ρ'} k zero a e = let same : ρ ≡ ρ' = (same_if (is_going a) e).1 in cc
ticks-fed ρ k (suc n) a e = tick-fed ρ k a e

pub run-fed : (ρ : Row) {ρ' : Row} (n : ℕ) (list answers : List ℕ) → feed_run ρ n list answers ≡ some ρ'
    → feed_made_ticks ρ (run_did n list answers) ≡ some ρ'
unfolding feed_run feed_made_ticks run_did bind
run-fed ρ zero list answers e = e
run-fed ρ (suc n) [] answers e = clash (cc)
run-fed ρ (suc n) (k ∷ []) answers e = clash (cc)
run-fed ρ (suc n) (k ∷ h ∷ list) [] e = clash (cc)
run-fed ρ (suc n) (k ∷ h ∷ list) (kind ∷ []) e = clash (cc)
run-fed ρ (suc n) (k ∷ h ∷ list) (kind ∷ digit ∷ []) e = clash (cc)
run-fed ρ (suc n) (k ∷ h ∷ list) (kind ∷ digit ∷ low ∷ answers) e =
    let a = bind-some (answer_of kind digit low) _ e in
    let m = bind-some (feed_made ρ k a.0) _ a.2 in
    rw (a.1, run_did, m.1) (run-fed m.0 n list answers m.2)

-- ---- Dispatches.
pub dispatch-fed : (ρ : Row) {ρ' : Row} (d : Dispatch) → feed_dispatch ρ d ≡ some ρ'
    → feed_made_ticks ρ (dispatch_did d) ≡ some ρ'
unfolding feed_dispatch feed_idle feed_made_ticks
dispatch-fed ρ {ρ'} Idle e = go (next_noted ρ.notes ρ.tasks ρ.dispatched) e
  where
    go : (o : Option ℕ)
        → elim o as (λ _. Option Row) [ some k ↦ none | none ↦ some ρ ] ≡ some ρ'
        → some ρ ≡ some ρ'
    go (some k) q = clash (cc)
    go none q = q
dispatch-fed ρ {ρ'} (Answered a) e = go (refusal_of a) e
  where
    go : (o : Option ℕ)
        → elim o as (λ _. Option Row) [ some n ↦ some ρ | none ↦ feed_dispatched ρ a ] ≡ some ρ'
        → feed_made_ticks ρ (elim o as (λ _. List Tick) [ some n ↦ [] | none ↦ of_next a ∷ [] ]) ≡ some ρ'
    go (some n) q = q
    go none q = made-fed ρ (of_next a) q

pub dispatches-fed : (ρ : Row) {ρ' : Row} (n m : ℕ) (d : Dispatch) → feed_dispatches ρ n m d ≡ some ρ'
    → feed_made_ticks ρ (dispatches_did n m d) ≡ some ρ'
unfolding feed_dispatches dispatches_did feed_made_ticks feed_dispatch bind
dispatches-fed ρ {ρ'} zero zero d e = let same : ρ ≡ ρ' = (same_if (dispatch_goes_on d) e).1 in cc
dispatches-fed ρ zero (suc m) d e = clash (cc)
dispatches-fed ρ (suc n) zero d e = dispatch-fed ρ d (unless-going (dispatch_goes_on d) e)
dispatches-fed ρ (suc n) (suc m) d e =
    let x = bind-some (feed_dispatch ρ (Answered Going)) _ e in
    rw x.1 (dispatches-fed x.0 n m d x.2)
