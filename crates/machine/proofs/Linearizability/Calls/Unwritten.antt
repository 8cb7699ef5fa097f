-- A call that started nothing, began nothing in the table and made no tick leaves every word of a table that agrees
-- with a row.
use mathlib.Core.Path.{◌≡◌, refl, sym, ap, ◌∙◌, subst}
use mathlib.Core.Bool.{Bool, true, false}
use mathlib.Core.List.{List, [], ◌∷◌}
use mathlib.Core.Option.{Option, some, none, bind}
use Prim.Native.Nat.{ℕ, zero, suc, ◌<◌}
use Rattle.machine.specs.declared.Stored.{Stored}
use Rattle.airline_list.specs.Outcomes.{Sent, To, NotSent}
use Rattle.airline_list.specs.Lists.{verdict, sent}
use Rattle.machine.specs.Values.{number}
use Rattle.machine.specs.Answers.{refusal_of, is_going, dispatch_goes_on, answer_of}
use Rattle.machine.specs.Calls.{
  tick_refusal,
  run_refusal,
  panel_refusal,
  Ticked,
  tick,
  tick_on,
  ticks,
  Dispatched,
  dispatch,
  dispatches,
  went_on,
  tested,
  run,
  panel,
}
use Rattle.machine.specs.Row.{Note, Row, feed_run}
use Rattle.machine.specs.Demand3.{
  Call,
  start_call,
  begin_call,
  tick_call,
  ticks_call,
  dispatch_call,
  dispatches_call,
  run_call,
  panel_call,
  read_call,
  sheet_call,
  push_by_list_call,
  lent_begin_call,
  given,
  after,
  after_ticks,
}
use Rattle.machine.specs.Kinds.{
  Asked,
  a_start,
  a_begin,
  ticks-of,
  dispatches_with,
  a_look,
  sent_asks,
  Tick,
  of_task,
  of_next,
  Did,
  lent_begun,
  ticked,
  dispatch_did,
  dispatches_did,
  run_did,
  did,
}
use Rattle.machine.proofs.Basics.Contradiction.{clash}
use Rattle.machine.proofs.Words.TickLaws.{tick-stopped}
use Rattle.machine.proofs.Words.RunLaws.{first-goes-on, first-is-last, one-consecutive}
use Rattle.machine.proofs.Words.DispatchLaws.{one-went-on, none-went-on, none-follows}
use Rattle.machine.proofs.Words.Kinds.{
  Comes,
  left_alone,
  is-started,
  is-begun,
  is-lent-begun,
  are-ticked,
  are-dispatched,
  call-comes,
  run_ends,
}
use Rattle.machine.proofs.Shape.TickKeeps.{tick-allowed, busy-passes}
use Rattle.machine.proofs.Shape.DispatchCases.{by_dispatch}
use Rattle.machine.proofs.Shape.ShapeKept.{tick-passes, tick-call-kept}
use Rattle.machine.proofs.Linearizability.Calls.Agreement.{Agrees, noted-if-busy}
use Rattle.machine.proofs.Linearizability.Calls.MadeTicks.{made-tick}
use Rattle.machine.proofs.Linearizability.Calls.RowDid.{bind-some}
use Rattle.machine.proofs.Linearizability.Calls.ConsecutiveTicks.{going-keeps}
use Rattle.machine.proofs.Linearizability.Calls.Runs.{run-explained, panel-explained}

-- What was made, where a refusal leaves nothing, is nothing only by a refusal.
none-by-refusal : (t : Tick) (o : Option ℕ)
    → ◌≡◌ {A = List Tick} (elim o as (λ _. List Tick) [ some n ↦ [] | none ↦ t ∷ [] ]) []
    → (n : ℕ) × (o ≡ some n)
none-by-refusal t (some n) e = (n, refl)
none-by-refusal t none e = clash (cc)

-- ---- Ticks.
module _ (k h : ℕ) where
  tick-made : {ws : List ℕ} {ρ : Row} → Agrees ws ρ → tick_refusal ws k h ≡ none → refusal_of (tick ws k h).answer ≡ none
  tick-made {ws} A passes =
      ap (λ (r : Ticked). refusal_of r.answer) (tick-passes ws A.accepted k h) ∙ (made-tick A k h passes).no_number

  -- A task that goes on passes again.
  passes-again : {ws : List ℕ} {ρ : Row} → Agrees ws ρ → tick_refusal ws k h ≡ none → Agrees (tick ws k h).words ρ
      → tick_refusal (tick ws k h).words k h ≡ none
  passes-again {ws} A passes B =
      let allowed = tick-allowed ws k h passes in
      let sizes = (tick-call-kept ws A.accepted k h).same-sizes in
      busy-passes (tick ws k h).words k h (sym (noted-if-busy B k) ∙ noted-if-busy A k ∙ allowed.2)
      (subst (λ (n : ℕ). h < n) (sym (ap (λ z. z.node_count) sizes)) allowed.1)

  ticks-made : (n : ℕ) {ws : List ℕ} {ρ : Row} → Agrees ws ρ → tick_refusal ws k h ≡ none
      → refusal_of (ticks n ws k h).answer ≡ none
  unfolding ticks
  ticks-made zero A passes = refl
  ticks-made (suc n) {ws} {ρ} A passes = go (is_going (tick ws k h).answer) refl (λ B. ticks-made n B)
    where
      go : (b : Bool) → is_going (tick ws k h).answer ≡ b
          → (Agrees (tick ws k h).words ρ
          → tick_refusal (tick ws k h).words k h ≡ none
          → refusal_of (ticks n (tick ws k h).words k h).answer ≡ none)
          → refusal_of (ticks (suc n) ws k h).answer ≡ none
      go false e others =
          ap (λ (r : Ticked). refusal_of r.answer) (first-is-last n ws k h e) ∙ tick-made A passes
      go true e others =
          let B = going-keeps k h A e in
          ap (λ (r : Ticked). refusal_of r.answer) (first-goes-on n ws k h e) ∙ others B (passes-again A passes B)

  -- So the last is refused only where the first is, which leaves the table.
  ticks-unmade : (n : ℕ) {ws : List ℕ} {ρ : Row} → Agrees ws ρ → {m : ℕ}
      → refusal_of (ticks (suc n) ws k h).answer ≡ some m
      → (ticks (suc n) ws k h).words ≡ ws
  ticks-unmade n {ws} A {m} e = go (tick_refusal ws k h) refl
    where
      go : (r : Option ℕ) → tick_refusal ws k h ≡ r → (ticks (suc n) ws k h).words ≡ ws
      go none passes = clash (cc (ticks-made (suc n) A passes))
      go (some i) q =
          let stopped = tick-passes ws A.accepted k h ∙ tick-stopped ws k h q in
          ap (λ (r : Ticked). r.words)
          (first-is-last n ws k h (ap (λ (r : Ticked). is_going r.answer) stopped) ∙ stopped)

-- ---- Dispatches.
module _ (h : ℕ) {ws : List ℕ} {ρ : Row} (A : Agrees ws ρ) where
  dispatch-unmade : dispatch_did (dispatch ws h).answer ≡ [] → (dispatch ws h).words ≡ ws
  dispatch-unmade =
      by_dispatch ws A.accepted h (λ (r : Dispatched). dispatch_did r.answer ≡ [] → r.words ≡ ws)
      (λ _. refl) (λ _ _. refl) (λ k n chosen q _. refl)
      (λ k chosen passes made e.
      clash (cc (none-by-refusal (of_next (tick_on ws k h).answer) (refusal_of (tick_on ws k h).answer) e).1))

  dispatches-unmade : (n : ℕ) → dispatches_did n (went_on n ws h) (dispatches n ws h).answer ≡ []
      → (dispatches n ws h).words ≡ ws
  unfolding dispatches_did dispatches
  dispatches-unmade zero e = refl
  dispatches-unmade (suc n) e = go (dispatch_goes_on (dispatch ws h).answer) refl
    where
      go : (b : Bool) → dispatch_goes_on (dispatch ws h).answer ≡ b → (dispatches (suc n) ws h).words ≡ ws
      go true q = clash (cc (rw (one-went-on n ws h q) at e))
      go false q =
          let one = none-follows n ws h q in
          ap (λ (r : Dispatched). r.words) one
          ∙ dispatch-unmade (rw (none-went-on n ws h q, one) at e)

-- ---- Runs.
run-unmade : (ρ : Row) {ρ' : Row} (n : ℕ) (list answers : List ℕ) → feed_run ρ n list answers ≡ some ρ'
    → run_did n list answers ≡ []
    → n ≡ 0
unfolding feed_run run_did bind
run-unmade ρ zero list answers e q = refl
run-unmade ρ (suc n) [] answers e q = clash (cc)
run-unmade ρ (suc n) (k ∷ []) answers e q = clash (cc)
run-unmade ρ (suc n) (k ∷ h ∷ list) [] e q = clash (cc)
run-unmade ρ (suc n) (k ∷ h ∷ list) (kind ∷ []) e q = clash (cc)
run-unmade ρ (suc n) (k ∷ h ∷ list) (kind ∷ digit ∷ []) e q = clash (cc)
run-unmade ρ (suc n) (k ∷ h ∷ list) (kind ∷ digit ∷ low ∷ answers) e q =
    let a = bind-some (answer_of kind digit low) _ e in clash (cc (rw (a.1, run_did) at q))

tested-unmade : (r : Option ℕ) (ws list answers : List ℕ) → (tested r ws list answers).ran.made ≡ 0
    → (tested r ws list answers).words ≡ ws
unfolding after_ticks
tested-unmade (some n) ws list answers e = refl
tested-unmade none ws list answers e = sym (run_ends list ws answers) ∙ ap (λ (i : ℕ). after_ticks i list ws) e

-- ---- Every call.
same_ticks : {ts us : List Tick} → ticked ts ≡ ticked us → ts ≡ us
same_ticks e = cc

-- A start or a begin that did nothing was refused, and a look does nothing.
abbrev TicksNone : Asked → Type 0
TicksNone (a_start S T g L) = Unit {0}
TicksNone (a_begin k l op side argument) = Unit {0}
TicksNone (ticks-of list) = ⊥
TicksNone (dispatches_with h n) = ⊥
TicksNone a_look = Unit {0}

refused-or-look : {ws vs : List ℕ} {a : Asked} {d : Did} → Comes ws a vs d → TicksNone a → d ≡ ticked [] → vs ≡ ws
refused-or-look (left_alone a e) t q = refl
refused-or-look (is-started S T g L e) t q = clash (cc)
refused-or-look (is-begun k l op side argument e) t q = clash (cc)
refused-or-look (is-lent-begun lent whole k l op side argument e) t q = refl
refused-or-look (are-ticked i list ts) t q = absurd t
refused-or-look (are-dispatched h n ts) t q = absurd t

sent-ticks-none : (s : Sent) (k l : ℕ) (argument : Stored) → TicksNone (sent_asks s k l argument)
sent-ticks-none (To end) k l argument = tt
sent-ticks-none (NotSent n line) k l argument = tt

module _ {ws : List ℕ} {ρ : Row} (A : Agrees ws ρ) where
  pub none_made : (c : Call) → did c (given c ws) ≡ ticked [] → after c ws ≡ ws
  unfolding ticks run panel
  none_made (start_call S T g L) e = refused-or-look (call-comes (start_call S T g L) ws) tt e
  none_made (begin_call k l op side argument) e = refused-or-look (call-comes (begin_call k l op side argument) ws) tt e
  none_made (tick_call k h) e =
      let one = one-consecutive ws k h in
      let a = (tick ws k h).answer in
      let refused = none-by-refusal (of_task k a) (refusal_of a) (same_ticks e) in
      sym (ap (λ (r : Ticked). r.words) one)
      ∙ ticks-unmade k h 0 A (ap (λ (r : Ticked). refusal_of r.answer) one ∙ refused.1)
  none_made (ticks_call k h zero) e = refl
  none_made (ticks_call k h (suc n)) e =
      let a = (ticks (suc n) ws k h).answer in
      ticks-unmade k h n A (none-by-refusal (of_task k a) (refusal_of a) (same_ticks e)).1
  none_made (dispatch_call h) e = dispatch-unmade h A (same_ticks e)
  none_made (dispatches_call h n) e = dispatches-unmade h A n (same_ticks e)
  none_made (run_call list answers) e =
      tested-unmade (run_refusal ws list answers) ws list answers
      (run-unmade ρ _ list _ (run-explained A list answers).given-by-row (same_ticks e))
  none_made (panel_call list answers) e =
      tested-unmade (panel_refusal ws list answers) ws list answers
      (run-unmade ρ _ list _ (panel-explained A list answers).given-by-row (same_ticks e))
  none_made (read_call l out) e = refl
  none_made (sheet_call l page out) e = refl
  none_made (push_by_list_call list k l argument) e =
      refused-or-look (call-comes (push_by_list_call list k l argument) ws)
      (sent-ticks-none (sent (verdict list) (number argument)) k l argument) e
  none_made (lent_begin_call lent whole k l op side argument) e = refl

-- A lent record left begun is none of the table's.
pub only-lent : (c : Call) (ws : List ℕ) {k : ℕ} {n : Note} {words : List ℕ}
    → did c (given c ws) ≡ lent_begun k n words
    → after c ws ≡ ws
only-lent c ws {k} {n} {words} = go (call-comes c ws)
  where
    go : {a : Asked} {vs : List ℕ} {d : Did} → Comes ws a vs d → d ≡ lent_begun k n words → vs ≡ ws
    go (left_alone a e) q = refl
    go (is-started S T g L e) q = clash (cc)
    go (is-begun j l op side argument e) q = clash (cc)
    go (is-lent-begun lent whole j l op side argument e) q = refl
    go (are-ticked i list ts) q = clash (cc)
    go (are-dispatched h i ts) q = clash (cc)
