-- Demand 3: along every list of calls, takes, puts and copies the plain row explains what is answered, wherever a row
-- is known; so every list of calls alone, on a table that our start began, is explained.
use mathlib.Core.Path.{◌≡◌, refl, sym, ap, ◌∙◌, subst}
use mathlib.Core.List.{List, [], ◌∷◌, map}
use mathlib.Core.Option.{Option, some, none}
use Prim.Native.Nat.{ℕ}
use Rattle.machine.specs.Outcomes.Reply.{Reply, Accepted}
use Rattle.machine.specs.Calls.{start_refusal, changed, start_words, start}
use Rattle.machine.specs.Lent.{lent_to}
use Rattle.machine.specs.Row.{Note, new_note, Row, empty_row, noted}
use Rattle.machine.specs.Demand3.{Call, start_call, given, after, feed, Explained, Demand3}
use Rattle.machine.specs.Kinds.{did}
use Rattle.machine.specs.Events.{
  call_event,
  Kept,
  Pending,
  Known,
  pending_after,
  fed_row,
  started_row,
  Copies,
  Along,
  LanesAreInside,
  every_copy,
  Demand3OverEvents,
}
use Rattle.machine.proofs.Basics.Contradiction.{clash}
use Rattle.machine.proofs.Basics.Tests.{test-passed, tests_left}
use Rattle.machine.proofs.Words.LentLaws.{in_place}
use Rattle.machine.proofs.Linearizability.Calls.Agreement.{Agrees, lanes-are-rows}
use Rattle.machine.proofs.Linearizability.Calls.CallsAgree.{start-agrees, begun-agrees}
use Rattle.machine.proofs.Linearizability.Calls.EveryCall.{call-told, call-explained}
use Rattle.machine.proofs.Linearizability.Pending.{LeftBegun}
use Rattle.machine.proofs.Linearizability.Carried.{Carried, always, always-so}

-- An accepted start makes a table that agrees with the empty row of its tasks.
pub started-agrees :
    (S T g L : ℕ) (old : List ℕ)
    → (start old S T g L).reply ≡ Accepted
    → Agrees (start old S T g L).words (empty_row T L)
unfolding start
started-agrees S T g L old = go (start_refusal old S T g L) refl
  where
    go :
        (r : Option ℕ)
        → start_refusal old S T g L ≡ r
        → (changed r old (start_words S T g L)).reply ≡ Accepted
        → Agrees (changed r old (start_words S T g L)).words (empty_row T L)
    go (some n) e q = clash (cc)
    go none e q = start-agrees S T g L (search test-passed) (search (test-passed, tests_left))

-- ---- Over events.

-- The row and the table agree after every copy of a pending record, whatever else a claim outlasts.
copied-too : {ws : List ℕ} {ρ : Row} → Agrees ws ρ → (p : Pending) → LeftBegun ws p
    → Agrees (lent_to ws p.task p.words) (noted ρ p.task (some p.note))
copied-too {ws} {ρ} A p P =
    let k = p.task in
    let there = sym (ap (lent_to ws k) P.words_are ∙ in_place ws k _ P.fits.is_task) in
    subst (λ (n : Note). Agrees (lent_to ws k p.words) (noted ρ k (some n))) (sym P.note_is)
    (subst (λ (vs : List ℕ). Agrees vs (noted ρ k (some (new_note P.lane P.operation P.side P.argument))))
    there (begun-agrees A k P.lane P.operation P.side P.argument P.fits))

pub agreement-carried : (outlasts : Copies) → Carried outlasts Agrees
agreement-carried outlasts =
    record {
      at-start = started-agrees;
      at_call = λ A c. let E = call-explained A c in (E.row, E.given-by-row, E.agrees);
      at_copy = λ A p P _. copied-too A p P;
      agrees = λ A. A;
    }

pub demand3-over-events : Demand3OverEvents
demand3-over-events =
    always-so every_copy Agrees LanesAreInside (λ ws ρ A. (lanes-are-rows A, λ c. (call-told A c).within))
    (always every_copy Agrees (agreement-carried every_copy))

-- ---- Of calls alone: where a row is known, calls leave one known.
abbrev knowing : Row → List Kept → List Pending → Known
knowing ρ ks ps = record { row = some ρ; kept = ks; pending = ps }

explained : (cs : List Call) (ws : List ℕ) (ρ : Row) (ks : List Kept) (ps : List Pending)
    → Along every_copy LanesAreInside (map call_event cs) ws (knowing ρ ks ps)
    → Explained cs ws ρ
explained [] ws ρ ks ps p = p.0
explained (c ∷ cs) ws ρ ks ps p =
    let next = p.1 in (
      p.0.0,
      p.0.1 c,
      go (λ σ. explained cs (after c ws) σ ks left) (feed ρ c (given c ws)) refl next.0 next.1 next.2,
    )
  where
    left : List Pending
    left = pending_after (did c (given c ws)) ps

    Rest : Known → Type 0
    Rest κ = Along every_copy LanesAreInside (map call_event cs) (after c ws) κ

    go : ((σ : Row) → Rest (knowing σ ks left) → Explained cs (after c ws) σ)
        → (r : Option Row)
        → feed ρ c (given c ws) ≡ r
        → (κ : Known)
        → fed_row r ks left ≡ some κ
        → Rest κ
        → (σ : Row) × (feed ρ c (given c ws) ≡ some σ) × Explained cs (after c ws) σ
    go others none e κ q rest = clash (cc)
    go others (some σ) e κ q rest =
        let same : κ ≡ knowing σ ks left = cc in (σ, e, others σ (subst Rest same rest))

pub demand3 : Demand3
demand3 S T g L old accepted calls =
    let p = (demand3-over-events old (call_event (start_call S T g L) ∷ map call_event calls)).1 in
    let began = (start old S T g L).words in
    let row = ap (λ (r : Reply). started_row (did (start_call S T g L) r)) accepted in
    let same : p.0 ≡ knowing (empty_row T L) [] [] = cc (p.1, row) in
    explained calls began (empty_row T L) [] []
    (subst (Along every_copy LanesAreInside (map call_event calls) began) same p.2)
