-- A snapshot taken while a row is known is kept for good, and put back it brings back that row.
use mathlib.Core.Path.{◌≡◌, refl, sym, ◌∙◌, subst}
use mathlib.Core.Bool.{Bool, true, false, cond}
use mathlib.Core.List.{List, [], ◌∷◌}
use mathlib.Core.Option.{Option, some, none, bind}
use Prim.Native.Nat.{ℕ, ◌<◌}
use lib.Dec.{eqb}
use lib.ListN.{length}
use borrow.Author.Tests.{eq-eqb}
use Rattle.machine.specs.Outcomes.Reply.{Reply, Accepted, Refused as Reply-Refused}
use Rattle.machine.specs.Shape.{same_words}
use Rattle.machine.specs.Snapshots.{by_nodes, take_snapshot, put_back}
use Rattle.machine.specs.Row.{Row}
use Rattle.machine.specs.Demand3.{given, feed}
use Rattle.machine.specs.Kinds.{did}
use Rattle.machine.specs.Events.{
  Event,
  call_event,
  take_event,
  put_event,
  copy_event,
  write_event,
  event_given,
  after_event,
  Kept,
  Pending,
  Known,
  nothing_known,
  row_kept,
  keep,
  pending_after,
  fed_row,
  feed_call,
  refusal_fits,
  feed_take,
  feed_put,
  Copies,
  pending_of,
  feed_copy,
  feed_event,
  Where,
  after_events,
  known_after,
  SameRow,
  RowsComeBack,
}
use Rattle.machine.proofs.Basics.Contradiction.{clash}
use Rattle.machine.proofs.Words.RecordLaws.{same-words-refl}
use Rattle.machine.proofs.Snapshots.RoundTrips.{taken, taken_back}
use Rattle.machine.proofs.Linearizability.Calls.Agreement.{Agrees, lanes-are-rows}
use Rattle.machine.proofs.Linearizability.Calls.RowDid.{bind-some}
use Rattle.machine.proofs.Linearizability.Carried.{holds-of-nothing, holds_after, found}
use Rattle.machine.proofs.Linearizability.Theorem.{agreement-carried}

-- Rows that agree with the same words are the same.
one-row : {ws : List ℕ} {ρ σ : Row} → Agrees ws ρ → Agrees ws σ → SameRow ρ σ
one-row {ws} {ρ} {σ} A B =
    let same : ρ.lanes ≡ σ.lanes = A.same-lanes ∙ sym B.same-lanes in
    record {
      lanes = same;
      bags = λ l h.
          same_some (sym (lanes-are-rows A l h) ∙ lanes-are-rows B l (subst (λ (n : ℕ). l < n) same h));
      notes = λ k. A.notes k ∙ sym (B.notes k);
      tasks = A.same_count ∙ sym B.same_count;
      dispatched = A.same_dispatched ∙ sym B.same_dispatched;
    }
  where
    same_some : {x y : List ℕ} → some x ≡ some y → x ≡ y
    same_some e = cc

-- A snapshot once kept stays so.
module _ (ss : List ℕ) where
  abbrev IsKept : List Kept → Type 0
  IsKept ks = (ρ : Row) × (row_kept ss ks ≡ some ρ)

  newly-kept : (ρ : Row) (ks : List Kept) → row_kept ss (keep ss (some ρ) ks) ≡ some ρ
  unfolding row_kept
  newly-kept ρ ks = rw (same-words-refl ss)

  one-more-kept : (ts : List ℕ) (known : Option Row) (ks : List Kept) → IsKept ks → IsKept (keep ts known ks)
  unfolding row_kept
  one-more-kept ts none ks K = K
  one-more-kept ts (some σ) ks K = go (same_words ss ts)
    where
      go : (b : Bool) → (ρ : Row) × (cond b (some σ) (row_kept ss ks) ≡ some ρ)
      go true = (σ, refl)
      go false = K

  stays : {κ κ' : Known} → some κ ≡ some κ' → IsKept κ.kept → IsKept κ'.kept
  stays {κ} {κ'} e K = let same : κ ≡ κ' = cc in subst (λ (k : Known). IsKept k.kept) same K

  stays-if : (b : Bool) (κ : Known) {κ' : Known} → cond b (some κ) none ≡ some κ' → IsKept κ.kept → IsKept κ'.kept
  stays-if true κ q K = stays q K
  stays-if false κ q K = clash (cc)

  stays-kept : (outlasts : Copies) (e : Event) (ws : List ℕ) (κ κ' : Known)
      → feed_event outlasts (length ws) κ e (event_given e ws) ≡ some κ'
      → IsKept κ.kept
      → IsKept κ'.kept
  stays-kept outlasts (call_event c) ws κ κ' f K = go κ.row f
    where
      left : List Pending
      left = pending_after (did c (given c ws)) κ.pending

      fed : (r : Option Row) → fed_row r κ.kept left ≡ some κ' → IsKept κ'.kept
      fed none q = clash (cc)
      fed (some σ) q = stays q K

      go : (known : Option Row) → feed_call known κ.kept κ.pending c (given c ws) ≡ some κ' → IsKept κ'.kept
      go none q = stays q K
      go (some ρ) q = fed (feed ρ c (given c ws)) q
  stays-kept outlasts (take_event out) ws κ κ' f K = go (take_snapshot ws out).reply f
    where
      same : Bool
      same = eqb (length out) (length ws)

      go : (r : Reply) → feed_take κ same r (take_snapshot ws out).words ≡ some κ' → IsKept κ'.kept
      go Accepted q = stays-if same _ q (one-more-kept (take_snapshot ws out).words κ.row κ.kept K)
      go (Reply-Refused n) q = stays-if (refusal_fits same κ.row n) κ q K
  stays-kept outlasts (put_event ts) ws κ κ' f K = go (put_back ts ws).reply f
    where
      same : Bool
      same = eqb (length ts) (length ws)

      go : (r : Reply) → feed_put κ same ts r ≡ some κ' → IsKept κ'.kept
      go Accepted q = stays-if same _ q K
      go (Reply-Refused n) q = stays-if (refusal_fits same (row_kept ts κ.kept) n) κ q K
  stays-kept outlasts (copy_event k words) ws κ κ' f K = go (pending_of k words κ.pending) f
    where
      go : (o : Option Pending) → some (feed_copy outlasts κ k words o) ≡ some κ' → IsKept κ'.kept
      go none q = stays q K
      go (some p) q = stays q K
  stays-kept outlasts (write_event words) ws κ κ' f K = stays f K

  always-kept : (outlasts : Copies) (es : List Event) (ws : List ℕ) (κ κ' : Known)
      → known_after outlasts es ws κ ≡ some κ'
      → IsKept κ.kept
      → IsKept κ'.kept
  unfolding known_after bind
  always-kept outlasts [] ws κ κ' e K = stays e K
  always-kept outlasts (v ∷ es) ws κ κ' e K =
      let x = bind-some (feed_event outlasts (length ws) κ v (event_given v ws)) _ e in
      always-kept outlasts es (after_event v ws) x.0 κ' x.2 (stays-kept outlasts v ws κ x.0 x.1 K)

pub rows-come-back : RowsComeBack
unfolding known_after bind after_events
rows-come-back outlasts began before since out κ κ' ρ e is_row accepted f =
    let C = agreement-carried outlasts in
    let ws = after_events before began in
    let ss = (take_snapshot ws out).words in
    let none_yet = holds-of-nothing outlasts Agrees C began in
    let H = holds_after outlasts Agrees C before began nothing_known κ none_yet e in
    let A : Agrees ws ρ = subst (Where Agrees ws) is_row H.present in
    let κ₁ : Known = record { row = κ.row; kept = keep ss κ.row κ.kept; pending = κ.pending } in
    let same = eq-eqb (length out) (length ws) (taken ws out accepted).same_length in
    let g : known_after outlasts since ws κ₁ ≡ some κ' = rw (accepted, same) at f in
    let H' = holds_after outlasts Agrees C (take_event out ∷ since) ws κ κ' H f in
    let K : IsKept ss κ₁.kept = rw is_row (ρ, newly-kept ss ρ κ.kept) in
    let F = always-kept ss outlasts since ws κ₁ κ' g K in
    let B : Agrees (by_nodes ss) F.0 =
    subst (Where Agrees (by_nodes ss)) F.1 (found outlasts Agrees C ss κ'.kept H'.kept) in
    (F.0, F.1, one-row A (subst (λ (vs : List ℕ). Agrees vs F.0) (taken_back ws out accepted) B))
