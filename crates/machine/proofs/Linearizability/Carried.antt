-- A relation between words and row that starts bring about, and that calls and the copies that it outlasts keep, is
-- true at every place of a list of events at which a row is known: it is about the words, so putting them back puts it
-- back.
use mathlib.Core.Path.{◌≡◌, refl, sym, ap, subst}
use mathlib.Core.Bool.{Bool, true, false, cond, ◌||◌}
use mathlib.Core.List.{List, [], ◌∷◌}
use mathlib.Core.Option.{Option, some, none, bind}
use Prim.Native.Nat.{ℕ}
use lib.Dec.{eqb}
use lib.ListN.{length}
use Rattle.machine.specs.Outcomes.Reply.{Reply, Accepted, Refused as Reply-Refused}
use Rattle.machine.specs.Shape.{same_words, length_ok, shape_ok}
use Rattle.machine.specs.Calls.{unless, table_refusal, Changed, start}
use Rattle.machine.specs.Snapshots.{by_nodes, take_snapshot, put_back}
use Rattle.machine.specs.Lent.{lent_to}
use Rattle.machine.specs.Row.{Row, empty_row, noted}
use Rattle.machine.specs.Demand3.{Call, given, after, feed}
use Rattle.machine.specs.Kinds.{Asked, Did, did}
use Rattle.machine.specs.Events.{
  Event,
  call_event,
  take_event,
  put_event,
  copy_event,
  write_event,
  event_given,
  after_event,
  Kept,
  Pending,
  Known,
  nothing_known,
  row_kept,
  keep,
  pending_after,
  fed_row,
  started_row,
  feed_call,
  refusal_fits,
  feed_take,
  feed_put,
  Copies,
  pending_of,
  with_copied,
  noted_by,
  feed_copy,
  feed_event,
  Where,
  Along,
  Always,
  after_events,
  known_after,
}
use Rattle.machine.proofs.Basics.Contradiction.{clash}
use Rattle.machine.proofs.Words.Kinds.{
  Comes,
  left_alone,
  is-started,
  is-begun,
  is-lent-begun,
  are-ticked,
  are-dispatched,
  call-comes,
}
use Rattle.machine.proofs.Words.RecordLaws.{same-words}
use Rattle.machine.proofs.Shape.ShapeKept.{table-passes}
use Rattle.machine.proofs.Snapshots.RoundTrips.{no-refusal, refused-with, put, put_refused, taken_back}
use Rattle.machine.proofs.Linearizability.Calls.Agreement.{Agrees}
use Rattle.machine.proofs.Linearizability.Pending.{
  LeftBegun,
  AllPending,
  pending-after,
  found-pending,
  still-pending,
}

pub record Carried (outlasts : Copies) (P : List ℕ → Row → Type 0) : Type 0 where
  pub at-start : (S T g L : ℕ) (old : List ℕ) → (start old S T g L).reply ≡ Accepted
      → P (start old S T g L).words (empty_row T L)
  pub at_call : {ws : List ℕ} {ρ : Row} → P ws ρ → (c : Call)
      → (ρ' : Row) × (feed ρ c (given c ws) ≡ some ρ') × P (after c ws) ρ'
  pub at_copy : {ws : List ℕ} {ρ : Row} → P ws ρ → (p : Pending) → LeftBegun ws p
      → outlasts p.alone (ρ.notes p.task) ≡ true
      → P (lent_to ws p.task p.words) (noted ρ p.task (some p.note))
  pub agrees : {ws : List ℕ} {ρ : Row} → P ws ρ → Agrees ws ρ

-- What the tests of a take or a put come to.
accepted-same : (same : Bool) (others : Option ℕ) → unless same 22 others ≡ none → same ≡ true
accepted-same true others e = refl
accepted-same false others e = clash (cc)

module _ (outlasts : Copies) (P : List ℕ → Row → Type 0) (C : Carried outlasts P) where
  -- The words that each kept snapshot puts back have it with the row kept.
  abbrev AllKept : List Kept → Type 0
  AllKept [] = Unit {0}
  AllKept (k ∷ ks) = P (by_nodes k.snapshot) k.row × AllKept ks

  -- The records pending matter where a row is known.
  abbrev PendingWhere : List ℕ → Option Row → List Pending → Type 0
  PendingWhere ws known ps = Where (λ vs ρ. AllPending vs ps) ws known

  none-pending : (ws : List ℕ) (known : Option Row) → PendingWhere ws known []
  none-pending ws none = tt
  none-pending ws (some ρ) = tt

  pub record Holds (ws : List ℕ) (κ : Known) : Type 0 where
    pub present : Where P ws κ.row
    pub kept : AllKept κ.kept
    pub pending : PendingWhere ws κ.row κ.pending

  pub holds-of-nothing : (ws : List ℕ) → Holds ws nothing_known
  holds-of-nothing ws = record { present = tt; kept = tt; pending = tt }

  abbrev Next : Event → List ℕ → Known → Type 0
  Next e ws κ =
      (κ' : Known) × (feed_event outlasts (length ws) κ e (event_given e ws) ≡ some κ') × Holds (after_event e ws) κ'

  -- ---- A call.
  started-there : (c : Call) (ws : List ℕ) → Where P (after c ws) (started_row (did c (given c ws)))
  started-there c ws = go (call-comes c ws)
    where
      go : {a : Asked} {vs : List ℕ} {d : Did} → Comes ws a vs d → Where P vs (started_row d)
      go (left_alone a e) = tt
      go (is-started S T g L e) = C.at-start S T g L ws e
      go (is-begun k l op side argument e) = tt
      go (is-lent-begun lent whole k l op side argument e) = tt
      go (are-ticked i list ts) = tt
      go (are-dispatched h n ts) = tt

  after_call : (c : Call) (ws : List ℕ) (known : Option Row) (ks : List Kept) (ps : List Pending) → Where P ws known
      → AllKept ks
      → PendingWhere ws known ps
      → (κ' : Known) × (feed_call known ks ps c (given c ws) ≡ some κ') × Holds (after c ws) κ'
  after_call c ws none ks ps p K B = (
    record { row = started_row (did c (given c ws)); kept = ks; pending = [] },
    refl,
    record {
      present = started-there c ws;
      kept = K;
      pending = none-pending (after c ws) (started_row (did c (given c ws)));
    },
  )
  after_call c ws (some ρ) ks ps p K B =
      let x = C.at_call p c in
      let left = pending_after (did c (given c ws)) ps in (
        record { row = some x.0; kept = ks; pending = left },
        ap (λ r. fed_row r ks left) x.1,
        record { present = x.2; kept = K; pending = pending-after (C.agrees p) c ps B },
      )

  -- ---- Refusals of takes and puts.
  refused-table : (tested : List ℕ) {n : ℕ} → table_refusal tested none ≡ some n → refusal_fits true none n ≡ true
  refused-table tested {n} e = by_length (length_ok tested) e
    where
      by_shape : (b : Bool) → unless b 4 none ≡ some n → eqb n 3 || eqb n 4 ≡ true
      by_shape true q = clash (cc)
      by_shape false q = let is : 4 ≡ n = cc in rw (← is)

      by_length : (b : Bool) → unless b 3 (unless (shape_ok tested) 4 none) ≡ some n → eqb n 3 || eqb n 4 ≡ true
      by_length true q = by_shape (shape_ok tested) q
      by_length false q = let is : 3 ≡ n = cc in rw (← is)

  refused-so : (same : Bool) (tested : List ℕ) (known : Option Row) → Where P tested known → {n : ℕ}
      → unless same 22 (table_refusal tested none) ≡ some n
      → refusal_fits same known n ≡ true
  refused-so false tested known p {n} e = let is : 22 ≡ n = cc in rw (← is)
  refused-so true tested none p e = refused-table tested e
  refused-so true tested (some ρ) p e = clash (cc (table-passes tested (C.agrees p).accepted none))

  -- ---- A take.
  kept-too : (ws ss : List ℕ) (known : Option Row) (ks : List Kept) → Where P ws known → AllKept ks → by_nodes ss ≡ ws
      → AllKept (keep ss known ks)
  kept-too ws ss none ks p K back = K
  kept-too ws ss (some ρ) ks p K back = (subst (λ (vs : List ℕ). P vs ρ) (sym back) p, K)

  after-take : (out ws : List ℕ) (κ : Known) → Holds ws κ → Next (take_event out) ws κ
  unfolding take_snapshot
  after-take out ws κ H = go (take_snapshot ws out).reply refl
    where
      same : Bool
      same = eqb (length out) (length ws)

      go : (q : Reply) → (take_snapshot ws out).reply ≡ q
          → (κ' : Known) × (feed_take κ same q (take_snapshot ws out).words ≡ some κ') × Holds ws κ'
      go Accepted e = (
        record {
          row = κ.row;
          kept = keep (take_snapshot ws out).words κ.row κ.kept;
          pending = κ.pending;
        },
        rw (accepted-same same (table_refusal ws none) (no-refusal _ _ _ e)),
        record {
          present = H.present;
          kept =
              kept-too ws (take_snapshot ws out).words κ.row κ.kept H.present H.kept
              (taken_back ws out e);
          pending = H.pending;
        },
      )
      go (Reply-Refused n) e =
          (κ, rw (refused-so same ws κ.row H.present (refused-with _ _ _ e)), H)

  -- ---- A put.
  pub found : (ss : List ℕ) (ks : List Kept) → AllKept ks → Where P (by_nodes ss) (row_kept ss ks)
  unfolding row_kept
  found ss [] K = tt
  found ss (k ∷ ks) K = go (same_words ss k.snapshot) refl (found ss ks K.1)
    where
      go : (b : Bool) → same_words ss k.snapshot ≡ b → Where P (by_nodes ss) (row_kept ss ks)
          → Where P (by_nodes ss) (cond b (some k.row) (row_kept ss ks))
      go true e others =
          subst (λ (vs : List ℕ). P (by_nodes vs) k.row) (sym (same-words ss k.snapshot e)) K.0
      go false e others = others

  after-put : (ss ws : List ℕ) (κ : Known) → Holds ws κ → Next (put_event ss) ws κ
  unfolding put_back
  after-put ss ws κ H = go (put_back ss ws).reply refl
    where
      same : Bool
      same = eqb (length ss) (length ws)

      there : Where P (by_nodes ss) (row_kept ss κ.kept)
      there = found ss κ.kept H.kept

      go : (q : Reply) → (put_back ss ws).reply ≡ q
          → (κ' : Known) × (feed_put κ same ss q ≡ some κ') × Holds (put_back ss ws).words κ'
      go Accepted e = (
        record { row = row_kept ss κ.kept; kept = κ.kept; pending = [] },
        rw (accepted-same same (table_refusal (by_nodes ss) none) (no-refusal _ _ _ e)),
        record {
          present =
              subst (λ (vs : List ℕ). Where P vs (row_kept ss κ.kept))
              (sym (ap (λ (c : Changed). c.words) (put ss ws e).is)) there;
          kept = H.kept;
          pending = none-pending (put_back ss ws).words (row_kept ss κ.kept);
        },
      )
      go (Reply-Refused n) e = (
        κ,
        rw (refused-so same (by_nodes ss) (row_kept ss κ.kept) there (refused-with _ _ _ e)),
        subst (λ (vs : List ℕ). Holds vs κ) (sym (put_refused ss ws n e)) H,
      )

  -- ---- A copy of a pending record, and any other write.
  copied-present : (ws : List ℕ) (p : Pending) (known : Option Row) → Where P ws known
      → Where (λ vs ρ. LeftBegun vs p) ws known
      → Where P (lent_to ws p.task p.words) (noted_by outlasts p known)
  copied-present ws p none q B = tt
  copied-present ws p (some ρ) q B = go (outlasts p.alone (ρ.notes p.task)) refl
    where
      then : Row
      then = noted ρ p.task (some p.note)

      go : (b : Bool) → outlasts p.alone (ρ.notes p.task) ≡ b
          → Where P (lent_to ws p.task p.words) (cond b (some then) none)
      go true e = C.at_copy q p B e
      go false e = tt

  after-copy : (k : ℕ) (words ws : List ℕ) (κ : Known) → Holds ws κ → (o : Option Pending)
      → pending_of k words κ.pending ≡ o
      → Holds (lent_to ws k words) (feed_copy outlasts κ k words o)
  after-copy k words ws κ H none e = record { present = tt; kept = H.kept; pending = tt }
  after-copy k words ws κ H (some p) e = go κ.row H.present H.pending
    where
      copied : List Pending
      copied = with_copied k words κ.pending

      go : (known : Option Row) → Where P ws known → PendingWhere ws known κ.pending
          → Holds (lent_to ws k words) (record { row = noted_by outlasts p known; kept = κ.kept; pending = copied })
      go none q B = record { present = tt; kept = H.kept; pending = tt }
      go (some ρ) q B =
          let F = found-pending k words κ.pending B e in
          let there : lent_to ws p.task p.words ≡ lent_to ws k words
          = λ i. lent_to ws (sym F.0 i) (sym F.1 i) in
          record {
            present =
                subst (λ (vs : List ℕ). Where P vs (noted_by outlasts p (some ρ))) there
                (copied-present ws p (some ρ) q F.2);
            kept = H.kept;
            pending = where-any (noted_by outlasts p (some ρ)) (still-pending ws k words κ.pending B);
          }
        where
          where-any : (known : Option Row) → AllPending (lent_to ws k words) copied
              → PendingWhere (lent_to ws k words) known copied
          where-any none B = tt
          where-any (some σ) B = B

  -- ---- Every event, and every list of them.
  after-event : (e : Event) (ws : List ℕ) (κ : Known) → Holds ws κ → Next e ws κ
  after-event (call_event c) ws κ H =
      after_call c ws κ.row κ.kept κ.pending H.present H.kept H.pending
  after-event (take_event out) ws κ H = after-take out ws κ H
  after-event (put_event ss) ws κ H = after-put ss ws κ H
  after-event (copy_event k words) ws κ H =
      (feed_copy outlasts κ k words (pending_of k words κ.pending), refl, after-copy k words ws κ H _ refl)
  after-event (write_event words) ws κ H = (
    record { row = none; kept = κ.kept; pending = [] },
    refl,
    record { present = tt; kept = H.kept; pending = tt },
  )

  pub holds_after : (es : List Event) (ws : List ℕ) (κ κ' : Known) → Holds ws κ → known_after outlasts es ws κ ≡ some κ'
      → Holds (after_events es ws) κ'
  unfolding after_events known_after bind
  holds_after [] ws κ κ' H e = let same : κ ≡ κ' = cc in subst (Holds ws) same H
  holds_after (v ∷ es) ws κ κ' H e =
      let x = after-event v ws κ H in
      holds_after es (after_event v ws) x.0 κ' x.2 (rw x.1 at e)

  along : (es : List Event) (ws : List ℕ) (κ : Known) → Holds ws κ → Along outlasts P es ws κ
  along [] ws κ H = H.present
  along (e ∷ es) ws κ H =
      let x = after-event e ws κ H in (H.present, (x.0, x.1, along es (after_event e ws) x.0 x.2))

  pub always : Always outlasts P
  always ws es = along es ws nothing_known (holds-of-nothing ws)

-- ---- What follows from a claim is claimed as well.
module _ (outlasts : Copies) (P Q : List ℕ → Row → Type 0) (so : (ws : List ℕ) (ρ : Row) → P ws ρ → Q ws ρ) where
  where-so : (ws : List ℕ) (known : Option Row) → Where P ws known → Where Q ws known
  where-so ws none p = tt
  where-so ws (some ρ) p = so ws ρ p

  along-so : (es : List Event) (ws : List ℕ) (κ : Known) → Along outlasts P es ws κ → Along outlasts Q es ws κ
  along-so [] ws κ p = where-so ws κ.row p
  along-so (e ∷ es) ws κ p =
      let next = p.1 in
      (where-so ws κ.row p.0, (next.0, next.1, along-so es (after_event e ws) next.0 next.2))

  pub always-so : Always outlasts P → Always outlasts Q
  always-so A ws es = along-so es ws nothing_known (A ws es)
