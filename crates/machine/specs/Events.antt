-- Demand 3 since 2026-10: what is known along a list of calls, takes and puts of snapshots and, since 2026-14, writes
-- of a panel; and what is claimed where a row is known. Of calls alone it is `Demand3.Demand3`.
use Rattle.std.specs.Prelude.{◌≡◌, Bool, true, false, cond, not, ◌&&◌, ◌||◌, List, [], ◌∷◌, ℕ, ◌<◌, eqb, length}
use Rattle.std.proofs.Math.Option.{Option, some, none, bind}
use Rattle.machine.specs.Outcomes.Reply.{Reply, Accepted, Refused as Reply-Refused}
use Rattle.machine.specs.Shape.{same_words}
use Rattle.machine.specs.Snapshots.{take_snapshot, put_back}
use Rattle.machine.specs.Lent.{lent_to}
use Rattle.machine.specs.Row.{Note, Row, empty_row, noted, has_note}
use Rattle.machine.specs.Demand3.{Call, Given, given, after, feed, LanesAre, Within}
use Rattle.machine.specs.Kinds.{Did, started, begun, lent_begun, ticked, did}
use Rattle.machine.specs.Begun.{Begun}
use Rattle.machine.specs.Twice.{OnceInTable, RowSince}

-- A call as before; a snapshot taken into a slice, or one put back; a panel's copy of words to a task's place in the
-- table, or anything else that it writes, which leaves these words there. Slices are by their contents, as in `Call`.
pub data Event : Type 0 where
  call_event : Call → Event
  take_event : (out : List ℕ) → Event
  put_event : (snapshot : List ℕ) → Event
  copy_event : (k : ℕ) (words : List ℕ) → Event
  write_event : (words : List ℕ) → Event

-- What an event gives back, and the table as it leaves it.
abbrev EventGiven : Event → Type 0
EventGiven (call_event c) = Given c
EventGiven (take_event out) = Reply × List ℕ
EventGiven (put_event ss) = Reply
EventGiven (copy_event k words) = Unit {0}
EventGiven (write_event words) = Unit {0}

abbrev pub event_given : (e : Event) → List ℕ → EventGiven e
event_given (call_event c) ws = given c ws
event_given (take_event out) ws = ((take_snapshot ws out).reply, (take_snapshot ws out).words)
event_given (put_event ss) ws = (put_back ss ws).reply
event_given (copy_event k words) ws = tt
event_given (write_event words) ws = tt

abbrev pub after_event : Event → List ℕ → List ℕ
after_event (call_event c) ws = after c ws
after_event (take_event out) ws = ws
after_event (put_event ss) ws = (put_back ss ws).words
after_event (copy_event k words) ws = lent_to ws k words
after_event (write_event words) ws = words

-- ---- What is known, by the events' arguments and answers alone.

-- A snapshot taken of a table that demand 3 spoke of, with the row of that moment.
pub record Kept : Type 0 where
  pub snapshot : List ℕ
  pub row : Row

-- 2026-14: a lent record that a begin has left begun, of a table that no call has written since: its task, its words,
-- the note of that begin; and whether no other lent record was copied in between.
pub record Pending : Type 0 where
  pub task : ℕ
  pub words : List ℕ
  pub note : Note
  pub alone : Bool

-- The row, or none where demand 3 says nothing at present; the snapshots kept and the records pending, the latest
-- first. No snapshot is ever dropped.
pub record Known : Type 0 where
  pub row : Option Row
  pub kept : List Kept
  pub pending : List Pending

-- Before any start, of whatever words.
abbrev pub nothing_known : Known
nothing_known = record { row = none; kept = []; pending = [] }

-- ---- A call.

-- A lent record that is begun is pending; a call that wrote the table leaves none so.
abbrev pub pending_after : Did → List Pending → List Pending
pending_after (lent_begun k n words) ps = record { task = k; words = words; note = n; alone = true } ∷ ps
pending_after (ticked []) ps = ps
pending_after (ticked (t ∷ ts)) ps = []
pending_after (begun k n) ps = []
pending_after (started T lanes) ps = []

-- A call while a row is known is fed to it as before: none at all where the row does not give that answer.
abbrev pub fed_row : Option Row → List Kept → List Pending → Option Known
fed_row none ks ps = none
fed_row (some ρ) ks ps = some (record { row = some ρ; kept = ks; pending = ps })

-- A call while nothing is known: an accepted start makes the empty row known, and any other answer passes.
abbrev pub started_row : Did → Option Row
started_row (started T lanes) = some (empty_row T lanes)
started_row (begun k n) = none
started_row (lent_begun k n words) = none
started_row (ticked ts) = none

abbrev pub feed_call : Option Row → List Kept → List Pending → (c : Call) → Given c → Option Known
feed_call none ks ps c r = some (record { row = started_row (did c r); kept = ks; pending = [] })
feed_call (some ρ) ks ps c r = fed_row (feed ρ c r) ks (pending_after (did c r) ps)

-- ---- Snapshots.

-- 02: "taken of a table that demand 3 speaks of, and not altered since": the row of a kept snapshot with these very
-- words.
unfoldable pub row_kept : (snapshot : List ℕ) → List Kept → Option Row
row_kept ss [] = none
row_kept ss (k ∷ ks) = cond (same_words ss k.snapshot) (some k.row) (row_kept ss ks)

-- A snapshot taken while nothing is known is not kept.
abbrev pub keep : (snapshot : List ℕ) → Option Row → List Kept → List Kept
keep ss none ks = ks
keep ss (some ρ) ks = record { snapshot = ss; row = ρ } ∷ ks

-- 02: "22, snapshot and table differ in length, tested first"; 3 and 4 are refusals of words of which no row is known.
-- The lengths of lent slices are known to all.
abbrev pub refusal_fits : (same_length : Bool) → (tested : Option Row) → ℕ → Bool
refusal_fits false tested n = eqb n 22
refusal_fits true (some ρ) n = false
refusal_fits true none n = eqb n 3 || eqb n 4

-- A take is a look; a snapshot taken while a row is known is kept with it.
abbrev pub feed_take : Known → (same_length : Bool) → Reply → (snapshot : List ℕ) → Option Known
feed_take κ same Accepted ss =
    cond same (some (record { row = κ.row; kept = keep ss κ.row κ.kept; pending = κ.pending })) none
feed_take κ same (Reply-Refused n) ss = cond (refusal_fits same κ.row n) (some κ) none

-- 02: "the answers after it are those of a row whose history ends where it was taken, and demand 3 speaks of that table
-- again. After any other snapshot put back it says nothing until the next start or a snapshot of the first kind."
abbrev pub feed_put : Known → (same_length : Bool) → (snapshot : List ℕ) → Reply → Option Known
feed_put κ same ss Accepted =
    cond same (some (record { row = row_kept ss κ.kept; kept = κ.kept; pending = [] })) none
feed_put κ same ss (Reply-Refused n) = cond (refusal_fits same (row_kept ss κ.kept) n) (some κ) none

-- ---- A panel's writes.

-- Which copies a claim outlasts: by whether no other lent record was copied since the begin, and by the note that the
-- task has till then.
abbrev pub Copies : Type 0
Copies = (alone : Bool) → (before : Option Note) → Bool

-- The pending record of task k with these very words.
unfoldable pub pending_of : (k : ℕ) → (words : List ℕ) → List Pending → Option Pending
pending_of k words [] = none
pending_of k words (p ∷ ps) = cond (eqb k p.task && same_words words p.words) (some p) (pending_of k words ps)

-- After a copy of it the others stay pending, no longer alone; it may be copied again.
unfoldable pub with_copied : (k : ℕ) → (words : List ℕ) → List Pending → List Pending
with_copied k words [] = []
with_copied k words (p ∷ ps) =
    record {
      task = p.task;
      words = p.words;
      note = p.note;
      alone = p.alone && (eqb k p.task && same_words words p.words);
    }
    ∷ with_copied k words ps

-- 02: "That copy sets the task's note", whatever note it had.
abbrev pub noted_by : Copies → Pending → Option Row → Option Row
noted_by outlasts p none = none
noted_by outlasts p (some ρ) =
    cond (outlasts p.alone (ρ.notes p.task)) (some (noted ρ p.task (some p.note))) none

-- 02: "The row explains the answers as before where the begin was accepted, it copies just those words to that task's
-- place and no other call touched the table in between." After any other write it says nothing until the next start or
-- a snapshot of the first kind.
abbrev pub feed_copy : Copies → Known → (k : ℕ) → (words : List ℕ) → Option Pending → Known
feed_copy outlasts κ k words none = record { row = none; kept = κ.kept; pending = [] }
feed_copy outlasts κ k words (some p) =
    record { row = noted_by outlasts p κ.row; kept = κ.kept; pending = with_copied k words κ.pending }

-- ---- What is known afterwards, of a table of so many words; none at all where what is known does not give that
-- answer.
abbrev pub feed_event : Copies → (words : ℕ) → Known → (e : Event) → EventGiven e → Option Known
feed_event outlasts n κ (call_event c) r = feed_call κ.row κ.kept κ.pending c r
feed_event outlasts n κ (take_event out) r = feed_take κ (eqb (length out) n) r.0 r.1
feed_event outlasts n κ (put_event ss) r = feed_put κ (eqb (length ss) n) ss r
feed_event outlasts n κ (copy_event k words) r = some (feed_copy outlasts κ k words (pending_of k words κ.pending))
feed_event outlasts n κ (write_event words) r = some (record { row = none; kept = κ.kept; pending = [] })

-- ---- The claim.

-- A claim about a table and its row, where a row is known.
abbrev pub Where : (Claim : List ℕ → Row → Type 0) → List ℕ → Option Row → Type 0
Where Claim ws none = Unit {0}
Where Claim ws (some ρ) = Claim ws ρ

-- Along a list of events, each on the table as the one before left it: the row, where one is known, gives every answer,
-- and the claim is true of it at every place.
abbrev pub Along : Copies → (Claim : List ℕ → Row → Type 0) → List Event → List ℕ → Known → Type 0
Along outlasts Claim [] ws κ = Where Claim ws κ.row
Along outlasts Claim (e ∷ es) ws κ =
    Where Claim ws κ.row
    × ((κ' : Known)
    × (feed_event outlasts (length ws) κ e (event_given e ws) ≡ some κ')
    × Along outlasts Claim es (after_event e ws) κ')

-- Along every list of events, on any words whatever: an accepted start among them makes a row known.
abbrev pub Always : Copies → (Claim : List ℕ → Row → Type 0) → Type 0
Always outlasts Claim = (ws : List ℕ) (events : List Event) → Along outlasts Claim events ws nothing_known

-- Demand 3: each lane in the table is its row, and so inside whatever call is made there. It outlasts every copy of a
-- pending record, also one that leaves a call off half way.
abbrev pub LanesAreInside : List ℕ → Row → Type 0
LanesAreInside ws ρ = LanesAre ws ρ × ((c : Call) → Within c ws ρ)

abbrev pub every_copy : Copies
every_copy alone before = true

abbrev pub Demand3OverEvents : Type 0
Demand3OverEvents = Always every_copy LanesAreInside

-- 02: "The fact of 2026-03 holds there too where no other lent record was copied in between either."
abbrev pub copied_alone : Copies
copied_alone alone before = alone

abbrev pub OnceWhereKnown : Type 0
OnceWhereKnown = Always copied_alone (λ ws ρ. OnceInTable ws)

-- A copy to an idle task's place is a begin.
abbrev pub copied_over_idle : Copies
copied_over_idle alone before = alone && not (has_note before)

-- 02: "a row whose history ends where it was taken": where a row is known and copies were to idle places, a start and
-- calls, with no snapshot and no copy among them, lead to this very table, and the row is theirs.
abbrev pub HistoriesKnown : Type 0
HistoriesKnown = Always copied_over_idle RowSince

-- So the facts about the tables that our calls lead to are true there: 02: "The facts of 2026-03 and 2026-08 hold there
-- on the same condition." (That of 2026-08 is `machine_progress/specs/Solo.SoloBoundWhereKnown`.)
abbrev pub BegunWhereKnown : Type 0
BegunWhereKnown = Always copied_over_idle (λ ws ρ. Begun ws)

-- ---- What a snapshot of the first kind brings back.

-- The table after a list of events, and what is known then.
unfoldable pub after_events : List Event → List ℕ → List ℕ
after_events [] ws = ws
after_events (e ∷ es) ws = after_events es (after_event e ws)

unfoldable pub known_after : Copies → List Event → List ℕ → Known → Option Known
known_after outlasts [] ws κ = some κ
known_after outlasts (e ∷ es) ws κ =
    bind (feed_event outlasts (length ws) κ e (event_given e ws)) (λ κ'. known_after outlasts es (after_event e ws) κ')

-- Two rows that nobody can tell apart: they keep the same of every lane there is.
pub record SameRow (ρ σ : Row) : Type 0 where
  pub lanes : ρ.lanes ≡ σ.lanes
  pub bags : (l : ℕ) → l < ρ.lanes → ρ.bags l ≡ σ.bags l
  pub notes : (k : ℕ) → ρ.notes k ≡ σ.notes k
  pub tasks : ρ.tasks ≡ σ.tasks
  pub dispatched : ρ.dispatched ≡ σ.dispatched

-- A snapshot taken while a row is known is put back, after any events: that row is known again. (That the table is the
-- one taken is `Snapshots.PutsBackTaken`.)
abbrev pub RowsComeBack : Type 0
RowsComeBack =
    (outlasts : Copies) (began : List ℕ)
    → (before since : List Event) (out : List ℕ) (κ κ' : Known) (ρ : Row)
    → let ws = after_events before began in
    let snapshot = (take_snapshot ws out).words in
    known_after outlasts before began nothing_known ≡ some κ
    → κ.row ≡ some ρ
    → (take_snapshot ws out).reply ≡ Accepted
    → known_after outlasts (take_event out ∷ since) ws κ ≡ some κ'
    → (ρ' : Row) × (row_kept snapshot κ'.kept ≡ some ρ') × SameRow ρ ρ'
