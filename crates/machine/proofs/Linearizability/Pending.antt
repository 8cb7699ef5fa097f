-- The lent records that are pending: each was left by an accepted begin, of numbers that are a call's, and so it stays
-- while calls write nothing and whatever of them is copied. One that is still alone is copied to the table that it was
-- begun on, or is there already.
use mathlib.Core.Path.{◌≡◌, refl, sym, ap, ◌∙◌, subst, fun_ext}
use mathlib.Core.Logic.{◌⊎◌, inl, inr}
use mathlib.Core.Bool.{Bool, true, false, cond, ◌&&◌}
use mathlib.Core.List.{List, [], ◌∷◌}
use mathlib.Core.Option.{Option, some}
use Prim.Native.Nat.{ℕ, ◌<◌}
use native.Mathlib.Omega.{arith}
use lib.Dec.{eqb}
use lib.ListN.{length}
use borrow.Author.Tests.{eqb-true}
use Rattle.machine.specs.Outcomes.Reply.{Accepted}
use Rattle.machine.specs.declared.Stored.{Stored}
use Rattle.machine.specs.Choice.{◌≟◌, ◌<?◌}
use Rattle.machine.specs.Sides.{side_of}
use Rattle.machine.specs.Values.{number}
use Rattle.machine.specs.Operations.{operation_of}
use Rattle.machine.specs.Tasks.{record_length, words_of, task_of}
use Rattle.machine.specs.Table.{task_count, task, set_record}
use Rattle.machine.specs.Shape.{same_words, WellFormed, sizes_of, Sized}
use Rattle.machine.specs.Calls.{begun_task}
use Rattle.machine.specs.Lent.{lent_to, begin_lent}
use Rattle.machine.specs.Row.{Note, new_note, Row, noted}
use Rattle.machine.specs.Demand3.{Call, given, after}
use Rattle.machine.specs.Kinds.{Asked, Did, started, begun, lent_begun, ticked, did}
use Rattle.machine.specs.Events.{Pending, pending_after, pending_of, with_copied}
use Rattle.machine.proofs.Basics.Choices.{by-if}
use Rattle.machine.proofs.Basics.Contradiction.{clash}
use Rattle.machine.proofs.Basics.Tests.{and_left, and_right}
use Rattle.machine.proofs.Words.ValueLaws.{never-has-word}
use Rattle.machine.proofs.Words.RecordLaws.{task-of-words, same-words}
use Rattle.machine.proofs.Words.LentLaws.{
  no_place,
  in_place,
  same-task-count,
  same-lane-count,
  own-task,
  written_over,
}
use Rattle.machine.proofs.Words.Kinds.{
  Comes,
  left_alone,
  is-started,
  is-begun,
  is-lent-begun,
  are-ticked,
  are-dispatched,
  call-comes,
}
use Rattle.machine.proofs.Shape.ShapeLaws.{well_sized}
use Rattle.machine.proofs.Shape.ShapeKept.{CallFits}
use Rattle.machine.proofs.Shape.LentBegins.{lent_fits, lent-words}
use Rattle.machine.proofs.Linearizability.Calls.Agreement.{note_in, Agrees, begun-note}
use Rattle.machine.proofs.Linearizability.Calls.Unwritten.{none_made, only-lent}

-- The table is the one that the begin of these words was on, or that one with the words copied.
pub record Since (ws : List ℕ) (k l op side : ℕ) (argument : Stored) (words : List ℕ) : Type 0 where
  pub table : List ℕ
  pub passes : WellFormed table
  pub lent : List ℕ
  pub whole : length lent ≡ record_length
  pub accepted : (begin_lent table lent k l op side argument).reply ≡ Accepted
  pub now : (ws ≡ table) ⊎ (ws ≡ lent_to table k words)

pub record LeftBegun (ws : List ℕ) (p : Pending) : Type 0 where
  pub lane : ℕ
  pub operation : ℕ
  pub side : ℕ
  pub argument : Stored
  pub fits : CallFits ws p.task lane operation side argument
  pub words_are : p.words ≡ words_of (begun_task lane (operation_of operation) (side_of side) (number argument))
  pub note_is : p.note ≡ new_note lane operation side argument
  pub since : p.alone ≡ true → Since ws p.task lane operation side argument p.words

abbrev pub AllPending : List ℕ → List Pending → Type 0
AllPending ws [] = Unit {0}
AllPending ws (p ∷ ps) = LeftBegun ws p × AllPending ws ps

-- ---- A call.
left-begun : {ws : List ℕ} → WellFormed ws → (c : Call) {k : ℕ} {n : Note} {words : List ℕ}
    → did c (given c ws) ≡ lent_begun k n words
    → LeftBegun ws (record { task = k; words = words; note = n; alone = true })
left-begun {ws} A c {k} {n} {words} = go (call-comes c ws)
  where
    pending : ℕ → List ℕ → Note → Pending
    pending j u m = record { task = j; words = u; note = m; alone = true }

    go : {a : Asked} {vs : List ℕ} {d : Did} → Comes ws a vs d → d ≡ lent_begun k n words
        → LeftBegun ws (record { task = k; words = words; note = n; alone = true })
    go (left_alone a e) q = clash (cc)
    go (is-started S T g L e) q = clash (cc)
    go (is-begun j l op side argument e) q = clash (cc)
    go (are-ticked i list ts) q = clash (cc)
    go (are-dispatched h i ts) q = clash (cc)
    go (is-lent-begun lent whole j l op side argument e) q =
        let u = (begin_lent ws lent j l op side argument).words in
        let same-task : j ≡ k = cc in
        let same-note : new_note l op side argument ≡ n = cc in
        let same : u ≡ words = cc in
        subst (LeftBegun ws)
        (λ i. record { task = same-task i; words = same i; note = same-note i; alone = true })
        (record {
          lane = l;
          operation = op;
          side = side;
          argument = argument;
          fits = lent_fits ws lent j l op side argument e;
          words_are = lent-words ws lent j l op side argument e (well_sized ws A.length_passes).sized;
          note_is = refl;
          since = λ _.
              record { table = ws; passes = A; lent = lent; whole = whole; accepted = e; now = inl refl };
        })

pub pending-after : {ws : List ℕ} {ρ : Row} → Agrees ws ρ → (c : Call) (ps : List Pending) → AllPending ws ps
    → AllPending (after c ws) (pending_after (did c (given c ws)) ps)
pending-after {ws} A c ps B = go (did c (given c ws)) refl
  where
    go : (d : Did) → did c (given c ws) ≡ d → AllPending (after c ws) (pending_after d ps)
    go (started T L) e = tt
    go (begun k n) e = tt
    go (lent_begun k n words) e =
        subst (λ (vs : List ℕ). AllPending vs (record { task = k; words = words; note = n; alone = true } ∷ ps))
        (sym (only-lent c ws e)) (left-begun A.accepted c e, B)
    go (ticked []) e = subst (λ (vs : List ℕ). AllPending vs ps) (sym (none_made A c e)) B
    go (ticked (t ∷ ts)) e = tt

-- ---- A copy.
pub found-pending : {ws : List ℕ} (k : ℕ) (words : List ℕ) (ps : List Pending) → AllPending ws ps → {p : Pending}
    → pending_of k words ps ≡ some p
    → (k ≡ p.task) × (words ≡ p.words) × LeftBegun ws p
unfolding pending_of
found-pending k words [] B e = clash (cc)
found-pending {ws} k words (q ∷ ps) B {p} e =
    go (eqb k q.task && same_words words q.words) refl (λ r. found-pending k words ps B.1 r) e
  where
    Found : Type 0
    Found = (k ≡ p.task) × (words ≡ p.words) × LeftBegun ws p

    go : (b : Bool) → eqb k q.task && same_words words q.words ≡ b → (pending_of k words ps ≡ some p → Found)
        → cond b (some q) (pending_of k words ps) ≡ some p
        → Found
    go false t others r = others r
    go true t others r =
        let same : q ≡ p = cc in
        subst (λ (x : Pending). (k ≡ x.task) × (words ≡ x.words) × LeftBegun ws x) same (
          eqb-true k q.task (and_left (eqb k q.task) (same_words words q.words) t),
          same-words words q.words (and_right (eqb k q.task) (same_words words q.words) t),
          B.0,
        )

words-whole : {ws : List ℕ} {p : Pending} → LeftBegun ws p → length p.words ≡ record_length
words-whole P = ap length P.words_are

copied-twice : (ws : List ℕ) → Sized (sizes_of ws) → (k : ℕ) (r : List ℕ) → length r ≡ record_length
    → lent_to (lent_to ws k r) k r ≡ lent_to ws k r
copied-twice ws sized k r whole = go (k <? task_count ws)
  where
    go : Dec (k < task_count ws) → lent_to (lent_to ws k r) k r ≡ lent_to ws k r
    go (no past) = ap (λ (vs : List ℕ). lent_to vs k r) (no_place ws k r (omega arith))
    go (yes is_task) =
        in_place (lent_to ws k r) k r (subst (λ (n : ℕ). k < n) (sym (same-task-count ws k r)) is_task)
        ∙ ap (set_record k r) (in_place ws k r is_task)
        ∙ written_over ws k r r sized is_task whole whole
        ∙ sym (in_place ws k r is_task)

module _ (ws : List ℕ) (k : ℕ) (words : List ℕ) where
  -- The counts are not copied over.
  still-fits : {j l op side : ℕ} {argument : Stored} → CallFits ws j l op side argument
      → CallFits (lent_to ws k words) j l op side argument
  still-fits {j} {l} F =
      record {
        is_lane = subst (λ (n : ℕ). l < n) (sym (same-lane-count ws k words)) F.is_lane;
        is_task = subst (λ (n : ℕ). j < n) (sym (same-task-count ws k words)) F.is_task;
        some-operation = F.some-operation;
        last-operation = F.last-operation;
        last-side = F.last-side;
        argument-fits = F.argument-fits;
      }

  copied-since : {p : Pending} → LeftBegun ws p → {l op side : ℕ} {argument : Stored} → k ≡ p.task → words ≡ p.words
      → Since ws p.task l op side argument p.words
      → Since (lent_to ws k words) p.task l op side argument p.words
  copied-since {p} P same-task same S =
      record {
        table = S.table;
        passes = S.passes;
        lent = S.lent;
        whole = S.whole;
        accepted = S.accepted;
        now =
            elim S.now [
              | inl e ↦ inr (λ i. lent_to (e i) (same-task i) (same i))
              | inr e ↦
                  inr
                  ((λ i. lent_to (e i) (same-task i) (same i))
                  ∙ copied-twice S.table (well_sized S.table S.passes.length_passes).sized
                  p.task p.words (words-whole P))
            ];
      }

  pub still-pending : (ps : List Pending) → AllPending ws ps → AllPending (lent_to ws k words) (with_copied k words ps)
  unfolding with_copied
  still-pending [] B = tt
  still-pending (p ∷ ps) B =
      let P = B.0 in
      let own = eqb k p.task && same_words words p.words in (
        record {
          lane = P.lane;
          operation = P.operation;
          side = P.side;
          argument = P.argument;
          fits = still-fits P.fits;
          words_are = P.words_are;
          note_is = P.note_is;
          since = λ e.
              let is-own = and_right p.alone own e in
              copied-since P
              (eqb-true k p.task (and_left (eqb k p.task) (same_words words p.words) is-own))
              (same-words words p.words (and_right (eqb k p.task) (same_words words p.words) is-own))
              (P.since (and_left p.alone own e));
        },
        still-pending ps B.1,
      )

-- A row with other notes.
abbrev pub with_notes : Row → (ℕ → Option Note) → Row
with_notes ρ notes =
    record { lanes = ρ.lanes; bags = ρ.bags; notes = notes; tasks = ρ.tasks; dispatched = ρ.dispatched }

-- ---- A record that is there already: the copy changes neither the table nor the row.
module _ {ws : List ℕ} {ρ : Row} (A : Agrees ws ρ) (p : Pending) (P : LeftBegun ws p) (vs : List ℕ)
    (passes : WellFormed vs) (there : ws ≡ lent_to vs p.task p.words) where
  sized : Sized (sizes_of vs)
  sized = (well_sized vs passes.length_passes).sized

  same-table : lent_to ws p.task p.words ≡ ws
  same-table =
      ap (λ (us : List ℕ). lent_to us p.task p.words) there
      ∙ copied-twice vs sized p.task p.words (words-whole P)
      ∙ sym there

  begun-there : task ws p.task
      ≡ begun_task P.lane (operation_of P.operation) (side_of P.side) (number P.argument)
  begun-there =
      let k = p.task in
      let is_task =
      subst (λ (n : ℕ). k < n) (ap task_count there ∙ same-task-count vs k p.words) P.fits.is_task in
      ap (λ (us : List ℕ). task us k) there
      ∙ own-task vs k p.words is_task sized (words-whole P)
      ∙ ap task_of P.words_are
      ∙ task-of-words _ never-has-word

  note-there : ρ.notes p.task ≡ some p.note
  note-there =
      A.notes p.task
      ∙ ap note_in begun-there
      ∙ begun-note P.operation P.fits.some-operation _
      ∙ ap some (sym P.note_is)

  same_row : noted ρ p.task (some p.note) ≡ ρ
  same_row =
      ap (with_notes ρ)
      (fun_ext (λ j.
      by-if (λ (m : Option Note). m ≡ ρ.notes j) (j ≟ p.task)
      (λ e. sym note-there ∙ ap ρ.notes (sym e)) (λ _. refl)))

-- What a copy at once keeps, a copy of a record that is alone keeps.
pub copied-alone : (Q : List ℕ → Row → Type 0) {ws : List ℕ} {ρ : Row} → Q ws ρ → Agrees ws ρ
    → (p : Pending)
    → LeftBegun ws p
    → p.alone ≡ true
    → ((lent : List ℕ)
    → length lent ≡ record_length
    → (l op side : ℕ) (argument : Stored)
    → (begin_lent ws lent p.task l op side argument).reply ≡ Accepted
    → Q (lent_to ws p.task (begin_lent ws lent p.task l op side argument).words)
    (noted ρ p.task (some (new_note l op side argument))))
    → Q (lent_to ws p.task p.words) (noted ρ p.task (some p.note))
copied-alone Q {ws} {ρ} q A p P alone at_once = go (P.since alone)
  where
    Copied : List ℕ → Note → Type 0
    Copied words n = Q (lent_to ws p.task words) (noted ρ p.task (some n))

    go : Since ws p.task P.lane P.operation P.side P.argument p.words → Copied p.words p.note
    go S = elim S.now [
      | inl e ↦
          let accepted =
          subst
          (λ (us : List ℕ).
          (begin_lent us S.lent p.task P.lane P.operation P.side P.argument).reply ≡ Accepted)
          (sym e) S.accepted in
          let left = (begin_lent ws S.lent p.task P.lane P.operation P.side P.argument).words in
          let sized = (well_sized ws A.accepted.length_passes).sized in
          let same : left ≡ p.words
          = lent-words ws S.lent p.task P.lane P.operation P.side P.argument accepted sized
          ∙ sym P.words_are in
          subst (Copied p.words) (sym P.note_is)
          (subst (λ (u : List ℕ). Copied u (new_note P.lane P.operation P.side P.argument)) same
          (at_once S.lent S.whole P.lane P.operation P.side P.argument accepted))
      | inr e ↦
          subst (λ (us : List ℕ). Q us (noted ρ p.task (some p.note)))
          (sym (same-table A p P S.table S.passes e))
          (subst (Q ws) (sym (same_row A p P S.table S.passes e)) q)
    ]
