-- Where a row is known and copies were to idle places, a start and calls lead to this very table, with no snapshot and
-- no copy among them; so what is true of the tables that our calls lead to is true there. That no bag number is there
-- twice outlasts more copies.
use mathlib.Core.Path.{◌≡◌, refl, sym, ap, ◌∙◌, subst, fun_ext}
use mathlib.Core.Bool.{false, not}
use mathlib.Core.List.{List, [], ◌∷◌}
use mathlib.Core.Option.{Option, some, none}
use Prim.Native.Nat.{ℕ}
use lib.ListN.{length}
use borrow.Author.Tests.{not-true}
use Rattle.machine.specs.Outcomes.Reply.{Accepted}
use Rattle.machine.specs.declared.Stored.{Stored}
use Rattle.machine.specs.Choice.{◌≟◌}
use Rattle.machine.specs.Operations.{Operation, idle, push, pop, add, remove}
use Rattle.machine.specs.Tasks.{record_length}
use Rattle.machine.specs.Table.{task}
use Rattle.machine.specs.Calls.{is_busy, begin}
use Rattle.machine.specs.Lent.{lent_to, begin_lent}
use Rattle.machine.specs.Row.{Note, new_note, Row, noted, has_note}
use Rattle.machine.specs.Demand3.{Call, begin_call, feed_begin}
use Rattle.machine.specs.Begun.{Begun, by_start, by_call, after_all}
use Rattle.machine.specs.Twice.{OnceInTable, row_after, RowSince}
use Rattle.machine.specs.Events.{
  copied_alone,
  OnceWhereKnown,
  copied_over_idle,
  HistoriesKnown,
  BegunWhereKnown,
}
use Rattle.machine.proofs.Basics.Choices.{by-if, if_yes, if_no}
use Rattle.machine.proofs.Basics.Contradiction.{clash}
use Rattle.machine.proofs.Basics.Tests.{and_left, and_right}
use Rattle.machine.proofs.Shape.LentBegins.{
  idle-left-off,
  lent_fits,
  begin-accepted,
  copied_is,
  left-off-passes,
}
use Rattle.machine.proofs.Linearizability.Calls.Agreement.{Agrees, noted-if-busy}
use Rattle.machine.proofs.Linearizability.Calls.CallsAgree.{left-off-agrees, call_fits}
use Rattle.machine.proofs.Linearizability.Calls.EveryCall.{call-explained}
use Rattle.machine.proofs.Linearizability.Pending.{with_notes, copied-alone}
use Rattle.machine.proofs.Linearizability.Carried.{Carried, always, always-so}
use Rattle.machine.proofs.Linearizability.Theorem.{started-agrees, agreement-carried}
use Rattle.machine.proofs.Linearizability.Twice.Rows.{Once, once-empty, once-left-off, once-begun}
use Rattle.machine.proofs.Linearizability.Twice.Begins.{accepted-new}
use Rattle.machine.proofs.Linearizability.Twice.Theorem.{row-agrees, one_more, once-called, once-in-table}

-- ---- A copy to an idle task's place is a begin.
not-busy : (op : Operation) → is_busy op ≡ false → op ≡ idle
not-busy idle e = refl
not-busy push e = clash (cc)
not-busy pop e = clash (cc)
not-busy add e = clash (cc)
not-busy remove e = clash (cc)

module _ {ws : List ℕ} {ρ : Row} (R : RowSince ws ρ) (k : ℕ) (no_note : has_note (ρ.notes k) ≡ false) where
  copied-to-idle : (lent : List ℕ) → length lent ≡ record_length → (l op side : ℕ) (argument : Stored)
      → (begin_lent ws lent k l op side argument).reply ≡ Accepted
      → RowSince (lent_to ws k (begin_lent ws lent k l op side argument).words)
      (noted ρ k (some (new_note l op side argument)))
  copied-to-idle lent whole l op side argument accepted =
      let A = (row-agrees R).0 in
      let F = lent_fits ws lent k l op side argument accepted in
      let now-idle = not-busy (task ws k).operation (sym (noted-if-busy A k) ∙ no_note) in
      let same = idle-left-off ws A.accepted k F.is_task now-idle in
      let is-begun =
      subst (λ (vs : List ℕ). (begin vs k l op side argument).reply ≡ Accepted) same
      (begin-accepted ws lent k l op side argument accepted A.accepted whole) in
      let copied =
      copied_is ws lent k l op side argument accepted A.accepted whole
      ∙ ap (λ (vs : List ℕ). (begin vs k l op side argument).words) same in
      let fed : feed_begin ρ k l op side argument (begin ws k l op side argument).reply
      ≡ some (noted ρ k (some (new_note l op side argument)))
      = ap (feed_begin ρ k l op side argument) is-begun ∙ rw (call_fits A k l op side argument F) in
      subst (λ (vs : List ℕ). RowSince vs (noted ρ k (some (new_note l op side argument)))) (sym copied)
      (one_more (begin_call k l op side argument) R fed)

history-carried : Carried copied_over_idle RowSince
unfolding after_all row_after
history-carried =
    record {
      at-start = λ S T g L old accepted.
          record {
            S = S;
            T = T;
            growth = g;
            lanes = L;
            old = old;
            accepted = accepted;
            calls = [];
            leads_to = refl;
            row_is = refl;
          };
      at_call = λ R c.
          let E = call-explained (row-agrees R).0 c in (E.row, E.given-by-row, one_more c R E.given-by-row);
      at_copy = λ {ws} {ρ} R p P outlasts.
          let had = has_note (ρ.notes p.task) in
          copied-alone RowSince R (row-agrees R).0 p P (and_left p.alone (not had) outlasts)
          (copied-to-idle R p.task (not-true had (and_right p.alone (not had) outlasts)));
      agrees = λ R. (row-agrees R).0;
    }

pub histories-known : HistoriesKnown
histories-known = always copied_over_idle RowSince history-carried

begun-after : (cs : List Call) {ws : List ℕ} → Begun ws → Begun (after_all cs ws)
unfolding after_all
begun-after [] B = B
begun-after (c ∷ cs) B = begun-after cs (by_call B c)

history-begun : {ws : List ℕ} {ρ : Row} → RowSince ws ρ → Begun ws
history-begun R =
    subst Begun R.leads_to
    (begun-after R.calls (by_start R.S R.T R.growth R.lanes R.old R.accepted))

pub begun-where-known : BegunWhereKnown
begun-where-known =
    always-so copied_over_idle RowSince (λ ws ρ. Begun ws) (λ ws ρ R. history-begun R) histories-known

-- ---- A copy at once to any task's place: the call there is left off, and the begin is as any.
abbrev AgreesOnce : List ℕ → Row → Type 0
AgreesOnce ws ρ = Agrees ws ρ × Once ρ

noted-over : (ρ : Row) (k : ℕ) (m n : Option Note) → noted (noted ρ k m) k n ≡ noted ρ k n
noted-over ρ k m n =
    ap (with_notes ρ)
    (fun_ext (λ j.
    by-if (λ (x : Option Note). x ≡ (noted ρ k n).notes j) (j ≟ k) (λ e. sym (if_yes (j ≟ k) n (ρ.notes j) e))
    (λ ne. if_no (j ≟ k) m (ρ.notes j) ne ∙ sym (if_no (j ≟ k) n (ρ.notes j) ne))))

module _ {ws : List ℕ} {ρ : Row} (A : Agrees ws ρ) (O : Once ρ) (k : ℕ) where
  once-copied : (lent : List ℕ) → length lent ≡ record_length → (l op side : ℕ) (argument : Stored)
      → (begin_lent ws lent k l op side argument).reply ≡ Accepted
      → Once (noted ρ k (some (new_note l op side argument)))
  once-copied lent whole l op side argument accepted =
      let is_task = (lent_fits ws lent k l op side argument accepted).is_task in
      let passes = left-off-passes ws lent k l op side argument accepted A.accepted whole in
      let new =
      accepted-new (left-off-agrees A k is_task passes) k l op side argument
      (begin-accepted ws lent k l op side argument accepted A.accepted whole) in
      let n = new_note l op side argument in
      subst Once (noted-over ρ k none (some n)) (once-begun (once-left-off O k) k n new)

once-carried : Carried copied_alone AgreesOnce
once-carried =
    let C = agreement-carried copied_alone in
    record {
      at-start = λ S T g L old accepted. (started-agrees S T g L old accepted, once-empty T L);
      at_call = λ q c.
          let E = call-explained q.0 c in (E.row, E.given-by-row, (E.agrees, once-called q.0 q.1 c));
      at_copy = λ q p P alone. (
        C.at_copy q.0 p P alone,
        copied-alone (λ vs σ. Once σ) q.1 q.0 p P alone (once-copied q.0 q.1 p.task),
      );
      agrees = λ q. q.0;
    }

pub once-where-known : OnceWhereKnown
once-where-known =
    always-so copied_alone AgreesOnce (λ ws ρ. OnceInTable ws) (λ ws ρ q. once-in-table q.0 q.1)
    (always copied_alone AgreesOnce once-carried)
