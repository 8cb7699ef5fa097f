-- A begin of a push on a table that agrees with a row: it is refused with 16 exactly when the row has seen the bag.
use mathlib.Core.Path.{◌≡◌, refl, sym, ap, ◌∙◌, subst}
use mathlib.Core.Logic.{◌≢◌, inl, inr}
use mathlib.Core.Bool.{Bool, true, false, not, ◌&&◌, ◌||◌}
use mathlib.Core.List.{List}
use mathlib.Core.Option.{Option, some, none}
use Prim.Native.Nat.{ℕ, zero, suc, ◌<◌}
use native.Mathlib.Omega.{arith}
use native.Mathlib.Decide.{ℕ_discrete}
use lib.Dec.{leb, eqb}
use borrow.Author.Tests.{eq-eqb, eqb-true, lt-ltb}
use Rattle.machine.specs.Outcomes.Reply.{Accepted, Refused as Reply-Refused}
use Rattle.machine.specs.declared.Stored.{Stored}
use Rattle.machine.specs.Sides.{Side, left, right, side_number}
use Rattle.machine.specs.Values.{number, bag_ok}
use Rattle.machine.specs.Operations.{Operation, idle, push, pop, add, remove, operation_number, operation_of}
use Rattle.machine.specs.Table.{task_count, lane_count, task}
use Rattle.machine.specs.Calls.{
  unless,
  is_idle,
  is_push,
  is_busy,
  is_among,
  is_begun,
  twice_refusal,
  begin_refusal,
  changed,
  begin,
}
use Rattle.machine.specs.Row.{Note, Row}
use Rattle.machine.specs.Twice.{PushNoted, all_bags, SeenIn, BeginsNew}
use Rattle.machine.proofs.Basics.Contradiction.{clash, refute, equal?}
use Rattle.machine.proofs.Basics.Tests.{
  and_left,
  and_right,
  or-either,
  or_left,
  or_right,
  test-passed,
  tests_left,
}
use Rattle.machine.proofs.Shape.TickKeeps.{busy-is-task}
use Rattle.machine.proofs.Shape.ShapeKept.{table-passes}
use Rattle.machine.proofs.Linearizability.Model.Invariant.{note_of}
use Rattle.machine.proofs.Linearizability.Calls.Agreement.{Agrees, note_under, all-lanes-are-rows}

is-push : (op : Operation) → is_push op ≡ true → op ≡ push
is-push push e = refl
is-push idle e = clash (cc)
is-push pop e = clash (cc)
is-push add e = clash (cc)
is-push remove e = clash (cc)

-- What the reply says of the tests.
accepted-so : (r : Option ℕ) (before after : List ℕ) → (changed r before after).reply ≡ Accepted → r ≡ none
accepted-so (some n) before after e = clash (cc)
accepted-so none before after e = refl

refused-so : (r : Option ℕ) (n : ℕ) (before after : List ℕ) → (changed r before after).reply ≡ Reply-Refused n
    → r ≡ some n
refused-so (some m) n before after e = cc
refused-so none n before after e = clash (cc)

not-both : (t : Bool) → not t ≡ true → t ≡ true → ⊥
not-both true e q = refute (cc)
not-both false e q = refute (cc)

same-note : (op : Operation) (n m : Note) → note_under op n ≡ some m → n ≡ m
same-note idle n m e = clash (cc)
same-note push n m e = cc
same-note pop n m e = cc
same-note add n m e = cc
same-note remove n m e = cc

module _ {ws : List ℕ} {ρ : Row} (A : Agrees ws ρ) where
  -- ---- Noted pushes and busy ones.
  pub busy-noted : (k : ℕ) → (task ws k).operation ≡ push → PushNoted ρ k (task ws k).argument
  busy-noted k e =
      let t = task ws k in
      record {
        lane = t.lane;
        side = t.side;
        note_is = A.notes k ∙ rw e;
      }

  pub noted-busy : (k b : ℕ) → PushNoted ρ k b → ((task ws k).operation ≡ push) × ((task ws k).argument ≡ b)
  noted-busy k b N =
      let t = task ws k in
      let same = same-note t.operation (note_of t) _ (sym (A.notes k) ∙ N.note_is) in
      (ap (λ (n : Note). n.operation) same, ap (λ (n : Note). n.argument) same)

  -- ---- The test of 16.
  begun-noted : (m n : ℕ) → is_begun ws m n ≡ true → (k : ℕ) × PushNoted ρ k n
  unfolding is_begun
  begun-noted zero n e = clash (cc)
  begun-noted (suc m) n e =
      let t = task ws m in
      elim (or-either (is_push t.operation && eqb n t.argument) (is_begun ws m n) e) [
        | inl q ↦
            let a = and_left (is_push t.operation) (eqb n t.argument) q in
            let b = and_right (is_push t.operation) (eqb n t.argument) q in
            (m, subst (PushNoted ρ m) (sym (eqb-true n t.argument b)) (busy-noted m (is-push t.operation a)))
        | inr q ↦ begun-noted m n q
      ]

  noted-begun : (m n k : ℕ) → k < m → PushNoted ρ k n → is_begun ws m n ≡ true
  unfolding is_begun
  noted-begun zero n k l N = absurd (omega arith)
  noted-begun (suc m) n k l N =
      elim (equal? k m) [
        | inl e ↦
            let x = noted-busy m n (subst (λ (j : ℕ). PushNoted ρ j n) e N) in
            rw (x.0, eq-eqb n (task ws m).argument (sym x.1))
        | inr ne ↦
            or_right (is_push (task ws m).operation && eqb n (task ws m).argument) (is_begun ws m n)
            (noted-begun m n k (omega arith) N)
      ]

  abbrev is_seen : ℕ → Bool
  is_seen n = is_among n (all_bags ρ) || is_begun ws (task_count ws) n

  seen-so : (n : ℕ) → is_seen n ≡ true → SeenIn ρ n
  seen-so n e =
      elim (or-either (is_among n (all_bags ρ)) (is_begun ws (task_count ws) n) e) [
        | inl q ↦ inl q
        | inr q ↦ inr (begun-noted (task_count ws) n q)
      ]

  tests-so : (n : ℕ) → SeenIn ρ n → is_seen n ≡ true
  tests-so n (inl q) = or_left (is_among n (all_bags ρ)) (is_begun ws (task_count ws) n) q
  tests-so n (inr N) =
      let k = N.0 in
      let is = ap is_busy (noted-busy k n N.1).0 in
      or_right (is_among n (all_bags ρ)) (is_begun ws (task_count ws) n)
      (noted-begun (task_count ws) n k (busy-is-task ws k is) N.1)

  -- ---- Begin.
  twice-is : (n : ℕ) (others : Option ℕ) → twice_refusal ws push n others ≡ unless (not (is_seen n)) 16 others
  twice-is n others = rw (all-lanes-are-rows A)

  -- An accepted push is of a bag not seen.
  pub accepted-new : (k l op side : ℕ) (argument : Stored) → (begin ws k l op side argument).reply ≡ Accepted
      → operation_of op ≡ push
      → SeenIn ρ (number argument)
      → ⊥
  unfolding begin
  accepted-new k l op side argument e is-push seen =
      let n = number argument in
      let others = unless (is_idle (task ws k).operation) 8 none in
      let none-met : begin_refusal ws k l op side argument ≡ none = accepted-so _ _ _ e in
      let not-met : twice_refusal ws (operation_of op) n others ≡ none = search tests_left depth 9 in
      let not_16 : unless (not (is_seen n)) 16 others ≡ none =
      sym (twice-is n others) ∙ ap (λ (o : Operation). twice_refusal ws o n others) (sym is-push) ∙ not-met in
      not-both (is_seen n) (test-passed (not (is_seen n)) 16 others not_16) (tests-so n seen)

  -- A push that passes 26, 5, 6 and 7.
  module _ (k l : ℕ) (s : Side) (argument : Stored)
      (is_task : k < task_count ws) (is_lane : l < lane_count ws) (is-bag : bag_ok argument ≡ true) where
    side-passes : (z : Side) → leb (side_number z) 1 ≡ true
    side-passes left = refl
    side-passes right = refl

    abbrev after-16 : Option ℕ
    after-16 = unless (is_idle (task ws k).operation) 8 none

    refusal_is : begin_refusal ws k l (operation_number push) (side_number s) argument
        ≡ unless (not (is_seen (number argument))) 16 after-16
    unfolding ℕ_discrete
    refusal_is =
        rw (
          table-passes ws A.accepted,
          lt-ltb l (lane_count ws) is_lane,
          lt-ltb k (task_count ws) is_task,
          side-passes s,
          is-bag,
          twice-is (number argument),
        )

    not_16 : (idle_now : Bool) → unless idle_now 8 none ≢ some 16
    not_16 true e = refute (cc)
    not_16 false e = refute (cc)

    only_seen : unless (not (is_seen (number argument))) 16 after-16 ≡ some 16 → SeenIn ρ (number argument)
    only_seen met = go (is_seen (number argument)) refl
      where
        go : (t : Bool) → is_seen (number argument) ≡ t → SeenIn ρ (number argument)
        go true q = seen-so (number argument) q
        go false q = absurd (not_16 (is_idle (task ws k).operation) (rw q at met))

    unseen : (SeenIn ρ (number argument) → ⊥) → is_seen (number argument) ≡ false
    unseen new = go (is_seen (number argument)) refl
      where
        go : (t : Bool) → is_seen (number argument) ≡ t → is_seen (number argument) ≡ false
        go true q = absurd (new (seen-so (number argument) q))
        go false q = q

    pub begins-new :
        BeginsNew ρ (number argument) (is_idle (task ws k).operation)
        (begin ws k l (operation_number push) (side_number s) argument).reply
    unfolding begin
    begins-new =
        record {
          only_when_seen = λ e. only_seen (sym refusal_is ∙ refused-so _ 16 _ _ e);
          when_seen = λ seen. rw (refusal_is, tests-so (number argument) seen);
          when_new = λ new is-idle. rw (refusal_is, unseen new, is-idle);
        }
