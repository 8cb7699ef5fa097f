-- A started table stands as the first state: every hat is at the X of its end, so nothing else is spare.
use mathlib.Core.Path.{◌≡◌, refl, sym, ap, ◌∙◌, subst}
use mathlib.Core.Logic.{inl, inr}
use mathlib.Core.Bool.{true}
use mathlib.Core.List.{List, []}
use mathlib.Core.Option.{Option, some, none}
use Prim.Native.Nat.{ℕ, ◌+◌, ◌*◌, ◌-◌, ◌%◌, ◌≤◌, ◌<◌}
use native.Mathlib.Omega.{arith}
use lib.ListN.{length}
use Rattle.machine.specs.Outcomes.Reply.{Accepted}
use Rattle.machine.specs.Choice.{◌≟◌, ◌<?◌}
use Rattle.machine.specs.Sides.{Side, left, right, side_number}
use Rattle.machine.specs.Values.{X}
use Rattle.machine.specs.Tasks.{Task, no_node}
use Rattle.machine.specs.Table.{lane_count, hat, value}
use Rattle.machine.specs.Shape.{lanes_ok, sizes_ok}
use Rattle.machine.specs.Calls.{start_refusal, changed, start_words, start}
use Rattle.machine.specs.Begun.{Begun, by_start}
use Rattle.machine_capacity.specs.NoLeak.{Idle, HatPlace, in_list, beside, lane_size, IdleTable, AllCounted}
use Rattle.machine_capacity.specs.Alone.{spare_of, spur_of}
use Rattle.machine_capacity.specs.OneUser.{start_state}
use Rattle.machine.proofs.Basics.Contradiction.{clash, less?}
use Rattle.machine.proofs.Basics.Choices.{if_yes, if_no}
use Rattle.machine.proofs.Basics.Tests.{test-passed, tests_left}
use Rattle.machine.proofs.Words.Memories.{View}
use Rattle.machine.proofs.Words.StartLaws.{start_value, viewed-start, task-start}
use Rattle.machine.proofs.Shape.ShapeKept.{start-sized}
use Rattle.machine.proofs.Linearizability.Calls.Agreement.{lanes-are-rows}
use Rattle.machine.proofs.Linearizability.Calls.CallsAgree.{start-agrees}
use Rattle.machine_capacity.proofs.Counting.{total-same, total-const}
use Rattle.machine_capacity.proofs.Theorem.{no-leak}
use Rattle.machine_capacity.proofs.Alone.Ends.{EndIs, idle-end}
use Rattle.machine_capacity.proofs.Alone.Left.{same_some}
use Rattle.machine_capacity.proofs.OneUser.Standing.{Standing}

-- An end whose hat is at its X.
one-spare : {ws : List ℕ} {l : ℕ} {s : Side} {at : ℕ → ℕ} {inner c y : ℕ} → EndIs ws l s at inner c y
    → value ws (hat ws l s) ≡ X s
    → (c ≡ 1) × (y ≡ 0)
one-spare {ws} {l} {s} {at} {inner} {c} E is-X = go E.hat-place
  where
    go : {n : ℕ} → HatPlace ws l s (at 0) inner n → (c ≡ 1) × (n ≡ 0)
    go (in_list e) =
        elim (less? 1 c) [
          | inl more ↦ clash (cc (ap (value ws) e, E.spares.N-before 0 more))
          | inr q ↦ (omega (arith, E.spares.some), refl)
        ]
    go (beside is-Y o i) = clash (cc)

-- The values at the ends.
value-at : (L l : ℕ) → l < L → (s : Side) → start_value L (2 * l + side_number s) ≡ X s
value-at L l h left =
    if_yes (2 * l + 0 <? 2 * L) _ _ (omega arith) ∙ if_yes ((2 * l + 0) % 2 ≟ 0) _ _ (omega arith)
value-at L l h right =
    if_yes (2 * l + 1 <? 2 * L) _ _ (omega arith)
    ∙ if_no ((2 * l + 1) % 2 ≟ 0) _ _ (λ e. omega arith)

module _ (S T g L : ℕ) (lanes : lanes_ok L ≡ true) (ok : sizes_ok S T g L ≡ true) (B : Begun (start_words S T g L)) where
  abbrev ws : List ℕ
  ws = start_words S T g L

  fits : 2 * L ≤ S
  fits = (start-sized S T g L lanes ok).lanes_fit

  sees : (l : ℕ) → l < L → (s : Side) → value (start_words S T g L) (hat (start_words S T g L) l s) ≡ X s
  sees l h s =
      let view-is = viewed-start S T g L fits (start-sized S T g L lanes ok).most-lanes in
      ap (λ (v : View). v.val (hat ws l s)) view-is
      ∙ ap (λ (v : View). start_value L (v.hats l s)) view-is
      ∙ ap (start_value L) (if_yes (l <? L) (2 * l + side_number s) no_node h)
      ∙ value-at L l h s

  idle_then : Idle (start_words S T g L)
  idle_then k =
      ap (λ (t : Task). t.operation) (task-start S T g L fits (start-sized S T g L lanes ok).most-lanes k)

  abbrev table : IdleTable (start_words S T g L)
  table = (no-leak (start_words S T g L) B idle_then).0

  counted : AllCounted (start_words S T g L) table
  counted = (no-leak (start_words S T g L) B idle_then).1

  lanes-then : lane_count (start_words S T g L) ≡ L
  unfolding start_words
  lanes-then = refl

  there : (l : ℕ) → l < lane_count (start_words S T g L) → l < L
  there l h = subst (λ (n : ℕ). l < n) lanes-then h

  bags-then : (l : ℕ) → l < lane_count (start_words S T g L) → (table.shape l).bags ≡ []
  bags-then l h =
      same_some (sym (table.idle_lane l h).lane_is ∙ lanes-are-rows (start-agrees S T g L lanes ok) l (there l h))

  ends : (l : ℕ) → l < lane_count (start_words S T g L) → (s : Side)
      → (spare_of s (table.shape l) ≡ 1) × (spur_of s (table.shape l) ≡ 0)
  ends l h s = one-spare (idle-end (table.idle_lane l h) s) (sees l (there l h) s)

  free-then : counted.free ≡ S - 2 * L
  unfolding start_words
  free-then =
      let two = total-same (λ l. lane_size (table.shape l)) (λ l. 2) (lane_count ws) (λ l h.
      let a = ends l h left in
      let b = ends l h right in
      let c = ap length (bags-then l h) in
      omega (arith, a.0, a.1, b.0, b.1)) in
      omega (arith, counted.all_counted, total-const 2 (lane_count ws))

  started : Standing S (start_words S T g L) (start_state S T g L)
  unfolding start_words
  started =
      record {
        begun = B;
        no_call = idle_then;
        nodes-are = refl;
        tasks_are = refl;
        growth_is = refl;
        lanes_are = refl;
        table = table;
        counted = counted;
        bags-are = bags-then;
        spare_is = λ l h s. (ends l h s).0;
        spur_is = λ l h s. (ends l h s).1;
        free-is = free-then;
      }

pub start-stands : (S T g L : ℕ) (old : List ℕ) → (start old S T g L).reply ≡ Accepted
    → Standing S (start old S T g L).words (start_state S T g L)
unfolding start
start-stands S T g L old accepted = go (start_refusal old S T g L) refl accepted (by_start S T g L old accepted)
  where
    go : (r : Option ℕ) → start_refusal old S T g L ≡ r → (changed r old (start_words S T g L)).reply ≡ Accepted
        → Begun (changed r old (start_words S T g L)).words
        → Standing S (changed r old (start_words S T g L)).words (start_state S T g L)
    go (some n) e q B = clash (cc)
    go none e q B = started S T g L (search test-passed) (search (test-passed, tests_left)) B
