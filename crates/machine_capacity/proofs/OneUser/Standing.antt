-- A table that stands as a state of the machine for one user: what is refused, and what is read.
use mathlib.Core.Path.{◌≡◌, refl, sym, ap, ◌∙◌, subst}
use mathlib.Core.Bool.{Bool, true, false, not, ◌||◌}
use mathlib.Core.List.{List}
use mathlib.Core.Option.{some, none}
use Prim.Native.Nat.{ℕ, zero, suc, ◌+◌, ◌≤◌, ◌<◌}
use native.Mathlib.Omega.{arith}
use lib.Dec.{ltb}
use lib.ListN.{length}
use borrow.Author.Tests.{ltb-true}
use Rattle.machine.specs.Sides.{Side, left, right}
use Rattle.machine.specs.Values.{number}
use Rattle.machine.specs.Operations.{Operation, idle, push, pop, add, remove, operation_of}
use Rattle.machine.specs.Table.{node_count, task_count, growth, lane_count, task}
use Rattle.machine.specs.Calls.{
  lane,
  all_lanes,
  unless,
  is_idle,
  is_among,
  is_begun,
  table_refusal,
  twice_refusal,
  begin_refusal,
  read,
}
use Rattle.machine.specs.Begun.{Begun}
use Rattle.machine.specs.Twice.{rows_below}
use Rattle.machine_capacity.specs.NoLeak.{Idle, lane_size, IdleTable, total, AllCounted}
use Rattle.machine_capacity.specs.Alone.{spare_of, spur_of}
use Rattle.machine_capacity.specs.OneUser.{State, WholeCall, bags_of, is_twice, refusal, size_of, Holds}
use Rattle.machine_capacity.specs.OneUserExactly.{read_from, StandsAs}
use Rattle.machine.proofs.Linearizability.Corollaries.{no-call-refused-with-3-or-4}
use Rattle.machine_capacity.proofs.Counting.{total-same}
use Rattle.machine_capacity.proofs.Alone.Ends.{same-spares, same-spurs, spur-by-hat, idle-end}
use Rattle.machine_capacity.proofs.Alone.Rows.{lanes-below}

pub record Standing (S : ℕ) (ws : List ℕ) (σ : State) : Type 0 where
  pub begun : Begun ws
  pub no_call : Idle ws
  pub nodes-are : node_count ws ≡ S
  pub tasks_are : task_count ws ≡ σ.tasks
  pub growth_is : growth ws ≡ σ.growth
  pub lanes_are : lane_count ws ≡ σ.lanes
  pub table : IdleTable ws
  pub counted : AllCounted ws table
  pub bags-are : (l : ℕ) → l < lane_count ws → (table.shape l).bags ≡ (σ.lane l).bags
  pub spare_is : (l : ℕ) → l < lane_count ws → (s : Side) → spare_of s (table.shape l) ≡ (σ.lane l).spare s
  pub spur_is : (l : ℕ) → l < lane_count ws → (s : Side) → spur_of s (table.shape l) ≡ (σ.lane l).spur s
  pub free-is : counted.free ≡ σ.free

or-false : (b : Bool) → b || false ≡ b
or-false true = refl
or-false false = refl

module _ {S : ℕ} {ws : List ℕ} {σ : State} (P : Standing S ws σ) where
  pub lane-there : (l : ℕ) → l < σ.lanes → l < lane_count ws
  lane-there l h = subst (λ (n : ℕ). l < n) (sym P.lanes_are) h

  pub lane_is : (l : ℕ) → l < lane_count ws → lane ws l ≡ some (σ.lane l).bags
  lane_is l h = (P.table.idle_lane l h).lane_is ∙ ap some (P.bags-are l h)

  lanes-then : all_lanes ws ≡ some (bags_of σ)
  lanes-then =
      lanes-below ws (λ l. (σ.lane l).bags) (lane_count ws) lane_is
      ∙ ap (λ (n : ℕ). some (rows_below (λ l. (σ.lane l).bags) n)) P.lanes_are

  none-begun : (m n : ℕ) → is_begun ws m n ≡ false
  unfolding is_begun
  none-begun zero n = refl
  none-begun (suc m) n = rw (P.no_call m, none-begun m n)

  -- ---- Refusals.
  twice-is : (k : ℕ) (op : Operation) (n : ℕ)
      → twice_refusal ws op n (unless (is_idle (task ws k).operation) 8 none)
      ≡ unless (not (is_twice σ op n)) 16 none
  twice-is k push n = rw (lanes-then, none-begun (task_count ws) n, P.no_call k, or-false (is_among n (bags_of σ)))
  twice-is k idle n = rw (P.no_call k)
  twice-is k pop n = rw (P.no_call k)
  twice-is k add n = rw (P.no_call k)
  twice-is k remove n = rw (P.no_call k)

  pub refusal_is : (c : WholeCall)
      → begin_refusal ws c.task c.lane c.operation c.side c.argument ≡ refusal σ c
  refusal_is c =
      no-call-refused-with-3-or-4 P.begun _
      ∙ rw (P.lanes_are, P.tasks_are, twice-is c.task (operation_of c.operation) (number c.argument))

  -- ---- Reads.
  reads : (l : ℕ) (out : List ℕ) → read ws l out ≡ read_from (ltb l σ.lanes) (σ.lane l).bags out
  unfolding read
  reads l out = go (ltb l (lane_count ws)) refl ∙ ap (λ (n : ℕ). read_from (ltb l n) (σ.lane l).bags out) P.lanes_are
    where
      passes : table_refusal ws (unless (ltb l (lane_count ws)) 26 none) ≡ unless (ltb l (lane_count ws)) 26 none
      passes = no-call-refused-with-3-or-4 P.begun (unless (ltb l (lane_count ws)) 26 none)

      go : (b : Bool) → ltb l (lane_count ws) ≡ b → read ws l out ≡ read_from (ltb l (lane_count ws)) (σ.lane l).bags out
      go true e = rw (passes, e, read, lane_is l (ltb-true l (lane_count ws) e))
      go false e = rw (passes, e, read)

  -- ---- The numbers, which are the same in whatever way the table is taken for an idle one.
  module _ (T : IdleTable ws) (l : ℕ) (h : l < lane_count ws) (s : Side) where
    spare-same : spare_of s (T.shape l) ≡ (σ.lane l).spare s
    spare-same = same-spares (idle-end (T.idle_lane l h) s) (idle-end (P.table.idle_lane l h) s) ∙ P.spare_is l h s

    spur-same : spur_of s (T.shape l) ≡ (σ.lane l).spur s
    spur-same = same-spurs (idle-end (T.idle_lane l h) s) (idle-end (P.table.idle_lane l h) s) ∙ P.spur_is l h s

  holds : Holds (node_count ws) σ
  holds =
      record {
        some_spare =
            λ l h s.
            let k = lane-there l h in
            subst (λ (n : ℕ). 1 ≤ n) (P.spare_is l k s) (idle-end (P.table.idle_lane l k) s).spares.some;
        one_spur =
            λ l h s.
            let k = lane-there l h in
            subst (λ (n : ℕ). n ≤ 1) (P.spur_is l k s) (spur-by-hat (idle-end (P.table.idle_lane l k) s)).2;
        all_counted = counted-by-state;
      }
    where
      size_is : (l : ℕ) → l < lane_count ws → lane_size (P.table.shape l) ≡ size_of (σ.lane l)
      size_is l h =
          let a = P.spare_is l h left in
          let b = P.spare_is l h right in
          let c = P.spur_is l h left in
          let d = P.spur_is l h right in
          let e = ap length (P.bags-are l h) in
          omega arith

      counted-by-state : σ.free + total (λ l. size_of (σ.lane l)) σ.lanes ≡ node_count ws
      counted-by-state =
          let same = total-same (λ l. lane_size (P.table.shape l)) (λ l. size_of (σ.lane l)) (lane_count ws) size_is in
          let lanes = ap (total (λ l. size_of (σ.lane l))) P.lanes_are in
          omega (arith, P.counted.all_counted, P.free-is)

  pub stands-as : StandsAs ws σ
  stands-as =
      record {
        no_call = P.no_call;
        tasks_are = P.tasks_are;
        growth_is = P.growth_is;
        lanes_are = P.lanes_are;
        lane_is = λ l h. lane_is l (lane-there l h);
        spare_is = λ T l h. spare-same T l (lane-there l h);
        spur_is = λ T l h. spur-same T l (lane-there l h);
        free_are = rw (sym P.free-is) P.counted.free_nodes;
        holds = holds;
        reads = reads;
      }
