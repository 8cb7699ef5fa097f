-- Tables that differ only in registers that do not hold: they hold the same nodes, and the same node is taken.
use mathlib.Core.Path.{◌≡◌, refl, ap, ◌∙◌}
use mathlib.Core.Bool.{Bool, true, false, cond}
use mathlib.Core.List.{List, [], ◌∷◌, ◌++◌}
use Prim.Native.Nat.{ℕ, zero, suc}
use lib.Dec.{ltb}
use Rattle.machine.specs.Shape.{WellFormed}
use Rattle.machine.specs.Sides.{Side, left, right}
use Rattle.machine.specs.Tasks.{Task, no_node, Register, in_a, in_b, in_c, in_d}
use Rattle.machine.specs.Registers.{holds, held_in}
use Rattle.machine.specs.Table.{node_count, task_count, growth, lane_count, tick_count, dispatched, hat, link, value, task}
use Rattle.machine.specs.Allocate.{
  held_by,
  held_from,
  hats_from,
  roots,
  largest_count,
  Marking,
  unmarked,
  mark_all,
  visit,
  visit_from,
  marked,
  allocate,
}
use Rattle.machine.specs.Lines.{Write, out≔, inn≔, val≔, hat≔, seen}
use Rattle.machine_registers.specs.LinesUse.{AgreeOn}
use Rattle.machine.proofs.Words.Memories.{seen_in}
use Rattle.machine.proofs.Words.Columns.{Columns, columns, view_of, put_body, put_one, put_all}
use Rattle.machine_registers.proofs.Agreeing.{agree-self}

-- The columns of a table without its task records.
abbrev pub unrecorded : Columns → Columns
unrecorded c = put_body c.links c.values (λ k. []) c

pub record AlikeColumns (ws vs : List ℕ) : Type 0 where
  pub accepted : WellFormed ws
  pub accepted' : WellFormed vs
  pub same-words : unrecorded (columns vs) ≡ unrecorded (columns ws)
  pub same_tasks : (k : ℕ) → AgreeOn (holds (task ws k).step) (task ws k) (task vs k)

-- Every accepted table is alike to itself.
pub alike_self : {ws : List ℕ} → WellFormed ws → AlikeColumns ws ws
alike_self {ws} a =
    record {
      accepted = a;
      accepted' = a;
      same-words = refl;
      same_tasks = λ k. agree-self (holds (task ws k).step) (task ws k);
    }

unrecorded-put-one : (j : ℕ) (s : Side) (w : Write) (c : Columns)
    → unrecorded (put_one j s w c) ≡ put_one j s w (unrecorded c)
unrecorded-put-one j s (out≔ x y) c = refl
unrecorded-put-one j s (inn≔ x y) c = refl
unrecorded-put-one j s (val≔ x v) c = refl
unrecorded-put-one j s (hat≔ x) c = refl

pub unrecorded-put-all : (j : ℕ) (s : Side) (l : List Write) (c : Columns)
    → unrecorded (put_all j s l c) ≡ put_all j s l (unrecorded c)
unrecorded-put-all j s [] c = refl
unrecorded-put-all j s (w ∷ l) c =
    unrecorded-put-all j s l (put_one j s w c) ∙ ap (put_all j s l) (unrecorded-put-one j s w c)

-- ---- The same nodes are held, so the same node is taken.
held_same : (t u : Task) → AgreeOn (holds t.step) t u → held_by u ≡ held_by t
held_same t u e = cc (one in_a, one in_b, one in_c, one in_d)
  where
    once : (b : Bool) (x y : ℕ) → cond b (cond b x y) no_node ≡ cond b x no_node
    once true x y = refl
    once false x y = refl

    one : (r : Register) → held_in u r ≡ held_in t r
    one in_a = ap (λ (y : Task). held_in y in_a) e ∙ once (holds t.step in_a) t.A u.A
    one in_b = ap (λ (y : Task). held_in y in_b) e ∙ once (holds t.step in_b) t.B u.B
    one in_c = ap (λ (y : Task). held_in y in_c) e ∙ once (holds t.step in_c) t.C u.C
    one in_d = ap (λ (y : Task). held_in y in_d) e ∙ once (holds t.step in_d) t.D u.D

module _ {ws vs : List ℕ} (A : AlikeColumns ws vs) where
  pub same_nodes : node_count vs ≡ node_count ws
  same_nodes = ap (λ (c : Columns). c.sizes.node_count) A.same-words

  pub same_count : task_count vs ≡ task_count ws
  same_count = ap (λ (c : Columns). c.sizes.task_count) A.same-words

  pub same_growth : growth vs ≡ growth ws
  same_growth = ap (λ (c : Columns). c.sizes.growth) A.same-words

  pub same_ticks : tick_count vs ≡ tick_count ws
  same_ticks = ap (λ (c : Columns). c.counts.tick_count) A.same-words

  pub same_dispatched : dispatched vs ≡ dispatched ws
  same_dispatched = ap (λ (c : Columns). c.counts.dispatched) A.same-words

  pub same-lanes : lane_count vs ≡ lane_count ws
  same-lanes = ap (λ (c : Columns). c.sizes.lane_count) A.same-words

  pub same-hat : (l : ℕ) (s : Side) → hat vs l s ≡ hat ws l s
  same-hat l s = ap (λ (c : Columns). c.hats l s) A.same-words

  pub same_links : link vs ≡ link ws
  same_links = ap (λ (c : Columns). c.links) A.same-words

  pub same_seen : (l : ℕ) (s : Side) → seen l s vs ≡ seen l s ws
  unfolding value
  same_seen l s = ap (λ c. seen_in l s (view_of s c)) A.same-words

  pub same_operation : (k : ℕ) → (task vs k).operation ≡ (task ws k).operation
  same_operation k = ap (λ (y : Task). y.operation) (A.same_tasks k)

  pub same_argument : (k : ℕ) → (task vs k).argument ≡ (task ws k).argument
  same_argument k = ap (λ (y : Task). y.argument) (A.same_tasks k)

  held-from-same : (n k : ℕ) → held_from vs n k ≡ held_from ws n k
  unfolding held_from
  held-from-same zero k = refl
  held-from-same (suc n) k =
      let one = held_same (task ws k) (task vs k) (A.same_tasks k) in
      ap (λ (l : List ℕ). l ++ held_from vs n (suc k)) one
      ∙ ap (λ (l : List ℕ). held_by (task ws k) ++ l) (held-from-same n (suc k))

  hats-from-same : (n l : ℕ) → hats_from vs n l ≡ hats_from ws n l
  unfolding hats_from
  hats-from-same zero l = refl
  hats-from-same (suc n) l = cc (same-hat l left, same-hat l right, hats-from-same n (suc l))

  roots-same : roots vs ≡ roots ws
  unfolding roots
  roots-same =
      rw (same-lanes, same_count, hats-from-same (lane_count ws) 0, held-from-same (task_count ws) 0)

  visit-same : (m : Marking) (i : ℕ) → visit vs m i ≡ visit ws m i
  unfolding visit
  visit-same m i = rw (same_nodes, same_links)

  visit-from-same : (n i : ℕ) (m : Marking) → visit_from vs n i m ≡ visit_from ws n i m
  unfolding visit_from
  visit-from-same zero i m = refl
  visit-from-same (suc n) i m = go (ltb i m.tail) (visit-from-same n (suc i) (visit vs m i))
    where
      turn : List ℕ → Bool → Marking
      turn xs b = elim b as (λ _. Marking) [ true ↦ visit_from xs n (suc i) (visit xs m i) | false ↦ m ]

      go : (b : Bool) → visit_from vs n (suc i) (visit vs m i) ≡ visit_from ws n (suc i) (visit vs m i)
          → turn vs b ≡ turn ws b
      go true e = e ∙ ap (visit_from ws n (suc i)) (visit-same m i)
      go false e = refl

  pub allocate-same : (h : ℕ) → allocate vs h ≡ allocate ws h
  unfolding allocate marked
  allocate-same h =
      rw (same_nodes, roots-same, visit-from-same largest_count 0 (mark_all (node_count ws) unmarked (roots ws)))
