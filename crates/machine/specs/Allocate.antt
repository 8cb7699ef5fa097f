-- The slot rule, computed: marking what is reachable, and the first node without a mark from a hint on.
-- proofs/SlotRule/Reached.antt shows that the marks are exactly the reachable nodes.
use Rattle.std.specs.Prelude.{◌≡◌, true, false, cond, List, [], ◌∷◌, ◌++◌, ℕ, zero, suc, ◌+◌, ◌≤◌, ◌<◌, ltb, eqb, length, get_or, set, replicate}
use Rattle.machine.specs.Round.{following}
use Rattle.machine.specs.Sides.{left, right}
use Rattle.machine.specs.Tasks.{Task, no_node, in_a, in_b, in_c, in_d}
use Rattle.machine.specs.Registers.{held_in}
use Rattle.machine.specs.Table.{node_count, task_count, lane_count, hat, link, task}

-- The nodes that a task holds against reuse: those of the registers that hold at its step, and none for the others.
abbrev pub held_by : Task → List ℕ
held_by t = held_in t in_a ∷ held_in t in_b ∷ held_in t in_c ∷ held_in t in_d ∷ []

-- What the tasks from k on hold, n of them.
unfoldable pub held_from : List ℕ → (n k : ℕ) → List ℕ
held_from ws zero k = []
held_from ws (suc n) k = held_by (task ws k) ++ held_from ws n (suc k)

-- The hats of the lanes from l on, n of them.
unfoldable pub hats_from : List ℕ → (n l : ℕ) → List ℕ
hats_from ws zero l = []
hats_from ws (suc n) l = hat ws l left ∷ hat ws l right ∷ hats_from ws n (suc l)

-- Where the marking begins: the hats of every lane, and what the tasks hold.
unfoldable pub roots : List ℕ → List ℕ
roots ws = hats_from ws (lane_count ws) 0 ++ held_from ws (task_count ws) 0

-- 01: S is at most 1,024.
abbrev pub largest_count : ℕ
largest_count = 1024

-- The marks, one a node (0: none), and the marked nodes in a queue that ends at tail.
pub record Marking : Type 0 where
  pub marks : List ℕ
  pub queue : List ℕ
  pub tail : ℕ

abbrev pub unmarked : Marking
unmarked = record { marks = replicate largest_count 0; queue = replicate largest_count 0; tail = 0 }

-- How many marks there are.
abbrev pub mark_count : List ℕ → ℕ
mark_count [] = 0
mark_count (zero ∷ xs) = mark_count xs
mark_count (suc x ∷ xs) = suc (mark_count xs)

-- What every marking of S nodes has, from the start on. It keeps the queue from running over.
pub record Room (S : ℕ) (m : Marking) : Type 0 where
  pub few : S ≤ largest_count
  pub marks_long : length m.marks ≡ largest_count
  pub queue_long : length m.queue ≡ largest_count
  pub counted : mark_count m.marks ≡ m.tail
  pub below : (i : ℕ) → i < m.tail → get_or m.queue i 0 < S

abbrev pub enqueue : Marking → ℕ → Marking
enqueue m x =
    record { marks = set m.marks x 1; queue = set m.queue m.tail x; tail = m.tail + 1 }

-- x marked and queued, unless it is no node or has a mark.
unfoldable pub mark : (S : ℕ) → Marking → ℕ → Marking
mark S m x = cond (ltb x S) (cond (eqb (get_or m.marks x 0) 0) (enqueue m x) m) m

unfoldable pub mark_all : (S : ℕ) → Marking → List ℕ → Marking
mark_all S m [] = m
mark_all S m (x ∷ xs) = mark_all S (mark S m x) xs

-- Both links of the node at a place of the queue marked.
unfoldable pub visit : List ℕ → Marking → ℕ → Marking
visit ws m i =
    let x = get_or m.queue i 0 in
    mark (node_count ws) (mark (node_count ws) m (link ws left x)) (link ws right x)

-- The queue visited from a place on, for n places at most.
unfoldable pub visit_from : List ℕ → (n i : ℕ) → Marking → Marking
visit_from ws zero i m = m
visit_from ws (suc n) i m =
    elim (ltb i m.tail) as (λ _. Marking) [ true ↦ visit_from ws n (suc i) (visit ws m i) | false ↦ m ]

-- The marking of all that the roots reach: each node is queued once, so the queue's length is enough.
unfoldable pub marked : List ℕ → Marking
marked ws = visit_from ws largest_count 0 (mark_all (node_count ws) unmarked (roots ws))

-- The first of n nodes from i on that has no mark, or none.
unfoldable pub first_unmarked : (S : ℕ) → List ℕ → (n i : ℕ) → ℕ
first_unmarked S marks zero i = no_node
first_unmarked S marks (suc n) i =
    elim (eqb (get_or marks i 0) 0) as (λ _. ℕ) [ true ↦ i | false ↦ first_unmarked S marks n (following S i) ]

-- 01: "take" means the first free slot from the hint upward, going round; none where none is free.
unfoldable pub allocate : List ℕ → (hint : ℕ) → ℕ
allocate ws hint = first_unmarked (node_count ws) (marked ws).marks (node_count ws) hint
