-- The marks are exactly the reachable nodes, in a table whose links and registers name nodes or none.
use mathlib.Core.Path.{◌≡◌, refl, sym, ◌∙◌, subst}
use mathlib.Core.Logic.{◌≢◌}
use mathlib.Core.Bool.{Bool, true, false, cond, not, ◌&&◌, and-eq-true_iff}
use mathlib.Core.List.{List, [], ◌∷◌, ◌++◌}
use Prim.Native.Nat.{ℕ, zero, suc, ◌<◌, ◌≤◌, ◌+◌}
use native.Mathlib.Omega.{arith}
use native.Mathlib.Nat.{not-suc-le-zero}
use lib.Dec.{eqb, ltb}
use lib.ListN.{get_or, length-replicate, get_or-replicate, get_or-eq_default}
use lib.Seq.{get_or-set_other}
use borrow.Author.Tests.{lt-ltb, ne_eqb, ltb-true, eqb-false, not-true}
use Rattle.machine.specs.Choice.{◌≟◌, ◌<?◌, if?◌then◌else◌}
use Rattle.machine.specs.Sides.{Side, left, right}
use Rattle.machine.specs.Tasks.{Task, no_node, fresh, task_of, Register, in_a, in_b, in_c, in_d, register}
use Rattle.machine.specs.Registers.{holds, held_in}
use Rattle.machine.specs.Table.{node_count, task_count, lane_count, hat, link, record_words, task}
use Rattle.machine.specs.Reach.{Reachable, from_hat, from_register, along}
use Rattle.machine.specs.Allocate.{
  held_by,
  held_from,
  hats_from,
  roots,
  largest_count,
  Marking,
  unmarked,
  enqueue,
  mark,
  mark_all,
  visit,
  visit_from,
  marked,
  Room,
}
use Rattle.machine.proofs.SlotRule.Marking.{
  tail-le,
  room-unmarked,
  HasMark,
  Grows,
  grows-refl,
  grows-trans,
  enqueue-last,
  enqueue-before,
  mark-elim,
  room-mark,
  Each,
  room-mark_all,
  mark_all-marks,
  LinksMarked,
  room-visit,
  visit-grows,
  visit-marks,
  visit_from-next,
  visit_from-end,
}

-- What the theorems below ask of a table: its nodes are few, and hats, links and registers name nodes or none.
pub record WellLinked (ws : List ℕ) : Type 0 where
  pub few : node_count ws ≤ largest_count
  pub hats : (l : ℕ) (s : Side) → l < lane_count ws → hat ws l s < node_count ws
  pub links : (s : Side) (x : ℕ) → link ws s x ≢ no_node → link ws s x < node_count ws
  pub registers : (k : ℕ) (r : Register) → register (task ws k) r ≢ no_node → register (task ws k) r < node_count ws

-- As there are few nodes, none is no node.
pub node-not-none : {S x : ℕ} → S ≤ largest_count → x < S → x ≢ no_node
node-not-none few h e = omega arith

pub reachable-node : {ws : List ℕ} {x : ℕ} → WellLinked ws → Reachable ws x → x < node_count ws
reachable-node W (from_hat l s h) = W.hats l s h
reachable-node W (from_register k r h n) = W.registers k r n
reachable-node W (along s c n) = W.links s _ n

-- ---- The roots are the hats and what the registers of the tasks hold.
-- A number that is no task holds nothing.
register-task : (ws : List ℕ) (k : ℕ) (r : Register) → register (task ws k) r ≢ no_node → k < task_count ws
unfolding task
register-task ws k r n = by (k <? task_count ws) n
  where
    fresh-none : (r' : Register) → register fresh r' ≡ no_node
    fresh-none in_a = refl
    fresh-none in_b = refl
    fresh-none in_c = refl
    fresh-none in_d = refl

    by : (d : Dec (k < task_count ws)) → register (if? d then task_of (record_words ws k) else fresh) r ≢ no_node
        → k < task_count ws
    by (yes l) f = l
    by (no l) f = absurd (f (fresh-none r))

-- What is said of each root is said of each hat and of what each register of a task holds, and conversely.
module _ (ws : List ℕ) (P : ℕ → Type 0) where
  -- What a task holds is what its registers hold, in any order.
  module _ (t : Task) (xs : List ℕ) where
    each-held_by : ((r : Register) → P (held_in t r)) → Each P xs → Each P (held_by t ++ xs)
    each-held_by f e = search (f in_a, f in_b, f in_c, f in_d)

    held_by-register : Each P (held_by t ++ xs) → (r : Register) → P (held_in t r)
    held_by-register e in_a = search
    held_by-register e in_b = search
    held_by-register e in_c = search
    held_by-register e in_d = search

    beside-held_by : Each P (held_by t ++ xs) → Each P xs
    beside-held_by e = search

  each-held : ((k : ℕ) (r : Register) → P (held_in (task ws k) r)) → (n k : ℕ) → Each P (held_from ws n k)
  unfolding held_from
  each-held f zero k = record {}
  each-held f (suc n) k = each-held_by (task ws k) (held_from ws n (suc k)) (f k) (each-held f n (suc k))

  -- The hats of n lanes from l on, beside other numbers.
  each-hat : (n l : ℕ) (xs : List ℕ) → ((j : ℕ) (s : Side) → j < n + l → P (hat ws j s)) → Each P xs
      → Each P (hats_from ws n l ++ xs)
  unfolding hats_from
  each-hat zero l xs h e = e
  each-hat (suc n) l xs h e =
      (h l left (omega arith), (h l right (omega arith), each-hat n (suc l) xs (λ j s q. h j s (omega arith)) e))

  hat-among : (n l : ℕ) (xs : List ℕ) → Each P (hats_from ws n l ++ xs) → (j : ℕ) (s : Side) → l ≤ j → j < n + l
      → P (hat ws j s)
  unfolding hats_from
  hat-among zero l xs e j s a b = absurd (omega arith)
  hat-among (suc n) l xs e j s a b =
      by (j ≟ l) s (λ q. hat-among n (suc l) xs e.1.1 j s q (omega arith))
    where
      by : Dec (j ≡ l) → (z : Side) → (suc l ≤ j → P (hat ws j z)) → P (hat ws j z)
      by (yes q) left later = rw q e.0
      by (yes q) right later = rw q e.1.0
      by (no q) z later = later (omega arith)

  beside-hats : (n l : ℕ) (xs : List ℕ) → Each P (hats_from ws n l ++ xs) → Each P xs
  unfolding hats_from
  beside-hats zero l xs e = e
  beside-hats (suc n) l xs e = beside-hats n (suc l) xs e.1.1

  -- A root is a hat or what a register of a task holds.
  pub each-root : ((l : ℕ) (s : Side) → l < lane_count ws → P (hat ws l s))
      → ((k : ℕ) (r : Register) → P (held_in (task ws k) r))
      → Each P (roots ws)
  unfolding roots
  each-root h f =
      each-hat (lane_count ws) 0 (held_from ws (task_count ws) 0) (λ j s q. h j s (omega arith))
      (each-held f (task_count ws) 0)

  -- Every hat of a lane is a root.
  root-hat : Each P (roots ws) → (l : ℕ) (s : Side) → l < lane_count ws → P (hat ws l s)
  unfolding roots
  root-hat e l s h = hat-among (lane_count ws) 0 (held_from ws (task_count ws) 0) e l s (omega arith) (omega arith)

  held-register : (n k j : ℕ) (r : Register) → Each P (held_from ws n k) → k ≤ j → j < n + k
      → P (held_in (task ws j) r)
  unfolding held_from
  held-register zero k j r e a b = absurd (omega arith)
  held-register (suc n) k j r e a b =
      by (j ≟ k) (λ l. held-register n (suc k) j r (beside-held_by (task ws k) rest e) l (omega arith))
    where
      rest : List ℕ
      rest = held_from ws n (suc k)

      by : Dec (j ≡ k) → (suc k ≤ j → P (held_in (task ws j) r)) → P (held_in (task ws j) r)
      by (yes q) later = rw q (held_by-register (task ws k) rest e r)
      by (no q) later = later (omega arith)

  -- What a register of a task holds is a root.
  root-register : Each P (roots ws) → (k : ℕ) (r : Register) → k < task_count ws → P (held_in (task ws k) r)
  unfolding roots
  root-register e k r l =
      held-register (task_count ws) 0 k r (beside-hats (lane_count ws) 0 (held_from ws (task_count ws) 0) e)
      (omega arith) (omega arith)

-- ---- Sound: what is queued is reachable, and what is marked is queued.
record Sound (ws : List ℕ) (m : Marking) : Type 0 where
  pub reached : (i : ℕ) → i < m.tail → Reachable ws (get_or m.queue i 0)
  pub queued : (x : ℕ) → HasMark m x → (j : ℕ) × (j < m.tail) × (get_or m.queue j 0 ≡ x)

sound-unmarked : (ws : List ℕ) → Sound ws unmarked
sound-unmarked ws =
    record { reached = λ i b. absurd (not-suc-le-zero b); queued = λ x f. absurd (f (zeros x (x <? largest_count))) }
  where
    zeros : (x : ℕ) → Dec (x < largest_count) → get_or unmarked.marks x 0 ≡ 0
    zeros x (yes l) = get_or-replicate largest_count x 0 0 l
    zeros x (no l) =
        let e = length-replicate {A = ℕ} largest_count 0 in
        get_or-eq_default unmarked.marks 0 {n = x} (omega arith)

module _ (ws : List ℕ) where
  abbrev S : ℕ
  S = node_count ws

  mark-sound : {m : Marking} → Room S m → Sound ws m → (x : ℕ) → (x < S → Reachable ws x) → Sound ws (mark S m x)
  mark-sound {m} r d x c = mark-elim S m x (Sound ws) new (λ _. d)
    where
      new : x < S → get_or m.marks x 0 ≡ 0 → Sound ws (enqueue m x)
      new h e = record { reached = λ i b. at i b (i ≟ m.tail); queued = λ y f. place y f (y ≟ x) }
        where
          at : (i : ℕ) → i < m.tail + 1 → Dec (i ≡ m.tail) → Reachable ws (get_or (enqueue m x).queue i 0)
          at i b (yes q) = rw (q, enqueue-last r x h e) (c h)
          at i b (no q) = rw (enqueue-before r x h e i q) (d.reached i (omega arith))

          place : (y : ℕ) → HasMark (enqueue m x) y → Dec (y ≡ x)
              → (j : ℕ) × (j < m.tail + 1) × (get_or (enqueue m x).queue j 0 ≡ y)
          place y f (yes q) = (m.tail, omega arith, enqueue-last r x h e ∙ sym q)
          place y f (no q) =
              let k = d.queued y (λ z. f (get_or-set_other m.marks x y 1 0 q ∙ z)) in
              let b : k.0 < m.tail = k.1 in
              (k.0, omega arith, enqueue-before r x h e k.0 (omega arith) ∙ k.2)

  mark_all-sound : {m : Marking} → Room S m → Sound ws m → (xs : List ℕ) → Each (λ x. x < S → Reachable ws x) xs
      → Sound ws (mark_all S m xs)
  unfolding mark_all
  mark_all-sound r d [] c = d
  mark_all-sound {m} r d (x ∷ xs) c =
      mark_all-sound {m = mark S m x} (room-mark r x) (mark-sound r d x c.0) xs c.1

  -- ---- How far the visiting has come: the links of each node queued before place i are marked.
  record Visited (m : Marking) (i : ℕ) : Type 0 where
    pub room : Room S m
    pub sound : Sound ws m
    pub inside : i ≤ m.tail
    pub closed : (j : ℕ) → j < i → LinksMarked ws m (get_or m.queue j 0)

  visit-sound : {m : Marking} (i : ℕ) → Visited m i → i < m.tail → Sound ws (visit ws m i)
  unfolding visit
  visit-sound {m} i v l =
      mark-sound (room-mark v.room _) (mark-sound v.room v.sound _ (next _)) _ (next _)
    where
      x : ℕ
      x = get_or m.queue i 0

      next : (s : Side) → link ws s x < S → Reachable ws (link ws s x)
      next s h = along s (v.sound.reached i l) (node-not-none v.room.few h)

  visit-visited : {m : Marking} (i : ℕ) → Visited m i → i < m.tail → Visited (visit ws m i) (suc i)
  visit-visited {m} i v l =
      record {
        room = room-visit ws v.room i;
        sound = visit-sound i v l;
        inside = let a = g.longer in omega arith;
        closed = λ j b. at j b (j ≟ i);
      }
    where
      g : Grows m (visit ws m i)
      g = visit-grows ws v.room i

      at : (j : ℕ) → j < suc i → Dec (j ≡ i) → LinksMarked ws (visit ws m i) (get_or (visit ws m i).queue j 0)
      at j b (yes q) = rw (q, g.same i l) (visit-marks ws v.room i)
      at j b (no q) = rw (g.same j (omega arith)) (λ s h. g.stays _ (v.closed j (omega arith) s h))

  -- ---- The visiting ends with every queued node visited, as there are at least as many turns as the queue has places.
  record AllVisited (m v : Marking) : Type 0 where
    pub grows : Grows m v
    pub visited : Visited v v.tail

  at-end : {m : Marking} (n i : ℕ) → Visited m i → m.tail ≤ i → AllVisited m (visit_from ws n i m)
  at-end {m} n i v l =
      let b = v.inside in
      let q : i ≡ m.tail = omega arith in
      rw (visit_from-end ws n i m l) (record { grows = grows-refl m; visited = subst (Visited m) q v })

  visit_from-done : {m : Marking} (n i : ℕ) → Visited m i → largest_count ≤ n + i → AllVisited m (visit_from ws n i m)
  visit_from-done zero i v e = at-end 0 i v (let t = tail-le v.room in omega arith)
  visit_from-done {m} (suc n) i v e =
      by (i <? m.tail) (λ l. visit_from-done {m = visit ws m i} n (suc i) (visit-visited i v l) (omega arith))
    where
      by : Dec (i < m.tail) → (i < m.tail → AllVisited (visit ws m i) (visit_from ws n (suc i) (visit ws m i)))
          → AllVisited m (visit_from ws (suc n) i m)
      by (yes l) rest =
          let d = rest l in
          rw (visit_from-next ws n i m l)
          (record { grows = grows-trans (visit-grows ws v.room i) d.grows; visited = d.visited })
      by (no l) rest = at-end (suc n) i v (omega arith)

-- ---- The marking as a whole. The roots' marks stay, and in the end the links of every marked node have been marked.
abbrev roots_marked : List ℕ → Marking
roots_marked ws = mark_all (node_count ws) unmarked (roots ws)

module _ {ws : List ℕ} (W : WellLinked ws) where
  room-start : Room (node_count ws) unmarked
  room-start = room-unmarked (node_count ws) W.few

  -- A root that is a node is reachable.
  roots-reachable : Each (λ x. x < node_count ws → Reachable ws x) (roots ws)
  roots-reachable =
      each-root ws (λ x. x < node_count ws → Reachable ws x) (λ l s h _. from_hat l s h)
      (λ k r. held-reachable k r (holds (task ws k).step r) refl)
    where
      held-reachable : (k : ℕ) (r : Register) (b : Bool) → holds (task ws k).step r ≡ b
          → cond b (register (task ws k) r) no_node < node_count ws
          → Reachable ws (cond b (register (task ws k) r) no_node)
      held-reachable k r true h l = from_register k r h (node-not-none W.few l)
      held-reachable k r false h l = absurd (node-not-none W.few l refl)

  roots-have-marks : Each (λ x. x < node_count ws → HasMark (roots_marked ws) x) (roots ws)
  roots-have-marks = mark_all-marks room-start (roots ws)

  marked-done : AllVisited ws (roots_marked ws) (marked ws)
  unfolding marked
  marked-done =
      visit_from-done ws largest_count 0
      (record {
        room = room-mark_all room-start (roots ws);
        sound = mark_all-sound ws room-start (sound-unmarked ws) (roots ws) roots-reachable;
        inside = omega arith;
        closed = λ j b. absurd (not-suc-le-zero b);
      })
      (omega arith)

  pub marked-reachable : {x : ℕ} → get_or (marked ws).marks x 0 ≢ 0 → Reachable ws x
  marked-reachable {x} f =
      let d = marked-done.visited.sound in
      let q = d.queued x f in
      rw q.2 at (d.reached q.0 q.1)

  pub reachable-marked : {x : ℕ} → Reachable ws x → get_or (marked ws).marks x 0 ≢ 0
  reachable-marked (from_hat l s h) =
      marked-done.grows.stays (hat ws l s) (root-hat ws _ roots-have-marks l s h (W.hats l s h))
  reachable-marked (from_register k r h n) =
      let e : held_in (task ws k) r ≡ register (task ws k) r = rw h in
      let m = root-register ws _ roots-have-marks k r (register-task ws k r n) in
      marked-done.grows.stays (register (task ws k) r) ((rw e at m) (W.registers k r n))
  reachable-marked (along {x} s c n) =
      let d = marked-done.visited in
      let q = d.sound.queued x (reachable-marked c) in
      subst (LinksMarked ws (marked ws)) q.2 (d.closed q.0 q.1) s (W.links s x n)

-- ---- The reachable nodes as a computed set: the nodes with a mark. It holds the hats and what the tasks' registers
-- hold, and it is closed under links.
unfoldable pub keeps : List ℕ → ℕ → Bool
keeps ws x = ltb x (node_count ws) && not (eqb (get_or (marked ws).marks x 0) 0)

marked-keeps : (ws : List ℕ) (x : ℕ) → x < node_count ws → get_or (marked ws).marks x 0 ≢ 0 → keeps ws x ≡ true
unfolding keeps
marked-keeps ws x l f = rw (lt-ltb x (node_count ws) l, ne_eqb _ 0 f)

keeps-marked : (ws : List ℕ) (x : ℕ) → keeps ws x ≡ true
    → (x < node_count ws) × (get_or (marked ws).marks x 0 ≢ 0)
unfolding keeps
keeps-marked ws x h =
    let b = (and-eq-true_iff (ltb x (node_count ws)) (not (eqb (get_or (marked ws).marks x 0) 0))).0 h in
    (ltb-true _ _ b.0, eqb-false _ _ (not-true (eqb (get_or (marked ws).marks x 0) 0) b.1))

module _ {ws : List ℕ} (W : WellLinked ws) where
  pub reachable-keeps : {x : ℕ} → Reachable ws x → keeps ws x ≡ true
  reachable-keeps {x} c = marked-keeps ws x (reachable-node W c) (reachable-marked W c)

  pub keeps-reachable : {x : ℕ} → keeps ws x ≡ true → Reachable ws x
  keeps-reachable {x} h = marked-reachable W (keeps-marked ws x h).1

  pub keeps-hat : (l : ℕ) (s : Side) → l < lane_count ws → keeps ws (hat ws l s) ≡ true
  keeps-hat l s h = reachable-keeps (from_hat l s h)

  pub keeps-register : (k : ℕ) (r : Register) → holds (task ws k).step r ≡ true → register (task ws k) r ≢ no_node
      → keeps ws (register (task ws k) r) ≡ true
  keeps-register k r h n = reachable-keeps (from_register k r h n)

  pub keeps-link : (s : Side) (x : ℕ) → keeps ws x ≡ true → link ws s x ≢ no_node → keeps ws (link ws s x) ≡ true
  keeps-link s x h n = reachable-keeps (along s (keeps-reachable h) n)

  pub unreached-not-kept : {x : ℕ} → (Reachable ws x → ⊥) → keeps ws x ≡ false
  unreached-not-kept {x} f = by (keeps ws x) (λ e. f (keeps-reachable e))
    where
      by : (b : Bool) → b ≢ true → b ≡ false
      by true n = absurd (n refl)
      by false n = refl
