-- Laws of marking: how many marks there are, what a mark keeps, and one turn of each loop of Allocate.antt.
use mathlib.Core.Path.{◌≡◌, refl, sym, ap, ◌∙◌}
use mathlib.Core.Logic.{◌≢◌, ◌⊎◌, inl, inr}
use mathlib.Core.Bool.{cond}
use mathlib.Core.List.{List, [], ◌∷◌}
use Prim.Native.Nat.{ℕ, zero, suc, ◌<◌, ◌≤◌, ◌+◌, ◌-◌}
use native.Mathlib.Omega.{arith}
use native.Mathlib.Nat.{not-suc-le-zero, le_of_suc-le-suc}
use native.Mathlib.Numerals.{add-one}
use lib.Dec.{eqb, ltb}
use lib.ListN.{length, get_or, set, length-set}
use lib.Seq.{get_or-set_same, get_or-set_other}
use borrow.Author.Tests.{lt-ltb, le-ltb, eq-eqb, ne_eqb}
use Rattle.machine.specs.Choice.{◌≟◌, ◌<?◌}
use Rattle.machine.specs.Sides.{Side, left, right}
use Rattle.machine.specs.Tasks.{no_node}
use Rattle.machine.specs.Table.{node_count, link}
use Rattle.machine.specs.Round.{following}
use Rattle.machine.specs.Allocate.{
  roots,
  largest_count,
  Marking,
  mark_count,
  Room,
  unmarked,
  enqueue,
  mark,
  mark_all,
  visit,
  visit_from,
  marked,
  first_unmarked,
  allocate,
}

-- ---- How many marks there are.
pub mark_count-le-length : (l : List ℕ) → mark_count l ≤ length l
mark_count-le-length [] = omega arith
mark_count-le-length (zero ∷ xs) = let h : mark_count xs ≤ length xs = mark_count-le-length xs in omega arith
mark_count-le-length (suc x ∷ xs) = let h : mark_count xs ≤ length xs = mark_count-le-length xs in omega arith

-- A mark at a place without one is one more.
pub mark_count-set : (l : List ℕ) (i : ℕ) → i < length l → get_or l i 0 ≡ 0 → mark_count (set l i 1) ≡ suc (mark_count l)
mark_count-set [] i h e = absurd (not-suc-le-zero h)
mark_count-set (zero ∷ xs) zero h e = refl
mark_count-set (suc x ∷ xs) zero h e = absurd (let z : suc x ≡ 0 = e in omega arith)
mark_count-set (zero ∷ xs) (suc i) h e = mark_count-set xs i (le_of_suc-le-suc h) e
mark_count-set (suc x ∷ xs) (suc i) h e = ap suc (mark_count-set xs i (le_of_suc-le-suc h) e)

-- ---- Room.

-- There are as many marks as queued nodes, and no more marks than places.
pub tail-le : {S : ℕ} {m : Marking} → Room S m → m.tail ≤ largest_count
tail-le {m} r =
    let a = mark_count-le-length m.marks in
    let b = r.counted in
    let c = r.marks_long in
    omega arith

pub room-unmarked : (S : ℕ) → S ≤ largest_count → Room S unmarked
room-unmarked S h =
    record { few = h; marks_long = refl; queue_long = refl; counted = refl; below = λ i b. absurd (not-suc-le-zero b) }

-- ---- Growing: no mark and no queued node is lost.
abbrev pub HasMark : Marking → ℕ → Type 0
HasMark m x = get_or m.marks x 0 ≢ 0

pub record Grows (m v : Marking) : Type 0 where
  pub longer : m.tail ≤ v.tail
  pub stays : (x : ℕ) → HasMark m x → HasMark v x
  pub same : (i : ℕ) → i < m.tail → get_or v.queue i 0 ≡ get_or m.queue i 0

pub grows-refl : (m : Marking) → Grows m m
grows-refl m = record { longer = omega arith; stays = λ x f. f; same = λ i h. refl }

pub grows-trans : {m v u : Marking} → Grows m v → Grows v u → Grows m u
grows-trans a b =
    let p = a.longer in
    let q = b.longer in
    record {
      longer = omega arith;
      stays = λ x f. b.stays x (a.stays x f);
      same = λ i h. b.same i (omega arith) ∙ a.same i h;
    }

-- ---- A node without a mark, marked and queued.
module _ {S : ℕ} {m : Marking} (r : Room S m) (x : ℕ) (h : x < S) (e : get_or m.marks x 0 ≡ 0) where
  x-in-marks : x < length m.marks
  x-in-marks = let l = r.marks_long in let f = r.few in omega arith

  one-mark-more : mark_count (set m.marks x 1) ≡ suc (mark_count m.marks)
  one-mark-more = mark_count-set m.marks x x-in-marks e

  -- While a node has no mark, the queue is not full.
  tail-low : m.tail < largest_count
  tail-low =
      let a = one-mark-more in
      let b = mark_count-le-length (set m.marks x 1) in
      let c = length-set m.marks x 1 in
      let d = r.counted in
      let l = r.marks_long in
      omega arith

  pub tail-in-queue : m.tail < length m.queue
  tail-in-queue = let l = r.queue_long in let t = tail-low in omega arith

  pub enqueue-last : get_or (enqueue m x).queue m.tail 0 ≡ x
  enqueue-last = get_or-set_same m.queue m.tail x 0 tail-in-queue

  pub enqueue-before : (i : ℕ) → i ≢ m.tail → get_or (enqueue m x).queue i 0 ≡ get_or m.queue i 0
  enqueue-before i n = get_or-set_other m.queue m.tail i x 0 n

  room-enqueue : Room S (enqueue m x)
  room-enqueue =
      record {
        few = r.few;
        marks_long = length-set m.marks x 1 ∙ r.marks_long;
        queue_long = length-set m.queue m.tail x ∙ r.queue_long;
        counted = let a = one-mark-more in let d = r.counted in omega arith;
        below = λ i b. at i b (i ≟ m.tail);
      }
    where
      at : (i : ℕ) → i < m.tail + 1 → Dec (i ≡ m.tail) → get_or (enqueue m x).queue i 0 < S
      at i b (yes q) = rw (q, enqueue-last) h
      at i b (no q) = rw (enqueue-before i q) (r.below i (omega arith))

  enqueue-marks : HasMark (enqueue m x) x
  enqueue-marks z = let q : ◌≡◌ {A = ℕ} 1 0 = sym (get_or-set_same m.marks x 1 0 x-in-marks) ∙ z in omega arith

  enqueue-grows : Grows m (enqueue m x)
  enqueue-grows =
      record {
        longer = omega arith;
        stays = λ y f. at y f (y ≟ x);
        same = λ i b. enqueue-before i (omega arith);
      }
    where
      at : (y : ℕ) → HasMark m y → Dec (y ≡ x) → HasMark (enqueue m x) y
      at y f (yes q) = rw q enqueue-marks
      at y f (no q) = λ z. f (sym (get_or-set_other m.marks x y 1 0 q) ∙ z)

-- ---- A mark. It queues a node without a mark and changes nothing at any other number, so what is shown in both cases
-- holds of it. Each law of a mark below is one use of this.
pub mark-elim : (S : ℕ) (m : Marking) (x : ℕ) (P : Marking → Type 0)
    → (x < S → get_or m.marks x 0 ≡ 0 → P (enqueue m x))
    → ((x < S → HasMark m x) → P m)
    → P (mark S m x)
unfolding mark
mark-elim S m x P new old = by (x <? S) (get_or m.marks x 0 ≟ 0)
  where
    by : Dec (x < S) → Dec (get_or m.marks x 0 ≡ 0)
        → P (cond (ltb x S) (cond (eqb (get_or m.marks x 0) 0) (enqueue m x) m) m)
    by (yes h) (yes e) = rw (lt-ltb x S h, eq-eqb _ _ e) (new h e)
    by (yes h) (no e) = rw (lt-ltb x S h, ne_eqb _ _ e) (old (λ _. e))
    by (no h) d = rw (le-ltb x S (omega arith)) (old (λ l. absurd (h l)))

pub room-mark : {S : ℕ} {m : Marking} → Room S m → (x : ℕ) → Room S (mark S m x)
room-mark {S} {m} r x = mark-elim S m x (Room S) (room-enqueue r x) (λ _. r)

mark-grows : {S : ℕ} {m : Marking} → Room S m → (x : ℕ) → Grows m (mark S m x)
mark-grows {S} {m} r x = mark-elim S m x (Grows m) (enqueue-grows r x) (λ _. grows-refl m)

mark-marks : {S : ℕ} {m : Marking} → Room S m → (x : ℕ) → x < S → HasMark (mark S m x) x
mark-marks {S} {m} r x l = mark-elim S m x (λ v. HasMark v x) (enqueue-marks r x) (λ f. f l)

-- Of two nodes marked, each has a mark.
two-marked : {S : ℕ} {m : Marking} → Room S m → (a b y : ℕ) → (y ≡ a) ⊎ (y ≡ b) → y < S
    → HasMark (mark S (mark S m a) b) y
two-marked r a b y (inl e) l = (mark-grows (room-mark r a) b).stays y (rw e (mark-marks r a (rw e at l)))
two-marked r a b y (inr e) l = rw e (mark-marks (room-mark r a) b (rw e at l))

-- ---- A list marked.
-- What is said of numbers, of each element of a list.
abbrev pub Each : (ℕ → Type 0) → List ℕ → Type 0
Each P [] = record {}
Each P (x ∷ xs) = P x × Each P xs

pub room-mark_all : {S : ℕ} {m : Marking} → Room S m → (xs : List ℕ) → Room S (mark_all S m xs)
unfolding mark_all
room-mark_all r [] = r
room-mark_all {S} {m} r (x ∷ xs) = room-mark_all {m = mark S m x} (room-mark r x) xs

mark_all-grows : {S : ℕ} {m : Marking} → Room S m → (xs : List ℕ) → Grows m (mark_all S m xs)
unfolding mark_all
mark_all-grows {m} r [] = grows-refl m
mark_all-grows {S} {m} r (x ∷ xs) =
    grows-trans (mark-grows r x) (mark_all-grows {m = mark S m x} (room-mark r x) xs)

pub mark_all-marks : {S : ℕ} {m : Marking} → Room S m → (xs : List ℕ)
    → Each (λ x. x < S → HasMark (mark_all S m xs) x) xs
unfolding mark_all
mark_all-marks r [] = record {}
mark_all-marks {S} {m} r (x ∷ xs) = (
  λ l. (mark_all-grows (room-mark r x) xs).stays x (mark-marks r x l),
  mark_all-marks {m = mark S m x} (room-mark r x) xs,
)

-- ---- A visit: both links of a queued node marked. Of the two, those that are nodes have a mark.
abbrev pub LinksMarked : List ℕ → Marking → ℕ → Type 0
LinksMarked ws m x = (s : Side) → link ws s x < node_count ws → HasMark m (link ws s x)

module _ (ws : List ℕ) {m : Marking} (r : Room (node_count ws) m) (i : ℕ) where
  pub room-visit : Room (node_count ws) (visit ws m i)
  unfolding visit
  room-visit = room-mark (room-mark r _) _

  pub visit-grows : Grows m (visit ws m i)
  unfolding visit
  visit-grows = grows-trans (mark-grows r _) (mark-grows (room-mark r _) _)

  pub visit-marks : LinksMarked ws (visit ws m i) (get_or m.queue i 0)
  unfolding visit
  visit-marks left = two-marked r _ _ _ (search (inl, inr))
  visit-marks right = two-marked r _ _ _ (search (inl, inr))

-- ---- One turn of the loop over the queue. Room bounds the tail, so the turns do not run out before the queue does.
pub visit_from-next : (ws : List ℕ) (n i : ℕ) (m : Marking) → i < m.tail
    → visit_from ws (suc n) i m ≡ visit_from ws n (suc i) (visit ws m i)
unfolding visit_from
visit_from-next ws n i m l = rw (lt-ltb i m.tail l, visit_from)

pub visit_from-end : (ws : List ℕ) (n i : ℕ) (m : Marking) → m.tail ≤ i → visit_from ws n i m ≡ m
unfolding visit_from
visit_from-end ws zero i m l = refl
visit_from-end ws (suc n) i m l = rw (le-ltb i m.tail l, visit_from)

-- A loop's invariant says that what is still to do gives u. The laws `-kept` say that a turn, which makes v, keeps it.
pub visit_from-kept : (ws : List ℕ) (i : ℕ) (m v u : Marking) → Room (node_count ws) m → i < m.tail → v ≡ visit ws m i
    → visit_from ws (largest_count - i) i m ≡ u → visit_from ws (largest_count - (i + 1)) (i + 1) v ≡ u
visit_from-kept ws i m v u r l e q =
    let t = tail-le r in
    let k : largest_count - i ≡ suc (largest_count - suc i) = omega arith in
    rw (e, add-one) (sym (visit_from-next ws (largest_count - suc i) i m l) ∙ (rw k at q))

-- ---- One turn of the search for a node without a mark.
pub first_unmarked-here : (S : ℕ) (marks : List ℕ) (n i : ℕ) → get_or marks i 0 ≡ 0 → first_unmarked S marks (suc n) i ≡ i
unfolding first_unmarked
first_unmarked-here S marks n i e = rw (eq-eqb (get_or marks i 0) 0 e, first_unmarked)

pub first_unmarked-next : (S : ℕ) (marks : List ℕ) (n i : ℕ) → get_or marks i 0 ≢ 0
    → first_unmarked S marks (suc n) i ≡ first_unmarked S marks n (following S i)
unfolding first_unmarked
first_unmarked-next S marks n i e = rw (ne_eqb (get_or marks i 0) 0 e, first_unmarked)

pub first_unmarked-end : (S : ℕ) (marks : List ℕ) (i : ℕ) → first_unmarked S marks 0 i ≡ no_node
unfolding first_unmarked
first_unmarked-end S marks i = refl

-- The turn at node i, with k of the S nodes passed.
module _ (S : ℕ) (marks : List ℕ) (k i u : ℕ) (q : first_unmarked S marks (S - k) i ≡ u) where
  one_more : k < S → S - k ≡ suc (S - (k + 1))
  one_more l = omega arith

  pub first_unmarked-kept : k < S → get_or marks i 0 ≢ 0 → first_unmarked S marks (S - (k + 1)) (following S i) ≡ u
  first_unmarked-kept l e = sym (first_unmarked-next S marks (S - (k + 1)) i e) ∙ (rw (one_more l) at q)

  pub first_unmarked-found : k < S → get_or marks i 0 ≡ 0 → i ≡ u
  first_unmarked-found l e = sym (first_unmarked-here S marks (S - (k + 1)) i e) ∙ (rw (one_more l) at q)

  pub first_unmarked-none : S ≤ k → no_node ≡ u
  first_unmarked-none l =
      let z : S - k ≡ 0 = omega arith in
      sym (first_unmarked-end S marks i) ∙ (rw z at q)

-- ---- The same facts of a marking known by an equation, as a function's contract gives it.
pub room-of-mark : (S x : ℕ) (m v : Marking) → v ≡ mark S m x → Room S m → Room S v
room-of-mark S x m v e r = rw e (room-mark r x)

pub room-of-visit : (ws : List ℕ) (i : ℕ) (m v : Marking) → v ≡ visit ws m i → Room (node_count ws) m
    → Room (node_count ws) v
room-of-visit ws i m v e r = rw e (room-visit ws r i)

pub room-of-mark_all : (S : ℕ) (v : Marking) (xs : List ℕ) → S ≤ largest_count → v ≡ mark_all S unmarked xs → Room S v
room-of-mark_all S v xs h e = rw e (room-mark_all (room-unmarked S h) xs)

-- The three loops one after another are the allocation.
pub allocate-joined : (ws : List ℕ) (hint x : ℕ) (v m : Marking) → v ≡ mark_all (node_count ws) unmarked (roots ws)
    → m ≡ visit_from ws largest_count 0 v → x ≡ first_unmarked (node_count ws) m.marks (node_count ws) hint
    → x ≡ allocate ws hint
unfolding allocate marked
allocate-joined ws hint x v m e f g = rw (g, f, e)
