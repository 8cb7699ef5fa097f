-- The tests of the sizes, the length and the shape as facts about the table's columns, both ways.
use mathlib.Core.Path.{◌≡◌, refl, sym, ◌∙◌}
use mathlib.Core.Bool.{Bool, true, ◌&&◌}
use mathlib.Core.List.{List}
use Prim.Native.Nat.{ℕ, zero, suc, ◌*◌, ◌≤◌, ◌<◌}
use lib.Dec.{leb, ltb, eqb}
use lib.ListN.{length}
use native.Mathlib.Omega.{arith}
use borrow.Author.Tests.{leb-true, le-leb, ltb-true, lt-ltb, le-ltb, eqb-true, eq-eqb}
use Rattle.machine.specs.Choice.{◌<?◌, ◌≟◌, if?◌then◌else◌}
use Rattle.machine.specs.Sides.{Side, left, right}
use Rattle.machine.specs.Values.{never, encode, value_ok}
use Rattle.machine.specs.Tasks.{no_node, fresh, words_of}
use Rattle.machine.specs.Table.{
  table_length,
  node_count,
  task_count,
  growth,
  lane_count,
  dispatched,
  most_lanes,
  hat_word,
  hat,
  word14,
  word15,
  link_word,
  value_words,
  link,
  record_words,
}
use Rattle.machine.specs.Shape.{
  length_ok,
  all_below,
  node_or_none,
  hat_ok,
  header_ok,
  node_ok,
  record_ok,
  shape_ok,
  WellFormed,
  WellLinked,
  sizes_of,
  WellSized,
}
use Rattle.machine.proofs.Basics.Tests.{and_left, and_right}
use Rattle.machine.proofs.Words.Columns.{
  Counts,
  Columns,
  columns,
  column,
  start_counts,
  counted_as,
  dispatched_to,
  counts-equal,
}
use Rattle.machine.proofs.Shape.BusyLaws.{
  NodeOrNone,
  node-or-none,
  node-or-none-ok,
  record-of-fresh,
}
use Rattle.machine.proofs.Basics.Choices.{if_yes}

-- ---- The sizes and the length.
module _ (ws : List ℕ) where
  pub well_sized : length_ok ws ≡ true → WellSized (sizes_of ws)
  well_sized h =
      let S = node_count ws in
      let T = task_count ws in
      let g = growth ws in
      let L = lane_count ws in
      let l : leb 1 L ≡ true = search (and_left, and_right) depth 9 in
      let m : leb L most_lanes ≡ true = search (and_left, and_right) depth 9 in
      let a : leb (2 * L) S ≡ true = search (and_left, and_right) depth 9 in
      let b : leb S 1024 ≡ true = search (and_left, and_right) depth 9 in
      let c : leb 1 T ≡ true = search (and_left, and_right) depth 9 in
      let d : leb T 16 ≡ true = search (and_left, and_right) depth 9 in
      let e : leb g 64 ≡ true = search (and_left, and_right) depth 9 in
      let f : eqb (length ws) (table_length S T) ≡ true = search (and_left, and_right) depth 9 in
      record {
        one_lane = leb-true 1 L l;
        most-lanes = leb-true L most_lanes m;
        lanes_fit = leb-true (2 * L) S a;
        most_nodes = leb-true S 1024 b;
        one_task = leb-true 1 T c;
        most_tasks = leb-true T 16 d;
        most_growth = leb-true g 64 e;
        sized = eqb-true (length ws) (table_length S T) f;
      }

  pub length-ok : WellSized (sizes_of ws) → length_ok ws ≡ true
  length-ok Z =
      let S = node_count ws in
      let T = task_count ws in
      let g = growth ws in
      let L = lane_count ws in
      rw (
        le-leb (table_length 2 1) (length ws) (omega arith),
        le-leb 1 L Z.one_lane,
        le-leb L most_lanes Z.most-lanes,
        le-leb (2 * L) S Z.lanes_fit,
        le-leb S 1024 Z.most_nodes,
        le-leb 1 T Z.one_task,
        le-leb T 16 Z.most_tasks,
        le-leb g 64 Z.most_growth,
        eq-eqb (length ws) (table_length S T) Z.sized,
      )

-- ---- A test of all numbers below a bound.
pub all-below : (n : ℕ) (test : ℕ → Bool) → ((x : ℕ) → x < n → test x ≡ true) → all_below n test ≡ true
unfolding all_below
all-below zero test h = refl
all-below (suc n) test h = rw (all-below n test (λ x l. h x (omega arith)), h n (omega arith))

below_all : (n : ℕ) (test : ℕ → Bool) → all_below n test ≡ true → (x : ℕ) → x < n → test x ≡ true
unfolding all_below
below_all zero test h x l = absurd (omega arith)
below_all (suc n) test h x l =
    elim (x ≟ n) [
      | yes e ↦ rw e (and_right (all_below n test) (test n) h)
      | no e ↦ below_all n test (and_left (all_below n test) (test n) h) x (omega arith)
    ]

-- ---- The shape.
pub record LastWordsOk (T : ℕ) (n : Counts) : Type 0 where
  pub is_task : n.dispatched < T
  pub word14-zero : n.word14 ≡ 0
  pub word15-zero : n.word15 ≡ 0

pub start-last-words : (T : ℕ) → 1 ≤ T → LastWordsOk T (start_counts T)
start-last-words T h = record { is_task = omega arith; word14-zero = refl; word15-zero = refl }

pub counted-last-words : (m : ℕ) {T : ℕ} {n : Counts} → LastWordsOk T n → LastWordsOk T (counted_as m n)
counted-last-words m Z =
    record { is_task = Z.is_task; word14-zero = Z.word14-zero; word15-zero = Z.word15-zero }

pub dispatched-last-words : (k : ℕ) {T : ℕ} {n : Counts} → k < T → LastWordsOk T n → LastWordsOk T (dispatched_to k n)
dispatched-last-words k h Z = record { is_task = h; word14-zero = Z.word14-zero; word15-zero = Z.word15-zero }

-- The last words are then known.
pub same-last-words : {T U : ℕ} {m n : Counts} → LastWordsOk T m → LastWordsOk U n → m.tick_count ≡ n.tick_count
    → m.dispatched ≡ n.dispatched
    → m ≡ n
same-last-words Y Z e d =
    counts-equal e d (Y.word14-zero ∙ sym Z.word14-zero) (Y.word15-zero ∙ sym Z.word15-zero)

-- A hat of lane l, of L lanes: a node, and of a lane that is not there none.
pub record HatFits (S L l x : ℕ) : Type 0 where
  pub used : l < L → x < S
  pub unused : L ≤ l → x ≡ no_node

pub record WellShaped (c : Columns) : Type 0 where
  pub counts-ok : LastWordsOk c.sizes.task_count c.counts
  pub hats-ok : (l : ℕ) (s : Side) → HatFits c.sizes.node_count c.sizes.lane_count l (c.hats l s)
  pub links-ok : (s : Side) (x : ℕ) → NodeOrNone c.sizes.node_count (c.links s x)
  pub values-ok : (x : ℕ) → value_ok (c.values x) ≡ true
  pub records-ok : (k : ℕ)
      → record_ok c.sizes.node_count c.sizes.growth c.sizes.lane_count (c.records k) ≡ true

-- The hats and the nodes alone.
pub record LinkShaped (c : Columns) : Type 0 where
  pub hats-ok : (l : ℕ) (s : Side) → HatFits c.sizes.node_count c.sizes.lane_count l (c.hats l s)
  pub links-ok : (s : Side) (x : ℕ) → NodeOrNone c.sizes.node_count (c.links s x)
  pub values-ok : (x : ℕ) → value_ok (c.values x) ≡ true

-- A column holds to a property where its function does below the bound, and the other value does.
column-all :
    {T : Type 0} (P : T → Type 0) (n : ℕ) (other : T) (f : ℕ → T)
    → P other
    → ((x : ℕ) → x < n → P (f x))
    → (x : ℕ)
    → P (column n other f x)
column-all P n other f p q x = go (x <? n)
  where
    go : (d : Dec (x < n)) → P (if? d then f x else other)
    go (yes h) = q x h
    go (no h) = p

module _ (ws : List ℕ) where
  node-links : (x : ℕ) → node_ok ws x ≡ true → (s : Side) → NodeOrNone (node_count ws) (link_word ws s x)
  unfolding node_ok
  node-links x h left = node-or-none (node_count ws) (link_word ws left x) (search (and_left, and_right))
  node-links x h right = node-or-none (node_count ws) (link_word ws right x) (search (and_left, and_right))

  node-value : (x : ℕ) → node_ok ws x ≡ true → value_ok (value_words ws x) ≡ true
  unfolding node_ok
  node-value x h = search (and_left, and_right)

  record-test : ℕ → Bool
  record-test k = record_ok (node_count ws) (growth ws) (lane_count ws) (record_words ws k)

  hats-test : ℕ → Bool
  hats-test l = hat_ok ws l left && hat_ok ws l right

  hat-fits : (l : ℕ) (s : Side) → hat_ok ws l s ≡ true → HatFits (node_count ws) (lane_count ws) l (hat_word ws l s)
  hat-fits l s h =
      record {
        used = λ q. ltb-true (hat_word ws l s) (node_count ws) (rw (lt-ltb l (lane_count ws) q) at h);
        unused = λ q. eqb-true (hat_word ws l s) no_node (rw (le-ltb l (lane_count ws) q) at h);
      }

  fits-hat : (l : ℕ) (s : Side) → HatFits (node_count ws) (lane_count ws) l (hat_word ws l s) → hat_ok ws l s ≡ true
  fits-hat l s H =
      elim (l <? lane_count ws) [
        | yes q ↦ rw (lt-ltb l (lane_count ws) q) (lt-ltb (hat_word ws l s) (node_count ws) (H.used q))
        | no q ↦
            let p : lane_count ws ≤ l = omega arith in
            rw (le-ltb l (lane_count ws) p) (eq-eqb (hat_word ws l s) no_node (H.unused p))
      ]

  hats-fit : lane_count ws ≤ most_lanes → all_below most_lanes hats-test ≡ true → (l : ℕ) (s : Side)
      → HatFits (node_count ws) (lane_count ws) l (hat ws l s)
  unfolding hat hats-test
  hats-fit few h l s = go (l <? most_lanes)
    where
      both : (z : Side) → hat_ok ws l left && hat_ok ws l right ≡ true → hat_ok ws l z ≡ true
      both left q = and_left (hat_ok ws l left) (hat_ok ws l right) q
      both right q = and_right (hat_ok ws l left) (hat_ok ws l right) q

      go : (d : Dec (l < most_lanes)) → HatFits (node_count ws) (lane_count ws) l (if? d then hat_word ws l s else no_node)
      go (yes q) = hat-fits l s (both s (below_all most_lanes hats-test h l q))
      go (no q) = record { used = λ p. absurd (omega arith); unused = λ p. refl }

  pub well-linked : WellFormed ws → WellLinked ws
  unfolding shape_ok
  well-linked P =
      let h = P.shape_passes in
      let header : header_ok ws ≡ true = search (and_left, and_right) in
      let nodes : all_below (node_count ws) (node_ok ws) ≡ true = search (and_left, and_right) in
      record { length_passes = P.length_passes; header_passes = header; nodes_pass = nodes }

  pub link-shaped : WellLinked ws → LinkShaped (columns ws)
  unfolding link hats-test
  link-shaped P =
      let S = node_count ws in
      let h = P.header_passes in
      let hats : all_below most_lanes hats-test ≡ true = search (and_left, and_right) depth 6 in
      let node = below_all S (node_ok ws) P.nodes_pass in
      record {
        hats-ok = hats-fit (well_sized ws P.length_passes).most-lanes hats;
        links-ok =
            λ s.
            column-all (NodeOrNone S) S no_node (link_word ws s) (λ n. absurd (n refl))
            (λ x l. node-links x (node x l) s);
        values-ok =
            column-all (λ u. value_ok u ≡ true) S (encode never) (value_words ws) refl (λ x l. node-value x (node x l));
      }

  pub well-shaped : length_ok ws ≡ true → shape_ok ws ≡ true → WellShaped (columns ws)
  unfolding shape_ok record-test
  well-shaped length_passes h =
      let S = node_count ws in
      let T = task_count ws in
      let L = lane_count ws in
      let linked = link-shaped (well-linked (record { length_passes = length_passes; shape_passes = h })) in
      let records : all_below T record-test ≡ true = search (and_left, and_right) in
      let a : ltb (dispatched ws) T ≡ true = search (and_left, and_right) depth 6 in
      let b : eqb (word14 ws) 0 ≡ true = search (and_left, and_right) depth 6 in
      let c : eqb (word15 ws) 0 ≡ true = search (and_left, and_right) depth 6 in
      record {
        counts-ok =
            record {
              is_task = ltb-true (dispatched ws) T a;
              word14-zero = eqb-true (word14 ws) 0 b;
              word15-zero = eqb-true (word15 ws) 0 c;
            };
        hats-ok = linked.hats-ok;
        links-ok = linked.links-ok;
        values-ok = linked.values-ok;
        records-ok =
            column-all (λ r. record_ok S (growth ws) L r ≡ true) T (words_of fresh) (record_words ws)
            (record-of-fresh S (growth ws) L) (below_all T record-test records);
      }

  module _ (W : WellShaped (columns ws)) where
    shaped-node : (x : ℕ) → x < node_count ws → node_ok ws x ≡ true
    unfolding node_ok link
    shaped-node x l =
        rw (
          link-ok left,
          link-ok right,
          rw (if_yes (x <? node_count ws) (value_words ws x) (encode never) l) at (W.values-ok x),
        )
      where
        S : ℕ
        S = node_count ws

        link-ok : (s : Side) → node_or_none S (link_word ws s x) ≡ true
        link-ok s =
            rw (if_yes (x <? S) (link_word ws s x) no_node l) at (node-or-none-ok S (link ws s x) (W.links-ok s x))

    shaped-record : (k : ℕ) → k < task_count ws → record-test k ≡ true
    unfolding record-test
    shaped-record k l = rw (if_yes (k <? task_count ws) (record_words ws k) (words_of fresh) l) at (W.records-ok k)

    shaped-hats : (l : ℕ) → l < most_lanes → hats-test l ≡ true
    unfolding hat hats-test
    shaped-hats l h = rw (fits-hat l left (fits left), fits-hat l right (fits right))
      where
        fits : (s : Side) → HatFits (node_count ws) (lane_count ws) l (hat_word ws l s)
        fits s = rw (if_yes (l <? most_lanes) (hat_word ws l s) no_node h) at (W.hats-ok l s)

    pub shape-ok : shape_ok ws ≡ true
    unfolding shape_ok record-test hats-test
    shape-ok =
        let S = node_count ws in
        rw (
          lt-ltb (dispatched ws) (task_count ws) W.counts-ok.is_task,
          eq-eqb (word14 ws) 0 W.counts-ok.word14-zero,
          eq-eqb (word15 ws) 0 W.counts-ok.word15-zero,
          all-below most_lanes hats-test shaped-hats,
          all-below S (node_ok ws) shaped-node,
          all-below (task_count ws) record-test shaped-record,
        )
