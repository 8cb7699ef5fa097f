-- Which tables are accepted: the sizes and the length (refusal 3), the shape (refusal 4).
use Rattle.std.specs.Prelude.{◌≡◌, Bool, true, cond, ◌&&◌, ◌||◌, List, [], ◌∷◌, ℕ, zero, suc, ◌*◌, ◌≤◌, leb, ltb, eqb, length}
use Rattle.text.specs.Text.{same}
use Rattle.machine.specs.declared.Stored.{Stored}
use Rattle.machine.specs.Sides.{Side, left, right, opposite, side_of}
use Rattle.machine.specs.Values.{N, X, encode, same_stored, number, bag_ok, value_ok}
use Rattle.machine.specs.Operations.{operation_of, argument_ok, goal_of}
use Rattle.machine.specs.Steps.{
  line31,
  line48,
  line51,
  line54,
  line56,
  line58,
  step_number,
  steps_of,
  is_step_in,
}
use Rattle.machine.specs.Tasks.{
  no_node,
  fresh,
  words_of,
  in_a,
  in_b,
  in_c,
  in_d,
  operation_word,
  step_word,
  side_word,
  argument_words,
  counted_word,
  value_read_words,
  register_word,
  lane_word,
}
use Rattle.machine.specs.Table.{
  table_length,
  node_count,
  task_count,
  growth,
  lane_count,
  dispatched,
  most_lanes,
  hat_word,
  word14,
  word15,
  link_word,
  value_words,
  record_words,
}

-- 02: one to four lanes.
abbrev pub lanes_ok : (lanes : ℕ) → Bool
lanes_ok lanes = leb 1 lanes && leb lanes most_lanes

-- 01: S slots (2 to 1,024), T tasks (1 to 16), growth (0 to 64). 02: "S is at least twice the lanes", which are at
-- least one.
abbrev pub sizes_ok : (S T growth lanes : ℕ) → Bool
sizes_ok S T g lanes = leb (2 * lanes) S && leb S 1024 && leb 1 T && leb T 16 && leb g 64

-- Refusal 3: under 37 words (02), which is the length of the least sizes, header S, T, growth or lanes out of range, or
-- length not matching.
abbrev pub length_ok : List ℕ → Bool
length_ok ws =
    leb (table_length 2 1) (length ws)
    && lanes_ok (lane_count ws)
    && sizes_ok (node_count ws) (task_count ws) (growth ws) (lane_count ws)
    && eqb (length ws) (table_length (node_count ws) (task_count ws))

-- ---- The same, as facts about the length and the sizes.
pub record Sizes : Type 0 where
  pub length : ℕ
  pub node_count : ℕ
  pub task_count : ℕ
  pub growth : ℕ
  pub lane_count : ℕ

abbrev pub sizes_of : List ℕ → Sizes
sizes_of ws =
    record {
      length = length ws;
      node_count = node_count ws;
      task_count = task_count ws;
      growth = growth ws;
      lane_count = lane_count ws;
    }

-- The length is that of the sizes.
abbrev pub Sized : Sizes → Type 0
Sized z = z.length ≡ table_length z.node_count z.task_count

-- What a table that passes 3 has.
pub record WellSized (z : Sizes) : Type 0 where
  pub one_lane : 1 ≤ z.lane_count
  pub most-lanes : z.lane_count ≤ most_lanes
  pub lanes_fit : 2 * z.lane_count ≤ z.node_count
  pub most_nodes : z.node_count ≤ 1024
  pub one_task : 1 ≤ z.task_count
  pub most_tasks : z.task_count ≤ 16
  pub most_growth : z.growth ≤ 64
  pub sized : Sized z

-- Every number below n passes a test.
unfoldable pub all_below : ℕ → (ℕ → Bool) → Bool
all_below zero test = true
all_below (suc n) test = all_below n test && test n

-- Two lists of words are the same.
unfoldable pub same_words : List ℕ → List ℕ → Bool
same_words xs ys = same xs ys

-- 01: a slot number below S, or none.
abbrev pub node_or_none : (S x : ℕ) → Bool
node_or_none S x = ltb x S || eqb x no_node

-- 01: hats are below S. 02: "unused ones none".
abbrev pub hat_ok : List ℕ → (lane : ℕ) → Side → Bool
hat_ok ws l s = cond (ltb l (lane_count ws)) (ltb (hat_word ws l s) (node_count ws)) (eqb (hat_word ws l s) no_node)

-- 02: the dispatcher's task "must be below T in the shape"; the last two words are 0.
abbrev pub header_ok : List ℕ → Bool
header_ok ws =
    ltb (dispatched ws) (task_count ws)
    && eqb (word14 ws) 0
    && eqb (word15 ws) 0
    && all_below most_lanes (λ l. hat_ok ws l left && hat_ok ws l right)

-- 01: links and V are as above; 02: V with its digit.
unfoldable pub node_ok : List ℕ → ℕ → Bool
node_ok ws x =
    node_or_none (node_count ws) (link_word ws left x)
    && node_or_none (node_count ws) (link_word ws right x)
    && value_ok (value_words ws x)

-- 01: value read is as V may be (a bag at 51; LN or LX at 48, mirrored on the left); 02: with its digit.
abbrev pub value_read_ok : Side → (step : ℕ) → Stored → Bool
value_read_ok s step u =
    cond (eqb step (step_number line51)) (bag_ok u)
    (cond (eqb step (step_number line48))
    (same_stored u (encode (N (opposite s))) || same_stored u (encode (X (opposite s))))
    (value_ok u))

-- 01: counted is 0 at step 54, below the goal at steps 31, 56, 58 and at most the goal elsewhere.
abbrev pub counted_ok : (step goal counted : ℕ) → Bool
counted_ok step goal n =
    cond (eqb step (step_number line54)) (eqb n 0)
    (cond (is_step_in (line31 ∷ line56 ∷ line58 ∷ []) step) (ltb n goal)
    (leb n goal))

-- The words of a task that is in a call. 01: the step is of its operation. 02: its lane is "below the lanes".
unfoldable pub busy_ok : (S growth lanes : ℕ) → List ℕ → Bool
busy_ok S g lanes r =
    let op = operation_of (operation_word r) in
    leb (operation_word r) 4
    && leb (side_word r) 1
    && is_step_in (steps_of op) (step_word r)
    && argument_ok op (argument_words r)
    && counted_ok (step_word r) (goal_of op g (number (argument_words r))) (counted_word r)
    && value_read_ok (side_of (side_word r)) (step_word r) (value_read_words r)
    && node_or_none S (register_word r in_a)
    && node_or_none S (register_word r in_b)
    && node_or_none S (register_word r in_c)
    && node_or_none S (register_word r in_d)
    && ltb (lane_word r) lanes

-- 01: an idle record is fresh.
unfoldable pub record_ok : (S growth lanes : ℕ) → List ℕ → Bool
record_ok S g lanes r = cond (eqb (operation_word r) 0) (same_words r (words_of fresh)) (busy_ok S g lanes r)

-- 01: the shape, of a table whose sizes and length are right.
unfoldable pub shape_ok : List ℕ → Bool
shape_ok ws =
    header_ok ws
    && all_below (node_count ws) (node_ok ws)
    && all_below (task_count ws) (λ k. record_ok (node_count ws) (growth ws) (lane_count ws) (record_words ws k))

-- A table passes the tests of refusals 3 and 4.
pub record WellFormed (ws : List ℕ) : Type 0 where
  pub length_passes : length_ok ws ≡ true
  pub shape_passes : shape_ok ws ≡ true

-- Its length, its header and its nodes pass; its records may be anything. So much a walk along a lane relies on.
pub record WellLinked (ws : List ℕ) : Type 0 where
  pub length_passes : length_ok ws ≡ true
  pub header_passes : header_ok ws ≡ true
  pub nodes_pass : all_below (node_count ws) (node_ok ws) ≡ true
