-- A table in which a lent record stands for a task's words: what is as it was, and what a begin gives there.
use mathlib.Core.Path.{◌≡◌, refl, sym, ap, ◌∙◌, subst}
use mathlib.Core.Logic.{◌≢◌, inl, inr}
use mathlib.Core.Bool.{Bool, cond, ◌&&◌}
use mathlib.Core.List.{List, ◌++◌, append_assoc}
use mathlib.Core.Option.{Option, some, none}
use Prim.Native.Nat.{ℕ, zero, suc, ◌+◌, ◌≤◌, ◌<◌}
use native.Mathlib.Omega.{arith}
use lib.Dec.{leb, ltb, eqb}
use lib.ListN.{length, get_or, take, drop, take-append-drop}
use lib.Seq.{sets, sets-eq, length-sets, length-take-le, take_at, drop_at, drop-drop}
use Rattle.machine.specs.declared.Stored.{Stored}
use Rattle.machine.specs.Choice.{◌<?◌, if?◌then◌else◌}
use Rattle.machine.specs.Sides.{Side, left, right, side_of}
use Rattle.machine.specs.Values.{number, decode, value_ok}
use Rattle.machine.specs.Operations.{operation_of}
use Rattle.machine.specs.Tasks.{fresh, no_node, record_length, words_of, task_of}
use Rattle.machine.specs.Table.{
  table_length,
  header_length,
  node_count,
  task_count,
  lane_count,
  dispatched_at,
  word14_at,
  word15_at,
  most_lanes,
  hat_at,
  hat,
  link_at,
  value_at,
  link_word,
  value_words,
  link,
  value,
  record_at,
  record_words,
  task,
  set_record,
}
use Rattle.machine.specs.Shape.{
  lanes_ok,
  sizes_ok,
  length_ok,
  Sizes,
  sizes_of,
  Sized,
  all_below,
  node_or_none,
  hat_ok,
  header_ok,
  node_ok,
}
use Rattle.machine.specs.Calls.{lane, all_lanes, changed, begin, begin_refusal, begun_task}
use Rattle.machine.specs.Lent.{lent_to, begin_lent}
use Rattle.machine.proofs.Basics.Choices.{if_yes, if_no}
use Rattle.machine.proofs.Words.ValueLaws.{stored-alike}
use Rattle.machine.proofs.Words.LaneLaws.{lane-same, lanes-same}
use Rattle.machine.proofs.Words.Stretches.{
  Wrote,
  sets-wrote,
  record-long,
  side-small,
  same_nodes,
  same-sizes,
  hats-off,
  links-off,
  values-off,
}
use Rattle.machine.proofs.Words.TableLaws.{own-record-after, far-record-after}

-- Tests that agree below a bound.
pub all_alike : (n : ℕ) (f g : ℕ → Bool) → ((i : ℕ) → i < n → f i ≡ g i) → all_below n f ≡ all_below n g
unfolding all_below
all_alike zero f g h = refl
all_alike (suc n) f g h = rw (all_alike n f g (λ i l. h i (omega arith)), h n (omega arith))

-- ---- A number that is no task has no place.
pub no_place : (ws : List ℕ) (k : ℕ) (r : List ℕ) → task_count ws ≤ k → lent_to ws k r ≡ ws
unfolding lent_to
no_place ws k r h = if_no (k <? task_count ws) (set_record k r ws) ws (λ l. absurd (omega arith))

pub in_place : (ws : List ℕ) (k : ℕ) (r : List ℕ) → k < task_count ws → lent_to ws k r ≡ set_record k r ws
unfolding lent_to
in_place ws k r h = if_yes (k <? task_count ws) (set_record k r ws) ws h

-- ---- What stands before the records is as it was.
module _ (ws : List ℕ) (k : ℕ) (r : List ℕ) where
  wrote : Wrote ws (lent_to ws k r) (record_at (node_count ws) k) (length r)
  wrote =
      elim (k <? task_count ws) [
        | yes h ↦ rw (in_place ws k r h) (sets-wrote ws (record_at (node_count ws) k) r)
        | no h ↦ rw (no_place ws k r (omega arith)) (record { long = refl; other = λ j o. refl })
      ]

  -- ---- The sizes.
  pub lent-sizes : sizes_of (lent_to ws k r) ≡ sizes_of ws
  lent-sizes = same-sizes wrote (omega arith)

  same-node-count : node_count (lent_to ws k r) ≡ node_count ws
  same-node-count = ap (λ (z : Sizes). z.node_count) lent-sizes

  pub same-task-count : task_count (lent_to ws k r) ≡ task_count ws
  same-task-count = ap (λ (z : Sizes). z.task_count) lent-sizes

  pub same-lane-count : lane_count (lent_to ws k r) ≡ lane_count ws
  same-lane-count = ap (λ (z : Sizes). z.lane_count) lent-sizes

  pub lent_length : length_ok (lent_to ws k r) ≡ length_ok ws
  lent_length =
      ap (λ (z : Sizes).
      leb (table_length 2 1) z.length
      && lanes_ok z.lane_count
      && sizes_ok z.node_count z.task_count z.growth z.lane_count
      && eqb z.length (table_length z.node_count z.task_count)) lent-sizes

  -- ---- The header.
  header-word : (j : ℕ) → j < header_length → get_or (lent_to ws k r) j 0 ≡ get_or ws j 0
  header-word j h = wrote.other j (inl (omega arith))

  same-hat-ok : (l : ℕ) (s : Side) → l < most_lanes → hat_ok (lent_to ws k r) l s ≡ hat_ok ws l s
  same-hat-ok l s h =
      let x = header-word (hat_at l s) (let b = side-small s in omega arith) in
      λ i.
      cond (ltb l (lent-sizes i).lane_count) (ltb (x i) (lent-sizes i).node_count) (eqb (x i) no_node)

  pub lent-header : header_ok (lent_to ws k r) ≡ header_ok ws
  lent-header =
      let hats = all_alike most_lanes (λ l. hat_ok (lent_to ws k r) l left && hat_ok (lent_to ws k r) l right)
      (λ l. hat_ok ws l left && hat_ok ws l right)
      (λ l h i. same-hat-ok l left h i && same-hat-ok l right h i) in
      λ i.
      ltb (header-word dispatched_at (omega arith) i) (lent-sizes i).task_count
      && eqb (header-word word14_at (omega arith) i) 0
      && eqb (header-word word15_at (omega arith) i) 0
      && hats i

  -- ---- The nodes.
  same-link : (s : Side) (x : ℕ) → x < node_count ws → link_word (lent_to ws k r) s x ≡ link_word ws s x
  same-link s x h = wrote.other (link_at s x) (let b = side-small s in inl (omega arith))

  same_value : (x : ℕ) → x < node_count ws → value_words (lent_to ws k r) x ≡ value_words ws x
  same_value x h =
      stored-alike ws (lent_to ws k r) (value_at x) (value_at x) (λ c l. wrote.other (value_at x + c) (inl (omega arith)))

  same-node : (x : ℕ) → x < node_count ws → node_ok (lent_to ws k r) x ≡ node_ok ws x
  unfolding node_ok
  same-node x h =
      λ i.
      node_or_none (same-node-count i) (same-link left x h i)
      && node_or_none (same-node-count i) (same-link right x h i)
      && value_ok (same_value x h i)

  pub lent-nodes : all_below (node_count (lent_to ws k r)) (node_ok (lent_to ws k r)) ≡ all_below (node_count ws) (node_ok ws)
  lent-nodes =
      ap (λ n. all_below n (node_ok (lent_to ws k r))) same-node-count
      ∙ all_alike (node_count ws) (node_ok (lent_to ws k r)) (node_ok ws) same-node

  -- ---- The lanes.
  pub lent-hats : hat (lent_to ws k r) ≡ hat ws
  lent-hats = hats-off wrote (omega arith) (inr (omega arith))

  pub lent-links : link (lent_to ws k r) ≡ link ws
  lent-links = links-off wrote (omega arith) (inr (omega arith))

  pub lent-values : value (lent_to ws k r) ≡ value ws
  unfolding value
  lent-values = let same = values-off wrote (omega arith) (inr (omega arith)) in λ i x. decode (same i x)

  pub lent-lane : (l : ℕ) → lane (lent_to ws k r) l ≡ lane ws l
  lent-lane l = lane-same ws (lent_to ws k r) same-node-count lent-links lent-values l (λ i. lent-hats i l left)

  pub lent-lanes : all_lanes (lent_to ws k r) ≡ all_lanes ws
  lent-lanes = lanes-same ws (lent_to ws k r) same-lane-count lent-lane

-- ---- The records: the task's own is the one lent, the others are as they were.
module _
    (ws : List ℕ)
    (k : ℕ)
    (r : List ℕ)
    (is_task : k < task_count ws)
    (sized : Sized (sizes_of ws))
    (long : length r ≡ record_length) where
  pub own-words : record_words (lent_to ws k r) k ≡ r
  own-words = ap (λ (l : List ℕ). record_words l k) (in_place ws k r is_task)
      ∙ own-record-after ws sized k r long is_task

  pub far-words : (j : ℕ) → j ≢ k → record_words (lent_to ws k r) j ≡ record_words ws j
  far-words j n =
      ap (λ (l : List ℕ). record_words l j) (in_place ws k r is_task) ∙ far-record-after ws sized k r long is_task j n

  pub own-task : task (lent_to ws k r) k ≡ task_of r
  unfolding task
  own-task =
      (λ i. if? k <? same-task-count ws k r i then task_of (own-words i) else fresh)
      ∙ if_yes (k <? task_count ws) (task_of r) fresh is_task

  pub far-task : (j : ℕ) → j ≢ k → task (lent_to ws k r) j ≡ task ws j
  unfolding task
  far-task j n = λ i. if? j <? same-task-count ws k r i then task_of (far-words j n i) else fresh

-- ---- The words that stand there already.
pub own-lent : (ws : List ℕ) (k : ℕ) → Sized (sizes_of ws) → k < task_count ws → lent_to ws k (record_words ws k) ≡ ws
own-lent ws k sized h =
    let i = record_at (node_count ws) k in
    let r = record_words ws k in
    let long = record-long ws i (omega arith) in
    let rest : drop (i + length r) ws ≡ drop record_length (drop i ws)
    = ap (λ n. drop (i + n) ws) long ∙ sym (drop-drop record_length i ws) in
    in_place ws k r h
    ∙ sets-eq r ws i (omega arith)
    ∙ append_assoc (take i ws) r (drop (i + length r) ws)
    ∙ ap (λ l. take i ws ++ (r ++ l)) rest
    ∙ ap (◌++◌ (take i ws)) (take-append-drop record_length (drop i ws))
    ∙ take-append-drop i ws

-- ---- One record written over another.
pub written_over :
    (ws : List ℕ) (k : ℕ) (r u : List ℕ)
    → Sized (sizes_of ws)
    → k < task_count ws
    → length r ≡ record_length
    → length u ≡ record_length
    → set_record k u (set_record k r ws) ≡ set_record k u ws
written_over ws k r u sized h long-r long-u =
    let i = record_at (node_count ws) k in
    let vs = sets ws i r in
    let same : node_count vs ≡ node_count ws = same_nodes (sets-wrote ws i r) (omega arith) in
    let after = drop (i + length r) ws in
    let spelt : vs ≡ take i ws ++ (r ++ after)
    = sets-eq r ws i (omega arith) ∙ append_assoc (take i ws) r after in
    let front : take i vs ≡ take i ws
    = ap (take i) spelt ∙ take_at (take i ws) (r ++ after) i (length-take-le i ws (omega arith)) in
    let rest : drop (i + length u) vs ≡ drop (i + length u) ws
    = ap (drop (i + length u)) spelt
    ∙ ap (λ n. drop (i + n) (take i ws ++ (r ++ after))) (long-u ∙ sym long-r)
    ∙ sym (drop-drop (length r) i (take i ws ++ (r ++ after)))
    ∙ ap (drop (length r)) (drop_at (take i ws) (r ++ after) i (length-take-le i ws (omega arith)))
    ∙ drop_at r after (length r) refl
    ∙ ap (λ n. drop (i + n) ws) (long-r ∙ sym long-u) in
    let long : length vs ≡ length ws = length-sets ws i r in
    ap (λ n. sets vs (record_at n k) u) same
    ∙ sets-eq u vs i (omega arith)
    ∙ ap (λ l. l ++ u ++ drop (i + length u) vs) front
    ∙ ap (λ l. take i ws ++ u ++ l) rest
    ∙ sym (sets-eq u ws i (omega arith))

-- ---- What a begin over a lent record gives: its refusal and the record as it was, or the record begun.
module _ (ws r : List ℕ) (k l op side : ℕ) (argument : Stored) where
  abbrev tested : Option ℕ
  tested = begin_refusal (lent_to ws k r) k l op side argument

  abbrev begun_words : List ℕ
  begun_words = words_of (begun_task l (operation_of op) (side_of side) (number argument))

  pub lent-refused : (n : ℕ) → tested ≡ some n → changed (some n) r begun_words ≡ begin_lent ws r k l op side argument
  unfolding begin_lent begin
  lent-refused n e = rw (e, begin, begin_lent)

  pub lent-accepted :
      tested ≡ none
      → Sized (sizes_of ws)
      → k < task_count ws
      → changed none r begun_words ≡ begin_lent ws r k l op side argument
  unfolding begin_lent begin
  lent-accepted e sized h =
      let vs = lent_to ws k r in
      let own : record_words (set_record k begun_words vs) k ≡ begun_words
      = own-record-after vs (subst Sized (sym (lent-sizes ws k r)) sized) k begun_words refl
      (subst (λ n. k < n) (sym (same-task-count ws k r)) h) in
      rw (e, begin, begin_lent, own)
