-- What every column of the table is after each kind of write to the words.
use mathlib.Core.Path.{◌≡◌, refl, ap, sym, ◌∙◌, subst, fun_ext}
use mathlib.Core.Logic.{◌≢◌, ◌⊎◌, inl, inr}
use mathlib.Core.List.{List}
use Prim.Native.Nat.{ℕ, ◌+◌, ◌≤◌, ◌<◌}
use lib.ListN.{length}
use lib.Seq.{get_or-set_same, get_or-set_other}
use native.Mathlib.Omega.{arith}
use Rattle.machine.specs.Choice.{◌<?◌, ◌≟◌, if?◌then◌else◌}
use Rattle.machine.specs.Sides.{Side, left, right, opposite}
use Rattle.machine.specs.Values.{Value, never, encode, stored_length, stored_words}
use Rattle.machine.specs.Tasks.{Task, no_node, fresh, record_length, words_of}
use Rattle.machine.specs.Table.{
  node_count,
  task_count,
  most_lanes,
  hat_at,
  hat_word,
  hat,
  tick_count_at,
  dispatched_at,
  link_at,
  value_at,
  link_word,
  value_words,
  link,
  record_at,
  record_from,
  record_words,
  set_hat,
  set_tick_count,
  set_dispatched,
  set_link,
  set_value,
  set_record,
  set_task,
}
use Rattle.machine.specs.Shape.{sizes_of, Sized}
use Rattle.machine.proofs.Basics.Updates.{is-update, is-update_side, update, update_side, update_hat}
use Rattle.machine.proofs.Basics.Choices.{if_yes}
use Rattle.machine.proofs.Words.ValueLaws.{stored-alike, stored-written}
use Rattle.machine.proofs.Words.Columns.{
  columns,
  put_hat,
  put_tick_count,
  put_dispatched,
  put_link,
  put_value,
  put_record,
  counts-equal,
  columns-equal,
  column-kept,
  column-written,
}
use Rattle.machine.proofs.Words.Stretches.{
  Wrote,
  set-wrote,
  sets-wrote,
  record_same,
  record-written,
  side-small,
  same_nodes,
  same_tasks,
  same-sizes,
  hats-off,
  links-off,
  values-off,
  records-off,
  past-header,
}

-- ---- A hat.
module _ (ws : List ℕ) (sized : Sized (sizes_of ws)) (l : ℕ) (is_lane : l < most_lanes) (s : Side) (x : ℕ) where
  hats-apart : (z : Side) → hat_at l (opposite z) ≢ hat_at l z
  hats-apart left e = absurd (omega arith)
  hats-apart right e = absurd (omega arith)

  hat_is : (vs : List ℕ) (z : Side) → hat vs l z ≡ hat_word vs l z
  unfolding hat
  hat_is vs z = if_yes (l <? most_lanes) (hat_word vs l z) no_node is_lane

  own-hats : hat (set_hat l s x ws) l ≡ update_side (hat ws l) s x
  own-hats =
      is-update_side (hat ws l) (hat (set_hat l s x ws) l) s x
      (hat_is (set_hat l s x ws) s ∙ get_or-set_same ws (hat_at l s) x 0 (omega (arith, side-small s)))
      (hat_is (set_hat l s x ws) (opposite s)
      ∙ get_or-set_other ws (hat_at l s) (hat_at l (opposite s)) x 0 (hats-apart s)
      ∙ sym (hat_is ws (opposite s)))

  other-hats : (j : ℕ) → j ≢ l → hat (set_hat l s x ws) j ≡ hat ws j
  unfolding hat
  other-hats j ne = fun_ext (λ z. go z (j <? most_lanes))
    where
      go : (z : Side) (d : Dec (j < most_lanes))
          → (if? d then hat_word (set_hat l s x ws) j z else no_node) ≡ (if? d then hat_word ws j z else no_node)
      go z (yes h) =
          get_or-set_other ws (hat_at l s) (hat_at j z) x 0
          (λ e. let a = side-small s in let b = side-small z in absurd (ne (omega arith)))
      go z (no h) = refl

  hat-after : hat (set_hat l s x ws) ≡ update_hat (hat ws) l s x
  hat-after = is-update (hat ws) l (update_side (hat ws l) s x) (hat (set_hat l s x ws)) own-hats other-hats

  pub columns-set_hat : columns (set_hat l s x ws) ≡ put_hat l s x (columns ws)
  columns-set_hat =
      let b = side-small s in
      let W = set-wrote ws (hat_at l s) x in
      let past : tick_count_at ≤ hat_at l s = omega arith in
      columns-equal (same-sizes W past) hat-after
      (counts-equal (W.other _ (inl (omega arith))) (W.other _ (inl (omega arith)))
      (W.other _ (inr (omega arith))) (W.other _ (inr (omega arith))))
      (links-off W past (inl (omega arith))) (values-off W past (inl (omega arith))) (records-off W past (omega arith))

-- ---- The tick count.
module _ (ws : List ℕ) (sized : Sized (sizes_of ws)) where
  pub columns-set_tick_count : (n : ℕ) → columns (set_tick_count n ws) ≡ put_tick_count n (columns ws)
  columns-set_tick_count n =
      let W = set-wrote ws tick_count_at n in
      let past : tick_count_at ≤ tick_count_at = omega arith in
      let own = get_or-set_same ws tick_count_at n 0 (omega arith) in
      columns-equal (same-sizes W past) (hats-off W past (inl (omega arith)))
      (counts-equal own
      (W.other _ (inr (omega arith))) (W.other _ (inr (omega arith))) (W.other _ (inr (omega arith))))
      (links-off W past (inl (omega arith))) (values-off W past (inl (omega arith))) (records-off W past (omega arith))

  -- ---- The task last dispatched.
  pub columns-set_dispatched : (k : ℕ) → columns (set_dispatched k ws) ≡ put_dispatched k (columns ws)
  columns-set_dispatched k =
      let W = set-wrote ws dispatched_at k in
      let past : tick_count_at ≤ dispatched_at = omega arith in
      let own = get_or-set_same ws dispatched_at k 0 (omega arith) in
      columns-equal (same-sizes W past) (hats-off W past (inl (omega arith)))
      (counts-equal (W.other _ (inl (omega arith))) own
      (W.other _ (inr (omega arith))) (W.other _ (inr (omega arith))))
      (links-off W past (inl (omega arith))) (values-off W past (inl (omega arith))) (records-off W past (omega arith))

-- ---- A link.
module _ (ws : List ℕ) (sized : Sized (sizes_of ws)) (s : Side) (x y : ℕ) (is_node : x < node_count ws) where
  links-apart : (z : Side) (u v : ℕ) → link_at (opposite z) u ≢ link_at z v
  links-apart left u v e = absurd (omega arith)
  links-apart right u v e = absurd (omega arith)

  link-wrote : Wrote ws (set_link s x y ws) (link_at s x) 1
  link-wrote = set-wrote ws (link_at s x) y

  own-link-after : link (set_link s x y ws) s ≡ update (link ws s) x y
  unfolding link
  own-link-after =
      let p = link_at s x in
      let b = side-small s in
      let nodes = same_nodes link-wrote (omega arith) in
      column-written no_node (link_word ws s) (link_word (set_link s x y ws) s) nodes x y is_node
      (get_or-set_same ws p y 0 (omega arith))
      (λ z l n. get_or-set_other ws p (link_at s z) y 0 (λ e. n (omega arith)))

  far-link-after : link (set_link s x y ws) (opposite s) ≡ link ws (opposite s)
  unfolding link
  far-link-after =
      let o = opposite s in
      column-kept no_node (link_word ws o) (link_word (set_link s x y ws) o) (same_nodes link-wrote (omega arith))
      (λ z l. get_or-set_other ws (link_at s x) (link_at o z) y 0 (links-apart s z x))

  values-after-link : (columns (set_link s x y ws)).values ≡ (columns ws).values
  values-after-link =
      let b = side-small s in
      column-kept (encode never) (value_words ws) (value_words (set_link s x y ws)) (same_nodes link-wrote (omega arith))
      (λ z l.
      stored-alike ws (set_link s x y ws) (value_at z) (value_at z) (λ c k.
      get_or-set_other ws (link_at s x) (value_at z + c) y 0 (λ e. absurd (omega arith))))

  pub columns-set_link : columns (set_link s x y ws) ≡ put_link s x y (columns ws)
  columns-set_link =
      let b = side-small s in
      let new = update (link ws s) x y in
      let links = is-update_side (link ws) (link (set_link s x y ws)) s new own-link-after far-link-after in
      let records = records-off link-wrote (omega arith) (omega arith) in
      past-header link-wrote (omega arith) (omega arith) links values-after-link records

-- ---- A value.
module _ (ws : List ℕ) (sized : Sized (sizes_of ws)) (x : ℕ) (v : Value) (is_node : x < node_count ws) where
  value-wrote : Wrote ws (set_value x v ws) (value_at x) stored_length
  value-wrote = sets-wrote ws (value_at x) (stored_words (encode v))

  links-after-value : link (set_value x v ws) ≡ link ws
  unfolding link
  links-after-value =
      fun_ext (λ s.
      column-kept no_node (link_word ws s) (link_word (set_value x v ws) s) (same_nodes value-wrote (omega arith))
      (λ z l. value-wrote.other (link_at s z) (apart s z (z <? x))))
    where
      apart : (s : Side) (z : ℕ) → Dec (z < x) → (link_at s z < value_at x) ⊎ (value_at x + stored_length ≤ link_at s z)
      apart s z (yes h) = let b = side-small s in inl (omega arith)
      apart s z (no h) = let b = side-small s in elim (z ≟ x) [ yes e ↦ inl (omega arith) | no e ↦ inr (omega arith) ]

  values-after : (columns (set_value x v ws)).values ≡ update (columns ws).values x (encode v)
  values-after =
      column-written (encode never) (value_words ws) (value_words (set_value x v ws))
      (same_nodes value-wrote (omega arith)) x (encode v) is_node
      (stored-written ws (value_at x) (encode v) (omega arith))
      (λ z l n.
      stored-alike ws (set_value x v ws) (value_at z) (value_at z) (λ c k.
      value-wrote.other (value_at z + c) (apart z n c k)))
    where
      apart :
          (z : ℕ)
          → z ≢ x
          → (c : ℕ)
          → c < stored_length
          → (value_at z + c < value_at x) ⊎ (value_at x + stored_length ≤ value_at z + c)
      apart z n c k = elim (z <? x) [ yes l ↦ inl (omega arith) | no l ↦ inr (omega arith) ]

  pub columns-set_value : columns (set_value x v ws) ≡ put_value x (encode v) (columns ws)
  columns-set_value =
      let records = records-off value-wrote (omega arith) (omega arith) in
      past-header value-wrote (omega arith) (omega arith) links-after-value values-after records

-- ---- A record.
module _
    (ws : List ℕ)
    (sized : Sized (sizes_of ws))
    (k : ℕ)
    (r : List ℕ)
    (long : length r ≡ record_length)
    (is_task : k < task_count ws) where
  abbrev at : ℕ → ℕ
  at j = record_at (node_count ws) j

  record-wrote : Wrote ws (set_record k r ws) (at k) record_length
  record-wrote = subst (Wrote ws (set_record k r ws) (at k)) long (sets-wrote ws (at k) r)

  -- The words of a record after the write, where the nodes were counted before it.
  words-at : (j : ℕ) → record_words (set_record k r ws) j ≡ record_from (set_record k r ws) (at j)
  words-at j = ap (λ n. record_from (set_record k r ws) (record_at n j)) (same_nodes record-wrote (omega arith))

  pub own-record-after : record_words (set_record k r ws) k ≡ r
  own-record-after = words-at k ∙ record-written ws r (at k) long (omega arith)

  pub far-record-after : (j : ℕ) → j ≢ k → record_words (set_record k r ws) j ≡ record_words ws j
  far-record-after j n =
      words-at j
      ∙ record_same ws (set_record k r ws) (at j) record-wrote.long (λ c q.
      record-wrote.other (at j + c) (apart c q))
    where
      apart : (c : ℕ) → c < record_length → (at j + c < at k) ⊎ (at k + record_length ≤ at j + c)
      apart c q = elim (j <? k) [ yes l ↦ inl (omega arith) | no l ↦ inr (omega arith) ]

  records-after : (columns (set_record k r ws)).records ≡ update (columns ws).records k r
  records-after =
      column-written (words_of fresh) (record_words ws) (record_words (set_record k r ws))
      (same_tasks record-wrote (omega arith)) k r is_task own-record-after (λ j l n. far-record-after j n)

  pub columns-set_record : columns (set_record k r ws) ≡ put_record k r (columns ws)
  columns-set_record =
      let links = links-off record-wrote (omega arith) (inr (omega arith)) in
      let values = values-off record-wrote (omega arith) (inr (omega arith)) in
      past-header record-wrote (omega arith) (omega arith) links values records-after

pub columns-set_task :
    (ws : List ℕ)
    → Sized (sizes_of ws)
    → (k : ℕ) (t : Task)
    → k < task_count ws
    → columns (set_task k t ws) ≡ put_record k (words_of t) (columns ws)
columns-set_task ws sized k t is_task = columns-set_record ws sized k (words_of t) refl is_task
