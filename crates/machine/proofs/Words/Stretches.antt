-- Words written in one stretch, and the columns that such a write leaves alone.
use mathlib.Core.Path.{◌≡◌, refl, ap, sym, ◌∙◌, fun_ext}
use mathlib.Core.Logic.{◌⊎◌, inl, inr}
use mathlib.Core.List.{List, [], ◌∷◌, ◌++◌, append_assoc}
use Prim.Native.Nat.{ℕ, suc, zero, ◌+◌, ◌-◌, ◌≤◌, ◌<◌, min}
use lib.ListN.{length, get_or, set, take, drop, length-set, length-take, length-drop}
use lib.Seq.{
  sets,
  sets-eq,
  length-sets,
  length-take-le,
  get_or-set_other,
  get_or-take,
  get_or-drop,
  take_at,
  drop_at,
  ext_get_or,
}
use native.Mathlib.Omega.{arith}
use Rattle.machine.specs.Choice.{◌<?◌, if?◌then◌else◌}
use Rattle.machine.specs.Sides.{Side, left, right, side_number}
use Rattle.machine.specs.Values.{never, encode}
use Rattle.machine.specs.Tasks.{no_node, fresh, record_length, words_of}
use Rattle.machine.specs.Table.{
  header_length,
  node_length,
  node_count,
  task_count,
  most_lanes,
  hat_at,
  hat_word,
  hat,
  tick_count_at,
  dispatched_at,
  word14_at,
  word15_at,
  node_at,
  value_at,
  link_word,
  value_words,
  link,
  record_at,
  record_from,
  record_words,
  node_count_at,
  task_count_at,
  growth_at,
  lane_count_at,
}
use Rattle.machine.specs.Shape.{sizes_of}
use Rattle.machine.proofs.Words.ValueLaws.{stored-alike}
use Rattle.machine.proofs.Words.Columns.{columns, put_body, sizes-equal, counts-equal, columns-equal, column-kept}

-- The words vs are ws but for n words from p on.
pub record Wrote (ws vs : List ℕ) (p n : ℕ) : Type 0 where
  pub long : length vs ≡ length ws
  pub other : (j : ℕ) → (j < p) ⊎ (p + n ≤ j) → get_or vs j 0 ≡ get_or ws j 0

pub set-wrote : (ws : List ℕ) (p v : ℕ) → Wrote ws (set ws p v) p 1
set-wrote ws p v =
    record {
      long = length-set ws p v;
      other =
          λ j o.
          get_or-set_other ws p j v 0 (λ e. elim o [ inl l ↦ absurd (omega arith) | inr l ↦ absurd (omega arith) ]);
    }

sets-other :
    (vs ws : List ℕ) (p j : ℕ) → (j < p) ⊎ (p + length vs ≤ j) → get_or (sets ws p vs) j 0 ≡ get_or ws j 0
sets-other [] ws p j o = refl
sets-other (v ∷ vs) ws p j o =
    sets-other vs (set ws p v) (suc p) j (elim o [ inl l ↦ inl (omega arith) | inr l ↦ inr (omega arith) ])
    ∙ get_or-set_other ws p j v 0 (λ e. elim o [ inl l ↦ absurd (omega arith) | inr l ↦ absurd (omega arith) ])

pub sets-wrote : (ws : List ℕ) (p : ℕ) (vs : List ℕ) → Wrote ws (sets ws p vs) p (length vs)
sets-wrote ws p vs = record { long = length-sets ws p vs; other = λ j o. sets-other vs ws p j o }

-- ---- A record's words as a part of the table.
record-word : (ws : List ℕ) (i c : ℕ) → c < record_length → get_or (record_from ws i) c 0 ≡ get_or ws (i + c) 0
record-word ws i c h = get_or-take record_length (drop i ws) c 0 h ∙ get_or-drop i ws c 0

pub record-long : (ws : List ℕ) (i : ℕ) → i + record_length ≤ length ws → length (record_from ws i) ≡ record_length
record-long ws i h = length-take-le record_length (drop i ws) (let e = length-drop i ws in omega arith)

take-few : (n : ℕ) (l : List ℕ) → length (take n l) ≤ n
take-few zero l = omega arith
take-few (suc n) [] = omega arith
take-few (suc n) (x ∷ l) = let h = take-few n l in omega arith

-- A record whose words are known one by one.
pub record-alike :
    (ws r : List ℕ) (i : ℕ)
    → length r ≡ record_length
    → i + record_length ≤ length ws
    → ((c : ℕ) → c < record_length → get_or ws (i + c) 0 ≡ get_or r c 0)
    → record_from ws i ≡ r
record-alike ws r i long h same =
    let e = record-long ws i h in
    ext_get_or 0 (record_from ws i) r (e ∙ sym long)
    (λ c l. let q : c < record_length = omega arith in record-word ws i c q ∙ same c q)

-- A record at the same place of two lists of one length.
pub record_same :
    (ws vs : List ℕ) (i : ℕ)
    → length vs ≡ length ws
    → ((c : ℕ) → c < record_length → get_or vs (i + c) 0 ≡ get_or ws (i + c) 0)
    → record_from vs i ≡ record_from ws i
record_same ws vs i long same =
    ext_get_or 0 (record_from vs i) (record_from ws i)
    (length-take record_length (drop i vs)
    ∙ ap (min record_length) (length-drop i vs ∙ ap (λ (n : ℕ). n - i) long ∙ sym (length-drop i ws))
    ∙ sym (length-take record_length (drop i ws)))
    (λ c h.
    let q : c < record_length = let f = take-few record_length (drop i vs) in omega arith in
    record-word vs i c q ∙ same c q ∙ sym (record-word ws i c q))

-- A record that was written.
pub record-written :
    (ws vs : List ℕ) (i : ℕ)
    → length vs ≡ record_length
    → i + record_length ≤ length ws
    → record_from (sets ws i vs) i ≡ vs
record-written ws vs i long h =
    let rest = drop (i + length vs) ws in
    ap (λ (l : List ℕ). record_from l i)
    (sets-eq vs ws i (omega arith) ∙ append_assoc (take i ws) vs rest)
    ∙ ap (take record_length) (drop_at (take i ws) (vs ++ rest) i (length-take-le i ws (omega arith)))
    ∙ take_at vs rest record_length long

-- ---- What a stretch leaves alone. No write touches the sizes.
pub side-small : (s : Side) → side_number s ≤ 1
side-small left = omega arith
side-small right = omega arith

-- Hats that are alike, lane by lane.
pub hats-kept : (ws vs : List ℕ) → ((l : ℕ) (s : Side) → l < most_lanes → hat_word vs l s ≡ hat_word ws l s)
    → hat vs ≡ hat ws
unfolding hat
hats-kept ws vs same = fun_ext (λ l. fun_ext (λ s. go l s (l <? most_lanes)))
  where
    go : (l : ℕ) (s : Side) (d : Dec (l < most_lanes))
        → (if? d then hat_word vs l s else no_node) ≡ (if? d then hat_word ws l s else no_node)
    go l s (yes h) = same l s h
    go l s (no h) = refl

module _ {ws vs : List ℕ} {p n : ℕ} (W : Wrote ws vs p n) (past-sizes : tick_count_at ≤ p) where
  before : (j : ℕ) → j < p → get_or vs j 0 ≡ get_or ws j 0
  before j h = W.other j (inl h)

  pub same_nodes : node_count vs ≡ node_count ws
  same_nodes = before node_count_at (omega arith)

  pub same_tasks : task_count vs ≡ task_count ws
  same_tasks = before task_count_at (omega arith)

  pub same-sizes : sizes_of vs ≡ sizes_of ws
  same-sizes =
      sizes-equal W.long same_nodes same_tasks (before growth_at (omega arith)) (before lane_count_at (omega arith))

  pub hats-off : (p + n ≤ hat_at 0 left) ⊎ (hat_at most_lanes left ≤ p) → hat vs ≡ hat ws
  hats-off o =
      hats-kept ws vs (λ l s h.
      let b = side-small s in
      W.other (hat_at l s) (elim o [ inl q ↦ inr (omega arith) | inr q ↦ inl (omega arith) ]))

  module _ (off-nodes : (p + n ≤ header_length) ⊎ (node_at (node_count ws) ≤ p)) where
    off : (x j : ℕ) → x < node_count ws → node_at x ≤ j → j < node_at x + node_length → get_or vs j 0 ≡ get_or ws j 0
    off x j h k l = W.other j (elim off-nodes [ inl q ↦ inr (omega arith) | inr q ↦ inl (omega arith) ])

    pub links-off : link vs ≡ link ws
    unfolding link
    links-off =
        fun_ext (λ s.
        column-kept no_node (link_word ws s) (link_word vs s) same_nodes
        (λ x h. let b = side-small s in off x (node_at x + side_number s) h (omega arith) (omega arith)))

    pub values-off : (columns vs).values ≡ (columns ws).values
    values-off =
        column-kept (encode never) (value_words ws) (value_words vs) same_nodes
        (λ x h.
        stored-alike ws vs (value_at x) (value_at x) (λ c l. off x (value_at x + c) h (omega arith) (omega arith)))

  pub records-off : p + n ≤ node_at (node_count ws) → (columns vs).records ≡ (columns ws).records
  records-off l = column-kept (words_of fresh) (record_words ws) (record_words vs) same_tasks same
    where
      same : (k : ℕ) → k < task_count ws → record_words vs k ≡ record_words ws k
      same k h =
          let i = record_at (node_count ws) k in
          ap (λ n. record_from vs (record_at n k)) same_nodes
          ∙ record_same ws vs i W.long (λ c q. W.other (i + c) (inr (omega arith)))

  -- A write past the header changes links, values and records only.
  pub past-header :
      header_length ≤ p
      → {links : Side → ℕ → ℕ} {values : ℕ → _} {records : ℕ → List ℕ}
      → link vs ≡ links
      → (columns vs).values ≡ values
      → (columns vs).records ≡ records
      → columns vs ≡ put_body links values records (columns ws)
  past-header h =
      columns-equal same-sizes (hats-off (inr (omega arith)))
      (counts-equal (before tick_count_at (omega arith)) (before dispatched_at (omega arith))
      (before word14_at (omega arith)) (before word15_at (omega arith)))
