-- The table that start leaves: its columns, and the view and the tasks that it stands for.
use mathlib.Core.Path.{◌≡◌, refl, ap, sym, ◌∙◌, fun_ext}
use mathlib.Core.List.{List, ◌++◌}
use Prim.Native.Nat.{ℕ, zero, suc, ◌+◌, ◌*◌, ◌-◌, ◌/◌, ◌%◌, ◌≤◌, ◌<◌}
use lib.ListN.{length, get_or, length-append, get_or-append}
use lib.Seq.{get_or-append-add}
use native.Mathlib.Omega.{arith}
use native.Mathlib.Nat.{add_assoc}
use Rattle.machine.specs.Choice.{◌≟◌, ◌<?◌, if?◌then◌else◌}
use Rattle.machine.specs.Sides.{Side, left, right, side_number}
use Rattle.machine.specs.Values.{Value, never, X, encode, stored_at}
use Rattle.machine.specs.Tasks.{Task, no_node, fresh, record_length, words_of}
use Rattle.machine.specs.Table.{node_length, node_at, table_length, most_lanes, hat_word, hat, header_words, node_words, link_word, value_at, value_words, link, value, record_at, record_words, task, links_length}
use Rattle.machine.specs.Calls.{times, start_hat, start_nodes, start_words}
use Rattle.machine.proofs.Basics.Choices.{by-if, if_no, if_yes}
use Rattle.machine.proofs.Words.Memories.{View, viewed, view-equal}
use Rattle.machine.proofs.Words.ValueLaws.{HasWord, X-mark, never-has-word, mark-has-word, stored-alike}
use Rattle.machine.proofs.Words.RecordLaws.{fresh-of-words}
use Rattle.machine.proofs.Words.Columns.{
  Columns,
  columns,
  sizes-equal,
  columns-equal,
  view_of,
  tasks,
  start_counts,
}
use Rattle.machine.proofs.Words.Stretches.{record-alike, side-small}
use Rattle.machine.proofs.Words.EffectLaws.{task-by-columns}

-- ---- A list n times over, at a place.
length-times : (n : ℕ) (l : List ℕ) → length (times n l) ≡ n * length l
unfolding times
length-times zero l = omega arith
length-times (suc n) l = length-append l (times n l) ∙ omega (arith, length-times n l)

times-at :
    (n : ℕ) (l : List ℕ) (i c : ℕ) → i < n → c < length l → get_or (times n l) (i * length l + c) 0 ≡ get_or l c 0
unfolding times
times-at zero l i c h k = absurd (omega arith)
times-at (suc n) l zero c h k =
    let e : 0 * length l + c ≡ c = omega arith in rw e (get_or-append l (times n l) 0 c k)
times-at (suc n) l (suc i) c h k =
    let e : suc i * length l + c ≡ length l + (i * length l + c) = omega arith in
    rw e (get_or-append-add l (times n l) (i * length l + c) 0 ∙ times-at n l i c (omega arith) k)

-- ---- 02's started table, as functions: node x is of lane x / 2, and of its left side where x is even.
abbrev pub start_link : (lanes : ℕ) → Side → ℕ → ℕ
start_link L left x = if? x <? 2 * L then (if? x % 2 ≟ 0 then no_node else x - 1) else no_node
start_link L right x = if? x <? 2 * L then (if? x % 2 ≟ 0 then x + 1 else no_node) else no_node

abbrev pub start_value : (lanes : ℕ) → ℕ → Value
start_value L x = if? x <? 2 * L then (if? x % 2 ≟ 0 then X left else X right) else never

abbrev pub start_view : (lanes : ℕ) → View
start_view L =
    record {
      out = start_link L right;
      inn = start_link L left;
      val = start_value L;
      hats = start_hat L;
    }

abbrev pub start_columns : (S T growth lanes : ℕ) → Columns
start_columns S T g L =
    record {
      sizes = record { length = table_length S T; node_count = S; task_count = T; growth = g; lane_count = L };
      hats = start_hat L;
      counts = start_counts T;
      links = start_link L;
      values = λ x. encode (start_value L x);
      records = λ k. words_of fresh;
    }

-- ---- The nodes of the lanes, at a place.

-- A lane's two nodes.
abbrev pair : ℕ → List ℕ
pair l = node_words no_node (2 * l + 1) (X left) ++ node_words (2 * l) no_node (X right)

pair_length : ℕ
pair_length = 2 * node_length

length_pairs : (n l : ℕ) → length (start_nodes n l) ≡ n * pair_length
unfolding start_nodes pair_length
length_pairs zero l = refl
length_pairs (suc n) l = length-append (pair l) (start_nodes n (suc l)) ∙ omega (arith, length_pairs n (suc l))

pair-at : (n l i c : ℕ) → i < n → c < pair_length
    → get_or (start_nodes n l) (i * pair_length + c) 0 ≡ get_or (pair (l + i)) c 0
unfolding start_nodes pair_length
pair-at zero l i c h k = absurd (omega arith)
pair-at (suc n) l zero c h k =
    let e : 0 * pair_length + c ≡ c = omega arith in
    let z : l + 0 ≡ l = omega arith in
    ap (λ (x : ℕ). get_or (start_nodes (suc n) l) x 0) e
    ∙ get_or-append (pair l) (start_nodes n (suc l)) 0 c k
    ∙ ap (λ (m : ℕ). get_or (pair m) c 0) (sym z)
pair-at (suc n) l (suc i) c h k =
    let e : suc i * pair_length + c ≡ length (pair l) + (i * pair_length + c) = omega arith in
    let z : l + suc i ≡ suc l + i = omega arith in
    ap (λ (x : ℕ). get_or (start_nodes (suc n) l) x 0) e
    ∙ get_or-append-add (pair l) (start_nodes n (suc l)) (i * pair_length + c) 0
    ∙ pair-at n (suc l) i c (omega arith) k
    ∙ ap (λ (m : ℕ). get_or (pair m) c 0) (sym z)

-- ---- The words of start, read.
module _ (S T g L : ℕ) (room : 2 * L ≤ S) where
  spare : List ℕ
  spare = node_words no_node no_node never

  front : List ℕ
  front = header_words S T g L 0 (T - 1) (start_hat L)

  others : List ℕ
  others = times (S - 2 * L) spare ++ times T (words_of fresh)

  length-spares : length (times (S - 2 * L) spare) ≡ (S - 2 * L) * node_length
  unfolding spare
  length-spares = length-times (S - 2 * L) spare

  length-start : length (start_words S T g L) ≡ table_length S T
  unfolding start_words front spare others pair_length
  length-start =
      length-append front (start_nodes L 0 ++ others)
      ∙ omega (
        arith,
        length-append (start_nodes L 0) others,
        length_pairs L 0,
        length-append (times (S - 2 * L) spare) (times T (words_of fresh)),
        length-spares,
        length-times T (words_of fresh),
      )

  node-at :
      (x c : ℕ)
      → x < 2 * L
      → c < node_length
      → get_or (start_words S T g L) (node_at x + c) 0 ≡ get_or (pair (x / 2)) (node_length * (x % 2) + c) 0
  unfolding start_words front spare others pair_length
  node-at x c h k =
      let i = (x / 2) * pair_length + (node_length * (x % 2) + c) in
      let e : node_at x + c ≡ length front + i = omega arith in
      rw e (
      get_or-append-add front (start_nodes L 0 ++ others) i 0
      ∙ get_or-append (start_nodes L 0) others 0 i (omega (arith, length_pairs L 0))
      ∙ pair-at L 0 (x / 2) (node_length * (x % 2) + c) (omega arith) (omega arith)
      ∙ ap (λ (m : ℕ). get_or (pair m) (node_length * (x % 2) + c) 0) (omega arith))

  spare-at :
      (x c : ℕ) → 2 * L ≤ x → x < S → c < node_length → get_or (start_words S T g L) (node_at x + c) 0 ≡ get_or spare c 0
  unfolding start_words front spare others pair_length
  spare-at x c l h k =
      let n = length (start_nodes L 0) in
      let i = (x - 2 * L) * node_length + c in
      let e : node_at x + c ≡ length front + (n + i) = omega (arith, length_pairs L 0) in
      rw e (
      get_or-append-add front (start_nodes L 0 ++ others) (n + i) 0
      ∙ get_or-append-add (start_nodes L 0) others i 0
      ∙ get_or-append (times (S - 2 * L) spare) (times T (words_of fresh)) 0 i (omega (arith, length-spares))
      ∙ times-at (S - 2 * L) spare (x - 2 * L) c (omega arith) k)

  record-at :
      (k c : ℕ)
      → k < T
      → c < record_length
      → get_or (start_words S T g L) (record_at S k + c) 0 ≡ get_or (words_of fresh) c 0
  unfolding start_words front spare others pair_length
  record-at k c h q =
      let n = length (start_nodes L 0) in
      let m = length (times (S - 2 * L) spare) in
      let i = k * record_length + c in
      let e : record_at S k + c ≡ length front + (n + (m + i)) = omega (arith, length_pairs L 0, length-spares) in
      rw e (
      get_or-append-add front (start_nodes L 0 ++ others) (n + (m + i)) 0
      ∙ get_or-append-add (start_nodes L 0) others (m + i) 0
      ∙ get_or-append-add (times (S - 2 * L) spare) (times T (words_of fresh)) i 0
      ∙ times-at T (words_of fresh) k c h q)

  -- ---- A node's words, by its place in its pair.
  pair_left : (x : ℕ) (d : Dec (x % 2 ≡ 0))
      → get_or (pair (x / 2)) (node_length * (x % 2) + side_number left) 0 ≡ (if? d then no_node else x - 1)
  pair_left x (yes e) = rw e
  pair_left x (no e) = let q : x % 2 ≡ 1 = omega arith in rw q (omega arith)

  pair-right : (x : ℕ) (d : Dec (x % 2 ≡ 0))
      → get_or (pair (x / 2)) (node_length * (x % 2) + side_number right) 0 ≡ (if? d then x + 1 else no_node)
  pair-right x (yes e) = rw e (omega arith)
  pair-right x (no e) = let q : x % 2 ≡ 1 = omega arith in rw q

  pair-link : (s : Side) (x : ℕ) → x < 2 * L
      → get_or (pair (x / 2)) (node_length * (x % 2) + side_number s) 0 ≡ start_link L s x
  pair-link left x h =
      pair_left x (x % 2 ≟ 0) ∙ sym (if_yes (x <? 2 * L) (if? x % 2 ≟ 0 then no_node else x - 1) no_node h)
  pair-link right x h =
      pair-right x (x % 2 ≟ 0) ∙ sym (if_yes (x <? 2 * L) (if? x % 2 ≟ 0 then x + 1 else no_node) no_node h)

  pair-value : (x : ℕ) (d : Dec (x % 2 ≡ 0))
      → stored_at (pair (x / 2)) (node_length * (x % 2) + links_length) ≡ encode (if? d then X left else X right)
  pair-value x (yes e) = rw e
  pair-value x (no e) = let q : x % 2 ≡ 1 = omega arith in rw q

  spare-link : (s : Side) → get_or spare (side_number s) 0 ≡ no_node
  unfolding spare
  spare-link left = refl
  spare-link right = refl

  link-else : (s : Side) (x : ℕ) → 2 * L ≤ x → start_link L s x ≡ no_node
  link-else left x h = if_no (x <? 2 * L) (if? x % 2 ≟ 0 then no_node else x - 1) no_node (λ l. omega arith)
  link-else right x h = if_no (x <? 2 * L) (if? x % 2 ≟ 0 then x + 1 else no_node) no_node (λ l. omega arith)

  link_start : (s : Side) (x : ℕ) → link (start_words S T g L) s x ≡ start_link L s x
  unfolding link start_words
  link_start s x = go (x <? S) (x <? 2 * L)
    where
      go : (d : Dec (x < S)) → Dec (x < 2 * L)
          → (if? d then link_word (start_words S T g L) s x else no_node) ≡ start_link L s x
      go (yes l) (yes h) = node-at x (side_number s) h (omega (arith, side-small s)) ∙ pair-link s x h
      go (yes l) (no h) =
          spare-at x (side_number s) (omega arith) l (omega (arith, side-small s))
          ∙ spare-link s
          ∙ sym (link-else s x (omega arith))
      go (no l) d = sym (link-else s x (omega arith))

  value-else : (x : ℕ) → 2 * L ≤ x → encode (start_value L x) ≡ encode never
  value-else x h = ap encode (if_no (x <? 2 * L) (if? x % 2 ≟ 0 then X left else X right) never (λ l. omega arith))

  value-start : (x : ℕ) → (columns (start_words S T g L)).values x ≡ encode (start_value L x)
  unfolding start_words spare
  value-start x = go (x <? S) (x <? 2 * L)
    where
      go : (d : Dec (x < S)) → Dec (x < 2 * L)
          → (if? d then value_words (start_words S T g L) x else encode never) ≡ encode (start_value L x)
      go (yes l) (yes h) =
          stored-alike (pair (x / 2)) (start_words S T g L) (value_at x) (node_length * (x % 2) + links_length) (λ c k.
          rw (add_assoc (node_at x) links_length c, add_assoc (node_length * (x % 2)) links_length c)
          (node-at x (links_length + c) h (omega arith)))
          ∙ pair-value x (x % 2 ≟ 0)
          ∙ sym (ap encode (if_yes (x <? 2 * L) (if? x % 2 ≟ 0 then X left else X right) never h))
      go (yes l) (no h) =
          stored-alike spare (start_words S T g L) (value_at x) links_length (λ c k.
          rw (add_assoc (node_at x) links_length c)
          (spare-at x (links_length + c) (omega arith) l (omega arith)))
          ∙ sym (value-else x (omega arith))
      go (no l) d = sym (value-else x (omega arith))

  record-start : (k : ℕ) → (columns (start_words S T g L)).records k ≡ words_of fresh
  unfolding start_words
  record-start k = go (k <? T)
    where
      go : (d : Dec (k < T)) → (if? d then record_words (start_words S T g L) k else words_of fresh) ≡ words_of fresh
      go (yes h) =
          record-alike (start_words S T g L) (words_of fresh) (record_at S k) refl (omega (arith, length-start))
          (λ c q. record-at k c h q)
      go (no h) = refl

  -- ---- The hats: four pairs, those of lanes that are not there none.
  module _ (few : L ≤ most_lanes) where
    hat-word : (l : ℕ) (s : Side) → l < most_lanes → hat_word (start_words S T g L) l s ≡ start_hat L l s
    unfolding start_words
    hat-word zero left h = refl
    hat-word zero right h = refl
    hat-word (suc zero) left h = refl
    hat-word (suc zero) right h = refl
    hat-word (suc (suc zero)) left h = refl
    hat-word (suc (suc zero)) right h = refl
    hat-word (suc (suc (suc zero))) left h = refl
    hat-word (suc (suc (suc zero))) right h = refl
    hat-word (suc (suc (suc (suc l)))) s h = absurd (omega arith)

    hat-start : (l : ℕ) (s : Side) → hat (start_words S T g L) l s ≡ start_hat L l s
    unfolding hat
    hat-start l s = go (l <? most_lanes)
      where
        go : (d : Dec (l < most_lanes)) → (if? d then hat_word (start_words S T g L) l s else no_node) ≡ start_hat L l s
        go (yes h) = hat-word l s h
        go (no h) = sym (if_no (l <? L) (2 * l + side_number s) no_node (λ q. omega arith))

    pub columns-start : columns (start_words S T g L) ≡ start_columns S T g L
    unfolding start_words
    columns-start =
        columns-equal (sizes-equal length-start refl refl refl refl) (fun_ext (λ l. fun_ext (hat-start l))) refl
        (fun_ext (λ s. fun_ext (link_start s))) (fun_ext value-start) (fun_ext record-start)

start-has-word : (L x : ℕ) → HasWord (start_value L x)
start-has-word L x =
    by-if HasWord (x <? 2 * L) (λ _.
    by-if HasWord (x % 2 ≟ 0) (λ _. mark-has-word {s = left} X-mark) (λ _. mark-has-word {s = right} X-mark))
    (λ _. never-has-word)

-- ---- What the started table stands for.
module _ (S T g L : ℕ) (room : 2 * L ≤ S) (few : L ≤ most_lanes) where
  pub viewed-start : viewed right (start_words S T g L) ≡ start_view L
  unfolding value
  viewed-start =
      ap (view_of right) (columns-start S T g L room few)
      ∙ view-equal refl refl (fun_ext (start-has-word L)) refl

  pub task-start : (k : ℕ) → task (start_words S T g L) k ≡ fresh
  task-start k =
      ap (λ (f : ℕ → Task). f k) (task-by-columns (start_words S T g L) ∙ ap tasks (columns-start S T g L room few))
      ∙ fresh-of-words
