-- A table or a snapshot with the words of its nodes in another order: what stays where it is, and what undoes it.
use mathlib.Core.Path.{◌≡◌, refl, sym, ap, ◌∙◌}
use mathlib.Core.List.{List, [], ◌∷◌, ◌++◌}
use Prim.Native.Nat.{ℕ, zero, suc, ◌+◌, ◌*◌, ◌-◌, ◌≤◌, ◌<◌}
use native.Mathlib.Omega.{arith}
use lib.ListN.{length, get_or, take, drop, length-append, length-drop, take-append-drop}
use lib.Seq.{length-take-le, get_or-take, get_or-drop, take_at, drop_at, drop-drop}
use Rattle.machine.specs.Counts.{count}
use Rattle.machine.specs.Table.{header_length, node_length, node_at, node_count, node_part}
use Rattle.machine.specs.Snapshots.{transposed, reordered, by_columns, by_nodes}
use Rattle.machine.proofs.Basics.Counts.{count-append}
use Rattle.machine.proofs.Snapshots.Transposed.{
  at_first,
  at_second,
  length-transposed,
  at-transposed,
  transposed-twice,
  count-transposed,
}

-- Another order of the nodes' words, of which there are four for each node.
abbrev pub Order : Type 0
Order = (S : ℕ) → List ℕ → List ℕ

abbrev pub Keeps : Order → Type 0
Keeps order = (S : ℕ) (ns : List ℕ) → length (order S ns) ≡ node_length * S

pub columns-keep : Keeps (λ S. transposed S node_length)
columns-keep S ns = let e = length-transposed S node_length ns in omega arith

pub nodes-keep : Keeps (λ S. transposed node_length S)
nodes-keep S ns = length-transposed node_length S ns

-- The first word is the header's first, however few words there are.
pub same_count : (order : Order) → Keeps order → (ws : List ℕ) → node_count (reordered order ws) ≡ node_count ws
unfolding reordered
same_count order keeps [] = go (order 0 []) (keeps 0 [])
  where
    go : (l : List ℕ) → length l ≡ 0 → get_or (l ++ []) 0 0 ≡ 0
    go [] e = refl
    go (x ∷ l) e = absurd (omega arith)
same_count order keeps (x ∷ ws) = refl

module _ (order : Order) (keeps : Keeps order) (ws : List ℕ) where
  abbrev S : ℕ
  S = node_count ws

  abbrev nodes : List ℕ
  nodes = order (node_count ws) (node_part ws)

  abbrev records : List ℕ
  records = drop (node_at (node_count ws)) ws

  -- How long it is: the header, the nodes' words, and what is left for the records.
  pub length-reordered :
      length (reordered order ws) ≡ length (take header_length ws) + (node_length * S + (length ws - node_at S))
  unfolding reordered
  length-reordered =
      let joined = length-append (take header_length ws) (nodes ++ records) in
      let after = length-append nodes records in
      let last = length-drop (node_at S) ws in
      let kept = keeps S (node_part ws) in
      omega arith

  module _ (enough : node_at (node_count ws) ≤ length ws) where
    front : length (take header_length ws) ≡ header_length
    front = length-take-le header_length ws (omega (arith, enough))

    pub same_length : length (reordered order ws) ≡ length ws
    same_length = let e = length-reordered in let f = front in omega (arith, enough)

    pub same-header : (i : ℕ) → i < header_length → get_or (reordered order ws) i 0 ≡ get_or ws i 0
    unfolding reordered
    same-header i h = at_first (take header_length ws) (nodes ++ records) front h (get_or-take header_length ws i 0 h)

    pub node-words : (j : ℕ) → j < node_length * S → get_or (reordered order ws) (header_length + j) 0 ≡ get_or nodes j 0
    unfolding reordered
    node-words j h =
        at_second (take header_length ws) (nodes ++ records) j front refl
        (at_first nodes records (keeps S (node_part ws)) h refl)

    -- The parts of the whole.
    front-part : take header_length (reordered order ws) ≡ take header_length ws
    unfolding reordered
    front-part = take_at (take header_length ws) (nodes ++ records) header_length front

    after-header : drop header_length (reordered order ws) ≡ nodes ++ records
    unfolding reordered
    after-header = drop_at (take header_length ws) (nodes ++ records) header_length front

    node-part : take (node_length * S) (drop header_length (reordered order ws)) ≡ nodes
    node-part =
        ap (take (node_length * S)) after-header ∙ take_at nodes records (node_length * S) (keeps S (node_part ws))

    pub same-records : drop (node_at S) (reordered order ws) ≡ records
    same-records =
        sym (drop-drop (node_length * S) header_length (reordered order ws))
        ∙ ap (drop (node_length * S)) after-header
        ∙ drop_at nodes records (node_length * S) (keeps S (node_part ws))

-- Header, nodes and records are the whole.
pub part-long : (ws : List ℕ) → node_at (node_count ws) ≤ length ws → length (node_part ws) ≡ node_length * node_count ws
part-long ws enough =
    length-take-le (node_length * node_count ws) (drop header_length ws)
    (let e = length-drop header_length ws in omega (arith, enough))

three-parts : (ws : List ℕ) → take header_length ws ++ (node_part ws ++ drop (node_at (node_count ws)) ws) ≡ ws
three-parts ws =
    ap (λ (l : List ℕ). take header_length ws ++ (node_part ws ++ l))
    (sym (drop-drop (node_length * node_count ws) header_length ws))
    ∙ ap (λ (l : List ℕ). take header_length ws ++ l)
    (take-append-drop (node_length * node_count ws) (drop header_length ws))
    ∙ take-append-drop header_length ws

-- An order that undoes another on the nodes' words undoes it on the whole.
module _ (order back : Order) (keeps : Keeps order) (ws : List ℕ) (enough : node_at (node_count ws) ≤ length ws)
    (undoes : back (node_count ws) (order (node_count ws) (node_part ws)) ≡ node_part ws) where
  pub undone : reordered back (reordered order ws) ≡ ws
  unfolding reordered
  undone =
      let there = reordered order ws in
      ap (λ (l : List ℕ).
      l ++ (back (node_count there) (node_part there) ++ drop (node_at (node_count there)) there))
      (front-part order keeps ws enough)
      ∙ ap (λ (n : ℕ).
      take header_length ws
      ++ (back n (take (node_length * n) (drop header_length there)) ++ drop (node_at n) there))
      (same_count order keeps ws)
      ∙ ap (λ (l : List ℕ). take header_length ws ++ (back (node_count ws) l ++ drop (node_at (node_count ws)) there))
      (node-part order keeps ws enough)
      ∙ ap (λ (l : List ℕ). take header_length ws ++ (l ++ drop (node_at (node_count ws)) there)) undoes
      ∙ ap (λ (l : List ℕ). take header_length ws ++ (node_part ws ++ l)) (same-records order keeps ws enough)
      ∙ three-parts ws

-- ---- The two orders.

-- A word of column c is among the nodes' words.
column-within : (S x c : ℕ) → x < S → c < node_length → S * c + x < node_length * S
column-within S x zero h k = omega arith
column-within S x (suc zero) h k = omega arith
column-within S x (suc (suc zero)) h k = omega arith
column-within S x (suc (suc (suc zero))) h k = omega arith
column-within S x (suc (suc (suc (suc c)))) h k = absurd (omega arith)

module _ (ws : List ℕ) (enough : node_at (node_count ws) ≤ length ws) where
  abbrev n : ℕ
  n = node_count ws

  pub nodes-of-columns : by_nodes (by_columns ws) ≡ ws
  nodes-of-columns =
      undone (λ S. transposed S node_length) (λ S. transposed node_length S) columns-keep ws enough
      (transposed-twice n node_length (node_part ws) (part-long ws enough))

  pub columns-of-nodes : by_columns (by_nodes ws) ≡ ws
  columns-of-nodes =
      undone (λ S. transposed node_length S) (λ S. transposed S node_length) nodes-keep ws enough
      (transposed-twice node_length n (node_part ws) (let e = part-long ws enough in omega arith))

  -- Word x of column c of a snapshot is word c of node x.
  pub in-part : (j : ℕ) → j < node_length * n → get_or (node_part ws) j 0 ≡ get_or ws (header_length + j) 0
  in-part j h = get_or-take (node_length * n) (drop header_length ws) j 0 h ∙ get_or-drop header_length ws j 0

  pub column-word : (x c : ℕ) → x < n → c < node_length
      → get_or (by_nodes ws) (node_at x + c) 0 ≡ get_or ws (header_length + (n * c + x)) 0
  column-word x c h k =
      let place : node_at x + c ≡ header_length + (node_length * x + c) = omega arith in
      ap (λ (i : ℕ). get_or (by_nodes ws) i 0) place
      ∙ node-words (λ S. transposed node_length S) nodes-keep ws enough (node_length * x + c) (omega arith)
      ∙ at-transposed node_length n (node_part ws) c x k h
      ∙ in-part (n * c + x) (column-within n x c h k)

  pub node-word : (x c : ℕ) → x < n → c < node_length
      → get_or (by_columns ws) (header_length + (n * c + x)) 0 ≡ get_or ws (node_at x + c) 0
  node-word x c h k =
      let place : header_length + (node_length * x + c) ≡ node_at x + c = omega arith in
      node-words (λ S. transposed S node_length) columns-keep ws enough (n * c + x) (column-within n x c h k)
      ∙ at-transposed n node_length (node_part ws) x c h k
      ∙ in-part (node_length * x + c) (omega arith)
      ∙ ap (λ (i : ℕ). get_or ws i 0) place

  -- ---- The same words.
  pub count-columns : (b : ℕ) → count b (by_columns ws) ≡ count b ws
  unfolding reordered
  count-columns b =
      let header = take header_length ws in
      let rest = drop (node_at n) ws in
      let turned = transposed n node_length (node_part ws) in
      let a = count-append b header (turned ++ rest) in
      let c = count-append b turned rest in
      let d = count-append b header (node_part ws ++ rest) in
      let e = count-append b (node_part ws) rest in
      let same = count-transposed b n node_length (node_part ws) (part-long ws enough) in
      let whole = ap (count b) (three-parts ws) in
      omega arith
