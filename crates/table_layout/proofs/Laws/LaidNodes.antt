-- The nodes' part of a table, lent and laid back: what is written there, and what stays around it.
use mathlib.Core.Path.{◌≡◌, refl, sym, ap, ◌∙◌}
use mathlib.Core.List.{List, [], ◌∷◌, ◌++◌, append_assoc}
use Prim.Native.Nat.{ℕ, suc, ◌+◌, ◌*◌, ◌-◌, ◌≤◌, ◌<◌}
use native.Mathlib.Omega.{arith}
use native.Mathlib.Nat.{add_assoc}
use lib.ListN.{length, get_or, set, take, drop, length-set, length-append, get_or-append}
use lib.Seq.{
  sets,
  get_or-take,
  take-set-lt,
  drop-set-lt,
  drop-drop,
  drop_at,
  set-append_left,
  length-take-le,
}
use borrow.Rule.Slice.PartMut.{put_mid, post_of, put_same, same_len_mid}
use Rattle.machine.specs.Sides.{Side}
use Rattle.machine.specs.Tasks.{record_length}
use Rattle.machine.specs.Table.{
  header_length,
  node_length,
  node_at,
  record_at,
  node_count_at,
  node_count,
  most_lanes,
  hat_at,
  node_part,
  record_from,
  record_words,
  set_hat,
}
use Rattle.table_layout.specs.Words.{HoldsNodes}
use Rattle.table_layout.proofs.Laws.HeaderWords.{hat-low, nodes-after-hat}
use Rattle.table_layout.proofs.Laws.Views.{part-long}

-- Words written on one side of a seam.
append-set-right : (xs ys : List ℕ) (j v : ℕ) → set (xs ++ ys) (length xs + j) v ≡ xs ++ set ys j v
append-set-right [] ys j v = let e : 0 + j ≡ j = omega arith in rw e
append-set-right (x ∷ xs) ys j v =
    let e : suc (length xs) + j ≡ suc (length xs + j) = omega arith in
    rw e (ap (◌∷◌ x) (append-set-right xs ys j v))

append-sets-right : (xs ys : List ℕ) (j : ℕ) (vs : List ℕ) → sets (xs ++ ys) (length xs + j) vs ≡ xs ++ sets ys j vs
append-sets-right xs ys j [] = refl
append-sets-right xs ys j (v ∷ vs) =
    let e : suc (length xs + j) ≡ length xs + suc j = omega arith in
    ap (λ (l : List ℕ). sets l (suc (length xs + j)) vs) (append-set-right xs ys j v)
    ∙ ap (λ (n : ℕ). sets (xs ++ set ys j v) n vs) e
    ∙ append-sets-right xs (set ys j v) (suc j) vs

append-sets-left :
    (xs ys : List ℕ) (j : ℕ) (vs : List ℕ) → j + length vs ≤ length xs → sets (xs ++ ys) j vs ≡ sets xs j vs ++ ys
append-sets-left xs ys j [] h = refl
append-sets-left xs ys j (v ∷ vs) h =
    ap (λ (l : List ℕ). sets l (suc j) vs) (set-append_left xs ys j v (omega arith))
    ∙ append-sets-left (set xs j v) ys (suc j) vs (let e = length-set xs j v in omega arith)

-- ---- One store, in the part and in the header.
module _ (a k : ℕ) (xs ys : List ℕ) (room : a ≤ length xs) where
  sets-in-part :
      (vs : List ℕ) (j : ℕ)
      → j + length vs ≤ length ys
      → sets (put_mid a k xs ys) (a + j) vs ≡ put_mid a k xs (sets ys j vs)
  sets-in-part vs j h =
      let front = take a xs in
      let after = post_of a k xs in
      ap (λ (n : ℕ). sets (put_mid a k xs ys) (n + j) vs) (sym (length-take-le a xs room))
      ∙ append-sets-right front (ys ++ after) j vs
      ∙ ap (λ (l : List ℕ). front ++ l) (append-sets-left ys after j vs h)

  set-before-part : (i v : ℕ) → i < a → set (put_mid a k xs ys) i v ≡ put_mid a k (set xs i v) ys
  set-before-part i v h =
      let e : drop a (set xs i v) ≡ drop a xs = drop-set-lt a xs i v h in
      set-append_left (take a xs) (ys ++ post_of a k xs) i v (let q = length-take-le a xs room in omega arith)
      ∙ ap (λ (l : List ℕ). l ++ (ys ++ post_of a k xs)) (sym (take-set-lt a xs i v h))
      ∙ ap (λ (l : List ℕ). take a (set xs i v) ++ (ys ++ drop k l)) (sym e)

  word-before-part : (i d : ℕ) → i < a → get_or (put_mid a k xs ys) i d ≡ get_or xs i d
  word-before-part i d h =
      get_or-append (take a xs) (ys ++ post_of a k xs) d i (let q = length-take-le a xs room in omega arith)
      ∙ get_or-take a xs i d h

  after-part : length ys ≡ k → (j : ℕ) → drop (a + k + j) (put_mid a k xs ys) ≡ drop (a + k + j) xs
  after-part long j =
      let front_long : length (take a xs ++ ys) ≡ a + k
      = length-append (take a xs) ys ∙ (let q = length-take-le a xs room in omega arith) in
      sym (drop-drop j (a + k) (put_mid a k xs ys))
      ∙ ap (λ (l : List ℕ). drop j (drop (a + k) l)) (sym (append_assoc (take a xs) ys (post_of a k xs)))
      ∙ ap (drop j) (drop_at (take a xs ++ ys) (post_of a k xs) (a + k) front_long ∙ drop-drop k a xs)
      ∙ drop-drop j (a + k) xs

-- ---- A table with other words for its nodes.
abbrev pub with_nodes : (ns ws : List ℕ) → List ℕ
with_nodes ns ws = put_mid header_length (node_length * node_count ws) ws ns

-- As the code lays them back.
pub nodes-laid :
    (ns ws : List ℕ) {f e : ℕ} → f ≡ node_at 0 → e ≡ node_at (node_count ws) → put_mid f (e - f) ws ns ≡ with_nodes ns ws
nodes-laid ns ws {f} {e} at end =
    let from : f ≡ header_length = omega arith in
    let n : e - f ≡ node_length * node_count ws = omega arith in
    ap (λ (n : ℕ). put_mid f n ws ns) n ∙ ap (λ (i : ℕ). put_mid i (node_length * node_count ws) ws ns) from

-- Its own words laid back.
pub own-nodes : (ws : List ℕ) → with_nodes (node_part ws) ws ≡ ws
own-nodes ws = put_same header_length (node_length * node_count ws) ws

module _ (ns ws : List ℕ) (room : HoldsNodes ws) where
  header-room : header_length ≤ length ws
  header-room = omega arith

  pub count-laid : node_count (with_nodes ns ws) ≡ node_count ws
  count-laid =
      word-before-part header_length (node_length * node_count ws) ws ns header-room node_count_at 0 (omega arith)

  pub hat-laid : (l : ℕ) → l < most_lanes → (s : Side) (x : ℕ)
      → set_hat l s x (with_nodes ns ws) ≡ with_nodes ns (set_hat l s x ws)
  hat-laid l is_lane s x =
      set-before-part header_length (node_length * node_count ws) ws ns header-room (hat_at l s) x (hat-low l is_lane s)
      ∙ ap (λ (S : ℕ). put_mid header_length (node_length * S) (set_hat l s x ws) ns) (sym (nodes-after-hat l s ws x))

  module _ (long : length ns ≡ node_length * node_count ws) where
    pub length-laid : length (with_nodes ns ws) ≡ length ws
    length-laid = same_len_mid header_length (node_length * node_count ws) ws ns (long ∙ sym (part-long ws room))

    pub record-laid : (k : ℕ) → record_words (with_nodes ns ws) k ≡ record_words ws k
    record-laid k =
        ap (λ (S : ℕ). record_from (with_nodes ns ws) (record_at S k)) count-laid
        ∙ ap (take record_length)
        (after-part header_length (node_length * node_count ws) ws ns header-room long (record_length * k))

    -- Words of node x.
    pub node-written : (x c : ℕ) (vs : List ℕ) → x < node_count ws → c + length vs ≤ node_length
        → sets (with_nodes ns ws) (node_at x + c) vs ≡ with_nodes (sets ns (node_length * x + c) vs) ws
    node-written x c vs is_node fits =
        ap (λ (n : ℕ). sets (with_nodes ns ws) n vs) (add_assoc header_length (node_length * x) c)
        ∙ sets-in-part header_length (node_length * node_count ws) ws ns header-room vs (node_length * x + c) (omega arith)
