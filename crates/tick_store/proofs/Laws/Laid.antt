-- The nodes' part of the table, lent and laid back: a line's writes there are its writes to the table.
use Rattle.std.proofs.Common.{◌≡◌, ℕ, ◌+◌, ◌*◌, ◌<◌, ◌≤◌, List, [], ◌∷◌, length, sym, refl, ap, ◌∙◌, arith, length-set}
use lib.Seq.{sets, length-sets}
use Rattle.machine.specs.Sides.{Side, opposite, side_number}
use Rattle.machine.specs.Values.{stored_words, encode}
use Rattle.machine.specs.Table.{
  node_length,
  node_at,
  node_count,
  most_lanes,
  hat,
  node_part,
  links_length,
  set_hat,
}
use Rattle.machine.specs.Lines.{Write, out≔, inn≔, val≔, hat≔, write_one, write_all}
use Rattle.machine.proofs.Words.EffectLaws.{InRange, AllInRange}
use Rattle.table_layout.specs.Words.{HoldsNodes}
use Rattle.table_layout.proofs.Laws.HeaderWords.{side-low, hat-itself, hat-again, length-after-hat, nodes-after-hat}
use Rattle.table_layout.proofs.Laws.Views.{part-long}
use Rattle.table_layout.proofs.Laws.LaidNodes.{with_nodes, own-nodes, hat-laid, node-written}
use Rattle.line_parts.specs.Lent.{write_in, writes_in, hat_after}

-- ---- A line's writes.
abbrev Holds : (S : ℕ) → List ℕ → Type 0
Holds S ns = length ns ≡ node_length * S

write-holds : (S : ℕ) (s : Side) (w : Write) (ns : List ℕ) → Holds S ns → Holds S (write_in s w ns)
write-holds S s (out≔ x y) ns h = length-set ns _ y ∙ h
write-holds S s (inn≔ x y) ns h = length-set ns _ y ∙ h
write-holds S s (val≔ x v) ns h = length-sets ns _ (stored_words (encode v)) ∙ h
write-holds S s (hat≔ x) ns h = h

module _ (ℓ : ℕ) (is_lane : ℓ < most_lanes) (s : Side) (ws : List ℕ) (room : HoldsNodes ws) where
  -- With another hat the table holds the same nodes.
  room_after : (h : ℕ) → HoldsNodes (set_hat ℓ s h ws)
  room_after h = let n = nodes-after-hat ℓ s ws h in let l = length-after-hat ℓ s ws h in omega arith

  -- Words of a node.
  node-words : (ns : List ℕ) (h x c : ℕ) (vs : List ℕ) → Holds (node_count ws) ns → x < node_count ws
      → c + length vs ≤ node_length
      → sets (with_nodes ns (set_hat ℓ s h ws)) (node_at x + c) vs
      ≡ with_nodes (sets ns (node_length * x + c) vs) (set_hat ℓ s h ws)
  node-words ns h x c vs hold l m =
      let n = nodes-after-hat ℓ s ws h in
      node-written ns (set_hat ℓ s h ws) (room_after h) (omega arith) x c vs (omega arith) m

  one-write : (w : Write) (ns : List ℕ) (h : ℕ) → Holds (node_count ws) ns → InRange (node_count ws) w
      → write_one ℓ s w (with_nodes ns (set_hat ℓ s h ws))
      ≡ with_nodes (write_in s w ns) (set_hat ℓ s (hat_after (w ∷ []) h) ws)
  one-write (out≔ x y) ns h hold l =
      node-words ns h x (side_number s) (y ∷ []) hold l (let q = side-low s in omega arith)
  one-write (inn≔ x y) ns h hold l =
      node-words ns h x (side_number (opposite s)) (y ∷ []) hold l (let q = side-low (opposite s) in omega arith)
  one-write (val≔ x v) ns h hold l = node-words ns h x links_length (stored_words (encode v)) hold l.0 (omega arith)
  one-write (hat≔ x) ns h hold l =
      hat-laid ns (set_hat ℓ s h ws) (room_after h) ℓ is_lane s x ∙ ap (with_nodes ns) (hat-again ℓ s ws h x)

  hat-then : (w : Write) (l : List Write) (h : ℕ) → hat_after l (hat_after (w ∷ []) h) ≡ hat_after (w ∷ l) h
  hat-then (out≔ x y) l h = refl
  hat-then (inn≔ x y) l h = refl
  hat-then (val≔ x v) l h = refl
  hat-then (hat≔ x) l h = refl

  -- The writes to the table are the writes to the part and to the hat.
  writes-laid : (l : List Write) (ns : List ℕ) (h : ℕ) → Holds (node_count ws) ns → AllInRange (node_count ws) l
      → write_all ℓ s l (with_nodes ns (set_hat ℓ s h ws)) ≡ with_nodes (writes_in s l ns) (set_hat ℓ s (hat_after l h) ws)
  unfolding write_all
  writes-laid [] ns h hold q = refl
  writes-laid (w ∷ l) ns h hold q =
      ap (write_all ℓ s l) (one-write w ns h hold q.0)
      ∙ writes-laid l (write_in s w ns) (hat_after (w ∷ []) h) (write-holds (node_count ws) s w ns hold) q.1
      ∙ ap (λ (x : ℕ). with_nodes (writes_in s l (write_in s w ns)) (set_hat ℓ s x ws)) (hat-then w l h)

  -- Of a table, whose words are those of its nodes and its hat laid back.
  pub writes-stored : (l : List Write) → AllInRange (node_count ws) l
      → with_nodes (writes_in s l (node_part ws)) (set_hat ℓ s (hat_after l (hat ws ℓ s)) ws) ≡ write_all ℓ s l ws
  writes-stored l q =
      sym (writes-laid l (node_part ws) (hat ws ℓ s) (part-long ws room) q)
      ∙ ap (λ (vs : List ℕ). write_all ℓ s l (with_nodes (node_part ws) vs)) (hat-itself ℓ is_lane s ws)
      ∙ ap (write_all ℓ s l) (own-nodes ws)
