-- A hat read, written, and written again; and what else its write leaves.
use mathlib.Core.Path.{◌≡◌, ap, ◌∙◌}
use mathlib.Core.List.{List}
use Prim.Native.Nat.{ℕ, ◌<◌}
use native.Mathlib.Omega.{arith}
use lib.ListN.{length, take, length-set}
use lib.Seq.{get_or-set_other, set-set, set-get_or, drop-set-lt}
use Rattle.machine.specs.Choice.{◌<?◌}
use Rattle.machine.specs.Sides.{Side, left, right, side_number}
use Rattle.machine.specs.Tasks.{no_node, record_length}
use Rattle.machine.specs.Table.{
  header_length,
  node_count_at,
  node_count,
  most_lanes,
  hat_at,
  hat_word,
  hat,
  record_at,
  record_from,
  record_words,
  set_hat,
}
use Rattle.machine.proofs.Basics.Choices.{if_yes}

pub side-low : (s : Side) → side_number s < 2
side-low left = omega arith
side-low right = omega arith

module _ (l : ℕ) (is_lane : l < most_lanes) (s : Side) where
  pub hat-low : hat_at l s < header_length
  hat-low = let low = side-low s in omega arith

  pub hat-read : (ws : List ℕ) → hat ws l s ≡ hat_word ws l s
  unfolding hat
  hat-read ws = if_yes (l <? most_lanes) (hat_word ws l s) no_node is_lane

  pub hat-itself : (ws : List ℕ) → set_hat l s (hat ws l s) ws ≡ ws
  hat-itself ws = ap (λ (x : ℕ). set_hat l s x ws) (hat-read ws) ∙ set-get_or ws (hat_at l s) 0

module _ (l : ℕ) (s : Side) (ws : List ℕ) (x : ℕ) where
  pub hat-again : (y : ℕ) → set_hat l s y (set_hat l s x ws) ≡ set_hat l s y ws
  hat-again y = set-set ws (hat_at l s) x y

  pub length-after-hat : length (set_hat l s x ws) ≡ length ws
  length-after-hat = length-set ws (hat_at l s) x

  pub nodes-after-hat : node_count (set_hat l s x ws) ≡ node_count ws
  nodes-after-hat = get_or-set_other ws (hat_at l s) node_count_at x 0 (λ e. omega arith)

  pub record-after-hat : l < most_lanes → (k : ℕ) → record_words (set_hat l s x ws) k ≡ record_words ws k
  record-after-hat is_lane k =
      let low = hat-low l is_lane s in
      ap (λ (S : ℕ). record_from (set_hat l s x ws) (record_at S k)) nodes-after-hat
      ∙ ap (take record_length) (drop-set-lt (record_at (node_count ws) k) ws (hat_at l s) x (omega arith))
