-- What a feed comes to, test by test.
use Rattle.std.proofs.Common.{◌≡◌, ℕ, ◌+◌, ◌-◌, ◌<◌, ◌≤◌, Bool, true, false, cond, List, length, get_or, set, arith, length-drop}
use Rattle.window.specs.Lost.{is_lost, lost_word}
use Rattle.window.specs.Window.{
  next_place,
  places,
  total,
  is_window,
  in_turn,
  fed_words,
  lost,
  refused,
  outcome,
  feed,
}
use Rattle.window.proofs.Laws.Counting.{total-set, at-total}
use Rattle.window.proofs.Laws.Windows.{header-facts, passed-header}

module _ (ws : List ℕ) (count before after : ℕ) where
  pub bad-window : is_window ws ≡ false → outcome (refused 23) ws ≡ feed ws count before after
  unfolding feed
  bad-window t = rw t

  pub out-of-turn : is_window ws ≡ true → in_turn ws count ≡ false
      → outcome (refused 24) ws ≡ feed ws count before after
  unfolding feed
  out-of-turn t u = rw (t, u)

-- A tick's word is 0 or 1.
pub lost-is-bit : (before after : ℕ) → lost_word before after ≤ 1
lost-is-bit before after = go (is_lost before after)
  where
    go : (b : Bool) → cond b 1 0 ≤ 1
    go true = omega arith
    go false = omega arith

-- ---- A window: the next place is one of its places, and the new sum is the old one, less what stood there, with the
-- new word.
module _ (ws : List ℕ) (t : is_window ws ≡ true) where
  pub next-in : (next_place ws ≤ 4_095) × (next_place ws + 5 ≤ length ws)
  next-in =
      let H = header-facts ws (passed-header ws t) in
      (omega (arith, H.most, H.is-place), omega (arith, H.long, H.is-place))

  next-is-place : next_place ws < length (places ws)
  next-is-place = omega (arith, length-drop 4 ws, next-in.1)

  pub one-fed :
      (count before after : ℕ) {n oldest word : ℕ} {vs : List ℕ}
      → in_turn ws count ≡ true
      → n ≡ total (places ws)
      → oldest ≡ get_or (places ws) (next_place ws) 0
      → word ≡ lost_word before after
      → vs ≡ fed_words ws count word
      → outcome (lost (n - oldest + word)) vs ≡ feed ws count before after
  unfolding feed
  one-fed count before after {n} {oldest} {word} u n-is oldest-is word-is vs-is =
      let sum = total-set (places ws) (next_place ws) word next-is-place in
      let most = at-total (places ws) (next_place ws) in
      let new : n - oldest + word ≡ total (set (places ws) (next_place ws) word) = omega arith in
      rw (new, vs-is, word-is, t, u)
