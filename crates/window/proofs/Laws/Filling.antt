-- A window filled with zeros, and four words set in one.
use Rattle.std.proofs.Common.{◌≡◌, ℕ, suc, ◌+◌, ◌≤◌, List, [], ◌∷◌, length, get_or, drop, set, replicate, refl, arith}
use Rattle.window.specs.Window.{window_of, fresh_words}
use Rattle.window.proofs.Laws.Tests.{clash}

pub fresh-filled : (W l : ℕ) → l ≡ W + 4 → set (replicate l 0) 0 W ≡ fresh_words W
unfolding fresh_words
fresh-filled W l e =
    let four : l ≡ suc (suc (suc (suc W))) = omega arith in
    rw four refl

-- Four words set, one after another.
pub put-words :
    (ws : List ℕ) (fed next count at word : ℕ)
    → 4 ≤ length ws
    → set (set (set (set ws 1 fed) 2 next) 3 count) (4 + at) word
    ≡ window_of (get_or ws 0 0) fed next count (set (drop 4 ws) at word)
put-words [] fed next count at word h = clash (omega arith)
put-words (a ∷ []) fed next count at word h = clash (omega arith)
put-words (a ∷ b ∷ []) fed next count at word h = clash (omega arith)
put-words (a ∷ b ∷ c ∷ []) fed next count at word h = clash (omega arith)
put-words (a ∷ b ∷ c ∷ d ∷ ps) fed next count at word h =
    let place : 4 + at ≡ suc (suc (suc (suc at))) = omega arith in
    rw place refl
