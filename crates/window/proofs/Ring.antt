-- The ring holds the history: which place has the tick of which age, and what the places come to in all.
use Rattle.std.proofs.Common.{◌≡◌, ℕ, zero, suc, ◌+◌, ◌-◌, ◌<◌, ◌≤◌, Bool, true, false, cond, ltb, ◌≢◌, List, [], ◌∷◌, length, get_or, take, set, replicate, refl, ◌∙◌, arith, length-set, get_or-set_other, get_or-set_same, ltb-false, ltb-true}
use lib.ListN.{length-replicate, get_or-replicate}
use Rattle.window.specs.Window.{go_round, total}
use Rattle.window.proofs.Laws.Tests.{clash}
use Rattle.window.proofs.Laws.Counting.{total-set}
use Rattle.window.proofs.Fits.{by-round}

-- The place of the tick that was fed j ticks before the newest one, where the next place is `next`.
abbrev pub place_of : (W next j : ℕ) → ℕ
place_of W next j = cond (ltb j next) (next - 1 - j) (W + next - 1 - j)

-- Its two cases.
pub by_place :
    (P : ℕ → Type 0) (W next j : ℕ)
    → (j < next → P (next - 1 - j))
    → (next ≤ j → P (W + next - 1 - j))
    → P (place_of W next j)
by_place P W next j f g = go (ltb j next) refl
  where
    go : (b : Bool) → ltb j next ≡ b → P (cond b (next - 1 - j) (W + next - 1 - j))
    go true e = f (ltb-true j next e)
    go false e = g (ltb-false j next e)

-- The oldest tick of W stands at the next place; every other stands elsewhere.
place-oldest : (W next j : ℕ) → next < W → j + 1 ≡ W → place_of W next j ≡ next
place-oldest W next j h e = by_place (λ p. p ≡ next) W next j (λ l. omega arith) (λ l. omega arith)

place_other : (W next j : ℕ) → next < W → j + 1 < W → place_of W next j ≢ next
place_other W next j h l = by_place (λ p. p ≢ next) W next j (λ m e. omega arith) (λ m e. omega arith)

-- After one more tick the newest stands there, and each other is one tick older.
place-newest : (W next : ℕ) → next < W → place_of W (go_round W next) 0 ≡ next
place-newest W next h =
    by-round (λ n. place_of W n 0 ≡ next) W next
    (λ l. by_place (λ p. p ≡ next) W (next + 1) 0 (λ m. omega arith) (λ m. omega arith))
    (λ l. by_place (λ p. p ≡ next) W 0 0 (λ m. omega arith) (λ m. omega arith))

place-older : (W next j : ℕ) → next < W → j + 1 < W → place_of W (go_round W next) (suc j) ≡ place_of W next j
place-older W next j h l =
    by_place (λ p. place_of W (go_round W next) (suc j) ≡ p) W next j
    (λ m. by-round (λ n. place_of W n (suc j) ≡ next - 1 - j) W next
    (λ r. by_place (λ p. p ≡ next - 1 - j) W (next + 1) (suc j) (λ q. omega arith) (λ q. omega arith))
    (λ r. by_place (λ p. p ≡ next - 1 - j) W 0 (suc j) (λ q. omega arith) (λ q. omega arith)))
    (λ m. by-round (λ n. place_of W n (suc j) ≡ W + next - 1 - j) W next
    (λ r. by_place (λ p. p ≡ W + next - 1 - j) W (next + 1) (suc j) (λ q. omega arith) (λ q. omega arith))
    (λ r. by_place (λ p. p ≡ W + next - 1 - j) W 0 (suc j) (λ q. omega arith) (λ q. omega arith)))

-- ---- Places ps that hold the words of a history, the newest first. A word past the history counts as 0.
pub record Holds (W next : ℕ) (ps words : List ℕ) : Type 0 where
  pub long : length ps ≡ W
  pub is-place : next < W
  pub at : (j : ℕ) → j < W → get_or ps (place_of W next j) 0 ≡ get_or words j 0
  pub sum : total ps ≡ total (take W words)

-- The sum of the first n + 1 words, from both ends.
total-more : (n : ℕ) (words : List ℕ) → total (take (suc n) words) ≡ total (take n words) + get_or words n 0
unfolding total
total-more zero [] = refl
total-more (suc n) [] = refl
total-more zero (w ∷ ws) = omega arith
total-more (suc n) (w ∷ ws) = omega (arith, total-more n ws)

-- One word more in front of the first W, and the last of them left out.
total-moved :
    (W n : ℕ) → W ≡ suc n → (v : ℕ) (words : List ℕ)
    → total (take W (v ∷ words)) + get_or words n 0 ≡ v + total (take W words)
unfolding total
total-moved W n e v words = rw e (omega (arith, total-more n words))

zeros : (n : ℕ) → total (replicate n 0) ≡ 0
unfolding total
zeros zero = refl
zeros (suc n) = omega (arith, zeros n)

nothing : (n : ℕ) → 0 ≡ total (take n [])
unfolding total
nothing zero = refl
nothing (suc n) = refl

pub holds-none : (W : ℕ) → 1 ≤ W → Holds W 0 (replicate W 0) []
holds-none W h =
    record {
      long = length-replicate W 0;
      is-place = h;
      at =
          λ j l.
          by_place (λ p. ◌≡◌ {A = ℕ} (get_or (replicate W 0) p 0) 0) W 0 j (λ m. clash (omega arith))
          (λ m. get_or-replicate W (W + 0 - 1 - j) 0 0 (omega arith));
      sum = zeros W ∙ nothing W;
    }

-- One more word, at the next place.
pub holds_more :
    {W next : ℕ} {ps words : List ℕ} (v : ℕ)
    → Holds W next ps words
    → Holds W (go_round W next) (set ps next v) (v ∷ words)
holds_more {W} {next} {ps} {words} v H =
    record {
      long = length-set ps next v ∙ H.long;
      is-place = by-round (λ n. n < W) W next (λ l. l) (λ l. omega (arith, H.is-place));
      at = at-age;
      sum = new-sum;
    }
  where
    at-age : (j : ℕ) → j < W → get_or (set ps next v) (place_of W (go_round W next) j) 0 ≡ get_or (v ∷ words) j 0
    at-age zero l =
        rw (place-newest W next H.is-place) (get_or-set_same ps next v 0 (omega (arith, H.long, H.is-place)))
    at-age (suc j) l =
        rw (place-older W next j H.is-place (omega arith))
        (get_or-set_other ps next (place_of W next j) v 0 (place_other W next j H.is-place (omega arith))
        ∙ H.at j (omega arith))

    new-sum : total (set ps next v) ≡ total (take W (v ∷ words))
    new-sum =
        let n = W - 1 in
        let set_sum = total-set ps next v (omega (arith, H.long, H.is-place)) in
        let place = place-oldest W next n H.is-place (omega (arith, H.is-place)) in
        let oldest : get_or ps next 0 ≡ get_or words n 0 = rw place at (H.at n (omega (arith, H.is-place))) in
        omega (arith, set_sum, oldest, H.sum, total-moved W n (omega (arith, H.is-place)) v words)
