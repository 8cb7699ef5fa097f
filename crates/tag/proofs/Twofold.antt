-- Lists of two elements for each one of another, and arrays that are filled with them.
use mathlib.Core.Path.{◌≡◌, refl, sym, ◌∙◌}
use mathlib.Core.List.{List, [], ◌∷◌}
use Prim.Native.Nat.{ℕ, zero, suc, ◌+◌, ◌*◌, ◌<◌}
use native.Mathlib.Omega.{arith}
use lib.ListN.{length, length-set, get_or, set, take}
use Rattle.tag.proofs.TagLaws.{clash}
use Rattle.tag.proofs.Stores.{filled_next}

module _ (f g : ℕ → ℕ) where
  unfoldable pub twofold : (list : List ℕ) → List ℕ
  twofold [] = []
  twofold (x ∷ xs) = f x ∷ g x ∷ twofold xs

  pub length-twofold : (list : List ℕ) → length (twofold list) ≡ 2 * length list
  unfolding twofold
  length-twofold [] = refl
  length-twofold (x ∷ xs) = omega (arith, length-twofold xs)

  first-at : (list : List ℕ) (i : ℕ) → i < length list → get_or (twofold list) (2 * i) 0 ≡ f (get_or list i 0)
  unfolding twofold
  first-at [] i h = clash (omega arith)
  first-at (x ∷ xs) zero h = refl
  first-at (x ∷ xs) (suc i) h =
      let e : 2 * suc i ≡ suc (suc (2 * i)) = omega arith in
      rw e (first-at xs i (omega arith))

  second_at : (list : List ℕ) (i : ℕ) → i < length list → get_or (twofold list) (2 * i + 1) 0 ≡ g (get_or list i 0)
  unfolding twofold
  second_at [] i h = clash (omega arith)
  second_at (x ∷ xs) zero h = refl
  second_at (x ∷ xs) (suc i) h =
      let e : 2 * suc i + 1 ≡ suc (suc (2 * i + 1)) = omega arith in
      rw e (second_at xs i (omega arith))

  -- Two elements more.
  pub twofold-next : (made list : List ℕ) (i first second : ℕ) → i < length list → length made ≡ 2 * length list
      → first ≡ f (get_or list i 0) → second ≡ g (get_or list i 0)
      → take (2 * i) made ≡ take (2 * i) (twofold list)
      → take (2 * suc i) (set (set made (2 * i) first) (2 * i + 1) second) ≡ take (2 * suc i) (twofold list)
  twofold-next made list i first second h long is-first is-second so_far =
      let wanted = length-twofold list in
      let one : 2 * i + 1 ≡ suc (2 * i) = omega arith in
      let two : 2 * suc i ≡ suc (2 * i + 1) = omega arith in
      let with_first =
      filled_next made (twofold list) (2 * i) first (omega arith) (omega arith)
      (is-first ∙ sym (first-at list i h)) so_far in
      rw two
      (filled_next (set made (2 * i) first) (twofold list) (2 * i + 1) second (simp length-set (omega arith))
      (omega arith) (is-second ∙ sym (second_at list i h)) (rw one with_first))
