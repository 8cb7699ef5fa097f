-- The row as a stretch of a function of indices: one more at its end, and reversed.
use mathlib.Core.Path.{◌≡◌, refl, ap}
use mathlib.Core.List.{List, [], ◌∷◌, ◌++◌, reverse, reverse_aux-eq}
use lib.ListN.{length}
use Prim.Native.Nat.{ℕ, suc, zero, ◌+◌, ◌-◌, ◌≤◌, ◌<◌}
use native.Mathlib.Omega.{arith}
use Rattle.machine.proofs.Basics.Updates.{Wrote}

-- f i, f (i + 1), .. : k of them.
unfoldable pub segment : (ℕ → ℕ) → (i k : ℕ) → List ℕ
segment f i zero = []
segment f i (suc k) = f i ∷ segment f (suc i) k

pub segment-length : (f : ℕ → ℕ) (i k : ℕ) → length (segment f i k) ≡ k
unfolding segment
segment-length f i zero = refl
segment-length f i (suc k) = ap suc (segment-length f (suc i) k)

pub segment-empty : (f : ℕ → ℕ) (i k : ℕ) → k ≡ 0 → segment f i k ≡ []
unfolding segment
segment-empty f i k e = rw e

segment-snoc : (f : ℕ → ℕ) (i k : ℕ) → segment f i (suc k) ≡ segment f i k ++ (f (i + k) ∷ [])
unfolding segment
segment-snoc f i zero = let e : i + 0 ≡ i = omega arith in rw e
segment-snoc f i (suc k) =
    let e : i + suc k ≡ suc i + k = omega arith in
    rw e (ap (λ (l : List ℕ). f i ∷ l) (segment-snoc f (suc i) k))

segment-same : (f g : ℕ → ℕ) (i k : ℕ)
    → ((j : ℕ) → i ≤ j → j < i + k → g j ≡ f j)
    → segment g i k ≡ segment f i k
unfolding segment
segment-same f g i zero h = refl
segment-same f g i (suc k) h =
    let t = segment-same f g (suc i) k (λ j a b. h j (omega arith) (omega arith)) in
    let e = h i (omega arith) (omega arith) in
    cc

pub segment-reverse : (f g : ℕ → ℕ) (i j k : ℕ)
    → ((x y : ℕ) → suc (x + y) ≡ k → g (j + x) ≡ f (i + y))
    → segment g j k ≡ reverse (segment f i k)
unfolding segment
segment-reverse f g i j zero h = refl
segment-reverse f g i j (suc k) h =
    let t = segment-reverse f g (suc i) j k shifted in
    let z : i + 0 ≡ i = omega arith in
    let e = h k 0 (omega arith) in
    let last : g (j + k) ≡ f i = cc in
    cc (segment-snoc g j k, reverse_aux-eq (segment f (suc i) k) (f i ∷ []))
  where
    shifted : (x y : ℕ) → suc (x + y) ≡ k → g (j + x) ≡ f (suc i + y)
    shifted x y e = let z : i + suc y ≡ suc i + y = omega arith in cc (h x (suc y) (omega arith))

-- The bags strictly between a and b: with one written at b, and without the last.
pub row_pushed : (bags bags' : ℕ → ℕ) (a b v : ℕ)
    → a < b
    → Wrote bags b v bags'
    → segment bags' (suc a) (suc b - suc a) ≡ segment bags (suc a) (b - suc a) ++ (v ∷ [])
row_pushed bags bags' a b v h w =
    let d : ℕ = b - suc a in
    let e : suc b - suc a ≡ suc d = omega arith in
    let z : suc a + d ≡ b = omega arith in
    let x = segment-same bags bags' (suc a) d (λ j p q. w.elsewhere j (omega arith)) in
    rw e (cc (segment-snoc bags' (suc a) d, w.here))

pub row-popped : (bags : ℕ → ℕ) (a j b v : ℕ)
    → a < j
    → suc j ≡ b
    → bags j ≡ v
    → segment bags (suc a) (b - suc a) ≡ segment bags (suc a) (j - suc a) ++ (v ∷ [])
row-popped bags a j b v h q f =
    let d : ℕ = j - suc a in
    let e : b - suc a ≡ suc d = omega arith in
    let z : suc a + d ≡ j = omega arith in
    rw e (cc (segment-snoc bags (suc a) d))
