-- A text of which the first bytes are kept, with a byte more.
use mathlib.Core.Bool.{cond}
use mathlib.Core.List.{List, [], ◌∷◌, ◌++◌}
use mathlib.Core.Path.{◌≡◌, sym, ap, ◌∙◌}
use Prim.Native.Nat.{ℕ, suc, ◌+◌, ◌<◌, ◌≤◌, min}
use native.Mathlib.Decide.{dec_lt}
use native.Mathlib.Omega.{arith}
use borrow.Author.Tests.{lt-ltb, le-ltb}
use lib.Dec.{ltb}
use lib.ListN.{length, take, set, length-append, length-take}
use lib.Seq.{take-suc-set, take_all, take-append-le}

-- The first m bytes of a text l stand in a list t, n of them: a byte b more.
module _ (m : ℕ) (t l : List ℕ) (n b : ℕ) (long : length t ≡ m) (small : n ≤ m) (e : take n t ≡ take m l) where
  kept-length : n ≡ min m (length l)
  kept-length =
      let a : length (take n t) ≡ min n (length t) = length-take n t in
      let b : length (take n t) ≡ min m (length l) = ap length e ∙ length-take m l in
      omega arith

  pub byte-kept : take (min m (n + 1)) (cond (ltb n m) (set t n b) t) ≡ take m (l ++ (b ∷ []))
  byte-kept = go (dec_lt n m)
    where
      go : Dec (n < m) → take (min m (n + 1)) (cond (ltb n m) (set t n b) t) ≡ take m (l ++ (b ∷ []))
      go (yes h) =
          let k = kept-length in
          let more : min m (n + 1) ≡ suc n = omega arith in
          let f : n < length t = omega arith in
          let g : length l ≤ m = omega arith in
          let j : length (l ++ (b ∷ [])) ≤ m = simp length-append (omega arith) in
          rw (more, lt-ltb n m h, take-suc-set t n b f, e, take_all m l g, take_all m (l ++ (b ∷ [])) j)
      go (no h) =
          let k = kept-length in
          let same_count : min m (n + 1) ≡ n = omega arith in
          let g : m ≤ length l = omega arith in
          let full : m ≤ n = omega arith in
          rw (same_count, le-ltb n m full) (e ∙ sym (take-append-le m l (b ∷ []) g))
