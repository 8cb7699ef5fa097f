-- The numbers of a line: the first three and the last of them in an array of four, each up to the largest tag.
use mathlib.Core.List.{List, [], ◌∷◌, ◌++◌}
use mathlib.Core.Logic.{◌≢◌}
use mathlib.Core.Path.{◌≡◌, sym, ap, ◌∙◌}
use Prim.Native.Nat.{ℕ, ◌+◌, ◌-◌, ◌<◌, ◌≤◌, min}
use native.Mathlib.Decide.{ℕ_discrete, dec_lt}
use native.Mathlib.Omega.{arith}
use lib.ListN.{length, get_or, set, length-append, length-set, get_or-append, get_or-eq_default}
use lib.Seq.{get_or-set_same, get_or-set_other, get_or-append_seam}
use Rattle.tag.specs.Tags.{largest_tag}
use Rattle.text_scan.specs.Kept.{kept_number, UpToTag}

-- ---- No number is kept above the largest tag.
pub up-to-tag-set : (held : List ℕ) (i v : ℕ) → UpToTag held → v ≤ largest_tag → UpToTag (set held i v)
up-to-tag-set held i v up h k = go (ℕ_discrete k i) (dec_lt k (length held))
  where
    go : Dec (k ≡ i) → Dec (k < length held) → get_or (set held i v) k 0 ≤ largest_tag
    go (yes e) (yes l) = rw (sym e, get_or-set_same held k v 0 l) h
    go (yes e) (no l) =
        let f : length (set held i v) ≤ k = simp length-set (omega arith) in
        rw (get_or-eq_default (set held i v) 0 {n = k} f) (omega arith)
    go (no e) l = rw (get_or-set_other held i k v 0 e) (up k)

-- ---- An array of four holds the first three numbers of a list, and at the last place used the last number.
-- The count of places used is the length of the list, up to 4.
module _ (held ns : List ℕ) (count : ℕ) (long : length held ≡ 4) (number_count : count ≡ min 4 (length ns)) where
  pub more-number-count : (d : ℕ) → min 4 (count + 1) ≡ min 4 (length (ns ++ (d ∷ [])))
  more-number-count d = simp length-append (omega arith)

  module _ (d : ℕ) (small : d ≤ largest_tag) where
    pub more-first : ((k : ℕ) → k < 3 → get_or held k 0 ≡ kept_number (get_or ns k 0))
        → (k : ℕ) → k < 3 → get_or (set held (min 4 (count + 1) - 1) d) k 0 ≡ kept_number (get_or (ns ++ (d ∷ [])) k 0)
    more-first first k h = go (ℕ_discrete k (min 4 (count + 1) - 1)) (dec_lt k (length ns))
      where
        go : Dec (k ≡ min 4 (count + 1) - 1) → Dec (k < length ns)
            → get_or (set held (min 4 (count + 1) - 1) d) k 0 ≡ kept_number (get_or (ns ++ (d ∷ [])) k 0)
        go (yes e) l =
            let f : k ≡ length ns = omega arith in
            let g : k < length held = omega arith in
            rw (sym e, get_or-set_same held k d 0 g, f, get_or-append_seam ns d [] 0) (omega arith)
        go (no e) (yes l) =
            rw (get_or-set_other held (min 4 (count + 1) - 1) k d 0 e, get_or-append ns (d ∷ []) 0 k l) (first k h)
        go (no e) (no l) =
            let f : length (ns ++ (d ∷ [])) ≤ k = simp length-append (omega arith) in
            let g : length ns ≤ k = omega arith in
            rw (get_or-set_other held (min 4 (count + 1) - 1) k d 0 e, get_or-eq_default (ns ++ (d ∷ [])) 0 {n = k} f)
            (first k h ∙ ap kept_number (get_or-eq_default ns 0 {n = k} g))

    pub more-last : get_or (set held (min 4 (count + 1) - 1) d) (min 4 (count + 1) - 1) 0
        ≡ kept_number (get_or (ns ++ (d ∷ [])) (length (ns ++ (d ∷ [])) - 1) 0)
    more-last =
        let f : length (ns ++ (d ∷ [])) - 1 ≡ length ns = simp length-append (omega arith) in
        let g : min 4 (count + 1) - 1 < length held = omega arith in
        rw (get_or-set_same held (min 4 (count + 1) - 1) d 0 g, f, get_or-append_seam ns d [] 0) (omega arith)

  -- another last number
  module _ (v : ℕ) (some : 0 < count) where
    pub other-first : ((k : ℕ) → k < 3 → get_or held k 0 ≡ kept_number (get_or ns k 0))
        → (k : ℕ) → k < 3
        → get_or (set held (count - 1) (kept_number v)) k 0 ≡ kept_number (get_or (set ns (length ns - 1) v) k 0)
    other-first first k h = go (ℕ_discrete k (count - 1))
      where
        go : Dec (k ≡ count - 1)
            → get_or (set held (count - 1) (kept_number v)) k 0 ≡ kept_number (get_or (set ns (length ns - 1) v) k 0)
        go (yes e) =
            let f : length ns - 1 ≡ k = omega arith in
            let g : k < length held = omega arith in
            let j : k < length ns = omega arith in
            rw (sym e, f, get_or-set_same held k (kept_number v) 0 g, get_or-set_same ns k v 0 j)
        go (no e) =
            let f : k ≢ length ns - 1 = λ x. e (omega arith) in
            rw (get_or-set_other held (count - 1) k (kept_number v) 0 e, get_or-set_other ns (length ns - 1) k v 0 f)
            (first k h)

    pub other_last : get_or (set held (count - 1) (kept_number v)) (count - 1) 0
        ≡ kept_number (get_or (set ns (length ns - 1) v) (length (set ns (length ns - 1) v) - 1) 0)
    other_last =
        let g : count - 1 < length held = omega arith in
        let j : length ns - 1 < length ns = omega arith in
        rw (length-set, get_or-set_same held (count - 1) (kept_number v) 0 g, get_or-set_same ns (length ns - 1) v 0 j)
