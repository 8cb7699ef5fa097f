-- The digits of a number, by two and by four.
use mathlib.Core.Path.{◌≡◌, refl, sym, ap, ◌∙◌, subst}
use mathlib.Core.List.{List, [], ◌∷◌, ◌++◌, map, map-append, append_assoc}
use Prim.Native.Nat.{ℕ, suc, ◌+◌, ◌*◌, ◌-◌, ◌/◌, ◌%◌, ◌≤◌, ◌<◌}
use native.Mathlib.Omega.{arith}
use native.Mathlib.Numerals.{add-one}
use lib.ListN.{length, set}
use lib.Seq.{sets}
use Rattle.tag.specs.Tags.{billion, tag_of, last_digits}
use Rattle.tag.proofs.Stores.{sets-append}
use Rattle.text.specs.Numerals.{with_zeros, tag_text}
use Rattle.text_page.proofs.Laws.Lengths.{zeros-length}

-- ---- The last two digits, and the last four, after those before them.
last-two : (j n : ℕ) → last_digits (suc (suc j)) n ≡ last_digits j (n / 100) ++ last_digits 2 (n % 100)
unfolding last_digits
last-two j n =
    let rest : n / 10 / 10 ≡ n / 100 = omega arith in
    let tens : n / 10 % 10 ≡ n % 100 / 10 % 10 = omega arith in
    let ones : n % 10 ≡ n % 100 % 10 = omega arith in
    rw (rest, tens, ones) (append_assoc (last_digits j (n / 100)) (n % 100 / 10 % 10 ∷ []) (n % 100 % 10 ∷ []))

two-twos : (n : ℕ) → with_zeros 4 n ≡ with_zeros 2 (n / 100) ++ with_zeros 2 (n % 100)
two-twos n =
    ap (map (λ (d : ℕ). 48 + d)) (last-two 2 n)
    ∙ map-append (λ (d : ℕ). 48 + d) (last_digits 2 (n / 100)) (last_digits 2 (n % 100))

last-four : (j n : ℕ) → with_zeros (suc (suc (suc (suc j)))) n ≡ with_zeros j (n / 10_000) ++ with_zeros 4 (n % 10_000)
last-four j n =
    let high : n / 100 / 100 ≡ n / 10_000 = omega arith in
    let middle : n / 100 % 100 ≡ n % 10_000 / 100 = omega arith in
    let low : n % 100 ≡ n % 10_000 % 100 = omega arith in
    let digits : last_digits (suc (suc (suc (suc j)))) n ≡ last_digits j (n / 10_000) ++ last_digits 4 (n % 10_000) =
    last-two (suc (suc j)) n
    ∙ ap (λ (l : List ℕ). l ++ last_digits 2 (n % 100)) (last-two j (n / 100))
    ∙ append_assoc (last_digits j (n / 100 / 100)) (last_digits 2 (n / 100 % 100)) (last_digits 2 (n % 100))
    ∙ rw (high, middle, low) (ap (◌++◌ (last_digits j (n / 10_000))) (sym (last-two 2 (n % 10_000)))) in
    ap (map (λ (d : ℕ). 48 + d)) digits
    ∙ map-append (λ (d : ℕ). 48 + d) (last_digits j (n / 10_000)) (last_digits 4 (n % 10_000))

-- ---- A tag's ten, by its words.
first_two : (d e : ℕ) → d ≤ 9 → e ≤ 9 → with_zeros 2 (d * 10 + e) ≡ (48 + d) ∷ (48 + e) ∷ []
unfolding last_digits
first_two d e h k =
    let tens : (d * 10 + e) / 10 % 10 ≡ d = omega arith in
    let ones : (d * 10 + e) % 10 ≡ e = omega arith in
    rw (tens, ones)

tag-parts : (d l : ℕ) → d ≤ 9 → l < billion
    → tag_text (tag_of d l)
    ≡ ((48 + d) ∷ (48 + l / 100_000_000) ∷ []) ++ (with_zeros 4 (l / 10_000 % 10_000) ++ with_zeros 4 (l % 10_000))
tag-parts d l h k =
    let t = tag_of d l in
    let high : t / 10_000 / 10_000 ≡ d * 10 + l / 100_000_000 = omega arith in
    let middle : t / 10_000 % 10_000 ≡ l / 10_000 % 10_000 = omega arith in
    let low : t % 10_000 ≡ l % 10_000 = omega arith in
    last-four 6 t
    ∙ ap (λ (text : List ℕ). text ++ with_zeros 4 (t % 10_000)) (last-four 2 (t / 10_000))
    ∙ append_assoc (with_zeros 2 (t / 10_000 / 10_000)) (with_zeros 4 (t / 10_000 % 10_000)) (with_zeros 4 (t % 10_000))
    ∙ rw (high, middle, low, first_two d (l / 100_000_000) h (omega arith))

-- ---- How they are stored.
-- Both digits as one number, of two bytes.
both_bytes : (n t o both : ℕ) → t ≤ 9 → o ≤ 9 → n ≡ 10 * t + o → both ≡ 256 * n + 12_336 - 2_559 * t
    → (both % 256 ≡ 48 + t) × (both / 256 ≡ 48 + o)
both_bytes n t o both h k e f = (omega arith, omega arith)

pub two-stored : (out : List ℕ) (at n tens both : ℕ) → n ≤ 99 → tens ≡ n / 10 → both ≡ 256 * n + 12_336 - 2_559 * tens
    → set (set out at (both % 256)) (at + 1) (both / 256) ≡ sets out at (with_zeros 2 n)
unfolding last_digits
two-stored out at n tens both h t e =
    let digit : tens ≡ n / 10 % 10 = omega arith in
    let two = both_bytes n (n / 10 % 10) (n % 10) both (omega arith) (omega arith) (omega arith) (e ∙ rw digit) in
    rw (two.0, two.1, add-one)

stored-after : (xs ys l : List ℕ) (at n : ℕ) → length xs ≡ n → sets (sets l at xs) (at + n) ys ≡ sets l at (xs ++ ys)
stored-after xs ys l at n long =
    subst (λ (k : ℕ). sets (sets l at xs) (at + k) ys ≡ sets l at (xs ++ ys)) long (sets-append xs ys l at)

pub four-stored : (out : List ℕ) (at n : ℕ) {one two : List ℕ}
    → one ≡ sets out at (with_zeros 2 (n / 100)) → two ≡ sets one (at + 2) (with_zeros 2 (n % 100))
    → two ≡ sets out at (with_zeros 4 n)
four-stored out at n first second =
    let high = with_zeros 2 (n / 100) in
    second
    ∙ rw first (stored-after high (with_zeros 2 (n % 100)) out at 2 (zeros-length 2 (n / 100)))
    ∙ ap (sets out at) (sym (two-twos n))

pub tag-stored : (out : List ℕ) (at d l : ℕ) → d ≤ 9 → l < billion → {one two : List ℕ}
    → one ≡ sets (set (set out at (48 + d)) (at + 1) (48 + l / 100_000_000)) (at + 2)
    (with_zeros 4 (l / 10_000 % 10_000))
    → two ≡ sets one (at + 6) (with_zeros 4 (l % 10_000))
    → two ≡ sets out at (tag_text (tag_of d l))
tag-stored out at d l h k {one} {two} first second =
    let high : List ℕ = (48 + d) ∷ (48 + l / 100_000_000) ∷ [] in
    let middle = with_zeros 4 (l / 10_000 % 10_000) in
    let low = with_zeros 4 (l % 10_000) in
    let e : at + 6 ≡ at + 2 + 4 = omega arith in
    second
    ∙ rw (first, e, add-one) (stored-after middle low (sets out at high) (at + 2) 4
    (zeros-length 4 (l / 10_000 % 10_000)))
    ∙ stored-after high (middle ++ low) out at 2 refl
    ∙ ap (sets out at) (sym (tag-parts d l h k))
