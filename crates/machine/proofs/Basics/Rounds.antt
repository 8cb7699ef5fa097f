-- Going round by number: what the next one that passes a test is, and how far away a number is.
use mathlib.Core.Path.{◌≡◌, refl, sym, ap, ◌∙◌}
use mathlib.Core.Logic.{◌≢◌, ◌⊎◌, inl, inr}
use mathlib.Core.Bool.{Bool, true, false}
use mathlib.Core.Option.{Option, some, none}
use Prim.Native.Nat.{ℕ, zero, suc, ◌+◌, ◌-◌, ◌<◌, ◌≤◌}
use native.Mathlib.Omega.{arith}
use borrow.Author.Tests.{lt-ltb, le-ltb}
use Rattle.machine.specs.Choice.{◌<?◌, if?◌then◌else◌}
use Rattle.machine.specs.Round.{following, first_from, steps, FindsNext}
use Rattle.machine.proofs.Basics.Contradiction.{clash, equal?, less?}
use Rattle.machine.proofs.Basics.Choices.{if_yes, if_no}

-- ---- The number after another.
module _ (n : ℕ) where
  pub following-up : (i : ℕ) → i + 1 < n → following n i ≡ i + 1
  following-up i h = rw (lt-ltb (i + 1) n h)

  pub following-round : (i : ℕ) → n ≤ i + 1 → following n i ≡ 0
  following-round i h = rw (le-ltb (i + 1) n h)

  pub following-below : (i : ℕ) → i < n → following n i < n
  following-below i h =
      elim (less? (i + 1) n) [
        | inl l ↦ rw (following-up i l) l
        | inr l ↦ rw (following-round i l) (omega arith)
      ]

less-than : (i k : ℕ) → i ≢ k → i ≤ k → i < k
less-than i k ne l = elim (less? i k) [ inl m ↦ m | inr m ↦ absurd (ne (omega arith)) ]

-- ---- How many steps lead from i to k, going round below n; none where they are the same.
abbrev pub away : (n i k : ℕ) → ℕ
away n i k = if? k <? i then n + k - i else k - i

module _ (n k : ℕ) (is_below : k < n) where
  pub away-below : (i : ℕ) → i < n → away n i k < n
  away-below i h =
      elim (less? k i) [
        | inl l ↦ rw (if_yes (k <? i) (n + k - i) (k - i) l) (omega arith)
        | inr l ↦ rw (if_no (k <? i) (n + k - i) (k - i) (λ m. omega arith)) (omega arith)
      ]

  -- One step brings it nearer, where it is not there.
  following-nearer : (i : ℕ) → i < n → i ≢ k → suc (away n (following n i) k) ≡ away n i k
  following-nearer i h ne =
      elim (less? k i) [
        | inl l ↦
            elim (less? (i + 1) n) [
              | inl u ↦
                  rw (
                    following-up n i u,
                    if_yes (k <? i) (n + k - i) (k - i) l,
                    if_yes (k <? (i + 1)) (n + k - (i + 1)) (k - (i + 1)) (omega arith),
                  )
                  (omega arith)
              | inr u ↦
                  rw (
                    following-round n i u,
                    if_yes (k <? i) (n + k - i) (k - i) l,
                    if_no (k <? 0) (n + k - 0) (k - 0) (λ m. omega arith),
                  )
                  (omega arith)
            ]
        | inr l ↦
            let u : i + 1 < n = omega (arith, less-than i k ne l) in
            rw (
              following-up n i u,
              if_no (k <? i) (n + k - i) (k - i) (λ m. omega arith),
              if_no (k <? (i + 1)) (n + k - (i + 1)) (k - (i + 1)) (λ m. omega (arith, less-than i k ne l)),
            )
            (omega (arith, less-than i k ne l))
      ]

-- ---- The first number that passes a test.
module _ (n : ℕ) (test : ℕ → Bool) where
  -- i where it passes, and else what is found after it.
  abbrev or_later : (m i : ℕ) → Bool → Option ℕ
  or_later m i b = elim b as (λ _. Option ℕ) [ true ↦ some i | false ↦ first_from n test m (following n i) ]

  pub first_passes : (m i : ℕ) {j : ℕ} → first_from n test m i ≡ some j → test j ≡ true
  unfolding first_from
  first_passes zero i e = clash (cc)
  first_passes (suc m) i {j} e = go (test i) refl (first_passes m (following n i)) e
    where
      go : (b : Bool) → test i ≡ b → (first_from n test m (following n i) ≡ some j → test j ≡ true)
          → or_later m i b ≡ some j
          → test j ≡ true
      go true q later f = let same : i ≡ j = cc in rw (← same) q
      go false q later f = later f

  -- Where none is found of m numbers, none passes that is fewer than m steps away.
  pub none_passes : (m i : ℕ) → i < n → first_from n test m i ≡ none → (k : ℕ) → k < n → away n i k < m
      → test k ≡ false
  unfolding first_from
  none_passes zero i h e k l a = absurd (omega arith)
  none_passes (suc m) i h e k l a =
      go (test i) refl (none_passes m (following n i) (following-below n i h)) e (equal? i k)
    where
      go : (b : Bool) → test i ≡ b
          → (first_from n test m (following n i) ≡ none
          → (k : ℕ) → k < n → away n (following n i) k < m → test k ≡ false)
          → or_later m i b ≡ none
          → (i ≡ k) ⊎ (i ≢ k)
          → test k ≡ false
      go true q later f d = clash (cc)
      go false q later f (inl same) = rw (← same) q
      go false q later f (inr ne) = later f k l (omega (arith, following-nearer n k l i h ne))

  -- What is found is below n; and a number that passes is found, or is nearer from there on.
  pub first_below : (m i : ℕ) {j : ℕ} → i < n → first_from n test m i ≡ some j → j < n
  unfolding first_from
  first_below zero i h e = clash (cc)
  first_below (suc m) i {j} h e = go (test i) (first_below m (following n i) (following-below n i h)) e
    where
      go : (b : Bool) → (first_from n test m (following n i) ≡ some j → j < n)
          → or_later m i b ≡ some j
          → j < n
      go true later f = let same : i ≡ j = cc in rw (← same) h
      go false later f = later f

  pub found-or-nearer : (m i : ℕ) {j : ℕ} → i < n → first_from n test m i ≡ some j → (k : ℕ) → k < n
      → test k ≡ true
      → j ≢ k
      → away n (following n j) k < away n i k
  unfolding first_from
  found-or-nearer zero i h e k l t ne = clash (cc)
  found-or-nearer (suc m) i {j} h e k l t ne =
      go (test i) refl (λ f. found-or-nearer m (following n i) (following-below n i h) f k l t ne) e (equal? i k)
    where
      go : (b : Bool) → test i ≡ b
          → (first_from n test m (following n i) ≡ some j
          → away n (following n j) k < away n (following n i) k)
          → or_later m i b ≡ some j
          → (i ≡ k) ⊎ (i ≢ k)
          → away n (following n j) k < away n i k
      go true q later f d =
          let same : i ≡ j = cc in
          let step = following-nearer n k l i h (λ e. ne (sym same ∙ e)) in
          rw (← same) (omega arith)
      go false q later f (inl same) = clash (cc)
      go false q later f (inr d) = let step = following-nearer n k l i h d in omega (arith, later f)

  -- No number that passes is nearer than the one found.
  first-nearest : (m i : ℕ) {j : ℕ} → i < n → first_from n test m i ≡ some j → (k : ℕ) → k < n → test k ≡ true
      → away n i j ≤ away n i k
  unfolding first_from
  first-nearest zero i h e k l t = clash (cc)
  first-nearest (suc m) i {j} h e k l t =
      go (test i) refl (λ f. first-nearest m (following n i) (following-below n i h) f k l t) e
    where
      go : (b : Bool) → test i ≡ b
          → (first_from n test m (following n i) ≡ some j → away n (following n i) j ≤ away n (following n i) k)
          → or_later m i b ≡ some j
          → away n i j ≤ away n i k
      go true q later f =
          let same : i ≡ j = cc in
          rw (← same, if_no (i <? i) (n + i - i) (i - i) (λ u. omega arith)) (omega arith)
      go false q later f =
          let t' = first_passes m (following n i) f in
          let l' = first_below m (following n i) (following-below n i h) f in
          let a = following-nearer n j l' i h (λ u. clash (cc (ap test u))) in
          let b = following-nearer n k l i h (λ u. clash (cc (ap test u))) in
          omega (arith, later f)

-- Steps are counted from the number itself.
steps-away : (n i k : ℕ) → i < n → k < n → steps n i k ≡ suc (away n (following n i) k)
steps-away n i k h l =
    elim (equal? i k) [ inl e ↦ itself e | inr ne ↦ elsewhere ne ∙ sym (following-nearer n k l i h ne) ]
  where
    itself : i ≡ k → steps n i k ≡ suc (away n (following n i) k)
    itself e =
        rw (if_no (i <? k) (k - i) (n + k - i) (λ m. omega arith))
        (elim (less? (i + 1) n) [
          | inl u ↦
              rw (following-up n i u, if_yes (k <? (i + 1)) (n + k - (i + 1)) (k - (i + 1)) (omega arith)) (omega arith)
          | inr u ↦
              rw (following-round n i u, if_no (k <? 0) (n + k - 0) (k - 0) (λ m. omega arith)) (omega arith)
        ])

    elsewhere : i ≢ k → steps n i k ≡ away n i k
    elsewhere ne =
        elim (less? k i) [
          | inl m ↦
              rw (
                if_no (i <? k) (k - i) (n + k - i) (λ u. omega arith),
                if_yes (k <? i) (n + k - i) (k - i) m,
              )
          | inr m ↦
              rw (
                if_yes (i <? k) (k - i) (n + k - i) (less-than i k ne m),
                if_no (k <? i) (n + k - i) (k - i) (λ u. omega arith),
              )
        ]

pub finds-next : FindsNext
finds-next n test i h = (
  λ j e.
      let low = following-below n i h in
      let is_below = first_below n test n (following n i) low e in
      record {
        below = is_below;
        passes = first_passes n test n (following n i) e;
        nearest = λ k l t.
            rw (steps-away n i j h is_below, steps-away n i k h l)
            (omega (arith, first-nearest n test n (following n i) low e k l t));
      },
  λ e k l.
      none_passes n test n (following n i) (following-below n i h) e k l
      (away-below n k l (following n i) (following-below n i h)),
)
