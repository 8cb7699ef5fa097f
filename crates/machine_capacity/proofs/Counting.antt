-- Counting numbers below a bound: those that a test passes, and those that are added to them, lane by lane.
use mathlib.Core.Path.{◌≡◌, refl, sym, ap, ◌∙◌, subst}
use mathlib.Core.Logic.{◌≢◌, ◌⊎◌, inl, inr}
use mathlib.Core.Bool.{Bool, true, false, cond}
use mathlib.Core.List.{List}
use Prim.Native.Nat.{ℕ, zero, suc, ◌+◌, ◌*◌, ◌≤◌, ◌<◌}
use native.Mathlib.Omega.{arith}
use lib.ListN.{length, length-append}
use Rattle.machine.specs.Twice.{rows_below}
use Rattle.machine_capacity.specs.NoLeak.{CountBelow, none_below, one_more, not_this, total}
use Rattle.machine.proofs.Basics.Contradiction.{clash, equal?}
use Rattle.machine.proofs.Basics.Updates.{Wrote, it-is, it-is-not, wrote?, update, update-wrote}

-- How many numbers below n pass the test.
unfoldable pub count : (ℕ → Bool) → ℕ → ℕ
count p zero = 0
count p (suc n) = cond (p n) (suc (count p n)) (count p n)

count_yes : (p : ℕ → Bool) (n : ℕ) → p n ≡ true → count p (suc n) ≡ suc (count p n)
unfolding count
count_yes p n h = rw h

count_no : (p : ℕ → Bool) (n : ℕ) → p n ≡ false → count p (suc n) ≡ count p n
unfolding count
count_no p n h = rw h

pub true-or-false : {T : Type 0} (b : Bool) → (b ≡ true → T) → (b ≡ false → T) → T
true-or-false true f g = f refl
true-or-false false f g = g refl

pub count-all : (p : ℕ → Bool) (n : ℕ) → ((x : ℕ) → x < n → p x ≡ true) → count p n ≡ n
unfolding count
count-all p zero h = refl
count-all p (suc n) h =
    count_yes p n (h n (omega arith)) ∙ ap suc (count-all p n (λ x l. h x (omega arith)))

count_same : (p q : ℕ → Bool) (n : ℕ) → ((x : ℕ) → x < n → p x ≡ q x) → count p n ≡ count q n
unfolding count
count_same p q zero h = refl
count_same p q (suc n) h =
    let below = count_same p q n (λ x l. h x (omega arith)) in
    true-or-false (q n)
    (λ e. count_yes p n (h n (omega arith) ∙ e) ∙ ap suc below ∙ sym (count_yes q n e))
    (λ e. count_no p n (h n (omega arith) ∙ e) ∙ below ∙ sym (count_no q n e))

-- One number more passes.
count-one-more : (p : ℕ → Bool) (y n : ℕ) → y < n → p y ≡ false → count (update p y true) n ≡ suc (count p n)
count-one-more p y zero l h = absurd (omega arith)
count-one-more p y (suc n) l h =
    elim (wrote? w n) [
      | it-is e q ↦
          let no-n : p n ≡ false = ap p e ∙ h in
          count_yes (update p y true) n q
          ∙ ap suc (count_same (update p y true) p n (λ x k. w.elsewhere x (λ z. omega arith)))
          ∙ ap suc (sym (count_no p n no-n))
      | it-is-not ne q ↦
          let below = count-one-more p y n (omega arith) h in
          true-or-false (p n)
          (λ e. count_yes (update p y true) n (q ∙ e) ∙ ap suc below ∙ ap suc (sym (count_yes p n e)))
          (λ e. count_no (update p y true) n (q ∙ e) ∙ below ∙ ap suc (sym (count_no p n e)))
    ]
  where
    w : Wrote p y true (update p y true)
    w = update-wrote p y true

-- ---- Numbers f 0 .. f (N - 1) pass too.
unfoldable pub add_all : (ℕ → Bool) → (f : ℕ → ℕ) → (N : ℕ) → ℕ → Bool
add_all p f zero = p
add_all p f (suc N) = update (add_all p f N) (f N) true

module _ (p : ℕ → Bool) (f : ℕ → ℕ) where
  added_is : (N x : ℕ) → add_all p f N x ≡ true → (p x ≡ true) ⊎ ((i : ℕ) × (i < N) × (f i ≡ x))
  unfolding add_all
  added_is zero x h = inl h
  added_is (suc N) x h =
      elim (wrote? (update-wrote (add_all p f N) (f N) true) x) [
        | it-is e q ↦ inr (N, omega arith, sym e)
        | it-is-not ne q ↦
            elim (added_is N x (sym q ∙ h)) [
              | inl g ↦ inl g
              | inr (i, l, e) ↦ inr (i, omega arith, e)
            ]
      ]

  added-keeps : (N x : ℕ) → p x ≡ true → add_all p f N x ≡ true
  unfolding add_all
  added-keeps zero x h = h
  added-keeps (suc N) x h =
      elim (wrote? (update-wrote (add_all p f N) (f N) true) x) [
        | it-is e q ↦ q
        | it-is-not ne q ↦ q ∙ added-keeps N x h
      ]

  added-has : (N i : ℕ) → i < N → add_all p f N (f i) ≡ true
  unfolding add_all
  added-has zero i l = absurd (omega arith)
  added-has (suc N) i l =
      elim (wrote? (update-wrote (add_all p f N) (f N) true) (f i)) [
        | it-is e q ↦ q
        | it-is-not ne q ↦
            let not_last : i ≢ N = λ e. ne (ap f e) in
            q ∙ added-has N i (omega arith)
      ]

  -- They are below S, failed before and are different.
  pub added-count : (S N : ℕ)
      → ((i : ℕ) → i < N → f i < S)
      → ((i : ℕ) → i < N → p (f i) ≡ false)
      → ((i j : ℕ) → i < N → j < N → f i ≡ f j → i ≡ j)
      → count (add_all p f N) S ≡ count p S + N
  unfolding add_all
  added-count S zero below fails apart = omega arith
  added-count S (suc N) below fails apart =
      let fewer =
      added-count S N (λ i l. below i (omega arith)) (λ i l. fails i (omega arith))
      (λ i j a b e. apart i j (omega arith) (omega arith) e) in
      let more = count-one-more (add_all p f N) (f N) S (below N (omega arith)) not_yet in
      omega arith
    where
      not_yet : add_all p f N (f N) ≡ false
      not_yet =
          true-or-false (add_all p f N (f N))
          (λ h.
          elim (added_is N (f N) h) [
            | inl g ↦ clash (cc (fails N (omega arith)))
            | inr (i, l, e) ↦ absurd (let z = apart i N (omega arith) (omega arith) e in omega arith)
          ])
          (λ h. h)

-- ---- The same for each of L lanes.
unfoldable pub add_lanes : (ℕ → Bool) → (f : ℕ → ℕ → ℕ) → (N : ℕ → ℕ) → (L : ℕ) → ℕ → Bool
add_lanes p f N zero = p
add_lanes p f N (suc L) = add_all (add_lanes p f N L) (f L) (N L)

module _ (p : ℕ → Bool) (f : ℕ → ℕ → ℕ) (N : ℕ → ℕ) where
  -- One of the numbers of the first L lanes.
  abbrev OfLane : (L x : ℕ) → Type 0
  OfLane L x = (ℓ : ℕ) × (ℓ < L) × ((i : ℕ) × (i < N ℓ) × (f ℓ i ≡ x))

  pub lanes-is : (L x : ℕ) → add_lanes p f N L x ≡ true → (p x ≡ true) ⊎ OfLane L x
  unfolding add_lanes
  lanes-is zero x h = inl h
  lanes-is (suc L) x h =
      elim (added_is (add_lanes p f N L) (f L) (N L) x h) [
        | inl g ↦
            elim (lanes-is L x g) [
              | inl q ↦ inl q
              | inr (ℓ, l, c) ↦ inr (ℓ, omega arith, c)
            ]
        | inr c ↦ inr (L, omega arith, c)
      ]

  pub lanes_keep : (L x : ℕ) → p x ≡ true → add_lanes p f N L x ≡ true
  unfolding add_lanes
  lanes_keep zero x h = h
  lanes_keep (suc L) x h = added-keeps (add_lanes p f N L) (f L) (N L) x (lanes_keep L x h)

  pub lanes-have : (L ℓ i : ℕ) → ℓ < L → i < N ℓ → add_lanes p f N L (f ℓ i) ≡ true
  unfolding add_lanes
  lanes-have zero ℓ i l h = absurd (omega arith)
  lanes-have (suc L) ℓ i l h =
      elim (equal? ℓ L) [
        | inl e ↦
            let small : i < N L = subst (λ (j : ℕ). i < N j) e h in
            let there = added-has (add_lanes p f N L) (f L) (N L) i small in
            subst (λ (j : ℕ). add_all (add_lanes p f N L) (f L) (N L) (f j i) ≡ true) (sym e) there
        | inr ne ↦ added-keeps (add_lanes p f N L) (f L) (N L) (f ℓ i) (lanes-have L ℓ i (omega arith) h)
      ]

  pub lanes_count : (S L : ℕ)
      → ((ℓ i : ℕ) → ℓ < L → i < N ℓ → f ℓ i < S)
      → ((ℓ i : ℕ) → ℓ < L → i < N ℓ → p (f ℓ i) ≡ false)
      → ((ℓ j a b : ℕ) → ℓ < L → j < L → a < N ℓ → b < N j → f ℓ a ≡ f j b → (ℓ ≡ j) × (a ≡ b))
      → count (add_lanes p f N L) S ≡ count p S + total N L
  unfolding add_lanes total
  lanes_count S zero below fails apart = omega arith
  lanes_count S (suc L) below fails apart =
      let fewer =
      lanes_count S L (λ ℓ i l. below ℓ i (omega arith)) (λ ℓ i l. fails ℓ i (omega arith))
      (λ ℓ j a b l h. apart ℓ j a b (omega arith) (omega arith)) in
      let more =
      added-count (add_lanes p f N L) (f L) S (N L) (λ i h. below L i (omega arith) h) not_yet
      (λ a b ha hb e. (apart L L a b (omega arith) (omega arith) ha hb e).1) in
      omega arith
    where
      not_yet : (i : ℕ) → i < N L → add_lanes p f N L (f L i) ≡ false
      not_yet i h =
          true-or-false (add_lanes p f N L (f L i))
          (λ q.
          elim (lanes-is L (f L i) q) [
            | inl g ↦ clash (cc (fails L i (omega arith) h))
            | inr (ℓ, l, (j, k, e)) ↦
                absurd (let z = (apart ℓ L j i (omega arith) (omega arith) k h e).0 in omega arith)
          ])
          (λ q. q)

-- No more pass than there are.
pub count-le : (p : ℕ → Bool) (n : ℕ) → count p n ≤ n
unfolding count
count-le p zero = omega arith
count-le p (suc n) =
    let below = count-le p n in
    true-or-false (p n) (λ e. let q = count_yes p n e in omega arith) (λ e. let q = count_no p n e in omega arith)

-- ---- Sums over the lanes.
pub total-two : (f g : ℕ → ℕ) (n : ℕ) → total (λ ℓ. f ℓ + g ℓ) n ≡ total f n + total g n
unfolding total
total-two f g zero = refl
total-two f g (suc n) = omega (arith, total-two f g n)

pub total-le : (f g : ℕ → ℕ) (n : ℕ) → ((ℓ : ℕ) → ℓ < n → f ℓ ≤ g ℓ) → total f n ≤ total g n
unfolding total
total-le f g zero h = omega arith
total-le f g (suc n) h = omega (arith, total-le f g n (λ ℓ l. h ℓ (omega arith)), h n (omega arith))

pub total-same : (f g : ℕ → ℕ) (n : ℕ) → ((ℓ : ℕ) → ℓ < n → f ℓ ≡ g ℓ) → total f n ≡ total g n
unfolding total
total-same f g zero h = refl
total-same f g (suc n) h = omega (arith, total-same f g n (λ ℓ l. h ℓ (omega arith)), h n (omega arith))

pub length-rows : (f : ℕ → List ℕ) (n : ℕ) → length (rows_below f n) ≡ total (λ ℓ. length (f ℓ)) n
unfolding rows_below total
length-rows f zero = refl
length-rows f (suc n) = let e = length-append (rows_below f n) (f n) in omega (arith, length-rows f n)

pub total-const : (c n : ℕ) → total (λ ℓ. c) n ≡ c * n
unfolding total
total-const c zero = omega arith
total-const c (suc n) = omega (arith, total-const c n)

-- A test that decides P counts P.
pub count-decides : (P : ℕ → Type 0) (p : ℕ → Bool) (n : ℕ)
    → ((x : ℕ) → x < n → p x ≡ true → P x)
    → ((x : ℕ) → x < n → p x ≡ false → P x → ⊥)
    → CountBelow P n (count p n)
unfolding count
count-decides P p zero yes-is no-is = none_below
count-decides P p (suc n) yes-is no-is =
    let below = count-decides P p n (λ x l. yes-is x (omega arith)) (λ x l. no-is x (omega arith)) in
    true-or-false (p n)
    (λ e. rw (count_yes p n e) (one_more (yes-is n (omega arith) e) below))
    (λ e. rw (count_no p n e) (not_this (no-is n (omega arith) e) below))

-- Numbers of which each is at least c, and one of them e more.
pub total-at : (f : ℕ → ℕ) (c e ℓ n : ℕ) → ℓ < n → ((j : ℕ) → j < n → c ≤ f j) → c + e ≤ f ℓ → c * n + e ≤ total f n
unfolding total
total-at f c e ℓ zero h least more = absurd (omega arith)
total-at f c e ℓ (suc n) h least more =
    elim (equal? ℓ n) [
      | inl q ↦
          let own : c + e ≤ f n = subst (λ (j : ℕ). c + e ≤ f j) q more in
          omega (arith, total-le (λ j. c) f n (λ j l. least j (omega arith)), total-const c n)
      | inr ne ↦ omega (
        arith,
        total-at f c e ℓ n (omega arith) (λ j l. least j (omega arith)) more,
        least n
            (omega arith),
      )
    ]
