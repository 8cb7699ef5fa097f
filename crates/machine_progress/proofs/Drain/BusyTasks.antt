-- How many tasks are in a call: one less after an answer, and at least one where one is.
use mathlib.Core.Path.{◌≡◌, refl, sym, ap, ◌∙◌}
use mathlib.Core.Logic.{◌≢◌, inl, inr}
use mathlib.Core.Bool.{Bool, true, false, cond}
use mathlib.Core.List.{List}
use Prim.Native.Nat.{ℕ, zero, suc, ◌+◌, ◌*◌, ◌≤◌, ◌<◌}
use native.Mathlib.Omega.{arith}
use Rattle.machine.specs.Calls.{is_busy_task}
use Rattle.machine_progress.specs.Drain.{busy_below}
use Rattle.machine.proofs.Basics.Contradiction.{clash, refute, equal?}
use Rattle.machine_progress.proofs.LockFree.Sums.{sum}

-- ---- How many tasks are in a call.
module _ (vs ws : List ℕ) where
  pub busy-same : (n : ℕ) → ((j : ℕ) → j < n → is_busy_task vs j ≡ is_busy_task ws j) → busy_below vs n ≡ busy_below ws n
  unfolding busy_below
  busy-same zero same = refl
  busy-same (suc n) same = rw (same n (omega arith), busy-same n (λ j l. same j (omega arith))) refl

  pub busy-fewer : (k n : ℕ) → k < n → is_busy_task ws k ≡ true → is_busy_task vs k ≡ false
      → ((j : ℕ) → j ≢ k → is_busy_task vs j ≡ is_busy_task ws j)
      → busy_below ws n ≡ suc (busy_below vs n)
  unfolding busy_below
  busy-fewer k zero l was now same = absurd (omega arith)
  busy-fewer k (suc n) l was now same =
      elim (equal? n k) [
        | inl e ↦
            let was-n : is_busy_task ws n ≡ true = ap (is_busy_task ws) e ∙ was in
            let now-n : is_busy_task vs n ≡ false = ap (is_busy_task vs) e ∙ now in
            let below = busy-same n (λ j q. same j (λ u. omega arith)) in
            rw (was-n, now-n, below) refl
        | inr ne ↦
            let below = busy-fewer k n (omega arith) was now same in
            by_last (is_busy_task ws n) (is_busy_task vs n) (same n ne) below
      ]
    where
      by_last : (a b : Bool) → b ≡ a → busy_below ws n ≡ suc (busy_below vs n)
          → cond a (suc (busy_below ws n)) (busy_below ws n) ≡ suc (cond b (suc (busy_below vs n)) (busy_below vs n))
      by_last true true q below = ap suc below
      by_last false false q below = below
      by_last true false q below = clash (cc)
      by_last false true q below = clash (cc)

pub none_below : (ws : List ℕ) (n : ℕ) → ((k : ℕ) → is_busy_task ws k ≡ false) → busy_below ws n ≡ 0
unfolding busy_below
none_below ws zero idle = refl
none_below ws (suc n) idle = rw (idle n, none_below ws n idle) refl

module _ (ws : List ℕ) where
  -- The last task is in a call, or not.
  by_last : (n : ℕ) {Q : Type 0}
      → (is_busy_task ws n ≡ true → busy_below ws (suc n) ≡ suc (busy_below ws n) → Q)
      → (is_busy_task ws n ≡ false → busy_below ws (suc n) ≡ busy_below ws n → Q)
      → Q
  unfolding busy_below
  by_last n {Q} f g = go (is_busy_task ws n) refl
    where
      go : (b : Bool) → is_busy_task ws n ≡ b → Q
      go true e = f e (rw e refl)
      go false e = g e (rw e refl)

  pub busy-most : (n : ℕ) → busy_below ws n ≤ n
  unfolding busy_below
  busy-most zero = omega arith
  busy-most (suc n) = let below = busy-most n in by_last n (λ _ q. omega arith) (λ _ q. omega arith)

  pub some_below : (k n : ℕ) → k < n → is_busy_task ws k ≡ true → 1 ≤ busy_below ws n
  some_below k zero l b = absurd (omega arith)
  some_below k (suc n) l b =
      elim (equal? n k) [
        | inl e ↦ by_last n (λ _ q. omega arith) (λ no q. clash (cc))
        | inr ne ↦ let below = some_below k n (omega arith) b in by_last n (λ _ q. omega arith) (λ _ q. omega arith)
      ]

  -- Of one task in a call there is no other.
  pub only_one : (n j k : ℕ) → busy_below ws n ≡ 1 → j < n → k < n → is_busy_task ws j ≡ true → is_busy_task ws k ≡ true → j
      ≡ k
  only_one zero j k one lj lk bj bk = absurd (omega arith)
  only_one (suc n) j k one lj lk bj bk =
      by_last n
      (λ b q.
      let last : (i : ℕ) → i < suc n → is_busy_task ws i ≡ true → i ≡ n =
      λ i l bi.
      elim (equal? i n) [
        | inl e ↦ e
        | inr ne ↦ absurd (let z = some_below i n (omega arith) bi in omega arith)
      ] in
      last j lj bj ∙ sym (last k lk bk))
      (λ b q.
      let off : (i : ℕ) → is_busy_task ws i ≡ true → i ≢ n = λ i bi e. refute (cc) in
      let nj = off j bj in
      let nk = off k bk in
      only_one n j k (sym q ∙ one) (omega arith) (omega arith) bj bk)

  -- Where one is in a call, there is one.
  pub find-one : (n : ℕ) → 1 ≤ busy_below ws n → (k : ℕ) × (k < n) × (is_busy_task ws k ≡ true)
  unfolding busy_below
  find-one zero l = absurd (omega arith)
  find-one (suc n) l =
      by_last n (λ b _. (n, omega arith, b))
      (λ b q. let z = find-one n (omega arith) in (z.0, omega (arith, z.1), z.2))

  -- What each idle task has, i of them.
  pub idle-sum : (n c : ℕ) (f : ℕ → ℕ) → ((j : ℕ) → is_busy_task ws j ≡ false → c ≤ f j) → (i : ℕ) → busy_below ws n + i
      ≡ n
      → i * c ≤ sum n f
  unfolding sum busy_below
  idle-sum zero c f has zero e = omega arith
  idle-sum zero c f has (suc i) e = absurd (omega arith)
  idle-sum (suc n) c f has zero e = omega arith
  idle-sum (suc n) c f has (suc i) e =
      by_last n
      (λ b q. let rest = idle-sum n c f has (suc i) (omega arith) in omega arith)
      (λ b q.
      let rest = idle-sum n c f has i (omega arith) in
      let own = has n b in
      omega arith)
