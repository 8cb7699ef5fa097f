-- Walks along links: that they end, after how many links, and that a walk over S nodes has at most S of them.
use mathlib.Core.Path.{◌≡◌, refl, sym, ◌∙◌, subst}
use mathlib.Core.Logic.{◌≢◌, inl, inr}
use Prim.Native.Nat.{ℕ, zero, suc, ◌+◌, ◌-◌, ◌≤◌, ◌<◌}
use native.Mathlib.Omega.{arith}
use Rattle.machine.specs.Tasks.{no_node}
use Rattle.machine.proofs.Basics.Contradiction.{equal?, less?}
use Rattle.machine.proofs.Basics.Updates.{Wrote, it-is, it-is-not, wrote?}
use Rattle.machine.proofs.Linearizability.Calls.Pigeonhole.{pigeonhole}

-- The walk from x along the link meets none within n links.
pub data EndsWithin (link : ℕ → ℕ) : (n x : ℕ) → Type 0 where
  stops : {n x : ℕ} → link x ≡ no_node → EndsWithin link n x
  goes_on : {n x y : ℕ} → link x ≡ y → EndsWithin link n y → EndsWithin link (suc n) x

-- Every walk ends.
abbrev pub WalksEnd : (link : ℕ → ℕ) → Type 0
WalksEnd link = (x : ℕ) → (n : ℕ) × EndsWithin link n x

pub ends-later : {link : ℕ → ℕ} {n x : ℕ} (m : ℕ) → n ≤ m → EndsWithin link n x → EndsWithin link m x
ends-later m h (stops e) = stops e
ends-later zero h (goes_on e w) = absurd (omega arith)
ends-later (suc m) h (goes_on e w) = goes_on e (ends-later m (omega arith) w)

-- One link further on.
pub ends_on : {link : ℕ → ℕ} {n x : ℕ} → link x ≢ no_node → EndsWithin link n x
    → (j : ℕ) × (suc j ≡ n) × EndsWithin link j (link x)
ends_on ne (stops e) = absurd (ne e)
ends_on {link} ne (goes_on {n} e w) = (n, refl, subst (EndsWithin link n) (sym e) w)

-- ---- After a write.

-- A walk through nodes whose links are as before.
pub ends_same : {link link' : ℕ → ℕ} (P : ℕ → Type 0)
    → ((x : ℕ) → P x → link x ≢ no_node → P (link x))
    → ((x : ℕ) → P x → link' x ≡ link x)
    → {n x : ℕ}
    → P x
    → EndsWithin link n x
    → EndsWithin link' n x
ends_same P closed same {x = x} p (stops e) = stops (same x p ∙ e)
ends_same {link} P closed same {x = x} p (goes_on {y = y} e w) =
    elim (equal? (link x) no_node) [
      | inl q ↦ stops (same x p ∙ q)
      | inr ne ↦ goes_on (same x p ∙ e) (ends_same P closed same (subst P e (closed x p ne)) w)
    ]

-- A link is cut: no walk is longer.
pub ends-cut : {link link' : ℕ → ℕ} {a : ℕ} → Wrote link a no_node link' → {n x : ℕ}
    → EndsWithin link n x
    → EndsWithin link' n x
ends-cut w {x = x} (stops e) = elim (wrote? w x) [ it-is d q ↦ stops q | it-is-not d q ↦ stops (q ∙ e) ]
ends-cut w {x = x} (goes_on e u) =
    elim (wrote? w x) [ it-is d q ↦ stops q | it-is-not d q ↦ goes_on (q ∙ e) (ends-cut w u) ]

-- A link is led to a node whose walk ends: all walks end.
ends-joined : {link link' : ℕ → ℕ} {a d : ℕ} → Wrote link a d link' → {m : ℕ} → EndsWithin link' m d → {n x : ℕ}
    → EndsWithin link n x
    → (j : ℕ) × EndsWithin link' j x
ends-joined w {m} D {x = x} (stops e) =
    elim (wrote? w x) [ it-is p q ↦ (suc m, goes_on q D) | it-is-not p q ↦ (0, stops (q ∙ e)) ]
ends-joined w {m} D {x = x} (goes_on e u) =
    let r = ends-joined w D u in
    elim (wrote? w x) [
      | it-is p q ↦ (suc m, goes_on q D)
      | it-is-not p q ↦ (suc r.0, goes_on (q ∙ e) r.1)
    ]

pub walks-cut : {link link' : ℕ → ℕ} {a : ℕ} → Wrote link a no_node link' → WalksEnd link → WalksEnd link'
walks-cut w E x = ((E x).0, ends-cut w (E x).1)

pub walks-joined : {link link' : ℕ → ℕ} {a d : ℕ} → Wrote link a d link' → {m : ℕ} → EndsWithin link' m d
    → WalksEnd link
    → WalksEnd link'
walks-joined w D E x = ends-joined w D (E x).1

-- ---- How long a walk is.

-- The walk meets none after exactly n links.
data Exactly (link : ℕ → ℕ) : (n x : ℕ) → Type 0 where
  at-end : {x : ℕ} → link x ≡ no_node → Exactly link 0 x
  before : {n x : ℕ} → link x ≢ no_node → Exactly link n (link x) → Exactly link (suc n) x

exact : {link : ℕ → ℕ} {n x : ℕ} → EndsWithin link n x → (j : ℕ) × Exactly link j x
exact (stops e) = (0, at-end e)
exact {link} {x = x} (goes_on e w) =
    let r = exact w in
    elim (equal? (link x) no_node) [
      | inl q ↦ (0, at-end q)
      | inr ne ↦ (suc r.0, before ne (subst (Exactly link r.0) (sym e) r.1))
    ]

exact-ends : {link : ℕ → ℕ} {n x : ℕ} → Exactly link n x → EndsWithin link n x
exact-ends (at-end e) = stops e
exact-ends (before ne w) = goes_on refl (exact-ends w)

one-length : {link : ℕ → ℕ} {n m x : ℕ} → Exactly link n x → Exactly link m x → n ≡ m
one-length (at-end e) (at-end f) = refl
one-length (at-end e) (before ne f) = absurd (ne e)
one-length (before ne e) (at-end f) = absurd (ne f)
one-length (before ne e) (before mf f) = let q = one-length e f in omega arith

walk : (link : ℕ → ℕ) → ℕ → ℕ → ℕ
walk link zero x = x
walk link (suc i) x = walk link i (link x)

along : {link : ℕ → ℕ} (i r : ℕ) {n x : ℕ} → i + r ≡ n → Exactly link n x → Exactly link r (walk link i x)
unfolding walk
along {link} zero r {n} {x} h e = let q : n ≡ r = omega arith in subst (λ (j : ℕ). Exactly link j x) q e
along (suc i) r h (at-end e) = absurd (omega arith)
along (suc i) r h (before ne e) = along i r (omega arith) e

-- Links lead to nodes below S or to none, and what is no node leads to none.
pub record LinksBelow (S : ℕ) (link : ℕ → ℕ) : Type 0 where
  pub leads-below : (x : ℕ) → link x ≢ no_node → link x < S
  pub outside : (x : ℕ) → S ≤ x → link x ≡ no_node

module _ {S : ℕ} {link : ℕ → ℕ} (B : LinksBelow S link) where
  below-along : (i : ℕ) {n x : ℕ} → i ≤ n → x < S → Exactly link n x → walk link i x < S
  unfolding walk
  below-along zero h l e = l
  below-along (suc i) h l (at-end e) = absurd (omega arith)
  below-along (suc i) {x = x} h l (before ne e) = below-along i (omega arith) (B.leads-below x ne) e

  exactly-few : {n x : ℕ} → x < S → Exactly link n x → suc n ≤ S
  exactly-few {n} {x} l e =
      pigeonhole S (suc n) (λ i. walk link i x) (λ i h. below-along i (omega arith) l e)
      (λ i j hi hj q.
      let fi = along i (n - i) (omega arith) e in
      let fj = along j (n - j) (omega arith) e in
      let z = one-length fi (subst (λ (y : ℕ). Exactly link (n - j) y) (sym q) fj) in
      omega arith)

  -- A walk that ends, ends within S links.
  pub ends-within-nodes : WalksEnd link → (x : ℕ) → EndsWithin link S x
  ends-within-nodes E x =
      elim (less? x S) [
        | inr l ↦ stops (B.outside x l)
        | inl l ↦
            let r = exact (E x).1 in
            ends-later S (omega (arith, exactly-few l r.1)) (exact-ends r.1)
      ]
