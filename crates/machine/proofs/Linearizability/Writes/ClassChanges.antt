-- The ghost state after a cut, a splice and a take: per node, what the class afterwards says of the one before.
use mathlib.Core.Path.{◌≡◌, refl, ap, ◌∙◌}
use mathlib.Core.Logic.{◌≢◌}
use mathlib.Core.Bool.{Bool, true, false}
use Prim.Native.Nat.{ℕ, suc, ◌+◌, ◌-◌, ◌≤◌, ◌<◌}
use native.Mathlib.Omega.{arith}
use Rattle.machine.specs.Choice.{◌≟◌, ◌<?◌, ◌≤?◌, if?◌then◌else◌}
use Rattle.machine.specs.Sides.{Side}
use Rattle.machine.proofs.Basics.Contradiction.{clash, refute}
use Rattle.machine.proofs.Basics.Choices.{if_no, if_yes}
use Rattle.machine.proofs.Linearizability.Model.Classes.{Class, free, main, spur, new}

-- ---- A cut of lane ℓ on side s: the nodes of its main beyond index i go to spur s.
pub data Cut (ℓ : ℕ) (s : Side) (class : ℕ → Class) (index : ℕ → ℕ) (i : ℕ) (class' : ℕ → Class) (x : ℕ) : Type 0 where
  goes-to-spur : class x ≡ main ℓ → i < index x → class' x ≡ spur s → Cut ℓ s class index i class' x
  not-cut : (class x ≡ main ℓ → index x ≤ i) → class' x ≡ class x → Cut ℓ s class index i class' x

cut_one : (ℓ : ℕ) → Side → {i p : ℕ} → Dec (i < p) → ((l : ℕ) → Dec (l ≡ ℓ)) → Class → Class
cut_one ℓ s d own free = free
cut_one ℓ s d own (main l) = if?◌then◌else◌ (own l) (if?◌then◌else◌ d (spur s) (main l)) (main l)
cut_one ℓ s d own (spur z) = spur z
cut_one ℓ s d own (new j) = new j

pub cut_class : (ℓ : ℕ) → Side → (ℕ → Class) → (ℕ → ℕ) → ℕ → ℕ → Class
cut_class ℓ s class index i x = cut_one ℓ s (i <? index x) (λ l. l ≟ ℓ) (class x)

pub cut_class-cut : (ℓ : ℕ) (s : Side) (class : ℕ → Class) (index : ℕ → ℕ) (i x : ℕ)
    → Cut ℓ s class index i (cut_class ℓ s class index i) x
unfolding cut_class cut_one
cut_class-cut ℓ s class index i x = go (class x) refl
  where
    of-main : (l : ℕ)
        → class x ≡ main l
        → (c : Dec (l ≡ ℓ))
        → (l ≟ ℓ) ≡ c
        → (d : Dec (i < index x))
        → (i <? index x) ≡ d
        → Cut ℓ s class index i (cut_class ℓ s class index i) x
    of-main l e (yes h) p (yes k) q = goes-to-spur (cc) k (cc)
    of-main l e (yes h) p (no k) q = not-cut (λ m. omega arith) (cc)
    of-main l e (no h) p d q = not-cut (λ m. absurd (h (cc))) (cc)

    go : (c : Class) → class x ≡ c → Cut ℓ s class index i (cut_class ℓ s class index i) x
    go free e = not-cut (λ m. clash (cc)) (cc)
    go (main l) e = of-main l e (l ≟ ℓ) refl (i <? index x) refl
    go (spur z) e = not-cut (λ m. clash (cc)) (cc)
    go (new j) e = not-cut (λ m. clash (cc)) (cc)

-- ---- A splice: the chain of task k joins the class c.
pub data Joined (k : ℕ) (c : Class) (class class' : ℕ → Class) (x : ℕ) : Type 0 where
  joins : class x ≡ new k → class' x ≡ c → Joined k c class class' x
  not-joined : class x ≢ new k → class' x ≡ class x → Joined k c class class' x

join_one : Class → Class → (k : ℕ) → ((j : ℕ) → Dec (j ≡ k)) → Class
join_one free c k d = free
join_one (main l) c k d = main l
join_one (spur z) c k d = spur z
join_one (new j) c k d = if?◌then◌else◌ (d j) c (new j)

pub joined_class : ℕ → Class → (ℕ → Class) → ℕ → Class
joined_class k c class x = join_one (class x) c k (λ j. j ≟ k)

pub joined_class-joined : (k : ℕ) (c : Class) (class : ℕ → Class) (x : ℕ)
    → Joined k c class (joined_class k c class) x
unfolding joined_class join_one
joined_class-joined k c class x = go (class x) refl
  where
    by_number : (j : ℕ)
        → class x ≡ new j
        → (d : Dec (j ≡ k))
        → (j ≟ k) ≡ d
        → Joined k c class (joined_class k c class) x
    by_number j e (yes h) q = joins (cc) (cc)
    by_number j e (no h) q = not-joined (λ f. h (cc)) (cc)

    go : (u : Class) → class x ≡ u → Joined k c class (joined_class k c class) x
    go free e = not-joined (λ h. refute (cc)) (cc)
    go (main l) e = not-joined (λ h. refute (cc)) (cc)
    go (spur z) e = not-joined (λ h. refute (cc)) (cc)
    go (new j) e = by_number j e (j ≟ k) refl

-- at' is at up to n and the chain from n + 1 on; index' is its inverse.
pub record Extended (ℓ k : ℕ) (class : ℕ → Class) (at index : ℕ → ℕ) (n : ℕ) (node place : ℕ → ℕ) (at' index' : ℕ → ℕ)
    : Type 0 where
  pub before : (i : ℕ) → i ≤ n → at' i ≡ at i
  pub behind : (i j : ℕ) → i ≡ suc (n + j) → at' i ≡ node j
  pub index-main : (x : ℕ) → class x ≡ main ℓ → index' x ≡ index x
  pub index-new : (x : ℕ) → class x ≡ new k → index' x ≡ suc (n + place x)

pub extended_at : (ℕ → ℕ) → ℕ → (ℕ → ℕ) → ℕ → ℕ
extended_at at n node i = if? i ≤? n then at i else node (i - suc n)

index_one : Class → ℕ → ℕ → ℕ
index_one free p q = p
index_one (main l) p q = p
index_one (spur z) p q = p
index_one (new j) p q = q

pub extended_index : (ℕ → Class) → (ℕ → ℕ) → ℕ → (ℕ → ℕ) → ℕ → ℕ
extended_index class index n place x = index_one (class x) (index x) (suc (n + place x))

pub extended : (ℓ k : ℕ) (class : ℕ → Class) (at index : ℕ → ℕ) (n : ℕ) (node place : ℕ → ℕ)
    → Extended ℓ k class at index n node place (extended_at at n node) (extended_index class index n place)
unfolding extended_at extended_index index_one
extended ℓ k class at index n node place =
    record {
      before = λ i h. if_yes (i ≤? n) (at i) (node (i - suc n)) h;
      behind =
          λ i j e. let z : i - suc n ≡ j = omega arith in
          if_no (i ≤? n) (at i) (node (i - suc n)) (λ h. absurd (omega arith)) ∙ ap node z;
      index-main = λ x h. cc;
      index-new = λ x h. cc;
    }

-- ---- A take of f by task k: f becomes new, and the spur nodes that are not held lose their class.
pub data Taken (k : ℕ) (held : ℕ → Bool) (f : ℕ) (class class' : ℕ → Class) (x : ℕ) : Type 0 where
  is-taken : x ≡ f → class' x ≡ new k → Taken k held f class class' x
  dropped : x ≢ f → (z : Side) → class x ≡ spur z → held x ≡ false → class' x ≡ free → Taken k held f class class' x
  not-dropped : x ≢ f
      → ((z : Side) → class x ≡ spur z → held x ≡ true)
      → class' x ≡ class x
      → Taken k held f class class' x

drop_one : Bool → Class → Class
drop_one h free = free
drop_one h (main l) = main l
drop_one true (spur z) = spur z
drop_one false (spur z) = free
drop_one h (new j) = new j

pub taken_class : ℕ → (ℕ → Bool) → ℕ → (ℕ → Class) → ℕ → Class
taken_class k held f class x = if? x ≟ f then new k else drop_one (held x) (class x)

pub taken_class-taken : (k : ℕ) (held : ℕ → Bool) (f : ℕ) (class : ℕ → Class) (x : ℕ)
    → Taken k held f class (taken_class k held f class) x
unfolding taken_class drop_one
taken_class-taken k held f class x = go (x ≟ f) refl (held x) refl (class x) refl
  where
    go : (d : Dec (x ≡ f))
        → (x ≟ f) ≡ d
        → (h : Bool)
        → held x ≡ h
        → (c : Class)
        → class x ≡ c
        → Taken k held f class (taken_class k held f class) x
    go (yes e) q h p c u = is-taken e (cc)
    go (no e) q h p free u = not-dropped e (λ z c. clash (cc)) (cc)
    go (no e) q h p (main l) u = not-dropped e (λ z c. clash (cc)) (cc)
    go (no e) q true p (spur z) u = not-dropped e (λ y c. p) (cc)
    go (no e) q false p (spur z) u = dropped e z u p (cc)
    go (no e) q h p (new j) u = not-dropped e (λ z c. clash (cc)) (cc)
