-- What a task finds that begins at its hat while no other task ticks: the end of main, the node behind a Y, the node
-- to pop.
use mathlib.Core.Path.{◌≡◌}
use mathlib.Core.Logic.{◌≢◌, ◌⊎◌, inl, inr}
use Prim.Native.Nat.{ℕ, suc, ◌+◌, ◌-◌, ◌≤◌, ◌<◌}
use native.Mathlib.Omega.{arith}
use Rattle.machine.specs.Sides.{Side}
use Rattle.machine.specs.Values.{Value, bag, N, X, Y}
use Rattle.machine.specs.Tasks.{no_node}
use Rattle.machine.proofs.Basics.Contradiction.{clash, less?, refute}
use Rattle.machine.proofs.Words.Memories.{View}
use Rattle.machine.proofs.Linearizability.Model.Classes.{Class}
use Rattle.machine.proofs.Linearizability.Model.Structure.{Frame, Structure}
use Rattle.machine.proofs.Linearizability.Model.Nodes.{
  first,
  far-zone,
  row-zone,
  near-zone,
  last,
  zone-at,
  at_some,
  N-before-n,
}

-- x is i links outward of the hat, through Ns.
pub data Path (s : Side) (out : ℕ → ℕ) (val : ℕ → Value) (hat : ℕ) : (i x : ℕ) → Type 0 where
  at-hat : {x : ℕ} → hat ≡ x → val hat ≢ Y s → Path s out val hat 0 x
  on-path : {i x y : ℕ} → Path s out val hat i x → val x ≡ N s → out x ≡ y → Path s out val hat (suc i) y

-- The three values that the hat's node may have.
pub data HatValue (s : Side) (v : Value) : Type 0 where
  hat-N : v ≡ N s → HatValue s v
  hat-X : v ≡ X s → HatValue s v
  hat-Y : v ≡ Y s → HatValue s v

-- The values of the node inward of the hat.
pub data Popped (o : Side) (v : Value) : Type 0 where
  a-bag : (u : ℕ) → v ≡ bag u → Popped o v
  far-N : v ≡ N o → Popped o v
  far-X : v ≡ X o → Popped o v

-- The hat's node holds N, or the path ends at the hat.
pub path-ready : {s : Side} {out : ℕ → ℕ} {val : ℕ → Value} {hat i x : ℕ} → Path s out val hat i x
    → (val hat ≡ N s) ⊎ (hat ≡ x)
path-ready (at-hat e ne) = inr e
path-ready (on-path P v q) = inl (elim (path-ready P) [ inl u ↦ u | inr e ↦ cc ])

module _ {ℓ : ℕ} {s o : Side} {m : View} {class : ℕ → Class} {F : Frame} (S : Structure ℓ s o m class F) where
  open m use {out, inn, val, hats}
  open F use {at, n, b}

  pub j : ℕ
  j = b - 1

  pub j-next : suc j ≡ b
  unfolding j
  j-next = omega (arith, S.a<b)

  b-value : (val (at b) ≡ N s) ⊎ (val (at b) ≡ X s)
  b-value =
      elim (less? b n) [
        | inl l ↦ inl (S.values.N-near b (omega arith) l)
        | inr l ↦ let e : b ≡ n = omega (arith, S.b≤n) in inr (cc S.values.X-last)
      ]

  pub hat-value : HatValue s (val (hats ℓ s))
  hat-value =
      elim (S.near-hat j j-next) [
        | inl e ↦ elim b-value [ inl v ↦ hat-N (cc) | inr v ↦ hat-X (cc) ]
        | inr y ↦ hat-Y y.is-Y
      ]

  -- A hat off Y is at its index.
  pub hat-at : val (hats ℓ s) ≢ Y s → hats ℓ s ≡ at b
  hat-at ne = elim (S.near-hat j j-next) [ inl e ↦ e | inr y ↦ absurd (ne y.is-Y) ]

  pub hat-leads : val (hats ℓ s) ≡ N s → out (hats ℓ s) ≢ no_node
  hat-leads v =
      let e = hat-at (λ y. refute (cc)) in
      elim (less? b n) [
        | inl l ↦ λ q. at_some S (suc b) l (cc (S.links.links-out b l))
        | inr l ↦ let z : b ≡ n = omega (arith, S.b≤n) in clash (cc S.values.X-last)
      ]

  -- The path from the hat is main.
  pub path-at : {i x : ℕ} → Path s out val (hats ℓ s) i x → (x ≡ at (b + i)) × (b + i ≤ n)
  path-at (at-hat e ne) =
      let z : b + 0 ≡ b = omega arith in
      let q = hat-at ne in
      (cc, omega (arith, S.b≤n))
  path-at (on-path {i} {x} {y} P v e) =
      let w = path-at P in
      let q = w.0 in
      let l : b + i < n = N-before-n S (b + i) w.1 (cc) in
      let z : b + suc i ≡ suc (b + i) = omega arith in
      (cc (S.links.links-out (b + i) l), omega arith)

  -- A node on the path with N leads on; the hat's node holds N unless the path ends at the hat.
  pub path-leads : {i x : ℕ} → Path s out val (hats ℓ s) i x → val x ≡ N s → out x ≢ no_node
  path-leads {i} {x} P v e =
      let w = path-at P in
      let q = w.0 in
      let l : b + i < n = N-before-n S (b + i) w.1 (cc) in
      at_some S (suc (b + i)) l (cc (S.links.links-out (b + i) l))

  pub path-value : {i x : ℕ} → Path s out val (hats ℓ s) i x → (val x ≡ N s) ⊎ (val x ≡ X s)
  path-value {i} {x} P =
      let w = path-at P in
      let q = w.0 in
      elim (less? (b + i) n) [
        | inl l ↦ inl (cc (S.values.N-near (b + i) (omega arith) l))
        | inr l ↦ let e : b + i ≡ n = omega (arith, w.1) in inr (cc S.values.X-last)
      ]

  pub inn-hat : inn (hats ℓ s) ≡ at j
  inn-hat =
      elim (S.near-hat j j-next) [
        | inl e ↦ let q = j-next in cc (S.links.links-in j (omega (arith, j-next, S.b≤n)))
        | inr y ↦ y.leads-back
      ]

  pub behind-some : inn (hats ℓ s) ≢ no_node
  behind-some e = at_some S j (omega (arith, j-next, S.b≤n)) (cc (inn-hat))

  -- The node that follows the one behind the hat: main's at the hat's index.
  pub past-hat : out (inn (hats ℓ s)) ≡ at b
  past-hat = let q = j-next in cc (inn-hat, S.links.links-out j (omega (arith, j-next, S.b≤n)))

  pub past-some : out (inn (hats ℓ s)) ≢ no_node
  past-some e = at_some S b S.b≤n (cc (past-hat))

  pub past-off-Y : val (out (inn (hats ℓ s))) ≢ Y s
  past-off-Y y = elim b-value [ inl v ↦ refute (cc (past-hat)) | inr v ↦ refute (cc (past-hat)) ]

  pub behind-value : Popped o (val (inn (hats ℓ s)))
  behind-value =
      let l : j < n = omega (arith, j-next, S.b≤n) in
      let e = inn-hat in
      elim (zone-at S j (omega arith)) [
        | first q u ↦ far-X (cc)
        | far-zone p q u ↦ far-N (cc)
        | row-zone w p q u ↦ a-bag w (cc)
        | near-zone p q u ↦ absurd (omega (arith, j-next))
        | last q u ↦ absurd (omega arith)
      ]
