-- What the structure says of single nodes: the value of a main node by its index, and where old nodes lead.
use mathlib.Core.Path.{◌≡◌, subst}
use mathlib.Core.Logic.{◌≢◌, inl, inr}
use Prim.Native.Nat.{ℕ, suc, ◌-◌, ◌≤◌, ◌<◌}
use native.Mathlib.Omega.{arith}
use Rattle.machine.specs.Sides.{Side}
use Rattle.machine.specs.Values.{Value, never, bag, N, X, Y}
use Rattle.machine.specs.Tasks.{no_node}
use Rattle.machine.proofs.Basics.Contradiction.{clash, less?, refute}
use Rattle.machine.proofs.Words.Memories.{View, swapped}
use Rattle.machine.proofs.Linearizability.Model.Classes.{
  Class,
  main,
  spur,
  Old,
  in-main,
  in_near,
  in-far,
  old-class,
  old-not-none,
  of,
  owner,
}
use Rattle.machine.proofs.Linearizability.Model.Structure.{Frame, Structure, InLanes}
use Rattle.machine.proofs.Linearizability.Model.Reversal.{reversed_frame, reversed}

-- The value at index i of main, by the zone that i is in.
pub data Zone (s o : Side) (v : Value) (F : Frame) (i : ℕ) : Type 0 where
  first : i ≡ 0 → v ≡ X o → Zone s o v F i
  far-zone : 0 < i → i ≤ F.a → v ≡ N o → Zone s o v F i
  row-zone : (u : ℕ) → F.a < i → i < F.b → v ≡ bag u → Zone s o v F i
  near-zone : F.b ≤ i → i < F.n → v ≡ N s → Zone s o v F i
  last : i ≡ F.n → v ≡ X s → Zone s o v F i

module _ {ℓ : ℕ} {s o : Side} {m : View} {class : ℕ → Class} {F : Frame} (S : Structure ℓ s o m class F) where
  open m use {out, val, hats}
  open F use {at, index, n, a, b, bags}

  pub at-apart : (i j : ℕ) → i ≤ n → j ≤ n → i ≢ j → at i ≢ at j
  at-apart i j hi hj h = λ e. h (cc (S.main_list.index_at i hi, S.main_list.index_at j hj))

  pub zone-at : (i : ℕ) → i ≤ n → Zone s o (val (at i)) F i
  zone-at i h =
      elim (less? i n) [
        | inr k ↦ let e : i ≡ n = omega arith in last e (cc S.values.X-last)
        | inl k ↦
            elim (less? i b) [
              | inr q ↦ near-zone q k (S.values.N-near i q k)
              | inl q ↦
                  elim (less? a i) [
                    | inl p ↦ row-zone (bags i) p q (S.values.bag-between i p q)
                    | inr p ↦
                        elim (less? 0 i) [
                          | inl z ↦ far-zone z p (S.values.N-far i z p)
                          | inr z ↦ let e : i ≡ 0 = omega arith in first e (cc S.values.X-first)
                        ]
                  ]
            ]
      ]

  pub zone : (x : ℕ) → class x ≡ main ℓ → Zone s o (val x) F (index x)
  zone x c =
      subst (λ (y : ℕ). Zone s o (val y) F (index x)) (S.main_list.at-index x c)
      (zone-at (index x) (S.main_list.index-le x c))

  pub main-not-never : (x : ℕ) → class x ≡ main ℓ → val x ≢ never
  main-not-never x c =
      λ v. elim (zone x c) [
        | first e u ↦ refute (cc)
        | far-zone p q u ↦ refute (cc)
        | row-zone w p q u ↦ refute (cc)
        | near-zone p q u ↦ refute (cc)
        | last e u ↦ refute (cc)
      ]

  -- N s in main stands from b on and before n, X s at n only.
  pub N-from-b : (i : ℕ) → i ≤ n → val (at i) ≡ N s → b ≤ i
  N-from-b i h v =
      elim (zone-at i h) [
        | first e u ↦ clash (cc)
        | far-zone p q u ↦ clash (cc)
        | row-zone w p q u ↦ clash (cc)
        | near-zone p q u ↦ p
        | last e u ↦ clash (cc)
      ]

  pub N-before-n : (i : ℕ) → i ≤ n → val (at i) ≡ N s → i < n
  N-before-n i h v =
      elim (less? i n) [ inl k ↦ k | inr k ↦ let e : i ≡ n = omega arith in clash (cc S.values.X-last) ]

  pub X-at-n : (i : ℕ) → i ≤ n → val (at i) ≡ X s → i ≡ n
  X-at-n i h v =
      elim (zone-at i h) [
        | first e u ↦ clash (cc)
        | far-zone p q u ↦ clash (cc)
        | row-zone w p q u ↦ clash (cc)
        | near-zone p q u ↦ clash (cc)
        | last e u ↦ e
      ]

  -- Only the last node of main leads into the spur.
  pub leads-to-spur : (x : ℕ) → class x ≡ main ℓ → class (out x) ≡ spur s → x ≡ at n
  leads-to-spur x c d =
      let e = S.main_list.at-index x c in
      elim (less? (index x) n) [
        | inl l ↦ clash (cc (S.links.links-out (index x) l, S.main_list.is-main (suc (index x)) l))
        | inr l ↦ let z : index x ≡ n = omega (arith, S.main_list.index-le x c) in cc
      ]

  pub old-some : (x : ℕ) → Old class x → x ≢ no_node
  old-some x h = old-not-none class S.none_free x h

  pub at_some : (i : ℕ) → i ≤ n → at i ≢ no_node
  at_some i h = old-some (at i) (cc (S.main_list.is-main i h))

  pub spur-some : (x : ℕ) {z : Side} → class x ≡ spur z → x ≢ no_node
  spur-some x h = old-some x (cc)

  pub hat-old : Old class (hats ℓ s)
  hat-old =
      elim (S.near-hat (b - 1) (omega (arith, S.a<b))) [
        | inl h ↦ cc (S.main_list.is-main b S.b≤n)
        | inr y ↦ cc y.in-spur
      ]

  pub spur-out : (x : ℕ) → class x ≡ spur s → out x ≢ no_node → class (out x) ≡ spur s
  spur-out x c ne = elim (S.near-spur.outward-spur x c) [ inl f ↦ absurd (ne f) | inr f ↦ f ]

  -- An old node whose mark is of side s is not in spur o.
  pub own-mark-not-far : (x : ℕ) → owner (val x) ≡ of s → class x ≢ spur o
  own-mark-not-far x v c = refute (cc (S.far_spur.own-mark x c))

-- What leads from an old node, and a node with a Y, whatever lane a node of main is in.
module _ {ℓ : ℕ} {s o : Side} {m : View} {class : ℕ → Class} {F : Frame} (S : Structure ℓ s o m class F)
    (every : InLanes s o m class) where
  open m use {out, val}

  main-out-old : {j : ℕ} {G : Frame} → Structure j s o m class G → (x : ℕ) → class x ≡ main j → out x ≢ no_node
      → Old class (out x)
  main-out-old {j} {G} R x c ne =
      let e = R.main_list.at-index x c in
      elim (less? (G.index x) G.n) [
        | inl l ↦ cc (R.links.links-out (G.index x) l, R.main_list.is-main (suc (G.index x)) l)
        | inr l ↦
            let z : G.index x ≡ G.n = omega (arith, R.main_list.index-le x c) in
            elim R.last_out [ inl f ↦ absurd (ne (cc)) | inr y ↦ cc y.in-spur ]
      ]

  pub out-old : (x : ℕ) → Old class x → out x ≢ no_node → Old class (out x)
  out-old x h ne =
      elim (old-class S.sides (class x) h) [
        | in-main j c ↦ main-out-old (every x j c).1 x c ne
        | in_near c ↦ elim (S.near-spur.outward-spur x c) [ inl f ↦ absurd (ne f) | inr f ↦ cc ]
        | in-far c ↦ S.far_spur.inward-old x c
      ]

  -- Main holds no Y, so an old node with Y s is in spur s.
  pub Y-in-spur : (x : ℕ) → Old class x → val x ≡ Y s → class x ≡ spur s
  Y-in-spur x h v =
      elim (old-class S.sides (class x) h) [
        | in-main j c ↦
            elim (zone (every x j c).1 x c) [
              | first e u ↦ clash (cc)
              | far-zone p q u ↦ clash (cc)
              | row-zone w p q u ↦ clash (cc)
              | near-zone p q u ↦ clash (cc)
              | last e u ↦ clash (cc)
            ]
        | in_near c ↦ c
        | in-far c ↦ clash (cc (S.far_spur.own-mark x c))
      ]

-- The same from the other side.
in-lanes-reversed : {s o : Side} {m : View} {class : ℕ → Class} → InLanes s o m class
    → InLanes o s (swapped m) class
in-lanes-reversed every x j c = (reversed_frame (every x j c).0, reversed (every x j c).1)

module _ {ℓ : ℕ} {s o : Side} {m : View} {class : ℕ → Class} {F : Frame} (S : Structure ℓ s o m class F)
    (every : InLanes s o m class) where
  pub inn-old : (x : ℕ) → Old class x → m.inn x ≢ no_node → Old class (m.inn x)
  inn-old = out-old (reversed S) (in-lanes-reversed every)
