-- Lines 48 and 51: what stands inward of the hat is the row's last bag, or the row is empty.
use mathlib.Core.Path.{◌≡◌, ◌∙◌}
use mathlib.Core.Logic.{◌≢◌, ◌⊎◌, inl, inr}
use Prim.Native.Nat.{ℕ, suc, ◌≤◌, ◌<◌}
use native.Mathlib.Omega.{arith}
use Rattle.machine.specs.Sides.{Side}
use Rattle.machine.specs.Values.{Value, bag, N, X, Y}
use Rattle.machine.proofs.Basics.Contradiction.{clash, equal?, less?}
use Rattle.machine.proofs.Basics.Updates.{update_hat, update_hat-same, Wrote}
use Rattle.machine.proofs.Words.Memories.{View}
use Rattle.machine.proofs.Linearizability.Model.Sides.{update_hat-far}
use Rattle.machine.proofs.Linearizability.Model.Classes.{Class, main}
use Rattle.machine.proofs.Linearizability.Model.Structure.{
  linked,
  cut_off,
  Precedes,
  Frame,
  MainValues,
  Structure,
}
use Rattle.machine.proofs.Linearizability.Model.Nodes.{
  first,
  far-zone,
  row-zone,
  near-zone,
  last,
  at-apart,
  zone-at,
}
use Rattle.machine.proofs.Linearizability.Writes.MainWrites.{cut-from-kept, spur-kept}

-- The near hat back at index j.
abbrev pub popped_frame : Frame → (j : ℕ) → Frame
popped_frame F j = record { at = F.at; index = F.index; n = F.n; a = F.a; b = j; bags = F.bags }

module _ {ℓ : ℕ} {s o : Side} {m : View} {class : ℕ → Class} {F : Frame} (S : Structure ℓ s o m class F)
    {A B j : ℕ} (j-before-b : suc j ≡ F.b) (hat-A : m.hats ℓ s ≡ A)
    (precedes : Precedes o m.inn m.val class A B) (B-not-Y : m.val B ≢ Y o) where
  open m use {out, inn, val, hats}
  open F use {at, n, a, b, bags}

  inn-A : inn A ≡ B
  inn-A =
      elim precedes [
        | inl c ↦
            elim (S.near-hat j j-before-b) [
              | inl h ↦ clash (cc (S.main_list.is-main b S.b≤n))
              | inr y ↦ clash (cc)
            ]
        | inr (linked e) ↦ e
        | inr (cut_off c y) ↦ absurd (B-not-Y y)
      ]

  j<n : j < n
  j<n = omega (arith, S.b≤n)

  pop-at : B ≡ at j
  pop-at =
      elim (S.near-hat j j-before-b) [
        | inl h ↦ cc (S.links.links-in j j<n, inn-A)
        | inr y ↦ cc (inn-A)
      ]

  pub pop-main : class B ≡ main ℓ
  pop-main = cc (pop-at, S.main_list.is-main j (omega (arith, j<n)))

  -- N o or X o inward of the hat: there is no bag.
  pub pop-empty : (val B ≡ N o) ⊎ (val B ≡ X o) → b ≡ suc a
  pop-empty v =
      elim (less? a j) [
        | inl h ↦
            let k = S.values.bag-between j h (omega arith) in
            elim v [ inl e ↦ clash (cc (pop-at)) | inr e ↦ clash (cc (pop-at)) ]
        | inr h ↦ omega (arith, S.a<b)
      ]

  module _ {v : ℕ} (B-bag : val B ≡ bag v) where
    pub pop-in-row : a < j
    pop-in-row =
        elim (zone-at S j (omega (arith, j<n))) [
          | first e u ↦ clash (cc (pop-at))
          | far-zone p q u ↦ clash (cc (pop-at))
          | row-zone w p q u ↦ p
          | near-zone p q u ↦ clash (cc (pop-at))
          | last e u ↦ clash (cc (pop-at))
        ]

    pub pop-bag : bags j ≡ v
    pop-bag = cc (pop-at, S.values.bag-between j pop-in-row (omega arith))

    module _ {val' : ℕ → Value} (wrote : Wrote val B (N s) val') where
      kept_at : (i : ℕ) → i ≤ n → i ≢ j → val' (at i) ≡ val (at i)
      kept_at i h ne = wrote.elsewhere (at i) (λ e. at-apart S i j h (omega (arith, j<n)) ne (cc (pop-at)))

      pop-values : MainValues s o val' (popped_frame F j)
      pop-values =
          let l = j<n in
          let p = pop-in-row in
          record {
            X-first = kept_at 0 (omega arith) (omega arith) ∙ S.values.X-first;
            N-far = λ i h k. kept_at i (omega arith) (omega arith) ∙ S.values.N-far i h k;
            bag-between =
                λ i h k. kept_at i (omega arith) (omega arith) ∙ S.values.bag-between i h (omega arith);
            N-near =
                λ i h k. elim (equal? i j) [
                  | inl e ↦ cc (pop-at, wrote.here)
                  | inr e ↦ kept_at i (omega arith) e ∙ S.values.N-near i (omega arith) k
                ];
            X-last = kept_at n (omega arith) (omega arith) ∙ S.values.X-last;
          }

      pub pop-keeps : Structure ℓ s o (record { out = out; inn = inn; val = val'; hats = update_hat hats ℓ s B }) class
          (popped_frame F j)
      pop-keeps =
          record {
            sides = S.sides;
            none_free = S.none_free;
            a<b = pop-in-row;
            b≤n = omega (arith, j<n);
            main_list = S.main_list;
            values = pop-values;
            links = S.links;
            last_out = elim S.last_out [ inl h ↦ inl h | inr y ↦ inr (cut-from-kept wrote pop-main y) ];
            first-in = elim S.first-in [ inl h ↦ inl h | inr y ↦ inr (cut-from-kept wrote pop-main y) ];
            near-hat = λ k e. inl (update_hat-same hats ℓ s B ∙ pop-at);
            far-hat =
                rw (update_hat-far hats ℓ s o B S.sides)
                (elim S.far-hat [ inl h ↦ inl h | inr y ↦ inr (cut-from-kept wrote pop-main y) ]);
            near-spur = spur-kept wrote pop-main S.near-spur;
            far_spur = spur-kept wrote pop-main S.far_spur;
          }
