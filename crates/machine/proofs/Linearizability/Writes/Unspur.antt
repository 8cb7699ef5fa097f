-- Line 72: the hat moves off a node that was cut off.
use mathlib.Core.Path.{◌≡◌}
use mathlib.Core.Logic.{◌⊎◌, inl, inr}
use Prim.Native.Nat.{ℕ, suc}
use native.Mathlib.Omega.{arith}
use Rattle.machine.specs.Sides.{Side}
use Rattle.machine.specs.Lines.{hat≔}
use Rattle.machine.proofs.Basics.Contradiction.{clash}
use Rattle.machine.proofs.Basics.Updates.{update_hat-same}
use Rattle.machine.proofs.Words.Memories.{View, write}
use Rattle.machine.proofs.Linearizability.Model.Sides.{update_hat-far}
use Rattle.machine.proofs.Linearizability.Model.Classes.{Class, spur}
use Rattle.machine.proofs.Linearizability.Model.Structure.{CutFrom, Follows, Frame, Structure}

module _ {ℓ : ℕ} {s o : Side} {m : View} {class : ℕ → Class} {F : Frame} (S : Structure ℓ s o m class F)
    {A C : ℕ} (hat-A : m.hats ℓ s ≡ A) (A-spur : class A ≡ spur s)
    (follows : Follows s m.out m.inn m.val class (m.inn A) C) where
  open m use {inn, val, hats}
  open F use {at, b}

  -- inn A is just before the hat's index, and C follows it.
  unspur-hat : (j : ℕ) → suc j ≡ b → (C ≡ at b) ⊎ CutFrom s inn val class C (at j)
  unspur-hat j e =
      elim (S.near-hat j e) [
        | inl h ↦ clash (cc (S.main_list.is-main b S.b≤n))
        | inr y ↦
            let i : inn A ≡ at j = cc in
            elim (follows ℓ (cc (S.main_list.is-main j (omega (arith, S.b≤n))))) [
              | inl h ↦ inl (cc (S.links.links-out j (omega (arith, S.b≤n))))
              | inr z ↦ inr (rw (← i) z)
            ]
      ]

  pub unspur-keeps : Structure ℓ s o (write ℓ s (hat≔ C) m) class F
  unspur-keeps =
      record {
        sides = S.sides;
        none_free = S.none_free;
        a<b = S.a<b;
        b≤n = S.b≤n;
        main_list = S.main_list;
        values = S.values;
        links = S.links;
        last_out = S.last_out;
        first-in = S.first-in;
        near-hat = rw (update_hat-same hats ℓ s C) unspur-hat;
        far-hat = rw (update_hat-far hats ℓ s o C S.sides) S.far-hat;
        near-spur = S.near-spur;
        far_spur = S.far_spur;
      }
