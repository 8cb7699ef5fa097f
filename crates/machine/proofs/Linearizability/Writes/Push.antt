-- Line 5: a bag is written to the hat's node, and the hat moves outward.
use mathlib.Core.Path.{◌≡◌, ap, sym, ◌∙◌}
use mathlib.Core.Logic.{◌≢◌, ◌⊎◌, inl, inr}
use Prim.Native.Nat.{ℕ, suc, ◌-◌, ◌≤◌, ◌<◌}
use native.Mathlib.Omega.{arith}
use Rattle.machine.specs.Sides.{Side}
use Rattle.machine.specs.Values.{Value, bag, N}
use Rattle.machine.proofs.Basics.Contradiction.{clash, equal?}
use Rattle.machine.proofs.Basics.Updates.{update, update_hat, update_hat-same, Wrote, update-wrote}
use Rattle.machine.proofs.Words.Memories.{View}
use Rattle.machine.proofs.Linearizability.Model.Sides.{update_hat-far}
use Rattle.machine.proofs.Linearizability.Model.Classes.{Class, main}
use Rattle.machine.proofs.Linearizability.Model.Structure.{CutFrom, Follows, Frame, MainValues, Structure}
use Rattle.machine.proofs.Linearizability.Model.Nodes.{at-apart, N-before-n}
use Rattle.machine.proofs.Linearizability.Writes.MainWrites.{cut-from-kept, spur-kept}

-- The bag v at the near hat's index, and the hat one further.
abbrev pushed_frame : Frame → (v : ℕ) → Frame
pushed_frame F v =
    record { at = F.at; index = F.index; n = F.n; a = F.a; b = suc F.b; bags = update F.bags F.b v }

module _ {ℓ : ℕ} {s o : Side} {m : View} {class : ℕ → Class} {F : Frame} (S : Structure ℓ s o m class F)
    {A : ℕ} (hat-A : m.hats ℓ s ≡ A) (A-N : m.val A ≡ N s) where
  open m use {out, inn, val, hats}
  open F use {at, n, b, bags}

  -- A hat with N s is not cut off.
  A-at-b : A ≡ at b
  A-at-b = elim (S.near-hat (b - 1) (omega arith)) [ inl h ↦ cc | inr y ↦ clash (cc) ]

  pub push-main : class A ≡ main ℓ
  push-main = cc (A-at-b, S.main_list.is-main b S.b≤n)

  b<n : b < n
  b<n = N-before-n S b S.b≤n (cc (A-at-b))

  module _ {B v : ℕ} {val' : ℕ → Value} (wrote : Wrote val A (bag v) val')
      (follows : Follows s out inn val class A B) where
    kept_at : (i : ℕ) → i ≤ n → i ≢ b → val' (at i) ≡ val (at i)
    kept_at i h ne = wrote.elsewhere (at i) (λ e. at-apart S i b h S.b≤n ne (cc (A-at-b)))

    push-values : MainValues s o val' (pushed_frame F v)
    push-values =
        let l = b<n in
        let wrote-bag = update-wrote bags b v in
        record {
          X-first = kept_at 0 (omega arith) (omega (arith, S.a<b)) ∙ S.values.X-first;
          N-far = λ i h k. kept_at i (omega (arith, S.a<b)) (omega (arith, S.a<b)) ∙ S.values.N-far i h k;
          bag-between =
              λ i h k. elim (equal? i b) [
                | inl e ↦ cc (A-at-b, wrote.here, wrote-bag.here)
                | inr e ↦
                    kept_at i (omega arith) e
                    ∙ S.values.bag-between i h (omega arith)
                    ∙ ap bag (sym (wrote-bag.elsewhere i e))
              ];
          N-near = λ i h k. kept_at i (omega arith) (omega arith) ∙ S.values.N-near i (omega arith) k;
          X-last = kept_at n (omega arith) (omega arith) ∙ S.values.X-last;
        }

    -- The hat's new place: the next of main, or a node cut off behind A.
    push-hat : (j : ℕ) → suc j ≡ suc b → (B ≡ at (suc b)) ⊎ CutFrom s inn val' class B (at j)
    push-hat j e =
        elim (follows ℓ push-main) [
          | inl h ↦ inl (cc (A-at-b, S.links.links-out b b<n))
          | inr y ↦
              let z : j ≡ b = omega arith in
              let k : A ≡ at j = cc (A-at-b) in
              inr (rw (← k) (cut-from-kept wrote push-main y))
        ]

    pub push-keeps : Structure ℓ s o (record { out = out; inn = inn; val = val'; hats = update_hat hats ℓ s B }) class
        (pushed_frame F v)
    push-keeps =
        record {
          sides = S.sides;
          none_free = S.none_free;
          a<b = omega (arith, S.a<b);
          b≤n = b<n;
          main_list = S.main_list;
          values = push-values;
          links = S.links;
          last_out = elim S.last_out [ inl h ↦ inl h | inr y ↦ inr (cut-from-kept wrote push-main y) ];
          first-in = elim S.first-in [ inl h ↦ inl h | inr y ↦ inr (cut-from-kept wrote push-main y) ];
          near-hat = rw (update_hat-same hats ℓ s B) push-hat;
          far-hat =
              rw (update_hat-far hats ℓ s o B S.sides)
              (elim S.far-hat [ inl h ↦ inl h | inr y ↦ inr (cut-from-kept wrote push-main y) ]);
          near-spur = spur-kept wrote push-main S.near-spur;
          far_spur = spur-kept wrote push-main S.far_spur;
        }
