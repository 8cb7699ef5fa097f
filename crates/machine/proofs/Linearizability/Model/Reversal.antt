-- The structure seen from the other side: all the symmetry there is to prove.
use mathlib.Core.Path.{◌≡◌, ◌∙◌}
use Prim.Native.Nat.{ℕ, suc, ◌-◌}
use native.Mathlib.Omega.{arith}
use Rattle.machine.specs.Sides.{Side}
use Rattle.machine.proofs.Words.Memories.{View, swapped}
use Rattle.machine.proofs.Linearizability.Model.Sides.{opposite-exchanged}
use Rattle.machine.proofs.Linearizability.Model.Classes.{Class}
use Rattle.machine.proofs.Linearizability.Model.Structure.{Main, Frame, MainValues, Linked, Structure}

-- The same places counted from the other end.
abbrev pub reversed_frame : Frame → Frame
reversed_frame F =
    record {
      at = λ i. F.at (F.n - i);
      index = λ x. F.n - F.index x;
      n = F.n;
      a = F.n - F.b;
      b = F.n - F.a;
      bags = λ i. F.bags (F.n - i);
    }

module _ {ℓ : ℕ} {s o : Side} {m : View} {class : ℕ → Class} {F : Frame} (S : Structure ℓ s o m class F) where
  open m use {out, inn, val}
  open F use {at, index, n, a, b}

  at-equal : (i j : ℕ) → i ≡ j → at i ≡ at j
  at-equal i j e = cc

  main-reversed : Main ℓ class (λ i. at (n - i)) (λ x. n - index x) n
  main-reversed =
      record {
        is-main = λ i h. S.main_list.is-main (n - i) (omega arith);
        index_at = λ i h. let e = S.main_list.index_at (n - i) (omega arith) in omega arith;
        index-le = λ x h. omega arith;
        at-index =
            λ x h. let l = S.main_list.index-le x h in
            at-equal (n - (n - index x)) (index x) (omega arith) ∙ S.main_list.at-index x h;
      }

  links-reversed : Linked inn out (λ i. at (n - i)) n
  links-reversed =
      record {
        links-out =
            λ i h. let j : ℕ = n - suc i in let e : n - i ≡ suc j = omega arith in
            cc (S.links.links-in j (omega arith));
        links-in =
            λ i h. let j : ℕ = n - suc i in let e : n - i ≡ suc j = omega arith in
            cc (S.links.links-out j (omega arith));
      }

  n-0 : n - 0 ≡ n
  n-0 = omega arith

  n-n : n - n ≡ 0
  n-n = omega arith

  n-n-a : n - (n - a) ≡ a
  n-n-a = omega (arith, S.a<b, S.b≤n)

  n-n-b : n - (n - b) ≡ b
  n-n-b = omega (arith, S.b≤n)

  values-reversed : MainValues o s val (reversed_frame F)
  values-reversed =
      record {
        X-first = rw (reversed_frame, n-0) S.values.X-last;
        N-far = λ i h k. S.values.N-near (n - i) (omega (arith, S.b≤n)) (omega arith);
        bag-between =
            λ i h k. S.values.bag-between (n - i) (omega (arith, S.b≤n)) (omega (arith, S.b≤n));
        N-near = λ i h k. S.values.N-far (n - i) (omega arith) (omega (arith, S.a<b, S.b≤n));
        X-last = rw (reversed_frame, n-n) S.values.X-first;
      }

  pub reversed : Structure ℓ o s (swapped m) class (reversed_frame F)
  reversed =
      record {
        sides = opposite-exchanged S.sides;
        none_free = S.none_free;
        a<b = omega (arith, S.a<b, S.b≤n);
        b≤n = omega arith;
        main_list = main-reversed;
        values = values-reversed;
        links = links-reversed;
        last_out = rw (reversed_frame, n-n) S.first-in;
        first-in = rw (reversed_frame, n-0) S.last_out;
        near-hat =
            λ j e. let z : n - j ≡ suc a = omega (arith, S.a<b, S.b≤n) in
            rw (reversed_frame, n-n-a, z) S.far-hat;
        far-hat = rw (reversed_frame, n-n-b) (S.near-hat (n - suc (n - b)) (omega (arith, S.a<b, S.b≤n)));
        near-spur = S.far_spur;
        far_spur = S.near-spur;
      }
