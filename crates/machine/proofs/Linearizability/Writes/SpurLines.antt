-- The writes of lines 25 and 62 in a spur, and of 64, 78, 79 and 82, as spur steps.
use mathlib.Core.Path.{◌≡◌, refl, ◌∙◌}
use mathlib.Core.Logic.{◌≢◌, ◌⊎◌, inl, inr}
use Prim.Native.Nat.{ℕ, suc, ◌-◌, ◌≤◌}
use native.Mathlib.Omega.{arith}
use Rattle.machine.specs.Sides.{Side}
use Rattle.machine.specs.Values.{Value, N, X, Y}
use Rattle.machine.specs.Tasks.{no_node}
use Rattle.machine.proofs.Basics.Contradiction.{clash, less?, refute}
use Rattle.machine.proofs.Basics.Updates.{Wrote, it-is, it-is-not, wrote?}
use Rattle.machine.proofs.Words.Memories.{View}
use Rattle.machine.proofs.Linearizability.Model.Classes.{
  Class,
  main,
  spur,
  new,
  Old,
  in-main,
  in_near,
  in-far,
  old-class,
  of,
  owner,
}
use Rattle.machine.proofs.Linearizability.Writes.ClassChanges.{Joined, joins, not-joined}
use Rattle.machine.proofs.Linearizability.Model.Structure.{Frame, Spur, Structure}
use Rattle.machine.proofs.Linearizability.Model.Chain.{Chain}
use Rattle.machine.proofs.Linearizability.Writes.MainWrites.{value-chains-kept, out-chains-kept}
use Rattle.machine.proofs.Linearizability.Writes.Joined.{old-same, new-joins, joined-chains}
use Rattle.machine.proofs.Linearizability.Writes.Spur.{SpurClasses, SpurStep}

module _ {ℓ : ℕ} {s o : Side} {m : View} {class : ℕ → Class} {F : Frame} (S : Structure ℓ s o m class F) (k : ℕ) where
  open m use {out, inn, val}
  open F use {at, index, n}

  same-classes : SpurClasses o class class
  same-classes =
      record {
        main-stays = λ x l h. h;
        was-main = λ x l h. h;
        spur-stays = λ x z h. h;
        was-far-spur = λ x h. h;
        none_free = S.none_free;
      }

  -- Line 62 with A in the spur.
  pub spur-cut : {A B : ℕ} {val₁ val' : ℕ → Value}
      → Wrote val A (X s) val₁
      → Wrote val₁ B (Y s) val'
      → class A ≡ spur s
      → class B ≡ spur s
      → val A ≢ Y s
      → SpurStep k s o out inn val class out val' class
  spur-cut {A} {B} wrote-X wrote-Y A-spur B-spur A-not-Y =
      record {
        classes = same-classes;
        main-value =
            λ x l h. wrote-Y.elsewhere x (λ e. refute (cc)) ∙ wrote-X.elsewhere x (λ e. refute (cc));
        far-value =
            λ x h. wrote-Y.elsewhere x (λ e. refute (cc)) ∙ wrote-X.elsewhere x (λ e. refute (cc));
        Y-stays =
            λ x h y. elim (wrote? wrote-Y x) [
              | it-is e v ↦ v
              | it-is-not e v ↦
                  elim (wrote? wrote-X x) [ it-is f u ↦ absurd (A-not-Y (cc)) | it-is-not f u ↦ cc ]
            ];
        main-outward = λ x l h. inl refl;
        far-outward = λ x h. refl;
        near-spur =
            record {
              own-mark =
                  λ x h. elim (wrote? wrote-Y x) [
                    | it-is e v ↦ cc
                    | it-is-not e v ↦
                        elim (wrote? wrote-X x) [ it-is f u ↦ cc | it-is-not f u ↦ cc (S.near-spur.own-mark x h) ]
                  ];
              inward-old = S.near-spur.inward-old;
              outward-spur = S.near-spur.outward-spur;
            };
        chains =
            record {
              stays-new = λ x j _ h. h;
              same-words =
                  λ x j _ h. record {
                    same_out = refl;
                    same-inn = refl;
                    same-val = wrote-Y.elsewhere x (λ e. refute (cc)) ∙ wrote-X.elsewhere x (λ e. refute (cc));
                  };
              was-new = λ x j _ h. h;
            };
      }

  -- Line 78.
  pub spur-mark-Y : {B : ℕ} {val' : ℕ → Value}
      → Wrote val B (Y s) val'
      → class B ≡ spur s
      → SpurStep k s o out inn val class out val' class
  spur-mark-Y {B} wrote B-spur =
      record {
        classes = same-classes;
        main-value = λ x l h. wrote.elsewhere x (λ e. refute (cc));
        far-value = λ x h. wrote.elsewhere x (λ e. refute (cc));
        Y-stays = λ x h y. elim (wrote? wrote x) [ it-is e v ↦ v | it-is-not e v ↦ cc ];
        main-outward = λ x l h. inl refl;
        far-outward = λ x h. refl;
        near-spur =
            record {
              own-mark =
                  λ x h. elim (wrote? wrote x) [ it-is e v ↦ cc | it-is-not e v ↦ cc (S.near-spur.own-mark x h) ];
              inward-old = S.near-spur.inward-old;
              outward-spur = S.near-spur.outward-spur;
            };
        chains = value-chains-kept k wrote (cc);
      }

  -- An outward link of the spur made none keeps the spur's clauses.
  unlinked-spur : {A : ℕ} {out' : ℕ → ℕ} → Wrote out A no_node out' → Spur s out' inn val class
  unlinked-spur wrote =
      record {
        own-mark = S.near-spur.own-mark;
        inward-old = S.near-spur.inward-old;
        outward-spur =
            λ x h. elim (wrote? wrote x) [
              | it-is e v ↦ inl v
              | it-is-not e v ↦ elim (S.near-spur.outward-spur x h) [ inl f ↦ inl (cc) | inr f ↦ inr (cc) ]
            ];
      }

  -- Lines 79 and 82, and 64 with A in the spur.
  pub spur-unlink : {A : ℕ} {out' : ℕ → ℕ}
      → Wrote out A no_node out'
      → class A ≡ spur s
      → SpurStep k s o out inn val class out' val class
  spur-unlink {A} wrote A-spur =
      record {
        classes = same-classes;
        main-value = λ x l h. refl;
        far-value = λ x h. refl;
        Y-stays = λ x h y. y;
        main-outward = λ x l h. inl (wrote.elsewhere x (λ e. refute (cc)));
        far-outward = λ x h. wrote.elsewhere x (λ e. refute (cc));
        near-spur = unlinked-spur wrote;
        chains = out-chains-kept k wrote (cc);
      }

  -- Line 64 with A in main, of any lane.
  main-unlink : {A B j : ℕ} {out' : ℕ → ℕ}
      → Wrote out A no_node out'
      → class B ≡ spur s
      → out A ≡ B
      → class A ≡ main j
      → SpurStep k s o out inn val class out' val class
  main-unlink {A} {B} wrote B-spur out-A A-main =
      record {
        classes = same-classes;
        main-value = λ x l h. refl;
        far-value = λ x h. refl;
        Y-stays = λ x h y. y;
        main-outward = λ x l h. elim (wrote? wrote x) [ it-is f v ↦ inr (cc, v) | it-is-not f v ↦ inl v ];
        far-outward = λ x h. wrote.elsewhere x (λ f. refute (cc));
        near-spur = unlinked-spur wrote;
        chains = out-chains-kept k wrote (cc);
      }

  -- Line 64: A is not in the far spur.
  pub unlink : {A B : ℕ} {out' : ℕ → ℕ}
      → Wrote out A no_node out'
      → class B ≡ spur s
      → out A ≡ B
      → Old class A
      → class A ≢ spur o
      → SpurStep k s o out inn val class out' val class
  unlink {A} wrote B-spur out-A A-old not-far =
      elim (old-class S.sides (class A) A-old) [
        | in-main j c ↦ main-unlink wrote B-spur out-A c
        | in_near c ↦ spur-unlink wrote c
        | in-far c ↦ absurd (not-far c)
      ]

  -- Line 25 with A in the spur: the chain joins the spur.
  module _ {node place : ℕ → ℕ} {last : ℕ} (C : Chain s k out inn val class node place last)
      {A : ℕ} {out' : ℕ → ℕ} (wrote-out : Wrote out A (node 0) out')
      {val' : ℕ → Value} (wrote-val : Wrote val A (N s) val')
      (A-X : val A ≡ X s) (head_in : inn (node 0) ≡ A)
      {class' : ℕ → Class} (join : (x : ℕ) → Joined k (spur s) class class' x) (A-spur : class A ≡ spur s) where
    join-classes : SpurClasses o class class'
    join-classes =
        record {
          main-stays = λ x l h. cc (old-same join x (cc));
          was-main = λ x l h. elim (join x) [ joins p e ↦ clash (cc) | not-joined p e ↦ cc ];
          spur-stays = λ x z h. cc (old-same join x (cc));
          was-far-spur = λ x h. elim (join x) [ joins p e ↦ clash (cc) | not-joined p e ↦ cc ];
          none_free =
              elim (join no_node) [ joins p e ↦ clash (cc S.none_free) | not-joined p e ↦ cc S.none_free ];
        }

    joined_at : (j : ℕ) → j ≤ last → class' (node j) ≡ spur s
    joined_at j h = new-joins join (node j) (C.is_new j h)

    -- The clauses of the spur for a node of the chain.
    chain-mark : (x : ℕ) → class x ≡ new k → owner (val' x) ≡ of s
    chain-mark x h =
        let v = wrote-val.elsewhere x (λ f. refute (cc)) in
        let e = C.node-place x h in
        let l = C.place-le x h in
        elim (less? (place x) last) [
          | inl p ↦ cc (C.N-before (place x) p)
          | inr p ↦ let z : place x ≡ last = omega arith in cc C.X-last
        ]

    chain-inward : (x : ℕ) → class x ≡ new k → Old class' (inn x)
    chain-inward x h =
        let e = C.node-place x h in
        let l = C.place-le x h in
        elim (less? 0 (place x)) [
          | inl p ↦
              let j : ℕ = place x - 1 in
              let q : suc j ≡ place x = omega arith in
              cc (C.links.links-in j (omega arith), joined_at j (omega arith))
          | inr p ↦ let z : place x ≡ 0 = omega arith in cc (join-classes.spur-stays A s A-spur)
        ]

    chain-outward : (x : ℕ) → class x ≡ new k → (out' x ≡ no_node) ⊎ (class' (out' x) ≡ spur s)
    chain-outward x h =
        let f = wrote-out.elsewhere x (λ f. refute (cc)) in
        let e = C.node-place x h in
        let l = C.place-le x h in
        elim (less? (place x) last) [
          | inl p ↦ inr (cc (C.links.links-out (place x) p, joined_at (suc (place x)) p))
          | inr p ↦ let z : place x ≡ last = omega arith in inl (cc C.last_out)
        ]

    joined-spur : Spur s out' inn val' class'
    joined-spur =
        record {
          own-mark =
              λ x h. elim (join x) [
                | joins p e ↦ chain-mark x p
                | not-joined p e ↦
                    let d : class x ≡ spur s = cc in
                    elim (wrote? wrote-val x) [ it-is f v ↦ cc | it-is-not f v ↦ cc (S.near-spur.own-mark x d) ]
              ];
          inward-old =
              λ x h. elim (join x) [
                | joins p e ↦ chain-inward x p
                | not-joined p e ↦
                    let i = S.near-spur.inward-old x (cc) in cc (old-same join (inn x) i)
              ];
          outward-spur =
              λ x h. elim (join x) [
                | joins p e ↦ chain-outward x p
                | not-joined p e ↦
                    let d : class x ≡ spur s = cc in
                    elim (wrote? wrote-out x) [
                      | it-is f v ↦ inr (cc (joined_at 0 (omega arith)))
                      | it-is-not f v ↦
                          elim (S.near-spur.outward-spur x d) [
                            | inl g ↦ inl (cc)
                            | inr g ↦ inr (cc (join-classes.spur-stays _ _ g))
                          ]
                    ]
              ];
        }

    pub spur-splice : SpurStep k s o out inn val class out' val' class'
    spur-splice =
        record {
          classes = join-classes;
          main-value = λ x l h. wrote-val.elsewhere x (λ e. refute (cc));
          far-value = λ x h. wrote-val.elsewhere x (λ e. refute (cc));
          Y-stays = λ x h y. wrote-val.elsewhere x (λ e. refute (cc)) ∙ y;
          main-outward = λ x l h. inl (wrote-out.elsewhere x (λ e. refute (cc)));
          far-outward = λ x h. wrote-out.elsewhere x (λ e. refute (cc));
          near-spur = joined-spur;
          chains = joined-chains join refl wrote-out wrote-val (cc);
        }
