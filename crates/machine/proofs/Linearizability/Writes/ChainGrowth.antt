-- How a chain comes about: its first node (line 28), one more in front (line 31), and its head's inward link (line 24).
use mathlib.Core.Path.{◌≡◌, refl, ap, sym, ◌∙◌}
use mathlib.Core.Logic.{◌≢◌, inl, inr}
use Prim.Native.Nat.{ℕ, suc, zero, ◌≤◌}
use native.Mathlib.Omega.{arith}
use Rattle.machine.specs.Sides.{Side}
use Rattle.machine.specs.Values.{Value, N, X}
use Rattle.machine.specs.Tasks.{no_node}
use Rattle.machine.proofs.Basics.Contradiction.{refute}
use Rattle.machine.proofs.Basics.Updates.{Wrote, it-is, it-is-not, update, update-wrote, wrote?}
use Rattle.machine.proofs.Linearizability.Model.Classes.{Class, free, new, Old}
use Rattle.machine.proofs.Linearizability.Model.Structure.{Linked}
use Rattle.machine.proofs.Linearizability.Model.Chain.{HasChain}

-- Line 28: f is the only new node.
pub first-node : {k : ℕ} {s : Side} {out inn : ℕ → ℕ} {val : ℕ → Value} {class : ℕ → Class} {f : ℕ}
    → class f ≡ new k
    → ((x : ℕ) → class x ≡ new k → x ≡ f)
    → out f ≡ no_node
    → inn f ≡ no_node
    → val f ≡ X s
    → HasChain k s out inn val class f
first-node {f = f} f-new only-f f-out f-inn f-X =
    record {
      node = λ _. f;
      place = λ _. 0;
      m = 0;
      chain =
          record {
            is_new = λ j h. f-new;
            place-node = λ j h. omega arith;
            place-le = λ x h. omega arith;
            node-place = λ x h. sym (only-f x h);
            N-before = λ j h. absurd (omega arith);
            X-last = f-X;
            links =
                record { links-out = λ j h. absurd (omega arith); links-in = λ j h. absurd (omega arith) };
            last_out = f-out;
            first-in = inl f-inn;
          };
      head = refl;
    }

module _ {k : ℕ} {s : Side} {out inn : ℕ → ℕ} {val : ℕ → Value} {class : ℕ → Class} {d : ℕ}
    (H : HasChain k s out inn val class d) where
  pub head-new : class d ≡ new k
  head-new = cc (H.head, H.chain.is_new 0 (omega arith))

  pub head-some : class no_node ≡ free → d ≢ no_node
  head-some none_free = λ e. refute (cc (head-new))

  -- The nodes after the head are not the head.
  not-head : (j : ℕ) → suc j ≤ H.m → H.node (suc j) ≢ d
  not-head j h e =
      refute (
      let z : suc j ≡ 0 = cc (H.head, H.chain.place-node (suc j) h, H.chain.place-node 0 (omega arith)) in
      omega arith
      )

  -- Line 24: the head leads inward to an old node.
  pub head-linked : {A : ℕ} {inn' : ℕ → ℕ}
      → Wrote inn d A inn'
      → Old class A
      → HasChain k s out inn' val class d
  head-linked w A-old =
      let C = H.chain in
      record {
        node = H.node;
        place = H.place;
        m = H.m;
        chain =
            record {
              is_new = C.is_new;
              place-node = C.place-node;
              place-le = C.place-le;
              node-place = C.node-place;
              N-before = C.N-before;
              X-last = C.X-last;
              links =
                  record {
                    links-out = C.links.links-out;
                    links-in = λ j h. w.elsewhere (H.node (suc j)) (not-head j h) ∙ C.links.links-in j h;
                  };
              last_out = C.last_out;
              first-in = inr (cc (H.head, w.here));
            };
        head = H.head;
      }

-- f, and then the nodes of a chain.
unfoldable in_front : ℕ → (ℕ → ℕ) → ℕ → ℕ
in_front f node zero = f
in_front f node (suc j) = node j

-- Line 31: f comes in front, linked both ways with the head.
module _ {k : ℕ} {s : Side} {out inn : ℕ → ℕ} {val : ℕ → Value} {class class' : ℕ → Class} {d f : ℕ}
    (H : HasChain k s out inn val class d)
    {out' inn₁ inn' : ℕ → ℕ} {val' : ℕ → Value}
    (w-out : Wrote out f d out') (w-val : Wrote val f (N s) val')
    (w-f : Wrote inn f no_node inn₁) (w-d : Wrote inn₁ d f inn')
    (f-new : class' f ≡ new k) (stays : (x : ℕ) → class x ≡ new k → class' x ≡ new k)
    (was : (x : ℕ) → x ≢ f → class' x ≡ new k → class x ≡ new k)
    (apart : (x : ℕ) → class x ≡ new k → x ≢ f) where
  node-apart : (j : ℕ) → j ≤ H.m → H.node j ≢ f
  node-apart j h = apart (H.node j) (H.chain.is_new j h)

  w-place : Wrote (λ x. suc (H.place x)) f 0 (update (λ x. suc (H.place x)) f 0)
  w-place = update-wrote (λ x. suc (H.place x)) f 0

  -- The nodes from 1 on are the chain's as they were.
  same_out : (i : ℕ) → i ≤ H.m → out' (H.node i) ≡ out (H.node i)
  same_out i h = w-out.elsewhere (H.node i) (node-apart i h)

  same-val : (i : ℕ) → i ≤ H.m → val' (H.node i) ≡ val (H.node i)
  same-val i h = w-val.elsewhere (H.node i) (node-apart i h)

  same-inn : (i : ℕ) → suc i ≤ H.m → inn' (H.node (suc i)) ≡ inn (H.node (suc i))
  same-inn i h =
      w-d.elsewhere (H.node (suc i)) (not-head H i h) ∙ w-f.elsewhere (H.node (suc i)) (node-apart (suc i) h)

  place-shifted : (i : ℕ) → i ≤ H.m → update (λ x. suc (H.place x)) f 0 (H.node i) ≡ suc i
  place-shifted i h = w-place.elsewhere (H.node i) (node-apart i h) ∙ ap suc (H.chain.place-node i h)

  front-links : Linked out' inn' (in_front f H.node) (suc H.m)
  unfolding in_front
  front-links =
      record {
        links-out =
            elim [
              | zero ↦ λ h. w-out.here ∙ H.head
              | suc i ↦ λ h. same_out i (omega arith) ∙ H.chain.links.links-out i (omega arith)
            ];
        links-in =
            elim [
              | zero ↦ λ h. cc (w-d.here, H.head)
              | suc i ↦ λ h. same-inn i (omega arith) ∙ H.chain.links.links-in i (omega arith)
            ];
      }

  pub one_more : HasChain k s out' inn' val' class' f
  unfolding in_front
  one_more =
      let C = H.chain in
      record {
        node = in_front f H.node;
        place = update (λ x. suc (H.place x)) f 0;
        m = suc H.m;
        chain =
            record {
              is_new =
                  elim [ zero ↦ λ h. f-new | suc i ↦ λ h. stays (H.node i) (C.is_new i (omega arith)) ];
              place-node =
                  elim [ zero ↦ λ h. w-place.here | suc i ↦ λ h. place-shifted i (omega arith) ];
              place-le =
                  λ x h. elim (wrote? w-place x) [
                    | it-is e p ↦ omega arith
                    | it-is-not e p ↦ omega (arith, C.place-le x (was x e h))
                  ];
              node-place =
                  λ x h. elim (wrote? w-place x) [
                    | it-is e p ↦ cc
                    | it-is-not e p ↦ cc (C.node-place x (was x e h))
                  ];
              N-before =
                  elim [
                    | zero ↦ λ h. w-val.here
                    | suc i ↦ λ h. same-val i (omega arith) ∙ C.N-before i (omega arith)
                  ];
              X-last = same-val H.m (omega arith) ∙ C.X-last;
              links = front-links;
              last_out = same_out H.m (omega arith) ∙ C.last_out;
              first-in = inl (w-d.elsewhere f (λ e. apart d (head-new H) (sym e)) ∙ w-f.here);
            };
        head = refl;
      }
