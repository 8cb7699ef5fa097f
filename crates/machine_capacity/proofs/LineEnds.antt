-- How a line ends, for the links that removes are about to cut: refused, gone on without a duty, or with a duty of its
-- own.
use mathlib.Core.Path.{◌≡◌, refl, sym, subst}
use mathlib.Core.Logic.{inl, inr}
use mathlib.Core.Bool.{Bool}
use mathlib.Core.List.{[]}
use Prim.Native.Nat.{ℕ}
use native.Mathlib.Omega.{arith}
use Rattle.machine.specs.Outcomes.Answer.{Answer}
use Rattle.machine.specs.Sides.{Side}
use Rattle.machine.specs.Steps.{Step}
use Rattle.machine.specs.Tasks.{Task}
use Rattle.machine.specs.Lines.{refused}
use Rattle.machine.proofs.Basics.Contradiction.{less?}
use Rattle.machine.proofs.Words.Memories.{View}
use Rattle.machine.proofs.Linearizability.Model.Classes.{Class, of, owner}
use Rattle.machine.proofs.Linearizability.Model.Chain.{HasChainIn}
use Rattle.machine_capacity.proofs.Removers.{Duty, no-duty, duty, Mark, Cuts, Sure}
use Rattle.machine_capacity.proofs.KeepsRemovers.{as_before, same-link, RemoversAfter, same-words}

-- The first node of a chain of side s has a mark of s.
pub chain-owner : {k : ℕ} {s : Side} (m : View) {class : ℕ → Class} {d : ℕ}
    → HasChainIn k s m class d
    → owner (m.val d) ≡ of s
chain-owner m H =
    let e = H.head in
    elim (less? 0 H.m) [
      | inl l ↦ cc (H.chain.N-before 0 l)
      | inr l ↦ let z : H.m ≡ 0 = omega arith in cc H.chain.X-last
    ]

module _ {held : ℕ → Bool} {class : ℕ → Class} {ℓ : ℕ} {s o : Side} {m : View} {t : Task} where
  -- A tick that is refused leaves the task with its duty.
  pub duty-stays : {st : Step} → t.step ≡ st → Sure (duty st) s m t
      → RemoversAfter held class ℓ s o m (duty st) t (refused t)
  duty-stays {st} e u =
      record {
        near =
            record {
              still-cut =
                  λ μ n v ne.
                  as_before v refl (λ h. subst (λ (x : Step). Cuts (duty x) μ t n (m.out n)) (sym e) h);
              link_stays = λ x _ _ _. same-link refl;
            };
        far = same-words (λ n. refl) (λ n. refl);
        sure = subst (λ (x : Step). Sure (duty x) s m t) (sym e) u;
      }

  -- A task without a duty goes to a step without a duty, and writes nothing.
  pub duty-off : {t' : Task} {a : Answer} → duty t'.step ≡ no-duty
      → RemoversAfter held class ℓ s o m no-duty t (record { writes = []; task = t'; answer = a })
  duty-off {t'} e =
      record {
        near = same-words (λ n. refl) (λ n. refl);
        far = same-words (λ n. refl) (λ n. refl);
        sure = subst (λ (d : Duty). Sure d s m t') (sym e) tt;
      }

  -- The task goes on to a step with a duty of its own, and writes nothing.
  pub duty-goes : (d : Duty) {t' : Task} {a : Answer}
      → Sure (duty t'.step) s m t'
      → ((μ : Mark) (n : ℕ) → Cuts d μ t n (m.out n) → Cuts (duty t'.step) μ t' n (m.out n))
      → RemoversAfter held class ℓ s o m d t (record { writes = []; task = t'; answer = a })
  duty-goes d u c =
      record {
        near =
            record { still-cut = λ μ n v ne. as_before v refl (c μ n); link_stays = λ x _ _ _. same-link refl };
        far = same-words (λ n. refl) (λ n. refl);
        sure = u;
      }
