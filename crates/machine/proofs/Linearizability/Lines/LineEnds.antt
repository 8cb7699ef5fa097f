-- What the lines have in common: a tick that writes its own record only, an answer, and going back.
use mathlib.Core.Path.{◌≡◌, refl}
use mathlib.Core.Logic.{◌≢◌}
use mathlib.Core.Bool.{Bool}
use mathlib.Core.List.{List, []}
use Prim.Native.Nat.{ℕ}
use native.Mathlib.Omega.{arith}
use Rattle.machine.specs.Outcomes.Answer.{Answer, Going}
use Rattle.machine.specs.Sides.{Side}
use Rattle.machine.specs.Steps.{Step, rest}
use Rattle.machine.specs.Tasks.{goto, with_c, Task, fresh, no_node}
use Rattle.machine.specs.Lines.{answers}
use Rattle.machine.proofs.Basics.Contradiction.{clash}
use Rattle.machine.proofs.Words.Memories.{View}
use Rattle.machine.proofs.Linearizability.Model.Classes.{Class, free, new}
use Rattle.machine.proofs.Linearizability.Model.Chain.{NoChain}
use Rattle.machine.proofs.Linearizability.Model.Guarantee.{guarantees-refl}
use Rattle.machine.proofs.Linearizability.Model.Phases.{unspurring, with-chain, without-chain, Belongs, Chains}
use Rattle.machine.proofs.Linearizability.Model.Phases.{TaskOk}
use Rattle.machine.proofs.Linearizability.Model.Invariant.{Lanes, RowStep, note_of, goes_on, has_answered, TickOk}
use Rattle.machine.proofs.Lines.Branches.{Back, to-2, to-15}

pub fresh_ok : {k : ℕ} {s o : Side} {m : View} {class : ℕ → Class}
    → ((x : ℕ) → class x ≢ new k)
    → TaskOk k s o m class rest fresh
fresh_ok h = record { relies = tt; chain = record { none-new = h; no-head = refl }; belongs = refl }

module _ {held : ℕ → Bool} {L k : ℕ} {s o : Side} {m : View} {class : ℕ → Class} {r : ℕ → List ℕ} {t : Task} where
  pub line-continues : Lanes L s o m class r
      → {t' : Task}
      → note_of t' ≡ note_of t
      → TaskOk k s o m class t'.step t'
      → TickOk held L k s o m class r t (record { writes = []; task = t'; answer = Going })
  line-continues D e h =
      record {
        class' = class;
        r' = r;
        lanes = D;
        row_step = refl;
        other-rows = λ l ne. refl;
        guarantees = guarantees-refl held k;
        task-ok = h;
        kept = goes_on refl e;
      }

  pub answers-ok : Lanes L s o m class r
      → (a : Answer)
      → a ≢ Going
      → RowStep t.operation t.argument a (r t.lane) (r t.lane)
      → NoChain k class t.D
      → TickOk held L k s o m class r t (answers a)
  answers-ok D a ne e h =
      record {
        class' = class;
        r' = r;
        lanes = D;
        row_step = e;
        other-rows = λ l ne. refl;
        guarantees = guarantees-refl held k;
        task-ok = fresh_ok h.none-new;
        kept = has_answered ne refl;
      }

-- Back: 2 for a push without a chain, 15 with one.
pub back-ok : {k : ℕ} {s o : Side} {class : ℕ → Class}
    → class no_node ≡ free
    → (t : Task) (m : View) (c : ℕ) {st : Step}
    → Back t st
    → Chains unspurring k s m class t
    → Belongs unspurring t.operation
    → TaskOk k s o m class st (goto (with_c t c) st)
back-ok none_free t m c (to-2 e d) (with-chain h) b = clash (cc (h.head, h.chain.is_new 0 (omega arith)))
back-ok none_free t m c (to-2 e d) (without-chain h q) b = record { relies = tt; chain = h; belongs = e }
back-ok none_free t m c (to-15 ne) (with-chain h) b = record { relies = tt; chain = h; belongs = b }
back-ok none_free t m c (to-15 ne) (without-chain h q) b = absurd (ne q h.no-head)
