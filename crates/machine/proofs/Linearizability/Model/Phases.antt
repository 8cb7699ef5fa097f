-- The steps by phase: whose they are, and whether the task has a chain; with what each step relies on.
use mathlib.Core.Path.{◌≡◌, refl}
use mathlib.Core.Logic.{◌⊎◌}
use mathlib.Core.Bool.{true}
use mathlib.Core.List.{List, [], ◌∷◌}
use Prim.Native.Nat.{ℕ}
use Rattle.machine.specs.Sides.{Side}
use Rattle.machine.specs.Operations.{Operation, idle, push, pop, add, remove}
use Rattle.machine.specs.Steps.{Step, rest}
use Rattle.machine.specs.Steps as Steps
use Rattle.machine.specs.Tasks.{Task, Register, in_d}
use Rattle.machine.specs.Registers.{among, holds}
use Rattle.machine.proofs.Basics.Everywhere.{everywhere-at, implies, implies_true}
use Rattle.machine.proofs.Words.Memories.{View}
use Rattle.machine.proofs.Linearizability.Model.Classes.{Class}
use Rattle.machine.proofs.Linearizability.Model.Chain.{HasChainIn, NoChain}
use Rattle.machine.proofs.Linearizability.Model.Reliance.{
  Reliance,
  on-nothing,
  on-old-A,
  on-push-pair,
  on-Y,
  behind-Y,
  past-Y,
  on-splice-point,
  on-pop-pair,
  on-empty-pair,
  on-bag-pair,
  on-cut-pair,
  on-unlink-pair,
  on-spur-B,
  on-spur-pair,
  on-spur-A,
  relied,
  Relies,
}

-- growing: the steps of add that a push runs through too; before a chain, with one, or (lines 67 to 72) with either.
pub data Phase : Type 0 where
  resting pushing growing building unspurring popping removing : Phase

abbrev pub Belongs : Phase → Operation → Type 0
Belongs resting op = op ≡ idle
Belongs pushing op = op ≡ push
Belongs growing op = (op ≡ push) ⊎ (op ≡ add)
Belongs building op = (op ≡ push) ⊎ (op ≡ add)
Belongs unspurring op = (op ≡ push) ⊎ (op ≡ add)
Belongs popping op = op ≡ pop
Belongs removing op = op ≡ remove

-- Lines 67 to 72: a task without a chain came from its push.
pub data MaybeChain (k : ℕ) (s : Side) (m : View) (class : ℕ → Class) (d : ℕ) (op : Operation) : Type 0 where
  with-chain : HasChainIn k s m class d → MaybeChain k s m class d op
  without-chain : NoChain k class d → op ≡ push → MaybeChain k s m class d op

abbrev pub Chains : Phase → (k : ℕ) → Side → View → (ℕ → Class) → Task → Type 0
Chains resting k s m class t = NoChain k class t.D
Chains pushing k s m class t = NoChain k class t.D
Chains growing k s m class t = NoChain k class t.D
Chains building k s m class t = HasChainIn k s m class t.D
Chains unspurring k s m class t = MaybeChain k s m class t.D t.operation
Chains popping k s m class t = NoChain k class t.D
Chains removing k s m class t = NoChain k class t.D

-- The registers that lead to a chain.
abbrev pub leading : Phase → List Register
leading resting = []
leading pushing = []
leading growing = []
leading building = in_d ∷ []
leading unspurring = in_d ∷ []
leading popping = []
leading removing = []

pub record StepFacts : Type 0 where
  pub reliance : Reliance
  pub phase : Phase

infix 4 ◌during◌
abbrev ◌during◌ : Reliance → Phase → StepFacts
◌during◌ r p = record { reliance = r; phase = p }

abbrev pub facts : Step → StepFacts
facts rest = on-nothing during resting
facts Steps.line2 = on-nothing during pushing
facts Steps.line3 = on-old-A during pushing
facts Steps.line5 = on-push-pair during pushing
facts Steps.line8 = on-old-A during pushing
facts Steps.line67 = on-nothing during unspurring
facts Steps.line68 = on-old-A during unspurring
facts Steps.line69 = on-Y during unspurring
facts Steps.line70 = behind-Y during unspurring
facts Steps.line72 = past-Y during unspurring
facts Steps.line28 = on-nothing during growing
facts Steps.line31 = on-nothing during building
facts Steps.line15 = on-nothing during building
facts Steps.line17 = on-old-A during building
facts Steps.line18 = on-old-A during building
facts Steps.line24 = on-old-A during building
facts Steps.line25 = on-splice-point during building
facts Steps.line39 = on-nothing during popping
facts Steps.line40 = on-old-A during popping
facts Steps.line42 = on-pop-pair during popping
facts Steps.line48 = on-empty-pair during popping
facts Steps.line51 = on-bag-pair during popping
facts Steps.line54 = on-nothing during removing
facts Steps.line56 = on-old-A during removing
facts Steps.line58 = on-old-A during removing
facts Steps.line60 = on-old-A during removing
facts Steps.line62 = on-cut-pair during removing
facts Steps.line64 = on-unlink-pair during removing
facts Steps.line74 = on-spur-B during removing
facts Steps.line77 = on-spur-pair during removing
facts Steps.line78 = on-spur-pair during removing
facts Steps.line79 = on-spur-pair during removing
facts Steps.line81 = on-spur-A during removing
facts Steps.line82 = on-spur-A during removing

-- What a step relies on is held there, and so is what leads to a chain.
pub relied-holds : (st : Step) (r : Register) → among (relied (facts st).reliance) r ≡ true → holds st r ≡ true
relied-holds st r =
    implies_true (among (relied (facts st).reliance) r) (holds st r)
    (everywhere-at (λ x y. implies (among (relied (facts x).reliance) y) (holds x y)) refl st r)

pub leading-holds : (st : Step) (r : Register) → among (leading (facts st).phase) r ≡ true → holds st r ≡ true
leading-holds st r =
    implies_true (among (leading (facts st).phase) r) (holds st r)
    (everywhere-at (λ x y. implies (among (leading (facts x).phase) y) (holds x y)) refl st r)

-- What holds of task k, at step st, seen from its side s.
pub record TaskOk (k : ℕ) (s o : Side) (m : View) (class : ℕ → Class) (st : Step) (t : Task) : Type 0 where
  pub relies : Relies (facts st).reliance k s o m class t
  pub chain : Chains (facts st).phase k s m class t
  pub belongs : Belongs (facts st).phase t.operation
