-- The invariant, and what a tick must come to in order to keep it.
use mathlib.Core.Path.{◌≡◌, sym, subst}
use mathlib.Core.Logic.{◌≢◌, ◌⊎◌, inl, inr}
use mathlib.Core.Bool.{Bool, true}
use mathlib.Core.List.{List, [], ◌∷◌, ◌++◌}
use Prim.Native.Nat.{ℕ, suc, ◌-◌, ◌<◌}
use Rattle.machine.specs.Outcomes.Answer.{Answer, Going, Pushed, Bag, Empty, Full, Yes, No, Refused}
use Rattle.machine.specs.Sides.{Side, left, right, opposite}
use Rattle.machine.specs.Operations.{Operation, push, pop, add, remove}
use Rattle.machine.specs.Tasks.{Task, fresh, no_node, Register, register}
use Rattle.machine.specs.Registers.{holds}
use Rattle.machine.specs.Lines.{Effect}
use Rattle.machine.specs.Row.{Note}
use Rattle.machine.proofs.Basics.Contradiction.{equal?}
use Rattle.machine.proofs.Words.Memories.{View, written, view}
use Rattle.machine.proofs.Linearizability.Model.Classes.{Class, free, main}
use Rattle.machine.proofs.Linearizability.Model.Structure.{Frame, Structure, InLanes}
use Rattle.machine.proofs.Linearizability.Model.Segments.{segment}
use Rattle.machine.proofs.Linearizability.Model.Guarantee.{GuaranteesIn}
use Rattle.machine.proofs.Linearizability.Model.Held.{ClosedSet}
use Rattle.machine.proofs.Linearizability.Model.Phases.{TaskOk}

-- The bags of a lane in their order, the far one first.
abbrev pub row_of : Frame → List ℕ
row_of F = segment F.bags (suc F.a) (F.b - suc F.a)

-- Lane ℓ seen from side s carries the row r, the bags between the hats.
pub record Lane (ℓ : ℕ) (s o : Side) (m : View) (class : ℕ → Class) (r : List ℕ) : Type 0 where
  pub frame : Frame
  pub structure : Structure ℓ s o m class frame
  pub row_is : row_of frame ≡ r

-- The same row, at the same places of main, in another view.
pub same-places : {ℓ : ℕ} {s o : Side} {m m' : View} {class class' : ℕ → Class} {r : List ℕ} (N : Lane ℓ s o m class r)
    → Structure ℓ s o m' class' N.frame
    → Lane ℓ s o m' class' r
same-places N S = record { frame = N.frame; structure = S; row_is = N.row_is }

-- The L lanes, each with its row. No node is in main of another lane.
pub record Lanes (L : ℕ) (s o : Side) (m : View) (class : ℕ → Class) (r : ℕ → List ℕ) : Type 0 where
  pub lane : (l : ℕ) → l < L → Lane l s o m class (r l)
  pub below : (x l : ℕ) → class x ≡ main l → l < L

pub every-lane : {L : ℕ} {s o : Side} {m : View} {class : ℕ → Class} {r : ℕ → List ℕ} → Lanes L s o m class r
    → InLanes s o m class
every-lane D x l c = let N = D.lane l (D.below x l c) in (N.frame, N.structure)

-- The same rows, at the same places, in another view.
pub same-lanes : {L : ℕ} {s o : Side} {m m' : View} {class class' : ℕ → Class} {r : ℕ → List ℕ}
    (D : Lanes L s o m class r)
    → ((l : ℕ) (h : l < L) → Structure l s o m' class' (D.lane l h).frame)
    → ((x l : ℕ) → class' x ≡ main l → class x ≡ main l)
    → Lanes L s o m' class' r
same-lanes D keeps was-main =
    record {
      lane = λ l h. same-places (D.lane l h) (keeps l h);
      below = λ x l c. D.below x l (was-main x l c);
    }

-- One lane may change, with its row; the others stay at their places.
pub one_lane : {L : ℕ} {s o : Side} {m m' : View} {class class' : ℕ → Class} {r r' : ℕ → List ℕ}
    (D : Lanes L s o m class r) (i : ℕ)
    → Lane i s o m' class' (r' i)
    → ((l : ℕ) → l ≢ i → r' l ≡ r l)
    → ((l : ℕ) (h : l < L) → l ≢ i → Structure l s o m' class' (D.lane l h).frame)
    → ((x l : ℕ) → class' x ≡ main l → l < L)
    → Lanes L s o m' class' r'
one_lane {s = s} {o} {m' = m'} {class' = class'} {r' = r'} D i N same others below =
    record {
      lane =
          λ l h. elim (equal? l i) [
            | inl e ↦ subst (λ (j : ℕ). Lane j s o m' class' (r' j)) (sym e) N
            | inr ne ↦
                subst (λ (q : List ℕ). Lane l s o m' class' q) (sym (same l ne))
                (same-places (D.lane l h) (others l h ne))
          ];
      below = below;
    }

-- What holds of task j with the record t, in a view M from the right.
abbrev pub TaskOkIn : (j : ℕ) → View → (ℕ → Class) → Task → Type 0
TaskOkIn j M class t = TaskOk j t.side (opposite t.side) (view t.side M) class t.step t

-- The invariant of a table of L lanes: M is its view from the right, ts its tasks, r its rows.
pub record Invariant (L : ℕ) (M : View) (ts : ℕ → Task) (class : ℕ → Class) (r : ℕ → List ℕ) : Type 0 where
  pub lanes : Lanes L right left M class r
  pub own_lane : (j : ℕ) → (ts j).lane < L
  pub task-ok : (j : ℕ) → TaskOkIn j M class (ts j)

-- None is in no class.
pub none-is-free : {L : ℕ} {M : View} {ts : ℕ → Task} {class : ℕ → Class} {r : ℕ → List ℕ}
    → Invariant L M ts class r
    → class no_node ≡ free
none-is-free {ts = ts} I = (I.lanes.lane (ts 0).lane (I.own_lane 0)).structure.none_free

-- ---- What holds nodes against reuse.

-- Those of some registers that are not none are in the set.
abbrev pub RegistersHeld : (ℕ → Bool) → (Register → Bool) → Task → Type 0
RegistersHeld held some t = (r : Register) → some r ≡ true → register t r ≢ no_node → held (register t r) ≡ true

-- A set of nodes closed under links that holds the hats and the registers that hold: a take may give any node outside
-- it.
pub record Roots (L : ℕ) (held : ℕ → Bool) (M : View) (ts : ℕ → Task) : Type 0 where
  pub closed : ClosedSet L held M
  pub registers : (j : ℕ) → RegistersHeld held (holds (ts j).step) (ts j)

-- ---- What a tick comes to.

-- How an answer to an operation with an argument moves the row, seen from the operation's side.
abbrev pub RowStep : Operation → (argument : ℕ) → Answer → (r r' : List ℕ) → Type 0
RowStep op v Going r r' = r' ≡ r
RowStep op v Pushed r r' = (op ≡ push) × (r' ≡ r ++ (v ∷ []))
RowStep op v (Bag b) r r' = (op ≡ pop) × (r ≡ r' ++ (b ∷ []))
RowStep op v Empty r r' = (op ≡ pop) × (r ≡ []) × (r' ≡ [])
RowStep op v Full r r' = (op ≡ push) × (r' ≡ r)
RowStep op v Yes r r' = ((op ≡ add) ⊎ (op ≡ remove)) × (r' ≡ r)
RowStep op v No r r' = ((op ≡ add) ⊎ (op ≡ remove)) × (r' ≡ r)
RowStep op v (Refused n) r r' = ⊥

-- What was asked of a task.
abbrev pub note_of : Task → Note
note_of t = record { lane = t.lane; operation = t.operation; side = t.side; argument = t.argument }

-- Task t goes on with its call, or has answered and is fresh.
pub data Kept (t : Task) (e : Effect) : Type 0 where
  goes_on : e.answer ≡ Going → note_of e.task ≡ note_of t → Kept t e
  has_answered : e.answer ≢ Going → e.task ≡ fresh → Kept t e

-- A tick of task k with effect e, seen from its side s. Its answer moves the row of its lane, and no other.
pub record TickOk (held : ℕ → Bool) (L k : ℕ) (s o : Side) (m : View) (class : ℕ → Class) (r : ℕ → List ℕ)
    (t : Task) (e : Effect) : Type 0 where
  pub class' : ℕ → Class
  pub r' : ℕ → List ℕ
  pub lanes : Lanes L s o (written t.lane s e.writes m) class' r'
  pub row_step : RowStep t.operation t.argument e.answer (r t.lane) (r' t.lane)
  pub other-rows : (l : ℕ) → l ≢ t.lane → r' l ≡ r l
  pub guarantees : GuaranteesIn held k s o m class (written t.lane s e.writes m) class'
  pub task-ok : TaskOk k s o (written t.lane s e.writes m) class' e.task.step e.task
  pub kept : Kept t e
