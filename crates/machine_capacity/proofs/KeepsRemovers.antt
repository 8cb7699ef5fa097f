-- What a tick must leave of the links that removes are about to cut, seen from one side; ticks that write no such link.
use mathlib.Core.Path.{◌≡◌, refl, sym}
use mathlib.Core.Logic.{◌≢◌}
use mathlib.Core.Bool.{Bool, true}
use Prim.Native.Nat.{ℕ}
use Rattle.machine.specs.Sides.{Side}
use Rattle.machine.specs.Values.{Value, bag, N, Y}
use Rattle.machine.specs.Tasks.{Task, no_node}
use Rattle.machine.specs.Lines.{Effect}
use Rattle.machine.proofs.Basics.Contradiction.{refute}
use Rattle.machine.proofs.Basics.Updates.{Wrote, it-is, it-is-not, wrote?}
use Rattle.machine.proofs.Words.Memories.{View, written, swapped}
use Rattle.machine.proofs.Linearizability.Model.Sides.{Opposite}
use Rattle.machine.proofs.Linearizability.Model.Classes.{Class, Old, of, owner}
use Rattle.machine_capacity.proofs.Removers.{Duty, no-duty, duty, Mark, end, cut, marked, Cuts, Sure}

-- The task that ticks, whose duty goes from d to d', is about to cut the link of n; or n had mark and link before, and
-- if the task was about to cut it, it still is.
pub data StillCut (z : Side) (m m' : View) (d d' : Duty) (t t' : Task) (μ : Mark) (n : ℕ) : Type 0 where
  newly : Cuts d' μ t' n (m'.out n) → StillCut z m m' d d' t t' μ n
  as_before :
      m.val n ≡ marked μ z
      → m.out n ≡ m'.out n
      → (Cuts d μ t n (m.out n) → Cuts d' μ t' n (m.out n))
      → StillCut z m m' d d' t t' μ n

-- A link is as it was, or one of the nodes that it joined is Y.
pub data LinkStays (z : Side) (m m' : View) (x : ℕ) : Type 0 where
  same-link : m'.out x ≡ m.out x → LinkStays z m m' x
  from-Y : m'.val x ≡ Y z → LinkStays z m m' x
  to-Y : m'.val (m.out x) ≡ Y z → LinkStays z m m' x

pub record KeepsRemovers (held : ℕ → Bool) (class : ℕ → Class) (z : Side) (m m' : View)
    (d d' : Duty) (t t' : Task) : Type 0 where
  pub still-cut : (μ : Mark) (n : ℕ) → m'.val n ≡ marked μ z → m'.out n ≢ no_node → StillCut z m m' d d' t t' μ n
  pub link_stays : (x : ℕ) → held x ≡ true → Old class x → m.out x ≢ no_node → LinkStays z m m' x

-- A tick of a task of lane ℓ on side s with effect e: on its own side, where its duty counts, on the other side, and
-- what its new step says of A and B.
pub record RemoversAfter (held : ℕ → Bool) (class : ℕ → Class) (ℓ : ℕ) (s o : Side) (m : View) (d : Duty) (t : Task)
    (e : Effect) : Type 0 where
  pub near : KeepsRemovers held class s m (written ℓ s e.writes m) d (duty e.task.step) t e.task
  pub far : KeepsRemovers held class o (swapped m) (swapped (written ℓ s e.writes m)) no-duty no-duty t e.task
  pub sure : Sure (duty e.task.step) s (written ℓ s e.writes m) e.task

-- ---- Values that are no mark X or Y of a side.
pub record Plain (z : Side) (v : Value) : Type 0 where
  pub not-marked : (μ : Mark) → v ≢ marked μ z

N-unmarked : (s z : Side) (μ : Mark) → N s ≢ marked μ z
N-unmarked s z end e = refute (cc)
N-unmarked s z cut e = refute (cc)

bag-unmarked : (b : ℕ) (z : Side) (μ : Mark) → bag b ≢ marked μ z
bag-unmarked b z end e = refute (cc)
bag-unmarked b z cut e = refute (cc)

pub N-plain : {s z : Side} → Plain z (N s)
N-plain {s} {z} = record { not-marked = N-unmarked s z }

pub bag-plain : {z : Side} {b : ℕ} → Plain z (bag b)
bag-plain {z} {b} = record { not-marked = bag-unmarked b z }

mark-owner : (μ : Mark) (z : Side) → owner (marked μ z) ≡ of z
mark-owner end z = refl
mark-owner cut z = refl

-- A mark of one side is none of the other.
pub far-plain : {s o : Side} → Opposite s o → {v : Value} → owner v ≡ of s → Plain o v
far-plain {s} {o} w h = record { not-marked = λ μ e. refute (cc (mark-owner μ o)) }

-- What is marked after a plain value was written was marked before, and is another node.
pub marked-elsewhere : {z : Side} {val val' : ℕ → Value} {x : ℕ} {v : Value}
    → Wrote val x v val'
    → Plain z v
    → (μ : Mark) (n : ℕ)
    → val' n ≡ marked μ z
    → (n ≢ x) × (val n ≡ marked μ z)
marked-elsewhere w p μ n h =
    elim (wrote? w n) [
      | it-is e q ↦ absurd (p.not-marked μ (cc))
      | it-is-not ne q ↦ (ne, cc)
    ]

-- ---- Ticks of a task that cuts nothing before, seen from a side on which they write no link.
module _ {held : ℕ → Bool} {class : ℕ → Class} {z : Side} {m m' : View} {d : Duty} {t t' : Task}
    (same_out : (n : ℕ) → m'.out n ≡ m.out n) where
  pub same-words : ((n : ℕ) → m'.val n ≡ m.val n) → KeepsRemovers held class z m m' no-duty d t t'
  same-words same-val =
      record {
        still-cut = λ μ n v ne. as_before (cc (same-val n)) (sym (same_out n)) (λ h. absurd h);
        link_stays = λ x _ _ _. same-link (same_out x);
      }

  pub plain_value : {x : ℕ} {v : Value} → Wrote m.val x v m'.val → Plain z v
      → KeepsRemovers held class z m m' no-duty d t t'
  plain_value w p =
      record {
        still-cut = λ μ n v ne. as_before (marked-elsewhere w p μ n v).1 (sym (same_out n)) (λ h. absurd h);
        link_stays = λ x _ _ _. same-link (same_out x);
      }
