-- Request 2026-06: the columns of Registers are those of the lines, with nothing left out and nothing too much.
use Rattle.std.specs.Prelude.{◌≡◌, ◌≢◌, Bool, true, not, cond, ℕ, eqb}
use Rattle.machine.specs.Outcomes.Answer.{Going}
use Rattle.machine.specs.Sides.{Side, left, right}
use Rattle.machine.specs.Steps.{Step}
use Rattle.machine.specs.Tasks.{
  Task,
  fresh,
  Register,
  in_a,
  in_b,
  in_c,
  in_d,
  register,
  with_a,
  with_b,
  with_c,
  with_d,
  with_registers,
}
use Rattle.machine.specs.Registers.{among}
use Rattle.machine_registers.specs.Paths.{uses, Way, ways, OneOf}
use Rattle.machine.specs.Lines.{Memory, Effect, act}

-- ---- Nothing is left out.

-- The record t, with the registers outside a set taken from u.
abbrev pub mixed : (Register → Bool) → (t u : Task) → Task
mixed p t u =
    with_registers t (cond (p in_a) t.A u.A) (cond (p in_b) t.B u.B)
    (cond (p in_c) t.C u.C) (cond (p in_d) t.D u.D)

-- u agrees with t in all but registers outside a set.
abbrev pub AgreeOn : (Register → Bool) → (t u : Task) → Type 0
AgreeOn p t u = u ≡ mixed p t u

-- The records after the effects e and f of a step on the records t and u. Where the task goes on, it goes one of the
-- step's ways: the registers set on it come out the same, the others stay as they were in t and in u.
pub data After (st : Step) (t u : Task) (e f : Effect) : Type 0 where
  goes_on : (w : Way)
      → OneOf w (ways st)
      → e.answer ≡ Going
      → e.task.step ≡ w.next
      → e.task ≡ mixed (among w.sets) e.task t
      → f.task ≡ mixed (among w.sets) e.task u
      → After st t u e f
  has_answered : e.task ≡ fresh → f.task ≡ fresh → After st t u e f
  turned_back : e.task ≡ t → f.task ≡ u → After st t u e f

pub record SameEffect (st : Step) (t u : Task) (e f : Effect) : Type 0 where
  pub same_writes : f.writes ≡ e.writes
  pub same_answer : f.answer ≡ e.answer
  pub after : After st t u e f

-- Whatever stands in registers that a step does not use, its line does the same and goes the same way, on which just
-- the registers that are set come out the same.
abbrev pub UsesEnough : Type 0
UsesEnough =
    (st : Step) (s o : Side) (m : Memory) (t u : Task) (g f : ℕ)
    → AgreeOn (among (uses st)) t u
    → SameEffect st t u (act st s o m t g f) (act st s o m u g f)

-- ---- Nothing is too much.
abbrev pub with : Register → ℕ → Task → Task
with in_a x t = with_a t x
with in_b x t = with_b t x
with in_c x t = with_c t x
with in_d x t = with_d t x

-- Two effects are the same but for what stands in the register r afterwards.
pub record SameBut (r : Register) (e f : Effect) : Type 0 where
  pub same_writes : f.writes ≡ e.writes
  pub same_answer : f.answer ≡ e.answer
  pub same_step : f.task.step ≡ e.task.step
  pub same_others : (q : Register) → q ≢ r → register f.task q ≡ register e.task q

-- A use shows: for some memory and record another content of the register makes another effect.
pub record UseShows (st : Step) (r : Register) : Type 0 where
  pub memory : Memory
  pub task : Task
  pub goal : ℕ
  pub found : ℕ
  pub other : ℕ
  pub differs : SameBut r (act st right left memory task goal found)
      (act st right left memory (with r other task) goal found)
      → ⊥

-- A way is gone: for some memory and record the task goes there, and just the registers that are set on it change.
pub record WayGone (st : Step) (w : Way) : Type 0 where
  pub memory : Memory
  pub task : Task
  pub goal : ℕ
  pub found : ℕ
  pub goes_there : (act st right left memory task goal found).task.step ≡ w.next
  pub sets_these : (r : Register)
      → eqb (register task r) (register (act st right left memory task goal found).task r) ≡ not (among w.sets r)

abbrev pub UsesShow : Type 0
UsesShow = (st : Step) (r : Register) → among (uses st) r ≡ true → UseShows st r

abbrev pub WaysGone : Type 0
WaysGone = (st : Step) (w : Way) → OneOf w (ways st) → WayGone st w
