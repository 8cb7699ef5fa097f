-- Records that agree in all but some registers: those that hold at their step stay the same through the same effect.
use mathlib.Core.Path.{◌≡◌, refl, sym, ap, ◌∙◌, subst}
use mathlib.Core.Bool.{Bool, true, false, cond}
use Rattle.machine.specs.Steps.{Step}
use Rattle.machine.specs.Tasks.{Task, no_node, Register, in_a, in_b, in_c, in_d, register, with_registers}
use Rattle.machine.specs.Registers.{among, holds}
use Rattle.machine_registers.specs.Paths.{uses, Way, ways, OneOf, here, later}
use Rattle.machine.specs.Lines.{Effect}
use Rattle.machine_registers.proofs.Paths.{needed-holds, holds-needed}
use Rattle.machine_registers.specs.LinesUse.{mixed, AgreeOn, After, goes_on, has_answered, turned_back}

-- The record without its registers.
abbrev pub plain : Task → Task
plain t = with_registers t no_node no_node no_node no_node

module _ {p : Register → Bool} {t u : Task} where
  pub agree-from : plain u ≡ plain t → ((r : Register) → p r ≡ true → register u r ≡ register t r) → AgreeOn p t u
  agree-from e f =
      λ i. record {
        operation = (e i).operation;
        step = (e i).step;
        side = (e i).side;
        argument = (e i).argument;
        counted = (e i).counted;
        value = (e i).value;
        A = chosen in_a i;
        B = chosen in_b i;
        C = chosen in_c i;
        D = chosen in_d i;
        lane = (e i).lane;
      }
    where
      chosen : (r : Register) → register u r ≡ cond (p r) (register t r) (register u r)
      chosen r = go (p r) (f r)
        where
          go : (b : Bool) → (b ≡ true → register u r ≡ register t r)
              → register u r ≡ cond b (register t r) (register u r)
          go true h = h refl
          go false h = refl

pub agree-self : (p : Register → Bool) (t : Task) → AgreeOn p t t
agree-self p t = agree-from {p = p} refl (λ r h. refl)

pub agree-plain : (p : Register → Bool) (t u v : Task) → v ≡ mixed p t u → plain v ≡ plain t
agree-plain p t u v e = ap plain e

-- A register of a mixed record is that of the first inside the set, and that of the second outside.
pub mixed-inside : (p : Register → Bool) (t u v : Task) → v ≡ mixed p t u → (r : Register) → p r ≡ true
    → register v r ≡ register t r
mixed-inside p t u v e in_a h = ap (λ (y : Task). y.A) e ∙ rw h
mixed-inside p t u v e in_b h = ap (λ (y : Task). y.B) e ∙ rw h
mixed-inside p t u v e in_c h = ap (λ (y : Task). y.C) e ∙ rw h
mixed-inside p t u v e in_d h = ap (λ (y : Task). y.D) e ∙ rw h

mixed-outside : (p : Register → Bool) (t u v : Task) → v ≡ mixed p t u → (r : Register) → p r ≡ false
    → register v r ≡ register u r
mixed-outside p t u v e in_a h = ap (λ (y : Task). y.A) e ∙ rw h
mixed-outside p t u v e in_b h = ap (λ (y : Task). y.B) e ∙ rw h
mixed-outside p t u v e in_c h = ap (λ (y : Task). y.C) e ∙ rw h
mixed-outside p t u v e in_d h = ap (λ (y : Task). y.D) e ∙ rw h

-- What a step uses holds there, and what holds after a way and is not set on it holds before.
uses-hold : (st : Step) (r : Register) → among (uses st) r ≡ true → holds st r ≡ true
uses-hold st r h = needed-holds (here st h)

unset-holds : (st : Step) (w : Way) → OneOf w (ways st) → (r : Register) → holds w.next r ≡ true
    → among w.sets r ≡ false
    → holds st r ≡ true
unset-holds st w o r h n = needed-holds (later st w o n (holds-needed w.next r h))

-- Two records that agree in the registers that hold do so after the same effect.
module _ (t u : Task) (agree : AgreeOn (holds t.step) t u) where
  pub agree-uses : AgreeOn (among (uses t.step)) t u
  agree-uses =
      agree-from (agree-plain (holds t.step) t u u agree)
      (λ r h. mixed-inside (holds t.step) t u u agree r (uses-hold t.step r h))

  pub agree_after : (e f : Effect) → After t.step t u e f → AgreeOn (holds e.task.step) e.task f.task
  agree_after e f (goes_on w o a n p q) =
      agree-from (agree-plain (among w.sets) e.task u f.task q) (λ r h. same r h (among w.sets r) refl)
    where
      same : (r : Register) → holds e.task.step r ≡ true → (b : Bool) → among w.sets r ≡ b
          → register f.task r ≡ register e.task r
      same r h true set = mixed-inside (among w.sets) e.task u f.task q r set
      same r h false set =
          let held = unset-holds t.step w o r (ap (λ (st : Step). holds st r) (sym n) ∙ h) set in
          mixed-outside (among w.sets) e.task u f.task q r set
          ∙ mixed-inside (holds t.step) t u u agree r held
          ∙ sym (mixed-outside (among w.sets) e.task t e.task p r set)
  agree_after e f (has_answered p q) =
      agree-from {p = holds e.task.step} (ap plain (q ∙ sym p)) (λ r h. ap (λ (y : Task). register y r) (q ∙ sym p))
  agree_after e f (turned_back p q) =
      subst (λ (x : Task). AgreeOn (holds x.step) x f.task) (sym p)
      (subst (λ (y : Task). AgreeOn (holds t.step) t y) (sym q) agree)
