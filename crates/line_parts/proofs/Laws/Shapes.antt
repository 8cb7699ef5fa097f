-- The shapes that several lines share, over the definitions: a link followed, and a step by a mark.
use mathlib.Core.Path.{◌≡◌, refl, sym, ap, ◌∙◌}
use mathlib.Core.List.{List}
use Prim.Native.Nat.{ℕ}
use lib.ListN.{get_or}
use Rattle.std.specs.Prelude.{Ok, Err}
use Rattle.machine.specs.declared.refusal.Refusal.TheVariants.{NoSlot}
use Rattle.machine.specs.Choice.{◌≟◌, if?◌then◌else◌}
use Rattle.machine.specs.Sides.{Side, side_of}
use Rattle.machine.specs.Values.{Value, decode, ◌≟ᵛ◌}
use Rattle.machine.specs.Steps.{Step, step_number}
use Rattle.machine.specs.Tasks.{Task, Register, in_a, in_b, in_c, in_d, no_node, with_a, with_b, with_c, with_d}
use Rattle.machine.specs.Lines.{next, refused, through}
use Rattle.table_record.specs.declared.Task as Tasks
use Rattle.table_record.specs.Coded.{coded_task, task_meant, with_register}
use Rattle.table_layout.specs.Words.{link_in, stored_in}
use Rattle.line_parts.specs.Lent.{
  Ready,
  line_done,
  outcome_of,
  effect_in,
  next_done,
  follow_done,
  mark_done,
}
use Rattle.line_parts.proofs.Laws.Ready.{by_code}

-- A register set by its name, and its place in the code's record.
abbrev pub setting : Task → Register → ℕ → Task
setting t in_a x = with_a t x
setting t in_b x = with_b t x
setting t in_c x = with_c t x
setting t in_d x = with_d t x

abbrev pub place : Register → ℕ
place in_a = 0
place in_b = 1
place in_c = 2
place in_d = 3

coded-setting : (t : Task) (r : Register) (x : ℕ) → with_register (coded_task t) (place r) x ≡ coded_task (setting t r x)
coded-setting t in_a x = refl
coded-setting t in_b x = refl
coded-setting t in_c x = refl
coded-setting t in_d x = refl

either_way : {P : Type 0} (d : Dec P) (n : Step) → (if? d then n else n) ≡ n
either_way (yes h) n = refl
either_way (no h) n = refl

module _ {ns : List ℕ} {t : Tasks.Task} (R : Ready ns t) (h : ℕ) where
  abbrev s : Side
  s = side_of t.side

  -- A refused line leaves all as it was.
  as-it-was : outcome_of ns h t (Err NoSlot) ≡ effect_in s ns h (refused (task_meant t))
  as-it-was = ap (λ (u : Tasks.Task). outcome_of ns h u (Err NoSlot)) (sym R.canonical)

  -- The link on side z of the node in register i, into the register r.
  module _ (z : Side) (i : ℕ) (r : Register) where
    abbrev x : ℕ
    x = get_or t.registers i 0

    abbrev y : ℕ
    y = link_in ns z x

    set-and-at : (n : Step) → line_done ns (next_done h (with_register t (place r) y) (step_number n))
        ≡ effect_in s ns h (next (setting (task_meant t) r y) n)
    set-and-at n =
        by_code R (λ u. next_done h (with_register u (place r) y) (step_number n))
        ∙ ap (λ (u : Tasks.Task). line_done ns (next_done h u (step_number n))) (coded-setting (task_meant t) r y)

    pub link-followed :
        (n m : Step)
        → outcome_of ns h t (follow_done ns h t z i (place r) (step_number n) (step_number m))
        ≡ effect_in s ns h
        (through x (task_meant t) (next (setting (task_meant t) r y) (if? y ≟ no_node then n else m)))
    link-followed n m = go (x ≟ no_node) (y ≟ no_node)
      where
        go :
            (d : Dec (x ≡ no_node)) (e : Dec (y ≡ no_node))
            → outcome_of ns h t
            (if? d then Err NoSlot else
            Ok (next_done h (with_register t (place r) y) (if? e then step_number n else step_number m)))
            ≡ effect_in s ns h
            (if? d then refused (task_meant t) else next (setting (task_meant t) r y) (if? e then n else m))
        go (yes p) e = as-it-was
        go (no p) (yes q) = set-and-at n
        go (no p) (no q) = set-and-at m

    -- The same where both ways lead to one step.
    pub followed-on :
        (n : Step)
        → outcome_of ns h t (follow_done ns h t z i (place r) (step_number n) (step_number n))
        ≡ effect_in s ns h (through x (task_meant t) (next (setting (task_meant t) r y) n))
    followed-on n =
        link-followed n n
        ∙ ap (λ (m : Step). effect_in s ns h (through x (task_meant t) (next (setting (task_meant t) r y) m)))
        (either_way (y ≟ no_node) n)

  -- The value of A's node is a mark, or not.
  module _ (mark : Value) (n m : Step) where
    abbrev a : ℕ
    a = get_or t.registers 0 0

    pub by-mark :
        outcome_of ns h t (mark_done ns h t mark (step_number n) (step_number m))
        ≡ effect_in s ns h
        (through a (task_meant t) (next (task_meant t) (if? decode (stored_in ns a) ≟ᵛ mark then n else m)))
    by-mark = go (a ≟ no_node) (decode (stored_in ns a) ≟ᵛ mark)
      where
        go :
            (d : Dec (a ≡ no_node)) (e : Dec (decode (stored_in ns a) ≡ mark))
            → outcome_of ns h t
            (if? d then Err NoSlot else Ok (next_done h t (if? e then step_number n else step_number m)))
            ≡ effect_in s ns h
            (if? d then refused (task_meant t) else next (task_meant t) (if? e then n else m))
        go (yes p) e = as-it-was
        go (no p) (yes q) = by_code R (λ u. next_done h u (step_number n))
        go (no p) (no q) = by_code R (λ u. next_done h u (step_number m))
