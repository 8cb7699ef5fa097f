-- The table of registers is exact: a register is in it at a step exactly if some path of steps from there uses the
-- register before setting it.
use mathlib.Core.Path.{◌≡◌, refl, ap, ◌∙◌}
use mathlib.Core.Logic.{inl, inr}
use mathlib.Core.Bool.{Bool, true, false, not, ◌&&◌, ◌||◌}
use mathlib.Core.List.{List, [], ◌∷◌}
use Prim.Native.Nat.{ℕ, zero, suc}
use borrow.Author.Tests.{not-true}
use Rattle.machine.specs.Steps.{Step}
use Rattle.machine.specs.Tasks.{Register}
use Rattle.machine.specs.Registers.{among, holds}
use Rattle.machine_registers.specs.Paths.{uses, Way, ways, OneOf, Needed, here, later, HoldsExactly, NoOtherTable}
use Rattle.machine.proofs.Basics.Contradiction.{clash}
use Rattle.machine.proofs.Basics.Tests.{and_left, and_right, or-either}
use Rattle.machine.proofs.Basics.Everywhere.{everywhere-at, implies, implies_true}

-- ---- Tests of all ways on from a step, and of some.
abbrev pub every_way : List Way → (Way → Bool) → Bool
every_way [] p = true
every_way (w ∷ ws) p = p w && every_way ws p

abbrev some_way : List Way → (Way → Bool) → Bool
some_way [] p = false
some_way (w ∷ ws) p = p w || some_way ws p

module _ (p : Way → Bool) where
  pub each_way : (ws : List Way) → every_way ws p ≡ true → (w : Way) → OneOf w ws → p w ≡ true
  each_way [] e w h = elim h [ ]
  each_way (x ∷ ws) e w (inl q) = ap p q ∙ and_left (p x) (every_way ws p) e
  each_way (x ∷ ws) e w (inr h) = each_way ws (and_right (p x) (every_way ws p) e) w h

  some-way : (ws : List Way) → some_way ws p ≡ true → (w : Way) × OneOf w ws × (p w ≡ true)
  some-way [] e = clash (cc)
  some-way (x ∷ ws) e =
      elim (or-either (p x) (some_way ws p) e) [
        | inl h ↦ (x, inl refl, h)
        | inr h ↦ let k = some-way ws h in (k.0, inr k.1, k.2)
      ]

-- ---- What a path needs is in the table: the table is closed under the rule.
abbrev uses_held : Step → Register → Bool
uses_held st r = implies (among (uses st) r) (holds st r)

abbrev way_held : Step → Register → Way → Bool
way_held st r w = implies (holds w.next r) (among w.sets r || holds st r)

abbrev rule_kept : Step → Register → Bool
rule_kept st r = uses_held st r && every_way (ways st) (way_held st r)

rule-kept : (st : Step) (r : Register) → rule_kept st r ≡ true
rule-kept = everywhere-at rule_kept refl

pub needed-holds : {r : Register} {st : Step} → Needed r st → holds st r ≡ true
needed-holds {r} (here st u) =
    implies_true (among (uses st) r) (holds st r) (and_left (uses_held st r) _ (rule-kept st r)) u
needed-holds {r} (later st w o n more) =
    let h = each_way (way_held st r) (ways st) (and_right (uses_held st r) _ (rule-kept st r)) w o in
    let k = implies_true (holds w.next r) (among w.sets r || holds st r) h (needed-holds more) in
    elim (or-either (among w.sets r) (holds st r) k) [ inl set ↦ clash (cc) | inr held ↦ held ]

-- ---- What is in the table has a path: five steps are enough.
abbrev path_within : ℕ → Step → Register → Bool
path_within zero st r = false
path_within (suc n) st r =
    among (uses st) r || some_way (ways st) (λ w. not (among w.sets r) && path_within n w.next r)

path-needed : (n : ℕ) (st : Step) (r : Register) → path_within n st r ≡ true → Needed r st
path-needed zero st r e = clash (cc)
path-needed (suc n) st r e =
    elim (or-either (among (uses st) r) _ e) [
      | inl h ↦ here st h
      | inr h ↦
          let k = some-way (λ w. not (among w.sets r) && path_within n w.next r) (ways st) h in
          let w : Way = k.0 in
          let unset = and_left (not (among w.sets r)) (path_within n w.next r) k.2 in
          let more = and_right (not (among w.sets r)) (path_within n w.next r) k.2 in
          later st w k.1 (not-true (among w.sets r) unset) (path-needed n w.next r more)
    ]

has-path : (st : Step) (r : Register) → implies (holds st r) (path_within 5 st r) ≡ true
has-path = everywhere-at (λ st r. implies (holds st r) (path_within 5 st r)) refl

pub holds-needed : (st : Step) (r : Register) → holds st r ≡ true → Needed r st
holds-needed st r h = path-needed 5 st r (implies_true (holds st r) (path_within 5 st r) (has-path st r) h)

pub holds-exactly : HoldsExactly
holds-exactly st r = (holds-needed st r, needed-holds)

-- ---- No other table.
pub no-other-table : NoOtherTable
no-other-table table e st r = go (table st r) (holds st r) refl refl
  where
    go : (a b : Bool) → table st r ≡ a → holds st r ≡ b → a ≡ b
    go true true p q = refl
    go false false p q = refl
    go true false p q = clash (cc (q, needed-holds ((e st r).0 p)))
    go false true p q = clash (cc (p, (e st r).1 (holds-needed st r q)))
