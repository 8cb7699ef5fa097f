-- A task sees its own lane alone: where that stays, its line does the same.
use mathlib.Core.Path.{◌≡◌, refl, sym, ap, ◌∙◌}
use mathlib.Core.Logic.{◌⊎◌, inl, inr}
use mathlib.Core.Bool.{true}
use mathlib.Core.List.{List}
use Prim.Native.Nat.{ℕ, ◌<◌}
use Rattle.machine.specs.Choice.{◌≟◌, ◌<?◌}
use Rattle.machine.specs.Sides.{Side, opposite}
use Rattle.machine.specs.Values.{decode, encode, never}
use Rattle.machine.specs.Steps.{line28, line31}
use Rattle.machine.specs.Tasks.{Task, no_node, Register, register, goal}
use Rattle.machine.specs.Registers.{holds}
use Rattle.machine.specs.Table.{node_count, growth, link_word, value_words, link, value, task}
use Rattle.machine.specs.Shape.{WellFormed}
use Rattle.machine.specs.Allocate.{allocate}
use Rattle.machine.specs.Lines.{seen}
use Rattle.machine.specs.Calls.{effect_of}
use Rattle.machine.proofs.Basics.Choices.{if_no}
use Rattle.machine.proofs.SlotRule.Reached.{node-not-none}
use Rattle.machine.proofs.Linearizability.Calls.MadeTicks.{well-linked}
use Rattle.machine_separation.specs.Apart.{LedTo, from_register, SameLane, effect_finding, DoesTheSame}
use Rattle.machine_separation.proofs.SameLines.{LooksSame, same_line}

-- ---- None has no words.
module _ {ws : List ℕ} (W : WellFormed ws) where
  none_above : no_node < node_count ws → ⊥
  none_above h = node-not-none (well-linked W).few h refl

  link-of-none : (s : Side) → link ws s no_node ≡ no_node
  unfolding link
  link-of-none s = if_no (no_node <? node_count ws) (link_word ws s no_node) no_node none_above

  value-of-none : value ws no_node ≡ decode (encode never)
  unfolding value
  value-of-none = ap decode (if_no (no_node <? node_count ws) (value_words ws no_node) (encode never) none_above)

-- ---- Two tables with the same record of task j and the same lane of its call.
module _ {ws vs : List ℕ} (W : WellFormed ws) (W' : WellFormed vs) (j : ℕ)
    (same-task : task vs j ≡ task ws j) (same_growth : growth vs ≡ growth ws)
    (S : SameLane (task ws j).lane ws vs) where
  abbrev t : Task
  t = task ws j

  looks-same : (r : Register) → holds t.step r ≡ true
      → LooksSame (seen t.lane t.side ws) (seen t.lane t.side vs) (register t r)
  looks-same r h =
      elim (register t r ≟ no_node) [
        | yes q ↦
            rw q
            (record {
              same_out = link-of-none W' t.side ∙ sym (link-of-none W t.side);
              same-inn = link-of-none W' (opposite t.side) ∙ sym (link-of-none W (opposite t.side));
              same-val = value-of-none W' ∙ sym (value-of-none W);
            })
        | no n ↦
            let x = register t r in
            let led : LedTo ws t.lane x = from_register j r refl h n in
            record {
              same_out = S.same_links x led t.side;
              same-inn = S.same_links x led (opposite t.side);
              same-val = S.same_values x led;
            }
      ]

  same-finding : (f f' : ℕ) → ((t.step ≡ line28) ⊎ (t.step ≡ line31) → f' ≡ f)
      → effect_finding vs j f' ≡ effect_finding ws j f
  same-finding f f' same-found =
      rw (same-task, same_growth)
      (same_line t.side (opposite t.side) (seen t.lane t.side ws) (seen t.lane t.side vs) t
      (goal (growth ws) t) f f' (S.same_hats t.side) t.step looks-same same-found)

  pub same_effect : DoesTheSame j ws vs
  unfolding effect_of
  same_effect =
      record {
        finding = λ f. same-finding f f (λ _. refl);
        taking_none =
            λ not-28 not-31 h h'.
            same-finding (allocate ws h) (allocate vs h')
            (λ c. elim c [ inl q ↦ absurd (not-28 q) | inr q ↦ absurd (not-31 q) ]);
      }
