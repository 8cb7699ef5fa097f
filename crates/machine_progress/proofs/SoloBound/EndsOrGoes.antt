-- A tick of a busy task, in a table that calls and copies lead to, ends its call or answers "going".
use mathlib.Core.Path.{◌≡◌, refl, sym, ap, ◌∙◌}
use mathlib.Core.Bool.{true}
use mathlib.Core.List.{List}
use mathlib.Core.Option.{none}
use Prim.Native.Nat.{ℕ}
use Rattle.machine.specs.Outcomes.Answer.{Answer, Going, Pushed, Bag, Empty, Full, Yes, No, Refused}
use Rattle.machine.specs.Answers.{refusal_of}
use Rattle.machine.specs.Calls.{tick_refusal, effect_of, Ticked, tick}
use Rattle.machine.specs.Answers.{ends_call}
use Rattle.machine.proofs.Basics.Contradiction.{clash}
use Rattle.machine.proofs.Words.TickLaws.{tick-answer}
use Rattle.machine.proofs.Linearizability.Calls.MadeTicks.{effect-made}
use Rattle.machine.proofs.Linearizability.Corollaries.{tick-passes}
use Rattle.machine_progress.proofs.SoloBound.Led.{Led}

-- An answer that is no refusal.
pub by_answer : (a : Answer) → refusal_of a ≡ none → (P : Type 0) → (ends_call a ≡ true → P) → (a ≡ Going → P) → P
by_answer Going e P ends goes = goes refl
by_answer Pushed e P ends goes = ends refl
by_answer (Bag b) e P ends goes = ends refl
by_answer Empty e P ends goes = ends refl
by_answer Full e P ends goes = ends refl
by_answer Yes e P ends goes = ends refl
by_answer No e P ends goes = ends refl
by_answer (Refused n) e P ends goes = clash (cc)

module _ {ws : List ℕ} (X : Led ws) (k h : ℕ) (passes : tick_refusal ws k h ≡ none) where
  says : (tick ws k h).answer ≡ (effect_of ws k h).answer
  says = ap (λ (r : Ticked). r.answer) (tick-passes X.agrees k h) ∙ tick-answer ws k h passes

  pub ends-or-goes : (P : Type 0) → (ends_call (tick ws k h).answer ≡ true → P)
      → ((tick ws k h).answer ≡ Going → (effect_of ws k h).answer ≡ Going → P)
      → P
  ends-or-goes P ends goes =
      by_answer (tick ws k h).answer (ap refusal_of says ∙ effect-made X.agrees k h passes) P ends
      (λ e. goes e (sym says ∙ e))
