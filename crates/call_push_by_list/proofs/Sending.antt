-- A push by list, by where the list sends the tag.
use mathlib.Core.List.{List}
use mathlib.Core.Path.{◌≡◌, sym, ap, ◌∙◌}
use Prim.Native.Nat.{ℕ}
use Rattle.machine.specs.declared.Stored.{Stored}
use Rattle.machine.specs.Sides.{side_number}
use Rattle.machine.specs.Values.{number}
use Rattle.machine.specs.Operations.{push, operation_number}
use Rattle.machine.specs.Calls.{Changed, begin}
use Rattle.std.specs.Prelude.{Result}
use Rattle.machine.specs.declared.refusal.Refusal.{Refusal}
use Rattle.machine.specs.Results.{replied, changed_of}
use Rattle.airline_list.specs.declared.End.{End}
use Rattle.airline_list.specs.Outcomes.{Sent, To, NotSent}
use Rattle.airline_list.specs.Lists.{verdict, sent}
use Rattle.machine.specs.Outcomes.ByList.{Replied, Faulty}
use Rattle.machine.specs.PushByList.{side_at, replied_of, push_to, push_by_list}

module _ (list ws : List ℕ) (k l : ℕ) (argument : Stored) (s : Sent) (tag : ℕ) (its-tag : tag ≡ number argument)
    (sends : s ≡ sent (verdict list) tag) where
  sent-so : (other : Sent) → s ≡ other → other ≡ sent (verdict list) (number argument)
  sent-so other e = sym e ∙ sends ∙ ap (sent (verdict list)) its-tag

  pub begun-at : (end : End) → s ≡ To end → (side : ℕ) → side ≡ side_number (side_at end) → (r : Result (Unit {0}) Refusal)
      → (after : List ℕ)
      → changed_of r after ≡ begin ws k l (operation_number push) side argument
      → replied_of (Replied (replied r)) after ≡ push_by_list list ws k l argument
  unfolding push_by_list
  begun-at end e side its-side r after begun =
      ap (λ (c : Changed). replied_of (Replied c.reply) c.words)
      (begun ∙ ap (λ (n : ℕ). begin ws k l (operation_number push) n argument) its-side)
      ∙ ap (λ (other : Sent). push_to other ws k l argument) (sent-so (To end) e)

  pub not-begun : (n line : ℕ) → s ≡ NotSent n line → replied_of (Faulty n line) ws ≡ push_by_list list ws k l argument
  unfolding push_by_list
  not-begun n line e = ap (λ (other : Sent). push_to other ws k l argument) (sent-so (NotSent n line) e)
