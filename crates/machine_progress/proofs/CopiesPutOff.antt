-- Copies put an answer off for ever: but for the tick count, each round leaves the table as the first one did.
use mathlib.Core.Path.{◌≡◌, refl, ap, ◌∙◌}
use mathlib.Core.List.{List, [], ◌∷◌}
use mathlib.Core.Option.{Option, some, none, bind}
use Prim.Native.Nat.{ℕ, zero, suc, ◌+◌, ◌%◌, ◌^◌}
use native.Mathlib.Decide.{ℕ_discrete, dec_lt}
use Rattle.machine.specs.Outcomes.Answer.{Going}
use Rattle.machine.specs.Choice.{◌≟◌, if?◌then◌else◌}
use Rattle.machine.specs.Sides.{right, side_number}
use Rattle.machine.specs.Operations.{push, operation_number}
use Rattle.machine.specs.Values.{stored, decode}
use Rattle.machine.specs.Steps.{step_in, step_of, is_step_in}
use Rattle.machine.specs.Table.{hat, link, value, task, set_tick_count}
use Rattle.machine.specs.Shape.{all_below, same_words, node_ok, busy_ok, record_ok, shape_ok}
use Rattle.machine.specs.Lines.{write_all, act}
use Rattle.machine.specs.Calls.{
  times,
  start_nodes,
  start_words,
  start,
  begin,
  effect_of,
  applied,
  tick_on,
  tick,
  is_begun,
  lane_from,
  lane,
  lanes_below,
}
use Rattle.machine.specs.Lent.{lent_to, begin_lent}
use Rattle.machine.specs.Row.{Note, new_note, feed_made}
use Rattle.machine.specs.Demand3.{feed_tick}
use Rattle.machine.specs.Kinds.{of_task}
use Rattle.machine.specs.Events.{Event, Known, nothing_known, every_copy, known_after, pending_of, with_copied, after_events}
use Rattle.machine_progress.specs.CopiesPutOff.{ticks_made, rounds, old, putting_off, PutOff, CopiesPutOff}

-- The table and what is known after a round, with this tick count and whatever notes.
table : ℕ → List ℕ
table c = set_tick_count c (after_events (putting_off 1) old)

known : (ℕ → Option Note) → Known
known notes =
    record {
      row = some (record { lanes = 1; bags = λ l. []; notes = notes; tasks = 1; dispatched = 0 });
      kept = [];
      pending = [];
    }

-- The notes after a copy.
pushing : (ℕ → Option Note) → ℕ → Option Note
pushing notes j = if? j ≟ 0 then some (new_note 0 (operation_number push) (side_number right) (stored 51)) else notes j

-- Events that begin with a round: the tick of it says "going".
one_more : {n : ℕ} (es others : List Event) {ws vs : List ℕ} {κ κ' : Known} → PutOff n others vs κ'
    → known_after every_copy es ws κ ≡ known_after every_copy others vs κ'
    → ticks_made es ws ≡ of_task 0 Going ∷ ticks_made others vs
    → PutOff (suc n) es ws κ
one_more es others R same_known one-tick =
    record {
      known_then = R.known_then;
      row = R.row;
      explained = same_known ∙ R.explained;
      still_known = R.still_known;
      all_going = one-tick ∙ ap (◌∷◌ (of_task 0 Going)) R.all_going;
    }

none_yet : (notes : ℕ → Option Note) (es : List Event) (ws : List ℕ) (κ : Known)
    → known_after every_copy es ws κ ≡ some (known notes)
    → ticks_made es ws ≡ []
    → PutOff 0 es ws κ
unfolding known
none_yet notes es ws κ told no_tick =
    record {
      known_then = known notes;
      row = _;
      explained = told;
      still_known = refl;
      all_going = no_tick;
    }

pub copies-put-off : CopiesPutOff
unfolding table known pushing rounds ticks_made after_events known_after bind pending_of with_copied feed_made feed_tick
    lent_to begin_lent ℕ_discrete dec_lt decode step_in step_of is_step_in hat link value task all_below same_words node_ok
    busy_ok record_ok shape_ok write_all act times start_nodes start_words start begin effect_of applied tick_on tick is_begun
    lane_from lane lanes_below
copies-put-off zero = none_yet (λ j. none) (putting_off 0) old nothing_known refl refl
copies-put-off (suc n) = one_more (putting_off (suc n)) (rounds n) (by-rounds n 1 (pushing (λ j. none))) refl refl
  where
    by-rounds : (m c : ℕ) (notes : ℕ → Option Note) → PutOff m (rounds m) (table c) (known notes)
    by-rounds zero c notes = none_yet notes (rounds 0) (table c) (known notes) refl refl
    by-rounds (suc m) c notes =
        one_more (rounds (suc m)) (rounds m) (by-rounds m ((c + 1) % 2 ^ 32) (pushing notes)) refl refl
