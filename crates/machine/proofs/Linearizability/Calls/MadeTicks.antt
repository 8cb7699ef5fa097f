-- A tick that is made keeps the agreement of the table and the row, and its answer is one that the row gives.
use mathlib.Core.Path.{◌≡◌, refl, sym, ap, ◌∙◌, subst, fun_ext}
use mathlib.Core.Bool.{true, false}
use mathlib.Core.List.{List}
use mathlib.Core.Logic.{◌≢◌}
use mathlib.Core.Option.{Option, some, none, bind}
use Prim.Native.Nat.{ℕ, ◌<◌}
use Rattle.machine.specs.Shape.{WellFormed, sizes_of, WellSized}
use Rattle.machine.specs.Outcomes.Answer.{Answer, Going, Pushed, Bag, Empty, Full, Yes, No, Refused}
use Rattle.machine.specs.Choice.{◌≟◌, if?◌then◌else◌}
use Rattle.machine.specs.Sides.{Side, left, right, opposite}
use Rattle.machine.specs.Operations.{Operation, idle, push, pop, add, remove}
use Rattle.machine.specs.Tasks.{Task, fresh, no_node, goal, Register, register, in_a, in_b, in_c, in_d}
use Rattle.machine.specs.Table.{node_count, task_count, growth, lane_count, task}
use Rattle.machine.specs.Allocate.{allocate}
use Rattle.machine.specs.Lines.{Memory, act}
use Rattle.machine.specs.Answers.{refusal_of, is_going}
use Rattle.machine.specs.Calls.{is_busy, tick_refusal, effect_of, tick_on}
use Rattle.machine.specs.Row.{Note, Row, noted, with_bags, answered, feed_made}
use Rattle.machine.proofs.Basics.Contradiction.{clash, refute}
use Rattle.machine.proofs.Basics.Choices.{by-if}
use Rattle.machine.proofs.Basics.Updates.{update, update_same, update_other}
use Rattle.machine.proofs.Words.Memories.{viewed, seen-viewed}
use Rattle.machine.proofs.Words.Columns.{columns}
use Rattle.machine.proofs.Shape.BusyLaws.{NodeOrNone}
use Rattle.machine.proofs.Shape.ShapeLaws.{WellShaped, well_sized, well-shaped, length-ok, shape-ok}
use Rattle.machine.proofs.Shape.TickKeeps.{busy-facts, idle-fresh, tick-allowed, tick-kept}
use Rattle.machine.proofs.Words.TickLaws.{tick-answer, tick-viewed, tick-task}
use Rattle.machine.proofs.SlotRule.Reached.{
  WellLinked,
  keeps,
  keeps-hat,
  keeps-register,
  keeps-link,
}
use Rattle.machine.proofs.SlotRule.FirstFree.{allocate-not-kept}
use Rattle.machine.proofs.Linearizability.Model.Invariant.{Roots, RowStep, note_of, Kept, goes_on, has_answered}
use Rattle.machine.proofs.Linearizability.Lines.InvariantTick.{TickKeeps, never-refused, invariant-tick}
use Rattle.machine.proofs.Linearizability.Calls.Agreement.{note_under, note_in, Agrees}
use Rattle.machine.proofs.Linearizability.Calls.RowSteps.{given-by-row, same-row-from}
use Rattle.machine.proofs.Linearizability.Model.RowViews.{row_from}

-- ---- An accepted table, by its views.
module _ {ws : List ℕ} (A : WellFormed ws) where
  sizes : WellSized (sizes_of ws)
  sizes = well_sized ws A.length_passes

  shape : WellShaped (columns ws)
  shape = well-shaped ws A.length_passes A.shape_passes

  registers-ok : (k : ℕ) (r : Register) → NodeOrNone (node_count ws) (register (task ws k) r)
  registers-ok k r = go (task ws k).operation refl
    where
      of-busy :
          (r : Register) → is_busy (task ws k).operation ≡ true → NodeOrNone (node_count ws) (register (task ws k) r)
      of-busy in_a b = (busy-facts ws shape k b).A-ok
      of-busy in_b b = (busy-facts ws shape k b).B-ok
      of-busy in_c b = (busy-facts ws shape k b).C-ok
      of-busy in_d b = (busy-facts ws shape k b).D-ok

      of-fresh : (r : Register) → register fresh r ≡ no_node
      of-fresh in_a = refl
      of-fresh in_b = refl
      of-fresh in_c = refl
      of-fresh in_d = refl

      go : (op : Operation) → (task ws k).operation ≡ op → NodeOrNone (node_count ws) (register (task ws k) r)
      go idle e = λ n. absurd (n (ap (λ (t : Task). register t r) (idle-fresh ws shape k e) ∙ of-fresh r))
      go push e = of-busy r (ap is_busy e)
      go pop e = of-busy r (ap is_busy e)
      go add e = of-busy r (ap is_busy e)
      go remove e = of-busy r (ap is_busy e)

  pub well-linked : WellLinked ws
  well-linked =
      record {
        few = sizes.most_nodes;
        hats = λ l s. (shape.hats-ok l s).used;
        links = shape.links-ok;
        registers = registers-ok;
      }

  -- What the marking keeps is closed under links and holds the hats and the registers that hold.
  pub kept-roots : Roots (lane_count ws) (keeps ws) (viewed right ws) (task ws)
  kept-roots =
      let W = well-linked in
      record {
        closed =
            record { out-closed = keeps-link W right; inn-closed = keeps-link W left; hats-held = keeps-hat W };
        registers = keeps-register W;
      }

-- ---- Small facts about answers, notes and effects.
no-refusal : (a : Answer) → ((n : ℕ) → a ≢ Refused n) → refusal_of a ≡ none
no-refusal Going h = refl
no-refusal Pushed h = refl
no-refusal (Bag b) h = refl
no-refusal Empty h = refl
no-refusal Full h = refl
no-refusal Yes h = refl
no-refusal No h = refl
no-refusal (Refused n) h = absurd (h n refl)

not_going : (a : Answer) → a ≢ Going → is_going a ≡ false
not_going Going h = absurd (h refl)
not_going Pushed h = refl
not_going (Bag b) h = refl
not_going Empty h = refl
not_going Full h = refl
not_going Yes h = refl
not_going No h = refl
not_going (Refused n) h = refl

busy-note : (t : Task) → is_busy t.operation ≡ true → note_in t ≡ some (note_of t)
busy-note t = go t.operation
  where
    go : (op : Operation) → is_busy op ≡ true → note_under op (note_of t) ≡ some (note_of t)
    go idle b = clash (cc)
    go push b = refl
    go pop b = refl
    go add b = refl
    go remove b = refl

pub not-idle : (op : Operation) → is_busy op ≡ true → op ≢ idle
not-idle op b e = refute (cc)

-- ---- The tick.
pub record MadeTick (ws : List ℕ) (ρ : Row) (k h : ℕ) : Type 0 where
  pub row : Row
  pub no_number : refusal_of (tick_on ws k h).answer ≡ none
  pub given : feed_made ρ k (tick_on ws k h).answer ≡ some row
  pub agrees : Agrees (tick_on ws k h).words row

module _ {ws : List ℕ} {ρ : Row} (A : Agrees ws ρ) (k h : ℕ) (passes : tick_refusal ws k h ≡ none) where
  is_task : k < task_count ws
  is_task = (tick-allowed ws k h passes).0

  is_hint : h < node_count ws
  is_hint = (tick-allowed ws k h passes).1

  is-busy : is_busy (task ws k).operation ≡ true
  is-busy = (tick-allowed ws k h passes).2

  pub keeps-invariant : TickKeeps (lane_count ws) (viewed right ws) (task ws) ρ.bags k (effect_of ws k h)
  unfolding effect_of
  keeps-invariant =
      let s = (task ws k).side in
      subst
      (λ (m : Memory).
      TickKeeps (lane_count ws) (viewed right ws) (task ws) ρ.bags k
      (act (task ws k).step s (opposite s) m (task ws k) (goal (growth ws) (task ws k)) (allocate ws h)))
      (seen-viewed (task ws k).lane s ws)
      (invariant-tick A.invariant (kept-roots A.accepted) k (goal (growth ws) (task ws k)) (allocate ws h)
      (not-idle (task ws k).operation is-busy)
      (allocate-not-kept (well-linked A.accepted) is_hint))

  -- The line of a busy task does not refuse it.
  pub effect-made : refusal_of (effect_of ws k h).answer ≡ none
  effect-made = no-refusal (effect_of ws k h).answer (never-refused keeps-invariant)

  abbrev tasks-after : ℕ → Task
  tasks-after = update (task ws) k (effect_of ws k h).task

  answer-is : (tick_on ws k h).answer ≡ (effect_of ws k h).answer
  answer-is = tick-answer ws k h passes

  -- The table afterwards, with a row that has the bags that the invariant speaks of.
  agrees_after : (ρ' : Row) → ρ'.bags ≡ keeps-invariant.r' → ((j : ℕ) → ρ'.notes j ≡ note_in (tasks-after j))
      → ρ'.lanes ≡ ρ.lanes
      → ρ'.tasks ≡ ρ.tasks
      → ρ'.dispatched ≡ ρ.dispatched
      → Agrees (tick_on ws k h).words ρ'
  agrees_after ρ' same-bags same-notes same-lanes same_tasks same_dispatched =
      let Z = sizes A.accepted in
      let W = shape A.accepted in
      let K = tick-kept ws Z W k h in
      let e = effect_of ws k h in
      let viewed-after = tick-viewed ws k h passes Z W effect-made in
      let task-after = tick-task ws k h passes Z W effect-made in
      let lanes-after : lane_count (tick_on ws k h).words ≡ lane_count ws = ap (λ z. z.lane_count) K.same-sizes in
      record {
        accepted =
            record {
              length_passes = length-ok (tick_on ws k h).words K.well_sized;
              shape_passes = shape-ok (tick_on ws k h).words K.well-shaped;
            };
        class = keeps-invariant.class';
        invariant =
            rw (lanes-after, viewed-after, task-after, same-bags) keeps-invariant.invariant;
        notes = λ j. rw task-after (same-notes j);
        same-lanes = same-lanes ∙ A.same-lanes ∙ sym lanes-after;
        same_count = same_tasks ∙ A.same_count ∙ sym (ap (λ z. z.task_count) K.same-sizes);
        same_dispatched = same_dispatched ∙ A.same_dispatched ∙ sym K.same_dispatched;
      }

  note : ρ.notes k ≡ some (note_of (task ws k))
  note = A.notes k ∙ busy-note (task ws k) is-busy

  -- A task that goes on keeps its note; one that has answered has none.
  notes-going : note_of (effect_of ws k h).task ≡ note_of (task ws k) → (j : ℕ) → ρ.notes j ≡ note_in (tasks-after j)
  notes-going same j =
      elim (j ≟ k) [
        | yes e ↦
            ap ρ.notes e ∙ A.notes k ∙ same-note ∙ sym (ap note_in (ap tasks-after e ∙ update_same (task ws) k _))
        | no n ↦ A.notes j ∙ sym (ap note_in (update_other (task ws) k _ j n))
      ]
    where
      same-note : note_in (task ws k) ≡ note_in (effect_of ws k h).task
      same-note = ap (λ (n : Note). note_under n.operation n) (sym same)

  notes-ended : (effect_of ws k h).task ≡ fresh → (j : ℕ)
      → (if? j ≟ k then none else ρ.notes j) ≡ note_in (tasks-after j)
  notes-ended fresh-now j =
      by-if (λ (n : Option Note). n ≡ note_in (tasks-after j)) (j ≟ k)
      (λ e. sym (ap note_in (ap tasks-after e ∙ update_same (task ws) k _ ∙ fresh-now)))
      (λ n. A.notes j ∙ sym (ap note_in (update_other (task ws) k _ j n)))

  feed-going : (effect_of ws k h).answer ≡ Going → feed_made ρ k (tick_on ws k h).answer ≡ some ρ
  unfolding feed_made bind
  feed-going e = rw (answer-is, e, note)

  feed-answer : {r : List ℕ} → (effect_of ws k h).answer ≢ Going
      → answered (note_of (task ws k)) (effect_of ws k h).answer (ρ.bags (task ws k).lane) ≡ some r
      → feed_made ρ k (tick_on ws k h).answer ≡ some (noted (with_bags ρ (task ws k).lane r) k none)
  unfolding feed_made bind
  feed-answer n e = rw (answer-is, note, not_going (effect_of ws k h).answer n, e)

  pub made-tick : MadeTick ws ρ k h
  made-tick = go keeps-invariant.kept
    where
      T : TickKeeps (lane_count ws) (viewed right ws) (task ws) ρ.bags k (effect_of ws k h)
      T = keeps-invariant

      s : Side
      s = (task ws k).side

      ℓ : ℕ
      ℓ = (task ws k).lane

      no-answer-number : refusal_of (tick_on ws k h).answer ≡ none
      no-answer-number = ap refusal_of answer-is ∙ effect-made

      -- The other lanes' rows are as they were.
      same_rows : ρ.bags ℓ ≡ T.r' ℓ → ρ.bags ≡ T.r'
      same_rows e =
          fun_ext (λ j.
          elim (j ≟ ℓ) [
            | yes q ↦ ap ρ.bags q ∙ e ∙ ap T.r' (sym q)
            | no n ↦ sym (T.other-rows j n)
          ])

      moved_row : (with_bags ρ ℓ (T.r' ℓ)).bags ≡ T.r'
      moved_row =
          fun_ext (λ j.
          by-if (λ (l : List ℕ). l ≡ T.r' j) (j ≟ ℓ) (λ q. ap T.r' (sym q)) (λ n. sym (T.other-rows j n)))

      go : Kept (task ws k) (effect_of ws k h) → MadeTick ws ρ k h
      go (goes_on e same) =
          let same_row : row_from s (T.r' ℓ) ≡ row_from s (ρ.bags ℓ) =
          subst
          (λ (a : Answer).
          RowStep (task ws k).operation (task ws k).argument a (row_from s (ρ.bags ℓ)) (row_from s (T.r' ℓ)))
          e T.row_step in
          record {
            row = ρ;
            no_number = no-answer-number;
            given = feed-going e;
            agrees =
                agrees_after ρ (same_rows (sym (same-row-from s (T.r' ℓ) (ρ.bags ℓ) same_row))) (notes-going same)
                refl refl refl;
          }
      go (has_answered n fresh-now) =
          let bags =
          given-by-row (note_of (task ws k)) (ρ.bags ℓ) (T.r' ℓ) (effect_of ws k h).answer n T.row_step in
          record {
            row = noted (with_bags ρ ℓ (T.r' ℓ)) k none;
            no_number = no-answer-number;
            given = feed-answer n bags;
            agrees =
                agrees_after (noted (with_bags ρ ℓ (T.r' ℓ)) k none) moved_row (notes-ended fresh-now)
                refl refl refl;
          }
