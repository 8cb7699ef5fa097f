-- The choice of the task whose turn it is, and what its tick leaves.
use Rattle.std.proofs.Common.{◌≡◌, sym, ap, ◌∙◌, arith, Bool, true, false, not, List, ℕ, suc, ◌+◌, ◌-◌, ◌≤◌, ◌<◌}
use Rattle.std.proofs.Math.Option.{Option, some, none}
use Rattle.machine.specs.declared.answer.Answer.{Answer as Made}
use Rattle.machine.specs.Outcomes.Answer.{Refused}
use Rattle.machine.specs.Outcomes.Dispatch.{Idle, Answered}
use Rattle.machine.specs.Round.{following, first_from}
use Rattle.machine.specs.Operations.{operation_of}
use Rattle.machine.specs.Tasks.{operation_word}
use Rattle.machine.specs.Table.{task_count, dispatched, record_words, set_dispatched}
use Rattle.machine.specs.Shape.{WellFormed}
use Rattle.machine.specs.Answers.{refusal_of}
use Rattle.machine.specs.Calls.{is_idle, is_busy, Ticked, tick_on, is_busy_task, next_busy, dispatch_to, dispatch_on}
use Rattle.machine.specs.Results.{said}
use Rattle.machine.proofs.Words.TickLaws.{refused-unchanged}
use Rattle.machine.proofs.Shape.ShapeLaws.{well-shaped}
use Rattle.table_layout.proofs.Laws.Numbers.{not-busy}
use Rattle.table_shape.proofs.Laws.PassedTable.{operation-is}
use Rattle.table_shape.proofs.Laws.TableWords.{header-long, record-within}
use Rattle.call_tick.proofs.Laws.RunWords.{left-with, no-refusal}

-- ---- A task is busy where it is not idle by its operation's word.
pub busy-by-word :
    (ws : List ℕ) → WellFormed ws → (k : ℕ) → k < task_count ws → {w : ℕ} {b : Bool}
    → w ≡ operation_word (record_words ws k)
    → b ≡ is_idle (operation_of w)
    → not b ≡ is_busy_task ws k
busy-by-word ws P k is_task is_IsWord is-idle =
    let op = operation_of (operation_word (record_words ws k)) in
    ap not (is-idle ∙ ap (λ (n : ℕ). is_idle (operation_of n)) is_IsWord)
    ∙ sym (not-busy op)
    ∙ sym (ap is_busy (operation-is ws P k is_task))

-- ---- The choice, task by task: some are asked, task k the last of them, and j is the next.
module _ (ws : List ℕ) where
  abbrev pub from-here : (asked k : ℕ) → Option ℕ
  from-here asked k = first_from (task_count ws) (is_busy_task ws) (task_count ws - asked) (following (task_count ws) k)

  module _ (asked k : ℕ) {j : ℕ} (so_far : from-here asked k ≡ next_busy ws) (next : j ≡ following (task_count ws) k)
      (left : asked < task_count ws) where
    from-next : first_from (task_count ws) (is_busy_task ws) (suc (task_count ws - (asked + 1))) j ≡ next_busy ws
    from-next =
        let one_more : suc (task_count ws - (asked + 1)) ≡ task_count ws - asked = omega arith in
        ap (first_from (task_count ws) (is_busy_task ws) (suc (task_count ws - (asked + 1)))) next
        ∙ ap (λ i. first_from (task_count ws) (is_busy_task ws) i (following (task_count ws) k)) one_more
        ∙ so_far

    pub choice-ends : is_busy_task ws j ≡ true → some j ≡ next_busy ws
    unfolding first_from
    choice-ends e = rw (e, first_from) at from-next

    pub choice-goes-on : is_busy_task ws j ≡ false → from-here (asked + 1) j ≡ next_busy ws
    unfolding first_from
    choice-goes-on e = rw (e, first_from) at from-next

  pub none_left : (asked k : ℕ) → from-here asked k ≡ next_busy ws → task_count ws ≤ asked → none ≡ next_busy ws
  unfolding first_from
  none_left asked k so_far all =
      let none_more : task_count ws - asked ≡ 0 = omega arith in
      rw (none_more) at so_far

  pub last-is-task : WellFormed ws → dispatched ws < task_count ws
  last-is-task P = (well-shaped ws P.length_passes P.shape_passes).counts-ok.is_task

-- ---- The tick of the task chosen.
module _ (ws : List ℕ) (k h : ℕ) where
  pub to-refused : {n : ℕ} {vs : List ℕ} → left-with (Refused n) vs ≡ tick_on ws k h
      → record { answer = Answered (Refused n); words = vs } ≡ dispatch_to ws k h
  unfolding dispatch_to
  to-refused {n} ticked =
      let r : refusal_of (tick_on ws k h).answer ≡ some n = ap (λ (t : Ticked). refusal_of t.answer) (sym ticked) in
      rw (
        r,
        dispatch_to,
        ap (λ (t : Ticked). t.answer) (sym ticked),
        ap (λ (t : Ticked). t.words) ticked ∙ refused-unchanged ws k h r,
      )

  pub to_made : (a : Made) {vs : List ℕ} → left-with (said a) vs ≡ tick_on ws k h
      → record { answer = Answered (said a); words = set_dispatched k vs } ≡ dispatch_to ws k h
  unfolding dispatch_to
  to_made a ticked =
      rw (
        ap (λ (t : Ticked). refusal_of t.answer) (sym ticked) ∙ no-refusal a,
        dispatch_to,
        ap (λ (t : Ticked). t.answer) (sym ticked),
        ap (λ (t : Ticked). t.words) (sym ticked),
      )

-- ---- What follows the choice.
module _ (ws : List ℕ) (h : ℕ) where
  pub on-idle : none ≡ next_busy ws → record { answer = Idle; words = ws } ≡ dispatch_on ws h
  unfolding dispatch_on
  on-idle e = rw (sym e, dispatch_on)

  pub on-ticks : {k : ℕ} → some k ≡ next_busy ws → dispatch_to ws k h ≡ dispatch_on ws h
  unfolding dispatch_on
  on-ticks e = rw (sym e, dispatch_on)

-- What a dispatch rests on.
pub ruleset asks = (busy-by-word, record-within)

pub ruleset turns = (to-refused, to_made, on-idle, on-ticks)

pub ruleset choices = (choice-ends, choice-goes-on, none_left, last-is-task, header-long)
