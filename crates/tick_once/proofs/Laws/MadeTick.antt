-- A tick in code, from the line's outcome to the words: what `tick_once::make` relies on and comes to.
use mathlib.Core.Path.{◌≡◌, refl, sym, ap, ◌∙◌, subst}
use mathlib.Core.Bool.{Bool, true, ◌||◌}
use mathlib.Core.Logic.{◌≢◌}
use mathlib.Core.List.{List}
use mathlib.Core.Option.{none}
use Prim.Native.Nat.{ℕ, ◌*◌, ◌<◌}
use native.Mathlib.Omega.{arith}
use lib.ListN.{length}
use lib.Seq.{sets}
use lib.Dec.{eqb}
use borrow.Author.Tests.{ne_eqb}
use Rattle.std.specs.Prelude.{Result, Ok, Err, IfOk}
use Rattle.machine.specs.declared.answer.Answer.{Answer as Made}
use Rattle.machine.specs.declared.answer.Answer.TheVariants as made-answer
use Rattle.machine.specs.declared.refusal.Refusal.{Refusal}
use Rattle.machine.specs.Outcomes.Answer.{Answer, Going, Refused}
use Rattle.machine.specs.Sides.{Side, side_of}
use Rattle.machine.specs.Values.{number}
use Rattle.machine.specs.Operations.{operation_of, argument_ok, goal_of}
use Rattle.machine.specs.Steps.{line28, line31, step_of, is_step_in}
use Rattle.machine.specs.Tasks.{Task, no_node, words_of, goal}
use Rattle.machine.specs.Table.{node_length, record_at, node_count, growth, lane_count, most_lanes, task_count, hat, node_part, record_words}
use Rattle.machine.specs.Allocate.{allocate}
use Rattle.machine.specs.Lines.{Effect, write_all}
use Rattle.machine.specs.Answers.{refusal_of, is_going}
use Rattle.machine.specs.Calls.{effect_of, applied, tick_counted}
use Rattle.machine.specs.Results.{said, ticked_of}
use Rattle.machine.specs.Shape.{sizes_of, WellSized}
use Rattle.machine.proofs.Words.Columns.{columns}
use Rattle.machine.proofs.Words.EffectLaws.{effect_words}
use Rattle.machine.proofs.Words.TickLaws.{fit_effect}
use Rattle.machine.proofs.Words.RunLaws.{going-answer}
use Rattle.machine.proofs.Shape.ShapeLaws.{WellShaped, well_sized, well-shaped}
use Rattle.machine.proofs.Shape.Fits.{Fits}
use Rattle.machine.proofs.Shape.TickKeeps.{effect-fits, allocated-node}
use Rattle.machine.proofs.Linearizability.Model.Invariant.{note_of}
use Rattle.table_record.specs.declared.Task as Tasks
use Rattle.table_record.specs.Coded.{struct_of, record_of, coded_task, task_meant, SameCall}
use Rattle.table_layout.specs.Words.{HoldsHeader, HoldsNodes, HoldsNode, HoldsRecord}
use Rattle.table_layout.proofs.Laws.Views.{part-long}
use Rattle.table_layout.proofs.Laws.LaidNodes.{with_nodes, count-laid, length-laid, record-laid}
use Rattle.line_parts.specs.declared.ends.Done.{Done}
use Rattle.line_parts.specs.Lent.{writes_in, hat_after, LineOutcome, line_done, outcome_of, effect_in, line_of}
use Rattle.line_choice.specs.Groups.{other_lines, all_steps, ReadyIn}
use Rattle.line_choice.proofs.StepChoice.{every-at, ready-regrouped, line_at}
use Rattle.tick_store.specs.Outcomes.{GoesOn, recorded, stored, finished}
use Rattle.tick_once.specs.Steps.{MayTick, found_at31, made}
use Rattle.tick_once.proofs.Laws.FoundAt31.{found-enough, found-node}
use Rattle.tick_once.proofs.Laws.CallKept.{effect-keeps, coded-call}
use Rattle.tick_once.proofs.Laws.TickReady.{
  meant-task,
  side-low,
  lane_low,
  held-or-none,
  argument-fits,
  ready-task,
}
use Rattle.tick_once.proofs.Laws.TickWords.{told, line-is-effect, refused-words, made-words}

applied-made :
    (ℓ : ℕ) (s : Side) (ws : List ℕ) (k : ℕ) (e : Effect)
    → refusal_of e.answer ≡ none
    → applied ℓ s ws k e ≡ told e.answer (effect_words ℓ s e.writes k e.task ws)
unfolding applied
applied-made ℓ s ws k e h = rw (h, applied)

-- What is made is not refused.
none-of-made : (a : Made) → refusal_of (said a) ≡ none
none-of-made made-answer.Going = refl
none-of-made made-answer.Pushed = refl
none-of-made (made-answer.Bag b) = refl
none-of-made made-answer.Empty = refl
none-of-made made-answer.Full = refl
none-of-made made-answer.Yes = refl
none-of-made made-answer.No = refl

-- A step of a line that takes a node, or of another.
abbrev taking-or-other : ℕ → Bool
taking-or-other n = eqb n 28 || (eqb n 31 || is_step_in other_lines n)

-- A tick that passed its tests, with the record that the code read of its task.
pub record Tick (ws : List ℕ) (k hint : ℕ) : Type 0 where
  pub may : MayTick ws k hint
  pub old : Tasks.Task
  pub old-is : old ≡ struct_of (record_words ws k)

module _ {ws : List ℕ} {k hint : ℕ} (tick : Tick ws k hint) where
  abbrev is_task : k < task_count ws
  is_task = tick.may.is_task

  table-sized : WellSized (sizes_of ws)
  table-sized = well_sized ws tick.may.table.length_passes

  table-shaped : WellShaped (columns ws)
  table-shaped = well-shaped ws tick.may.table.length_passes tick.may.table.shape_passes

  abbrev record-read : Tasks.Task
  record-read = struct_of (record_words ws k)

  abbrev side : Side
  side = side_of record-read.side

  abbrev lane : ℕ
  lane = record-read.lane

  abbrev effect : Effect
  effect = effect_of ws k hint

  pub nodes-room : HoldsNodes ws
  nodes-room = let sized = table-sized.sized in omega arith

  pub header-room : HoldsHeader ws
  header-room = let room = nodes-room in omega arith

  record-room : HoldsRecord ws k
  record-room = let sized = table-sized.sized in let below = is_task in omega arith

  record-side : record-read.side < 2
  record-side = side-low ws table-sized table-shaped k is_task

  line-ready : ReadyIn all_steps (node_part ws) record-read
  line-ready = ready-task ws table-sized table-shaped k is_task tick.may.busy

  found-low : allocate ws hint ≢ no_node → allocate ws hint < node_count ws
  found-low = allocated-node ws hint tick.may.is_hint

  found-held : {f : ℕ} → (f ≢ no_node → f < node_count ws) → f ≢ no_node → HoldsNode (node_part ws) f
  found-held {f} = held-or-none ws table-sized table-shaped k is_task f

  record-lane : record-read.lane < most_lanes
  record-lane = lane_low ws table-sized table-shaped k is_task tick.may.busy

  -- The outcome of the line that the code makes is the effect of the definitions.
  outcome : {g h : ℕ} {o : LineOutcome}
      → h ≡ hat ws lane side
      → g ≡ goal_of (operation_of record-read.operation) (growth ws) (number record-read.argument)
      → o ≡ line_of (step_of record-read.step) (node_part ws) h record-read g (allocate ws hint)
      → o ≡ effect_in side (node_part ws) (hat ws lane side) effect
  outcome {g} is-hat eg line =
      line
      ∙ ap (λ (x : ℕ). line_of (step_of record-read.step) (node_part ws) x record-read g (allocate ws hint)) is-hat
      ∙ line-is-effect ws table-sized table-shaped k is_task hint g
      (eg ∙ ap (goal (growth ws)) (meant-task ws table-sized table-shaped k is_task))

  -- ---- The words.
  fits : Fits (node_count ws) (growth ws) (lane_count ws) (effect_of ws k hint)
  fits = effect-fits ws table-shaped k hint tick.may.is_hint tick.may.busy

  own-end : applied lane side ws k (effect_of ws k hint) ≡ made ws k hint
  own-end =
      ap (λ (t : Task). applied t.lane t.side ws k (effect_of ws k hint))
      (meant-task ws table-sized table-shaped k is_task)

  -- Of a line that is refused.
  refused-tick :
      {n : ℕ} {ns : List ℕ} {h : ℕ} {t : Tasks.Task}
      → record { nodes = ns; hat = h; task = t; answer = Refused n }
      ≡ effect_in side (node_part ws) (hat ws lane side) effect
      → told (Refused n) (with_nodes ns ws) ≡ made ws k hint
  refused-tick out =
      refused-words lane side ws k effect fits (sym (ap (λ (o : LineOutcome). o.answer) out))
      (ap (λ (o : LineOutcome). o.nodes) out)
      ∙ own-end

  -- Of one that is made.
  module _ {ns : List ℕ} (d : Done)
      (out : line_done ns d ≡ effect_in side (node_part ws) (hat ws lane side) (effect_of ws k hint)) where
    nodes-are : ns ≡ writes_in side effect.writes (node_part ws)
    nodes-are = ap (λ (o : LineOutcome). o.nodes) out

    hat_is : d.hat ≡ hat_after effect.writes (hat ws lane side)
    hat_is = ap (λ (o : LineOutcome). o.hat) out

    answer-is : said d.answer ≡ effect.answer
    answer-is = ap (λ (o : LineOutcome). o.answer) out

    record_is : record_of d.task ≡ words_of effect.task
    record_is = ap (λ (o : LineOutcome). record_of o.task) out

    -- A task that goes on keeps its call.
    same-call : is_going (said d.answer) ≡ true → SameCall record-read d.task
    same-call g =
        let going : effect.answer ≡ Going = sym answer-is ∙ going-answer (said d.answer) g in
        let note = ap note_of (meant-task ws table-sized table-shaped k is_task)
        ∙ sym ((effect-keeps ws k hint).kept going) in
        subst (λ (u : Tasks.Task). SameCall u d.task) line-ready.ready.canonical
        (subst (SameCall (coded_task (task_meant record-read))) (sym (ap (λ (o : LineOutcome). o.task) out))
        (coded-call (task_meant record-read) effect.task note))

    keeps-call :
        length ns ≡ node_length * node_count ws → GoesOn (with_nodes ns ws) k (is_going (said d.answer)) d.task
    keeps-call long g =
        subst (λ (r : List ℕ). SameCall (struct_of r) d.task) (sym (record-laid ns ws nodes-room long k))
        (same-call g)

    pub made-tick : ticked_of (Ok d.answer) (stored (with_nodes ns ws) lane side d.hat k d.task) ≡ made ws k hint
    made-tick =
        let none-refused : refusal_of (effect_of ws k hint).answer ≡ none
        = ap refusal_of (sym answer-is) ∙ none-of-made d.answer in
        let in-range = (fit_effect (node_count ws) (growth ws) (lane_count ws) fits none-refused).0 in
        let written = made-words lane side ws k effect record-lane nodes-room in-range nodes-are hat_is in
        ap (told (said d.answer))
        (ap (λ (l : List ℕ). tick_counted (recorded l k d.task)) written
        ∙ ap
        (λ (l : List ℕ).
        tick_counted (sets (write_all lane side effect.writes ws)
        (record_at (node_count (write_all lane side effect.writes ws)) k) l))
        record_is)
        ∙ ap (λ (a : Answer). told a (effect_words lane side effect.writes k effect.task ws)) answer-is
        ∙ sym (applied-made lane side ws k effect none-refused)
        ∙ own-end

  -- ---- The same of the record and of the part that the code has, which are those.
  abbrev old : Tasks.Task
  old = tick.old

  abbrev old-is : old ≡ struct_of (record_words ws k)
  old-is = tick.old-is

  pub its-side : old.side < 2
  its-side = subst (λ (u : Tasks.Task). u.side < 2) (sym old-is) record-side

  pub its-lane : old.lane < most_lanes
  its-lane = subst (λ (u : Tasks.Task). u.lane < most_lanes) (sym old-is) record-lane

  pub its-argument : argument_ok (operation_of old.operation) old.argument ≡ true
  its-argument =
      subst (λ (u : Tasks.Task). argument_ok (operation_of u.operation) u.argument ≡ true) (sym old-is)
      (argument-fits ws table-sized table-shaped k is_task tick.may.busy)

  module _ {part : List ℕ} (is-part : part ≡ node_part ws) where
    pub its-ready : ReadyIn all_steps part old
    its-ready =
        subst (λ (l : List ℕ). ReadyIn all_steps l old) (sym is-part)
        (subst (ReadyIn all_steps (node_part ws)) (sym old-is) line-ready)

    pub others-ready : old.step ≢ 28 → old.step ≢ 31 → ReadyIn other_lines part old
    unfolding is_step_in
    others-ready n₂₈ n₃₁ =
        ready-regrouped its-ready (narrowed (every-at taking-or-other all_steps old.step refl its-ready.in_group))
      where
        narrowed : taking-or-other old.step ≡ true → is_step_in other_lines old.step ≡ true
        narrowed e = rw (ne_eqb old.step 28 n₂₈, ne_eqb old.step 31 n₃₁) at e

    -- The node found, at 28 and at 31.
    its-node : {f : ℕ} → (f ≢ no_node → f < node_count ws) → f ≢ no_node → HoldsNode part f
    its-node {f} h = subst (λ (l : List ℕ). f ≢ no_node → HoldsNode l f) (sym is-part) (found-held h)

    pub found-28 : {f : ℕ} → f ≡ allocate ws hint → f ≢ no_node → HoldsNode part f
    found-28 e = its-node (subst (λ (x : ℕ). x ≢ no_node → x < node_count ws) (sym e) found-low)

    pub found-31 : {f : ℕ} → f ≡ found_at31 old (allocate ws hint) → f ≢ no_node → HoldsNode part f
    found-31 e =
        its-node
        (subst (λ (x : ℕ). x ≢ no_node → x < node_count ws) (sym e)
        (found-node old (allocate ws hint) (node_count ws) found-low))

    -- The line that the code makes, by what it knows of the step and of the node, with its hat.
    abbrev pub the-line : (h g : ℕ) → LineOutcome
    the-line h g = line_of (step_of old.step) part h old g (allocate ws hint)

    pub at-28 : (h g : ℕ) {f : ℕ} {o : LineOutcome}
        → old.step ≡ 28
        → f ≡ allocate ws hint
        → o ≡ line_of line28 part h old g f
        → o ≡ the-line h g
    at-28 h g step found line =
        line ∙ ap (line_of line28 part h old g) found ∙ line_at line28 step part _ old g (allocate ws hint)

    pub at-31 : (h g : ℕ) {f : ℕ} {o : LineOutcome}
        → old.step ≡ 31
        → f ≡ found_at31 old (allocate ws hint)
        → o ≡ line_of line31 part h old g f
        → o ≡ the-line h g
    at-31 h g step found line =
        line
        ∙ ap (line_of line31 part h old g) found
        ∙ found-enough part h old g (allocate ws hint)
        ∙ line_at line31 step part _ old g (allocate ws hint)

    module _ {h g : ℕ} (is-hat : h ≡ hat ws old.lane (side_of old.side))
        (goal-is : g ≡ goal_of (operation_of old.operation) (growth ws) (number old.argument)) where
      done-is : {o : LineOutcome}
          → o ≡ line_of (step_of old.step) part h old g (allocate ws hint)
          → o ≡ effect_in side (node_part ws) (hat ws lane side) effect
      done-is {o} line-is =
          subst
          (λ (u : Tasks.Task).
          h ≡ hat ws u.lane (side_of u.side)
          → g ≡ goal_of (operation_of u.operation) (growth ws) (number u.argument)
          → o ≡ line_of (step_of u.step) (node_part ws) h u g (allocate ws hint)
          → o ≡ effect_in side (node_part ws) (hat ws lane side) effect)
          (sym old-is) outcome is-hat goal-is
          (line-is ∙ ap (λ (l : List ℕ). line_of (step_of old.step) l h old g (allocate ws hint)) is-part)

      -- What `finish` relies on: the hat and the record are there, and a task that goes on keeps its call.
      pub its-finish :
          (ns : List ℕ) {after : List ℕ} (d : Result Done Refusal)
          → after ≡ with_nodes ns ws
          → outcome_of ns h old d ≡ line_of (step_of old.step) part h old g (allocate ws hint)
          → length ns ≡ length part
          → ((old.lane < most_lanes) × (old.side < 2) × HoldsRecord after k)
          × IfOk d (λ m. GoesOn after k (is_going (said m.answer)) m.task)
      its-finish ns {after} d is-after line-is kept =
          ((its-lane, its-side, subst (λ (l : List ℕ). HoldsRecord l k) (sym is-after) room), on d line-is)
        where
          long : length ns ≡ node_length * node_count ws
          long = kept ∙ ap length is-part ∙ part-long ws nodes-room

          room : HoldsRecord (with_nodes ns ws) k
          room = omega (arith, record-room, length-laid ns ws nodes-room long, count-laid ns ws nodes-room)

          on : (r : Result Done Refusal)
              → outcome_of ns h old r ≡ line_of (step_of old.step) part h old g (allocate ws hint)
              → IfOk r (λ m. GoesOn after k (is_going (said m.answer)) m.task)
          on (Ok m) e =
              subst (λ (l : List ℕ). GoesOn l k (is_going (said m.answer)) m.task) (sym is-after)
              (keeps-call m (done-is e) long)
          on (Err x) e = tt

      pub its-tick :
          (ns : List ℕ) {after : List ℕ} (d : Result Done Refusal)
          → after ≡ with_nodes ns ws
          → outcome_of ns h old d ≡ line_of (step_of old.step) part h old g (allocate ws hint)
          → finished after old.lane (side_of old.side) k d ≡ made ws k hint
      its-tick ns (Ok m) is-after line-is =
          ap (λ (l : List ℕ). finished l old.lane (side_of old.side) k (Ok m)) is-after
          ∙ ap (λ (u : Tasks.Task). finished (with_nodes ns ws) u.lane (side_of u.side) k (Ok m)) old-is
          ∙ made-tick m (done-is line-is)
      its-tick ns (Err x) is-after line-is = rw is-after (refused-tick (done-is line-is))
