-- A begin over a lent record, by its tests: what an accepted one says of the table and of the record, and what a copy
-- of the record that it leaves is to the table.
use mathlib.Core.Path.{◌≡◌, refl, sym, ap, ◌∙◌, subst}
use mathlib.Core.Bool.{Bool, true, false}
use mathlib.Core.List.{List}
use mathlib.Core.Option.{Option, some, none}
use Prim.Native.Nat.{ℕ, ◌<◌}
use lib.ListN.{length}
use borrow.Author.Tests.{eq-eqb}
use Rattle.machine.specs.Outcomes.Reply.{Reply, Accepted, Refused}
use Rattle.machine.specs.declared.Stored.{Stored}
use Rattle.machine.specs.Choice.{◌<?◌, ◌≟◌}
use Rattle.machine.specs.Sides.{side_of}
use Rattle.machine.specs.Values.{number}
use Rattle.machine.specs.Operations.{idle, operation_of}
use Rattle.machine.specs.Tasks.{Task, fresh, record_length, words_of, task_of, operation_word}
use Rattle.machine.specs.Table.{
  node_count,
  task_count,
  growth,
  lane_count,
  record_words,
  task,
  set_record,
  set_task,
}
use Rattle.machine.specs.Shape.{length_ok, record_ok, shape_ok, WellFormed, sizes_of, Sized}
use Rattle.machine.specs.Calls.{is_idle, begin_refusal, Changed, changed, begun_task, begin}
use Rattle.machine.specs.Lent.{lent_to, lent_after, begin_lent}
use Rattle.machine.proofs.Basics.Choices.{if_yes, by-if}
use Rattle.machine.proofs.Basics.Contradiction.{clash}
use Rattle.machine.proofs.Basics.Tests.{test-passed, tests_left}
use Rattle.machine.proofs.Basics.Updates.{update_same}
use Rattle.machine.proofs.Words.RecordLaws.{same-words}
use Rattle.machine.proofs.Words.Columns.{columns, put_record}
use Rattle.machine.proofs.Words.TableLaws.{columns-set_record}
use Rattle.machine.proofs.Words.LentLaws.{
  in_place,
  same-task-count,
  same-lane-count,
  lent_length,
  own-task,
  own-lent,
  written_over,
  lent-refused,
  lent-accepted,
}
use Rattle.machine.proofs.Shape.ShapeLaws.{well_sized, WellShaped, well-shaped, shape-ok}
use Rattle.machine.proofs.Shape.WritesKeep.{put-record-shaped}
use Rattle.machine.proofs.Shape.ShapeKept.{CallFits, begin-allowed}

-- ---- A record that passes, of a task that is idle, is fresh.
idle-number : (n : ℕ) → is_idle (operation_of n) ≡ true → n ≡ 0
idle-number n =
    by-if (λ op. is_idle op ≡ true → n ≡ 0) (n ≟ 0) (λ e _. e) (λ _.
    by-if (λ op. is_idle op ≡ true → n ≡ 0) (n ≟ 1) (λ _ h. clash (cc)) (λ _.
    by-if (λ op. is_idle op ≡ true → n ≡ 0) (n ≟ 2) (λ _ h. clash (cc)) (λ _.
    by-if (λ op. is_idle op ≡ true → n ≡ 0) (n ≟ 3) (λ _ h. clash (cc)) (λ _ h. clash (cc)))))

idle-record : (S g L : ℕ) (r : List ℕ) → record_ok S g L r ≡ true → is_idle (task_of r).operation ≡ true
    → r ≡ words_of fresh
unfolding record_ok
idle-record S g L r ok h =
    same-words r (words_of fresh) (rw (eq-eqb (operation_word r) 0 (idle-number (operation_word r) h)) at ok)

-- ---- A table with a record in a task's place has the right shape exactly where the record has.
module _
    (ws : List ℕ)
    (A : WellFormed ws)
    (lent : List ℕ)
    (whole : length lent ≡ record_length)
    (k : ℕ)
    (is_task : k < task_count ws) where
  abbrev there : List ℕ
  there = lent_to ws k lent

  abbrev record-fits : Bool
  record-fits = record_ok (node_count ws) (growth ws) (lane_count ws) lent

  sized : Sized (sizes_of ws)
  sized = (well_sized ws A.length_passes).sized

  columns-there : columns there ≡ put_record k lent (columns ws)
  columns-there = ap columns (in_place ws k lent is_task) ∙ columns-set_record ws sized k lent whole is_task

  pub length-there : length_ok there ≡ true
  length-there = lent_length ws k lent ∙ A.length_passes

  pub accepted-there : record-fits ≡ true → WellFormed there
  accepted-there ok =
      let W = well-shaped ws A.length_passes A.shape_passes in
      record {
        length_passes = length-there;
        shape_passes =
            shape-ok there (subst WellShaped (sym columns-there) (put-record-shaped (columns ws) W k lent ok));
      }

  pub shape-there : shape_ok there ≡ record-fits
  shape-there = go record-fits refl (shape_ok there) refl
    where
      go : (b : Bool) → record-fits ≡ b → (t : Bool) → shape_ok there ≡ t → t ≡ b
      go true ok t e = sym e ∙ (accepted-there ok).shape_passes
      go false broken false e = refl
      go false broken true e =
          let W = subst WellShaped columns-there (well-shaped there length-there e) in
          let ok : record-fits ≡ true = rw (update_same (columns ws).records k lent) at (W.records-ok k) in
          clash (cc)

-- ---- The task is idle: its record is fresh already.
pub idle-left-off : (ws : List ℕ) → WellFormed ws → (k : ℕ) → k < task_count ws → (task ws k).operation ≡ idle
    → set_task k fresh ws ≡ ws
unfolding task
idle-left-off ws A k is_task e =
    let W = well-shaped ws A.length_passes A.shape_passes in
    let r = record_words ws k in
    let ok = rw (if_yes (k <? task_count ws) r (words_of fresh) is_task) at (W.records-ok k) in
    let now-idle : is_idle (task_of r).operation ≡ true
    = ap (λ (t : Task). is_idle t.operation) (sym (if_yes (k <? task_count ws) (task_of r) fresh is_task))
    ∙ ap is_idle e in
    let is-fresh = idle-record (node_count ws) (growth ws) (lane_count ws) r ok now-idle in
    ap (λ (u : List ℕ). set_record k u ws) (sym is-fresh)
    ∙ sym (in_place ws k r is_task)
    ∙ own-lent ws k (well_sized ws A.length_passes).sized is_task

-- ---- The begin.
module _ (ws lent : List ℕ) (k l op side : ℕ) (argument : Stored) where
  abbrev tested : Option ℕ
  tested = begin_refusal (lent_to ws k lent) k l op side argument

  abbrev begun_words : List ℕ
  begun_words = words_of (begun_task l (operation_of op) (side_of side) (number argument))

  abbrev given : Changed
  given = begin_lent ws lent k l op side argument

  pub lent-kept : {n : ℕ} → given.reply ≡ Refused n → given.words ≡ lent
  unfolding begin_lent
  lent-kept e =
      let after = record_words (begin (lent_to ws k lent) k l op side argument).words k in
      ap (λ (r : Reply). lent_after r lent after) e

  -- A task there is one of the table.
  is-task-here : CallFits (lent_to ws k lent) k l op side argument → k < task_count ws
  is-task-here F = subst (λ (n : ℕ). k < n) (same-task-count ws k lent) F.is_task

  pub lent_is : Sized (sizes_of ws) → given ≡ changed tested lent begun_words
  lent_is sized = go tested refl
    where
      go : (r : Option ℕ) → tested ≡ r → given ≡ changed r lent begun_words
      go (some n) e = sym (lent-refused ws lent k l op side argument n e)
      go none e =
          let B = begin-allowed (lent_to ws k lent) k l op side argument e in
          sym (lent-accepted ws lent k l op side argument e sized (is-task-here B.fits))

  module _ (accepted : given.reply ≡ Accepted) where
    none-met : tested ≡ none
    none-met = go tested refl
      where
        go : (r : Option ℕ) → tested ≡ r → tested ≡ none
        go none e = e
        go (some n) e =
            let refused = ap (λ (c : Changed). c.reply) (lent-refused ws lent k l op side argument n e) in clash (cc)

    pub lent_fits : CallFits ws k l op side argument
    lent_fits =
        let F = (begin-allowed (lent_to ws k lent) k l op side argument none-met).fits in
        record {
          is_lane = subst (λ (n : ℕ). l < n) (same-lane-count ws k lent) F.is_lane;
          is_task = is-task-here F;
          some-operation = F.some-operation;
          last-operation = F.last-operation;
          last-side = F.last-side;
          argument-fits = F.argument-fits;
        }

    pub lent-words : Sized (sizes_of ws) → given.words ≡ begun_words
    lent-words sized =
        ap (λ (c : Changed). c.words)
        (sym (lent-accepted ws lent k l op side argument none-met sized lent_fits.is_task))

    -- Of a table that passes: the lent record stands for the task left off, and a copy of the record that is left is
    -- then a begin.
    module _ (A : WellFormed ws) (whole : length lent ≡ record_length) where
      abbrev left_off : List ℕ
      left_off = set_task k fresh ws

      lent-fresh : lent ≡ words_of fresh
      lent-fresh =
          let is_task = lent_fits.is_task in
          let e = none-met in
          let shape_passes : shape_ok (lent_to ws k lent) ≡ true = search (test-passed, tests_left) in
          let ok = sym (shape-there ws A lent whole k is_task) ∙ shape_passes in
          let own = own-task ws k lent is_task (well_sized ws A.length_passes).sized whole in
          let was-idle = (begin-allowed (lent_to ws k lent) k l op side argument none-met).was-idle in
          idle-record (node_count ws) (growth ws) (lane_count ws) lent ok
          (ap (λ (t : Task). is_idle t.operation) (sym own) ∙ was-idle)

      as-left-off : lent_to ws k lent ≡ left_off
      as-left-off =
          in_place ws k lent lent_fits.is_task ∙ ap (λ (r : List ℕ). set_record k r ws) lent-fresh

      begins : begin_refusal left_off k l op side argument ≡ none
      begins = ap (λ (vs : List ℕ). begin_refusal vs k l op side argument) (sym as-left-off) ∙ none-met

      pub begin-accepted : (begin left_off k l op side argument).reply ≡ Accepted
      unfolding begin
      begin-accepted = rw begins

      pub copied_is : lent_to ws k given.words ≡ (begin left_off k l op side argument).words
      unfolding begin
      copied_is =
          let sized = (well_sized ws A.length_passes).sized in
          let is_task = lent_fits.is_task in
          ap (lent_to ws k) (lent-words sized)
          ∙ in_place ws k begun_words is_task
          ∙ sym (written_over ws k (words_of fresh) begun_words sized is_task refl refl)
          ∙ sym
          (ap (λ (r : Option ℕ). (changed r left_off (set_record k begun_words left_off)).words) begins)

      pub left-off-passes : WellFormed left_off
      left-off-passes =
          let e = begins in
          record {
            length_passes = search (test-passed, tests_left);
            shape_passes = search (test-passed, tests_left);
          }
