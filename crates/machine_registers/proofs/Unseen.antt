-- What stands in registers that do not hold is never seen by any list of calls; so it may be cleared.
use mathlib.Core.Path.{◌≡◌, refl, sym, ap, ◌∙◌, subst, fun_ext}
use mathlib.Core.Bool.{Bool, true, false, cond}
use mathlib.Core.List.{List}
use Prim.Native.Nat.{ℕ, ◌<◌}
use lib.ListN.{length}
use Rattle.machine.specs.Shape.{WellFormed, sizes_of, WellSized}
use Rattle.machine.specs.Choice.{◌≟◌, if?◌then◌else◌}
use Rattle.machine.specs.Values.{encode}
use Rattle.machine.specs.Tasks.{Task, fresh, no_node, words_of, in_a, in_b, in_c, in_d}
use Rattle.machine.specs.Registers.{holds}
use Rattle.machine.specs.Table.{table_length, node_count, task_count, growth, lane_count, value, task, set_task}
use Rattle.machine.specs.Calls.{is_busy}
use Rattle.machine_registers.specs.Unseen.{SameButUnneeded, Alike, UnneededUnseen, cleared, ClearingUnseen}
use Rattle.machine.proofs.Words.ValueLaws.{encode-decode}
use Rattle.machine.proofs.Basics.Updates.{update}
use Rattle.machine.proofs.Words.Columns.{counts_of, columns, sizes-equal, columns-equal}
use Rattle.machine.proofs.Words.TableLaws.{columns-set_task}
use Rattle.machine.proofs.Words.EffectLaws.{task-set-task}
use Rattle.machine.proofs.Shape.BusyLaws.{NodeOrNone, BusyFacts, record-of-busy}
use Rattle.machine.proofs.Shape.ShapeLaws.{WellShaped, well_sized, well-shaped, length-ok, shape-ok, same-last-words}
use Rattle.machine.proofs.Shape.WritesKeep.{put-record-shaped}
use Rattle.machine.proofs.Shape.TickKeeps.{busy-facts, busy-is-task, task-has-word}
use Rattle.machine.proofs.Shape.ShapeKept.{is-accepted}
use Rattle.machine_registers.specs.LinesUse.{AgreeOn}
use Rattle.machine_registers.proofs.Agreeing.{plain, agree-from, agree-self, mixed-inside}
use Rattle.machine_registers.proofs.AlikeTables.{unrecorded, AlikeColumns}
use Rattle.machine_registers.proofs.AlikeLists.{calls-alike}

-- ---- Tables that are alike have the same columns but for registers that do not hold.
records-agree : {t u : Task} → SameButUnneeded t u → AgreeOn (holds t.step) t u
records-agree {t} {u} same = agree-from {p = holds t.step} same-plain same.same_registers
  where
    same-plain : plain u ≡ plain t
    same-plain =
        λ i. record {
          operation = same.same_operation i;
          step = same.same_step i;
          side = same.same_side i;
          argument = same.same_argument i;
          counted = same.same_counted i;
          value = same.same_value i;
          A = no_node;
          B = no_node;
          C = no_node;
          D = no_node;
          lane = same.same_lane i;
        }

module _ {ws vs : List ℕ} (A : Alike ws vs) where
  accepted : WellFormed ws
  accepted = is-accepted ws A.accepted

  accepted' : WellFormed vs
  accepted' = is-accepted vs A.accepted'

  sizes : WellSized (sizes_of ws)
  sizes = well_sized ws accepted.length_passes

  sizes' : WellSized (sizes_of vs)
  sizes' = well_sized vs accepted'.length_passes

  shape : WellShaped (columns ws)
  shape = well-shaped ws accepted.length_passes accepted.shape_passes

  shape' : WellShaped (columns vs)
  shape' = well-shaped vs accepted'.length_passes accepted'.shape_passes

  same_length : length vs ≡ length ws
  same_length =
      sizes'.sized
      ∙ ap (λ (S : ℕ). table_length S (task_count vs)) A.same_nodes
      ∙ ap (table_length (node_count ws)) A.same_count
      ∙ sym sizes.sized

  -- Equal values have equal words.
  same-value-words : (x : ℕ) → (columns vs).values x ≡ (columns ws).values x
  unfolding value
  same-value-words x =
      sym (encode-decode ((columns vs).values x) (shape'.values-ok x))
      ∙ ap encode (A.same_values x)
      ∙ encode-decode ((columns ws).values x) (shape.values-ok x)

  same-counts : counts_of vs ≡ counts_of ws
  same-counts = same-last-words shape'.counts-ok shape.counts-ok A.same_ticks A.same_dispatched

  columns-alike : AlikeColumns ws vs
  columns-alike =
      record {
        accepted = accepted;
        accepted' = accepted';
        same-words =
            columns-equal (sizes-equal same_length A.same_nodes A.same_count A.same_growth A.same-lanes)
            (fun_ext (λ l. fun_ext (A.same_hats l))) same-counts
            (fun_ext (λ s. fun_ext (A.same_links s))) (fun_ext same-value-words) refl;
        same_tasks = λ k. records-agree (A.same_tasks k);
      }

pub unneeded-unseen : UnneededUnseen
unneeded-unseen ws vs A calls = calls-alike calls (columns-alike A)

-- ---- A table whose registers were cleared is alike.
module _ {ws : List ℕ} (accepted : WellFormed ws) (k : ℕ) (is_task : k < task_count ws)
    (busy : is_busy (task ws k).operation ≡ true) where
  abbrev t : Task
  t = task ws k

  Z : WellSized (sizes_of ws)
  Z = well_sized ws accepted.length_passes

  W : WellShaped (columns ws)
  W = well-shaped ws accepted.length_passes accepted.shape_passes

  cleared-facts : BusyFacts (node_count ws) (growth ws) (lane_count ws) (cleared t)
  cleared-facts =
      let F = busy-facts ws W k busy in
      record {
        busy = F.busy;
        step_ok = F.step_ok;
        argument-ok = F.argument-ok;
        counted-ok = F.counted-ok;
        value-ok = F.value-ok;
        has_word = F.has_word;
        A-ok = kept-or-none (holds t.step in_a) F.A-ok;
        B-ok = kept-or-none (holds t.step in_b) F.B-ok;
        C-ok = kept-or-none (holds t.step in_c) F.C-ok;
        D-ok = kept-or-none (holds t.step in_d) F.D-ok;
        lane-ok = F.lane-ok;
      }
    where
      kept-or-none : (b : Bool) {x : ℕ} → NodeOrNone (node_count ws) x → NodeOrNone (node_count ws) (cond b x no_node)
      kept-or-none true h = h
      kept-or-none false h = λ n. absurd (n refl)

  still-accepted : WellFormed (set_task k (cleared t) ws)
  still-accepted =
      let c = cleared t in
      let ok = record-of-busy (node_count ws) (growth ws) (lane_count ws) c cleared-facts in
      let same = sym (columns-set_task ws Z.sized k c is_task) in
      record {
        length_passes = length-ok (set_task k c ws) (subst WellSized (ap (λ b. b.sizes) same) Z);
        shape_passes =
            shape-ok (set_task k c ws) (subst WellShaped same (put-record-shaped (columns ws) W k (words_of c) ok));
      }

  cleared-alike : AlikeColumns ws (set_task k (cleared t) ws)
  unfolding update
  cleared-alike =
      record {
        accepted = accepted;
        accepted' = still-accepted;
        same-words = ap unrecorded (columns-set_task ws Z.sized k (cleared t) is_task);
        same_tasks = λ j.
            rw (task-set-task ws Z.sized k is_task (cleared t) (task-has-word ws W k)) (go j (j ≟ k));
      }
    where
      go : (j : ℕ) (d : Dec (j ≡ k))
          → AgreeOn (holds (task ws j).step) (task ws j) (if? d then cleared t else task ws j)
      go j (yes e) =
          subst (λ (i : ℕ). AgreeOn (holds (task ws i).step) (task ws i) (cleared t)) (sym e)
          (agree-from {p = holds t.step} refl (λ r h. mixed-inside (holds t.step) t fresh (cleared t) refl r h))
      go j (no n) = agree-self (holds (task ws j).step) (task ws j)

pub clearing-unseen : ClearingUnseen
clearing-unseen ws passes k busy calls =
    calls-alike calls (cleared-alike (is-accepted ws passes) k (busy-is-task ws k busy) busy)
