-- The table after a begin: as it was where the begin is refused, and with one record written where it is accepted.
use mathlib.Core.Path.{◌≡◌, refl, ap}
use mathlib.Core.List.{List}
use mathlib.Core.Option.{Option, some, none}
use Prim.Native.Nat.{ℕ, ◌<◌}
use Rattle.machine.specs.Values.{number}
use Rattle.machine.specs.Outcomes.Reply.{Accepted, Refused as Reply-Refused}
use Rattle.machine.specs.declared.Stored.{Stored}
use Rattle.machine.specs.Sides.{Side, side_of}
use Rattle.machine.specs.Operations.{operation_of}
use Rattle.machine.specs.Tasks.{Task, fresh}
use Rattle.machine.specs.Table.{node_count, task_count, growth, lane_count, task, set_task}
use Rattle.machine.specs.Calls.{begin_refusal, Changed, changed, begun_task, begin}
use Rattle.machine.specs.Row.{Row}
use Rattle.machine.specs.Shape.{sizes_of, WellSized}
use Rattle.machine.proofs.Basics.Contradiction.{clash}
use Rattle.machine.proofs.Words.ValueLaws.{never-has-word}
use Rattle.machine.proofs.Basics.Updates.{update}
use Rattle.machine.proofs.Words.Memories.{viewed}
use Rattle.machine.proofs.Words.Columns.{columns}
use Rattle.machine.proofs.Words.EffectLaws.{viewed-set-task, task-set-task}
use Rattle.machine.proofs.Shape.ShapeLaws.{WellShaped, well_sized, well-shaped}
use Rattle.machine.proofs.Shape.ShapeKept.{begin-allowed, begin-kept}
use Rattle.machine.proofs.Shape.TickKeeps.{Kept, idle-fresh}
use Rattle.machine.proofs.Linearizability.Calls.Agreement.{Agrees}
use Rattle.machine.proofs.Linearizability.Calls.CallsAgree.{idle-operation}

-- vs is ws with the record t of task k, which was idle.
pub record BegunTable (ws vs : List ℕ) (k : ℕ) (t : Task) : Type 0 where
  pub is_task : k < task_count ws
  pub was-fresh : task ws k ≡ fresh
  pub viewed-same : (s : Side) → viewed s vs ≡ viewed s ws
  pub tasks-then : task vs ≡ update (task ws) k t
  pub same_nodes : node_count vs ≡ node_count ws
  pub same_count : task_count vs ≡ task_count ws
  pub same_growth : growth vs ≡ growth ws
  pub same-lanes : lane_count vs ≡ lane_count ws
  pub is_lane : t.lane < lane_count ws

module _ {ws : List ℕ} {ρ : Row} (A : Agrees ws ρ) (k l op side : ℕ) (argument : Stored) where
  abbrev t : Task
  t = begun_task l (operation_of op) (side_of side) (number argument)

  sizes : WellSized (sizes_of ws)
  sizes = well_sized ws A.accepted.length_passes

  shape : WellShaped (columns ws)
  shape = well-shaped ws A.accepted.length_passes A.accepted.shape_passes

  -- What is true of a refused begin, and of an accepted one, is true of the begin.
  pub by-begin : (P : Changed → Type 0)
      → ((n : ℕ) → P (record { reply = Reply-Refused n; words = ws }))
      → ((vs : List ℕ) → BegunTable ws vs k t → P (record { reply = Accepted; words = vs }))
      → P (begin ws k l op side argument)
  unfolding begin
  by-begin P refused accepted =
      go (begin_refusal ws k l op side argument) refl (begin-kept ws k l op side argument sizes shape)
    where
      go : (r : Option ℕ) → begin_refusal ws k l op side argument ≡ r → Kept ws (changed r ws (set_task k t ws)).words
          → P (changed r ws (set_task k t ws))
      go (some n) e K = refused n
      go none e K =
          let B = begin-allowed ws k l op side argument e in
          accepted (set_task k t ws)
          (record {
            is_task = B.fits.is_task;
            was-fresh = idle-fresh ws shape k (idle-operation (task ws k).operation B.was-idle);
            viewed-same = λ s. viewed-set-task ws sizes.sized k B.fits.is_task t s;
            tasks-then = task-set-task ws sizes.sized k B.fits.is_task t never-has-word;
            same_nodes = ap (λ z. z.node_count) K.same-sizes;
            same_count = ap (λ z. z.task_count) K.same-sizes;
            same_growth = ap (λ z. z.growth) K.same-sizes;
            same-lanes = ap (λ z. z.lane_count) K.same-sizes;
            is_lane = B.fits.is_lane;
          })

  pub accepted-begin : (begin ws k l op side argument).reply ≡ Accepted
      → BegunTable ws (begin ws k l op side argument).words k t
  accepted-begin =
      by-begin (λ c. c.reply ≡ Accepted → BegunTable ws c.words k t) (λ n e. clash (cc)) (λ vs T _. T)
