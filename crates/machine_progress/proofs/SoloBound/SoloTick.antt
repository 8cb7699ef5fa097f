-- A tick of a busy task in a table that calls and copies lead to: it answers, or leaves the task one tick less.
use mathlib.Core.Path.{◌≡◌, sym, ap, subst}
use mathlib.Core.Logic.{◌≢◌, ◌⊎◌, inl, inr}
use mathlib.Core.Bool.{true}
use mathlib.Core.List.{List}
use mathlib.Core.Option.{none}
use Prim.Native.Nat.{ℕ, ◌-◌, ◌≤◌, ◌<◌}
use native.Mathlib.Omega.{arith}
use borrow.Author.Tests.{ltb-true, leb-true}
use Rattle.machine.specs.Outcomes.Answer.{Going}
use Rattle.machine.specs.Choice.{◌<?◌}
use Rattle.machine.specs.Sides.{Side, left, right, opposite}
use Rattle.machine.specs.Operations.{idle, push, add, goal_of}
use Rattle.machine.specs.Steps.{line31, is_step_in}
use Rattle.machine.specs.Tasks.{Task, no_node, goal}
use Rattle.machine.specs.Table.{node_count, growth, lane_count, link, task}
use Rattle.machine.specs.Allocate.{allocate}
use Rattle.machine.specs.Lines.{Memory, Effect, act}
use Rattle.machine.specs.Calls.{is_busy, tick_refusal, effect_of, tick_on}
use Rattle.machine.specs.Row.{Note}
use Rattle.machine.specs.Shape.{sizes_of, WellSized}
use Rattle.machine.proofs.Words.ValueLaws.{number-stored}
use Rattle.machine.proofs.Basics.Contradiction.{refute}
use Rattle.machine.proofs.Basics.Choices.{if_no}
use Rattle.machine.proofs.Words.Memories.{View, viewed, written, view, seen-viewed}
use Rattle.machine.proofs.Words.Columns.{columns}
use Rattle.machine.proofs.Shape.BusyLaws.{BusyAt}
use Rattle.machine.proofs.Shape.ShapeLaws.{WellShaped, well_sized, well-shaped}
use Rattle.machine.proofs.Shape.TickKeeps.{busy-facts, tick-allowed}
use Rattle.machine.proofs.Linearizability.Model.Invariant.{Lane, note_of, Kept, goes_on, has_answered}
use Rattle.machine.proofs.Linearizability.Model.LaneViews.{lane-view}
use Rattle.machine.proofs.Linearizability.Model.RowViews.{row_from}
use Rattle.machine.proofs.Linearizability.Calls.Reading.{main-size, main-is-node}
use Rattle.machine.proofs.Linearizability.Calls.Agreement.{Agrees}
use Rattle.machine.proofs.Linearizability.Calls.MadeTicks.{well-linked, keeps-invariant}
use Rattle.machine.proofs.Linearizability.Begun.TableAfter.{own-after, in_after, own-side, own-busy}
use Rattle.machine_progress.proofs.SoloBound.Led.{Led}
use Rattle.machine_progress.proofs.SoloBound.Walks.{EndsWithin, LinksBelow, ends-within-nodes}
use Rattle.machine_progress.proofs.SoloBound.Budget.{Left, Spends}
use Rattle.machine_progress.proofs.SoloBound.LinesSpend.{line-spends}
use Rattle.machine_progress.proofs.SoloBound.AtFirst.{most, left-at-first}
use Rattle.machine_progress.proofs.SoloBound.BegunEnds.{ends-view}

-- The ticks that a task has left, by the table's size and growth and its view.
abbrev pub LeftWith : (extra S gr : ℕ) → View → Task → (n : ℕ) → Type 0
LeftWith extra S gr M t n = Left extra t.step S (goal gr t) t.side (view t.side M) t n

pub record LeftIn (extra : ℕ) (ws : List ℕ) (k n : ℕ) : Type 0 where
  pub left : LeftWith extra (node_count ws) (growth ws) (viewed right ws) (task ws k) n

module _ (extra : ℕ) {ws : List ℕ} (led : Led ws) (k : ℕ) where
  A : Agrees ws led.row
  A = led.agrees

  abbrev s : Side
  s = (task ws k).side

  abbrev m : View
  m = view s (viewed right ws)

  sizes : WellSized (sizes_of ws)
  sizes = well_sized ws A.accepted.length_passes

  shape : WellShaped (columns ws)
  shape = well-shaped ws A.accepted.length_passes A.accepted.shape_passes

  abbrev ℓ : ℕ
  ℓ = (task ws k).lane

  -- The task's own lane.
  own : Lane ℓ right left (viewed right ws) A.class (led.row.bags ℓ)
  own = A.invariant.lanes.lane ℓ (A.invariant.own_lane k)

  lane : Lane ℓ s (opposite s) m A.class (row_from s (led.row.bags ℓ))
  lane = lane-view s own

  -- Main has at most S nodes.
  few-in-main : lane.frame.n ≤ node_count ws
  few-in-main = omega (arith, main-size lane (node_count ws) (main-is-node ws own))

  -- Walks have at most S links.
  links-below : (z : Side) → LinksBelow (node_count ws) (link ws z)
  unfolding link
  links-below z =
      record {
        leads-below = (well-linked A.accepted).links z;
        outside = λ x h. if_no (x <? node_count ws) _ no_node (λ l. omega arith);
      }

  out_below : (z : Side) → LinksBelow (node_count ws) (view z (viewed right ws)).out
  out_below left = links-below left
  out_below right = links-below right

  pub short : (x : ℕ) → EndsWithin m.out (node_count ws) x
  short = ends-within-nodes (out_below s) (ends-view s (viewed right ws) led.links_end).0

  module _ (busy : is_busy (task ws k).operation ≡ true) where
    not-idle : (task ws k).operation ≢ idle
    not-idle e = refute (cc)

    facts : BusyAt (node_count ws) (growth ws) (lane_count ws) (task ws k).step (task ws k)
    facts = busy-facts ws shape k busy

    few : ((task ws k).operation ≡ push) ⊎ ((task ws k).operation ≡ add) → goal (growth ws) (task ws k) ≤ 64
    few (inl e) = rw e sizes.most_growth
    few (inr e) =
        rw e (leb-true (task ws k).argument 64
        (rw (number-stored (task ws k).argument) at (rw e at facts.argument-ok)))

    counted-below : (task ws k).step ≡ line31 → (task ws k).counted < goal (growth ws) (task ws k)
    unfolding is_step_in
    counted-below e =
        let ok = rw e at facts.counted-ok in
        ltb-true (task ws k).counted (goal (growth ws) (task ws k)) ok

    pub left-in-first : extra ≤ 2 → LeftIn extra ws k (most extra (node_count ws))
    left-in-first little =
        record {
          left =
              left-at-first k extra (node_count ws) (goal (growth ws) (task ws k)) little m short (task ws k) not-idle
              few (task ws k).step (A.invariant.task-ok k) counted-below;
        }

  -- ---- A tick.
  module _ (h n : ℕ) (passes : tick_refusal ws k h ≡ none) (B : LeftIn extra ws k n) where
    abbrev e : Effect
    e = effect_of ws k h

    abbrev after : List ℕ
    after = (tick_on ws k h).words

    spends : Spends extra (node_count ws) (goal (growth ws) (task ws k)) ℓ s m n (effect_of ws k h)
    unfolding effect_of
    spends =
        let g = goal (growth ws) (task ws k) in
        let busy = (tick-allowed ws k h passes).2 in
        subst
        (λ (y : Memory).
        Spends extra (node_count ws) g ℓ s m n (act (task ws k).step s (opposite s) y (task ws k) g (allocate ws h)))
        (seen-viewed ℓ s ws)
        (line-spends k extra (node_count ws) g (task ws k) lane few-in-main short (allocate ws h) n (few busy)
        (task ws k).step (A.invariant.task-ok k) B.left)

    -- What is left after a tick that goes on.
    pub record Continues : Type 0 where
      pub some : 1 ≤ n
      pub left_after : LeftIn extra after k (n - 1)
      pub busy-after : is_busy (task after k).operation ≡ true

    -- The task's goal and its side stay.
    module _ (going : e.answer ≡ Going) (same : note_of e.task ≡ note_of (task ws k)) where
      left-then : LeftIn extra after k (n - 1)
      left-then =
          let same-goal : goal (growth ws) e.task ≡ goal (growth ws) (task ws k) =
          ap (λ (x : Note). goal_of x.operation (growth ws) x.argument) same in
          let LeftFor : ℕ → Side → View → Type 0 =
          λ g z m'. Left extra e.task.step (node_count ws) g z m' e.task (n - 1) in
          record {
            left =
                in_after A k h passes (λ S T gr M t. LeftWith extra S gr M t (n - 1)) k (own-after A k h passes)
                (own-side A k h passes (LeftFor (goal (growth ws) e.task)) same
                (subst (λ (g : ℕ). LeftFor g s (written ℓ s e.writes m)) (sym same-goal) (spends.spends going).1));
          }

    pub continues : e.answer ≡ Going → Continues
    continues going = go (keeps-invariant A k h passes).kept
      where
        go : Kept (task ws k) e → Continues
        go (goes_on a same) =
            record {
              some = (spends.spends going).0;
              left_after = left-then going same;
              busy-after = own-busy A k h passes same;
            }
        go (has_answered ne fresh-now) = absurd (ne going)
