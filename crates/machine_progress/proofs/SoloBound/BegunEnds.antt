-- In every table that our calls lead to, all walks along links end.
use mathlib.Core.Path.{◌≡◌, ◌∙◌}
use mathlib.Core.Logic.{◌≢◌}
use mathlib.Core.List.{List}
use Prim.Native.Nat.{ℕ, ◌+◌, ◌*◌, ◌-◌, ◌%◌, ◌≤◌, ◌<◌}
use native.Mathlib.Omega.{arith}
use Rattle.machine.specs.Choice.{◌≟◌, ◌<?◌, if?◌then◌else◌}
use Rattle.machine.specs.Sides.{Side, left, right, opposite}
use Rattle.machine.specs.Tasks.{Task, no_node}
use Rattle.machine.specs.Table.{most_lanes}
use Rattle.machine.specs.Begun.{Begun}
use Rattle.machine.proofs.Basics.Choices.{if_yes, if_no}
use Rattle.machine.proofs.Words.Memories.{View, viewed, written, view}
use Rattle.machine.proofs.Words.StartLaws.{start_link}
use Rattle.machine.proofs.Linearizability.Model.Nodes.{inn-old}
use Rattle.machine.proofs.Linearizability.Model.LaneViews.{lanes-view}
use Rattle.machine.proofs.Linearizability.Model.Invariant.{every-lane}
use Rattle.machine.proofs.Linearizability.Writes.FreeNode.{take-ok}
use Rattle.machine.proofs.Linearizability.Lines.InvariantTick.{effect_in}
use Rattle.machine.proofs.Linearizability.Begun.Lasting.{Lasts, begun-has}
use Rattle.machine_progress.proofs.SoloBound.Walks.{stops, goes_on, WalksEnd}
use Rattle.machine_progress.proofs.SoloBound.LinksEnd.{LinksEnd, links-end-after}

-- The links, seen from either side.
pub ends-view : (s : Side) (m : View) → LinksEnd m → LinksEnd (view s m)
ends-view left m E = (E.1, E.0)
ends-view right m E = E

-- The links of a pair.
module _ (L x : ℕ) (h : x < 2 * L) where
  left-even : x % 2 ≡ 0 → start_link L left x ≡ no_node
  left-even e =
      if_yes (x <? 2 * L) (if? x % 2 ≟ 0 then no_node else x - 1) no_node h ∙ if_yes (x % 2 ≟ 0) no_node (x - 1) e

  left-odd : x % 2 ≢ 0 → start_link L left x ≡ x - 1
  left-odd ne =
      if_yes (x <? 2 * L) (if? x % 2 ≟ 0 then no_node else x - 1) no_node h ∙ if_no (x % 2 ≟ 0) no_node (x - 1) ne

  right-even : x % 2 ≡ 0 → start_link L right x ≡ x + 1
  right-even e =
      if_yes (x <? 2 * L) (if? x % 2 ≟ 0 then x + 1 else no_node) no_node h ∙ if_yes (x % 2 ≟ 0) (x + 1) no_node e

  right-odd : x % 2 ≢ 0 → start_link L right x ≡ no_node
  right-odd ne =
      if_yes (x <? 2 * L) (if? x % 2 ≟ 0 then x + 1 else no_node) no_node h ∙ if_no (x % 2 ≟ 0) (x + 1) no_node ne

-- Start: one link each way in each pair, between nodes of the same pair.
start-walks : (L : ℕ) (s : Side) → L ≤ most_lanes → WalksEnd (start_link L s)
start-walks L left few x =
    elim (x <? 2 * L) [
      | no h ↦ (0, stops (if_no (x <? 2 * L) (if? x % 2 ≟ 0 then no_node else x - 1) no_node h))
      | yes h ↦
          elim (x % 2 ≟ 0) [
            | yes e ↦ (0, stops (left-even L x h e))
            | no ne ↦ (1, goes_on (left-odd L x h ne) (stops (left-even L (x - 1) (omega arith) (omega arith))))
          ]
    ]
start-walks L right few x =
    elim (x <? 2 * L) [
      | no h ↦ (0, stops (if_no (x <? 2 * L) (if? x % 2 ≟ 0 then x + 1 else no_node) no_node h))
      | yes h ↦
          elim (x % 2 ≟ 0) [
            | no ne ↦ (0, stops (right-odd L x h ne))
            | yes e ↦ (1, goes_on (right-even L x h e) (stops (right-odd L (x + 1) (omega arith) (λ q. omega arith))))
          ]
    ]

pub links-last : Lasts (λ (M : View) (ts : ℕ → Task). LinksEnd M)
links-last =
    record {
      at-start = λ L few _. (start-walks L right few, start-walks L left few);
      at_begin = λ E k was-fresh l op s argument. E;
      at_tick =
          λ {L} {M} {ts} {class} E I R k g f busy free-f.
          let s = (ts k).side in
          let m = view s M in
          let D = lanes-view s I.lanes in
          ends-view s (written (ts k).lane s (effect_in M ts k g f).writes m)
          (links-end-after L _ k s (opposite s) m class
          (inn-old (D.lane (ts k).lane (I.own_lane k)).structure (every-lane D)) (ends-view s M E)
          (ts k) g f (λ some. take-ok I R s f (free-f some)) (ts k).step (I.task-ok k)).links_end;
    }

pub begun-ends : {ws : List ℕ} → Begun ws → LinksEnd (viewed right ws)
begun-ends B = begun-has links-last B
