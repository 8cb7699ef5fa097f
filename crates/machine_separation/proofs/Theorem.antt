-- Lanes do not meet: the claims of Apart.antt.
use mathlib.Core.Path.{◌≡◌, refl, sym, ap}
use mathlib.Core.Bool.{true}
use mathlib.Core.List.{List}
use mathlib.Core.Option.{Option, some, none}
use Prim.Native.Nat.{ℕ, ◌<◌}
use native.Mathlib.Omega.{arith}
use Rattle.machine.specs.Operations.{Operation, idle, push, pop, add, remove}
use Rattle.machine.specs.Tasks.{Task}
use Rattle.machine.specs.Table.{growth, lane_count, task}
use Rattle.machine.specs.Shape.{WellFormed}
use Rattle.machine.specs.Reach.{Reachable, from_hat, from_register, along}
use Rattle.machine.specs.Calls.{is_busy, tick_refusal, tick_on}
use Rattle.machine.proofs.Words.TickLaws.{tick-stopped}
use Rattle.machine.proofs.Shape.ShapeLaws.{well_sized, well-shaped}
use Rattle.machine.proofs.Shape.TickKeeps.{tick-allowed, busy-facts, idle-fresh}
use Rattle.machine.proofs.Linearizability.Calls.Agreement.{Agrees}
use Rattle.machine.proofs.Linearizability.Begun.TableAfter.{other_after, growth_after}
use Rattle.machine.proofs.Linearizability.Corollaries.{begun-agrees, begun-ticked}
use Rattle.machine_separation.specs.Apart.{
  LedTo,
  from_hat as hat-led,
  from_register as register-led,
  along as link-led,
  EachFromALane,
  LanesApart,
  OthersUntouched,
  SeesTheSame,
}
use Rattle.machine_separation.proofs.BegunApart.{begun-apart}
use Rattle.machine_separation.proofs.Tables.{in-view, others_same, tick-stays}
use Rattle.machine_separation.proofs.SeesTheSame.{same_effect}

-- ---- Each reachable node from a lane.

-- A task's lane is there: a busy one's by the shape, an idle one's is 0.
lane-there : {ws : List ℕ} → WellFormed ws → (k : ℕ) → (task ws k).lane < lane_count ws
lane-there {ws} W k = go (task ws k).operation refl
  where
    of-busy : is_busy (task ws k).operation ≡ true → (task ws k).lane < lane_count ws
    of-busy b = (busy-facts ws (well-shaped ws W.length_passes W.shape_passes) k b).lane-ok

    go : (op : Operation) → (task ws k).operation ≡ op → (task ws k).lane < lane_count ws
    go idle e =
        let Z = well_sized ws W.length_passes in
        let is-fresh = idle-fresh ws (well-shaped ws W.length_passes W.shape_passes) k e in
        let is-first : (task ws k).lane ≡ 0 = ap (λ (t : Task). t.lane) is-fresh in
        omega (arith, Z.one_lane)
    go push e = of-busy (ap is_busy e)
    go pop e = of-busy (ap is_busy e)
    go add e = of-busy (ap is_busy e)
    go remove e = of-busy (ap is_busy e)

led-reachable : {ws : List ℕ} {l x : ℕ} → LedTo ws l x → Reachable ws x
led-reachable {l = l} (hat-led s h) = from_hat l s h
led-reachable (register-led k r e h n) = from_register k r h n
led-reachable (link-led s c n) = along s (led-reachable c) n

reachable-led : {ws : List ℕ} {x : ℕ} → WellFormed ws → Reachable ws x → (l : ℕ) × (l < lane_count ws) × LedTo ws l x
reachable-led W (from_hat l s h) = (l, h, hat-led s h)
reachable-led {ws} W (from_register k r h n) = ((task ws k).lane, lane-there W k, register-led k r refl h n)
reachable-led W (along s c n) = let d = reachable-led W c in (d.0, d.1, link-led s d.2 n)

pub each-from-a-lane : EachFromALane
each-from-a-lane ws W x = record { some_lane = reachable-led W; reachable = λ l c. led-reachable c }

-- ---- Lanes do not meet.
pub lanes-apart : LanesApart
lanes-apart ws B l m x a b = begun-apart B l m x (in-view a) (in-view b)

-- ---- A tick.
pub others-untouched : OthersUntouched
others-untouched ws B k h = others_same (tick-stays B k h)

-- ---- What a task of another lane then does.
pub sees-the-same : SeesTheSame
sees-the-same ws B k h j not_on =
    let same = go (tick_refusal ws k h) refl in
    same_effect A.accepted (begun-agrees (begun-ticked B k h)).1.accepted j same.0 same.1
    ((others-untouched ws B k h).other_lanes (task ws j).lane not_on)
  where
    A : Agrees ws (begun-agrees B).0
    A = (begun-agrees B).1

    -- A tick that is made is not of task j, which would be on its own lane.
    go : (r : Option ℕ) → tick_refusal ws k h ≡ r
        → (task (tick_on ws k h).words j ≡ task ws j) × (growth (tick_on ws k h).words ≡ growth ws)
    go (some n) e = rw (tick-stopped ws k h e) (refl, refl)
    go none e = (
      other_after A k h e j (λ q. not_on (tick-allowed ws k h e).2 (ap (λ (i : ℕ). (task ws i).lane) (sym q))),
      growth_after A k h e,
    )
