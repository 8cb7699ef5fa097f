-- Request 2026-12: lanes do not meet. No node is led to from two lanes, and a tick changes nothing that the tasks of
-- other lanes can see, but which nodes are free.
use Rattle.std.specs.Prelude.{◌≡◌, ◌≢◌, true, List, [], ◌∷◌, ℕ, ◌<◌}
use Rattle.std.proofs.Math.Option.{some}
use Rattle.machine.specs.Outcomes.Reply.{Accepted}
use Rattle.machine.specs.Sides.{Side, opposite}
use Rattle.machine.specs.Steps.{line28, line31}
use Rattle.machine.specs.Tasks.{no_node, Register, register, goal}
use Rattle.machine.specs.Table.{growth, lane_count, hat, link, value, task}
use Rattle.machine.specs.Shape.{WellFormed}
use Rattle.machine.specs.Registers.{holds}
use Rattle.machine.specs.Reach.{Reachable}
use Rattle.machine.specs.Lines.{Effect, seen, act}
use Rattle.machine.specs.Calls.{is_busy, start, effect_of, tick_on, next_busy, dispatches, dispatches_made}
use Rattle.machine.specs.Demand3.{Call, after}
use Rattle.machine.specs.Kinds.{Asked, a_start, a_begin, ticks-of, dispatches_with, a_look, asked}
use Rattle.machine.specs.Begun.{Begun}

-- ---- What a lane leads to.

-- A chain of links, L or R, leads to the node from a hat of lane l, or from a register that holds (2026-06) of a task
-- whose call is on the lane.
pub data LedTo (ws : List ℕ) (l : ℕ) : ℕ → Type 0 where
  from_hat : (s : Side) → l < lane_count ws → LedTo ws l (hat ws l s)
  from_register : (k : ℕ) (r : Register)
      → (task ws k).lane ≡ l
      → holds (task ws k).step r ≡ true
      → register (task ws k) r ≢ no_node
      → LedTo ws l (register (task ws k) r)
  along : {x : ℕ} (s : Side) → LedTo ws l x → link ws s x ≢ no_node → LedTo ws l (link ws s x)

-- Nothing is left out and nothing added: in every accepted table the reachable nodes are those that some lane leads to.
pub record FromALane (ws : List ℕ) (x : ℕ) : Type 0 where
  pub some_lane : Reachable ws x → (l : ℕ) × (l < lane_count ws) × LedTo ws l x
  pub reachable : (l : ℕ) → LedTo ws l x → Reachable ws x

abbrev pub EachFromALane : Type 0
EachFromALane = (ws : List ℕ) → WellFormed ws → (x : ℕ) → FromALane ws x

-- ---- Lanes do not meet.
abbrev pub LanesApart : Type 0
LanesApart = (ws : List ℕ) → Begun ws → (l m x : ℕ) → LedTo ws l x → LedTo ws m x → l ≡ m

-- ---- A tick touches its own lane alone.

-- Lane m is in vs as it is in ws: its hats, the nodes that it leads to, their links and their values.
pub record SameLane (m : ℕ) (ws vs : List ℕ) : Type 0 where
  pub same_hats : (s : Side) → hat vs m s ≡ hat ws m s
  pub same_links : (x : ℕ) → LedTo ws m x → (s : Side) → link vs s x ≡ link ws s x
  pub same_values : (x : ℕ) → LedTo ws m x → value vs x ≡ value ws x
  pub still_led_to : (x : ℕ) → LedTo ws m x → LedTo vs m x
  pub was_led_to : (x : ℕ) → LedTo vs m x → LedTo ws m x

-- Task k is in no call on lane m.
abbrev pub NotOn : (m : ℕ) → List ℕ → (k : ℕ) → Type 0
NotOn m ws k = is_busy (task ws k).operation ≡ true → (task ws k).lane ≢ m

-- From ws to vs task k alone has moved, on its lane alone.
pub record OthersSame (k : ℕ) (ws vs : List ℕ) : Type 0 where
  pub other_tasks : (j : ℕ) → j ≢ k → task vs j ≡ task ws j
  pub other_lanes : (m : ℕ) → NotOn m ws k → SameLane m ws vs

-- A tick, made or refused.
abbrev pub OthersUntouched : Type 0
OthersUntouched = (ws : List ℕ) → Begun ws → (k hint : ℕ) → OthersSame k ws (tick_on ws k hint).words

-- ---- A call touches the lanes of its ticks alone.

-- No task of a list of pairs is in a call on lane m.
abbrev pub NoneOn : (m : ℕ) → (ws list : List ℕ) → Type 0
NoneOn m ws [] = Unit {0}
NoneOn m ws (k ∷ []) = Unit {0}
NoneOn m ws (k ∷ h ∷ list) = NotOn m ws k × NoneOn m ws list

-- A dispatch would choose a task that is in no call on lane m.
abbrev pub ChoosesOther : (m : ℕ) → List ℕ → Type 0
ChoosesOther m ws = (k : ℕ) → next_busy ws ≡ some k → NotOn m ws k

-- A call asks for ticks of no task that is in a call on lane m, and for no new table that it gets.
abbrev pub Avoids : (m : ℕ) → List ℕ → Asked → Type 0
Avoids m ws (a_start S T g lanes) = (start ws S T g lanes).reply ≢ Accepted
Avoids m ws (a_begin k l op side argument) = Unit {0}
Avoids m ws (ticks-of list) = NoneOn m ws list
Avoids m ws (dispatches_with h times) =
    (i : ℕ) → i < dispatches_made times ws h → ChoosesOther m (dispatches i ws h).words
Avoids m ws a_look = Unit {0}

-- Such a call leaves lane m as it is. A begin changes no lane, not even its own.
abbrev pub CallsUntouched : Type 0
CallsUntouched =
    (ws : List ℕ) → Begun ws → (m : ℕ) (c : Call) → Avoids m ws (asked c) → SameLane m ws (after c ws)

-- ---- So a task of another lane does at its next tick what it would have done before.

-- The effect of the line at which task j stands, if the search finds the node f.
abbrev pub effect_finding : List ℕ → (j f : ℕ) → Effect
effect_finding ws j f =
    let t = task ws j in
    act t.step t.side (opposite t.side) (seen t.lane t.side ws) t (goal (growth ws) t) f

-- The line has the same writes, record and answer if the search finds the same node; and unless it takes one, whatever
-- the hints and the free nodes.
pub record DoesTheSame (j : ℕ) (ws vs : List ℕ) : Type 0 where
  pub finding : (f : ℕ) → effect_finding vs j f ≡ effect_finding ws j f
  pub taking_none :
      (task ws j).step ≢ line28 → (task ws j).step ≢ line31 → (h h' : ℕ) → effect_of vs j h' ≡ effect_of ws j h

abbrev pub SeesTheSame : Type 0
SeesTheSame =
    (ws : List ℕ)
    → Begun ws
    → (k hint j : ℕ)
    → NotOn (task ws j).lane ws k
    → DoesTheSame j ws (tick_on ws k hint).words
