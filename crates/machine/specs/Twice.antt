-- Request 2026-03: no bag number twice. What that is for a row, for a table and for the calls that lead there.
use Rattle.std.specs.Prelude.{◌≡◌, ◌⊎◌, Bool, true, false, List, [], ◌∷◌, ◌++◌, ℕ, zero, suc, ◌<◌, length, get_or}
use Rattle.std.proofs.Math.Option.{Option, some, bind}
use Rattle.machine.specs.Outcomes.Reply.{Reply, Accepted, Refused as Reply-Refused}
use Rattle.machine.specs.declared.Stored.{Stored}
use Rattle.machine.specs.Sides.{Side, side_number}
use Rattle.machine.specs.Values.{number, bag_ok}
use Rattle.machine.specs.Operations.{push, operation_number}
use Rattle.machine.specs.Table.{task_count, lane_count, task}
use Rattle.machine.specs.Calls.{is_idle, is_among, start, begin, all_lanes}
use Rattle.machine.specs.Row.{Row, empty_row}
use Rattle.machine.specs.Demand3.{Call, given, after, feed, LanesAre, after_ticks}
use Rattle.machine.specs.Begun.{Begun, after_all}

-- No number is in two places of a list.
abbrev pub AllDifferent : List ℕ → Type 0
AllDifferent l = (i j : ℕ) → i < length l → j < length l → get_or l i 0 ≡ get_or l j 0 → i ≡ j

-- ---- Tables.

-- 02: "no reachable table holds a bag number in two places of its lane". 2026-12: the fact "is then of all lanes
-- together".
abbrev pub NoTwice : Type 0
NoTwice = (ws : List ℕ) → Begun ws → (bags : List ℕ) → all_lanes ws ≡ some bags → AllDifferent bags

-- Nor does a table inside a run or inside the panel's list, after any of its ticks.
abbrev pub NoTwiceInside : Type 0
NoTwiceInside =
    (ws : List ℕ)
    → Begun ws
    → (i : ℕ) (list bags : List ℕ)
    → all_lanes (after_ticks i list ws) ≡ some bags
    → AllDifferent bags

-- What makes it last: the argument of a busy push is in no lane, and no two busy pushes have the same.
pub record OnceInTable (ws : List ℕ) : Type 0 where
  pub bags : List ℕ
  pub lanes_are : all_lanes ws ≡ some bags
  pub different : AllDifferent bags
  pub not_in_lanes : (k : ℕ) → (task ws k).operation ≡ push → is_among (task ws k).argument bags ≡ false
  pub one_task :
      (j k : ℕ)
      → (task ws j).operation ≡ push
      → (task ws k).operation ≡ push
      → (task ws j).argument ≡ (task ws k).argument
      → j ≡ k

abbrev pub TablesHaveOnce : Type 0
TablesHaveOnce = (ws : List ℕ) → Begun ws → OnceInTable ws

-- ---- Rows.

-- Task k has a note of a push of bag b, on some lane and side.
pub record PushNoted (ρ : Row) (k b : ℕ) : Type 0 where
  pub lane : ℕ
  pub side : Side
  pub note_is : ρ.notes k ≡ some (record { lane = lane; operation = push; side = side; argument = b })

-- The bags of the first n rows, one row after another, and those of all.
unfoldable pub rows_below : ((lane : ℕ) → List ℕ) → (n : ℕ) → List ℕ
rows_below bags zero = []
rows_below bags (suc n) = rows_below bags n ++ bags n

abbrev pub all_bags : Row → List ℕ
all_bags ρ = rows_below ρ.bags ρ.lanes

-- The same of the rows and the notes.
pub record OnceInRow (ρ : Row) : Type 0 where
  pub different : AllDifferent (all_bags ρ)
  pub not_in_row : (k b : ℕ) → PushNoted ρ k b → is_among b (all_bags ρ) ≡ false
  pub one_task : (j k b : ℕ) → PushNoted ρ j b → PushNoted ρ k b → j ≡ k

-- The row fed a list of calls, each with what it gives on the table as the one before left it.
unfoldable pub row_after : List Call → List ℕ → Row → Option Row
row_after [] ws ρ = some ρ
row_after (c ∷ cs) ws ρ = bind (feed ρ c (given c ws)) (λ ρ'. row_after cs (after c ws) ρ')

-- The row that an accepted start and calls since then, which lead to the table ws, come to.
pub record RowSince (ws : List ℕ) (ρ : Row) : Type 0 where
  pub S : ℕ
  pub T : ℕ
  pub growth : ℕ
  pub lanes : ℕ
  pub old : List ℕ
  pub accepted : (start old S T growth lanes).reply ≡ Accepted
  pub calls : List Call
  pub leads_to : after_all calls (start old S T growth lanes).words ≡ ws
  pub row_is : row_after calls (start old S T growth lanes).words (empty_row T lanes) ≡ some ρ

-- Every table that our calls lead to has one, and its lanes are that row's.
abbrev pub EachHasRow : Type 0
EachHasRow = (ws : List ℕ) → Begun ws → (ρ : Row) × RowSince ws ρ × LanesAre ws ρ

abbrev pub RowsHaveOnce : Type 0
RowsHaveOnce = (ws : List ℕ) (ρ : Row) → RowSince ws ρ → OnceInRow ρ

-- ---- Begin.

-- The bag is in a row, or is the argument of a noted push.
abbrev pub SeenIn : Row → ℕ → Type 0
SeenIn ρ b = (is_among b (all_bags ρ) ≡ true) ⊎ ((k : ℕ) × PushNoted ρ k b)

-- A begin of a push that passes 26, 5, 6 and 7 is refused with 16 exactly when the row has seen the bag; if it has not,
-- an idle task accepts it.
pub record BeginsNew (ρ : Row) (b : ℕ) (is-idle : Bool) (reply : Reply) : Type 0 where
  pub only_when_seen : reply ≡ Reply-Refused 16 → SeenIn ρ b
  pub when_seen : SeenIn ρ b → reply ≡ Reply-Refused 16
  pub when_new : (SeenIn ρ b → ⊥) → is-idle ≡ true → reply ≡ Accepted

abbrev pub PushesBeginNew : Type 0
PushesBeginNew =
    (ws : List ℕ) (ρ : Row)
    → RowSince ws ρ
    → (k l : ℕ) (s : Side) (argument : Stored)
    → k < task_count ws
    → l < lane_count ws
    → bag_ok argument ≡ true
    → BeginsNew ρ (number argument) (is_idle (task ws k).operation)
    (begin ws k l (operation_number push) (side_number s) argument).reply
