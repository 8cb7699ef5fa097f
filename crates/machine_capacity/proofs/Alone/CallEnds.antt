-- The end at which a call alone is made, with what is known of its table: side s of a lane, with no task in a call.
use mathlib.Core.List.{List}
use Prim.Native.Nat.{ℕ, ◌<◌}
use Rattle.machine.specs.Sides.{Side}
use Rattle.machine.specs.Table.{lane_count}
use Rattle.machine.specs.Begun.{Begun}
use Rattle.machine_capacity.specs.NoLeak.{Idle, IdleTable}
use Rattle.machine_capacity.specs.Alone.{spare_of}
use Rattle.machine_capacity.proofs.Alone.Ends.{spare_at, inner_at}

pub record CallEnd : Type 0 where
  pub words : List ℕ
  pub begun : Begun words
  pub idle_now : Idle words
  pub table : IdleTable words
  pub lane : ℕ
  pub is_lane : lane < lane_count words
  pub side : Side

abbrev pub call_end : {ws : List ℕ} → Begun ws → Idle ws → (T : IdleTable ws) (ℓ : ℕ) → ℓ < lane_count ws → Side → CallEnd
call_end {ws} B idle_now T ℓ is_lane s =
    record {
      words = ws;
      begun = B;
      idle_now = idle_now;
      table = T;
      lane = ℓ;
      is_lane = is_lane;
      side = s;
    }

-- How many nodes are spare there, and which; and the node before them.
abbrev pub spares : CallEnd → ℕ
spares end = spare_of end.side (end.table.shape end.lane)

abbrev pub spare : CallEnd → (i : ℕ) → ℕ
spare end i = spare_at end.side (end.table.shape end.lane) i

abbrev pub inner : CallEnd → ℕ
inner end = inner_at end.side (end.table.shape end.lane)
