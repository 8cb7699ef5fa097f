-- The tags that a walk along a lane finds.
use Rattle.std.specs.Prelude.{List, [], ℕ}
use Rattle.std.proofs.Math.Option.{Option, some, none}
use Rattle.lane_walk.specs.Walks.{ahead}
use Rattle.call_sheet.specs.declared.pages.Ahead.{Ahead}

-- None where it has no end.
abbrev pub tags_found : Option (List ℕ) → List ℕ
tags_found none = []
tags_found (some bags) = bags

-- Those that are ahead.
abbrev pub tags_ahead : Ahead → List ℕ
tags_ahead a = tags_found (ahead a.lanes.table.now a.from)
