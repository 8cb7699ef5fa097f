-- 2026-09: each wrong order of a sheet's refusals gives another one, by computation over the definitions.
use mathlib.Core.Path.{refl}
use native.Mathlib.Decide.{ℕ_discrete, dec_lt}
use Rattle.machine.specs.Values.{decode}
use Rattle.machine.specs.Table.{hat, link, value}
use Rattle.machine.specs.Shape.{all_below, same_words, node_ok, record_ok, shape_ok}
use Rattle.machine.specs.Calls.{times, start_nodes, start_words, lane_from, lane}
use Rattle.machine.specs.Sheets.{sheet_into, sheet}
use Rattle.machine_refuted.specs.WrongSheets.{SheetsRefuted}

pub sheets-refuted : SheetsRefuted
unfolding sheet sheet_into ℕ_discrete dec_lt decode hat link value all_below same_words node_ok record_ok shape_ok times
    start_nodes start_words lane_from lane
sheets-refuted = (refl, refl, refl, refl, refl)
