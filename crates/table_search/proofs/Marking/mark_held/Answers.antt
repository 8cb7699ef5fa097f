-- What the registers hold, marked one after another, is the list of all four marked.
use Rattle.machine.specs.Tasks.{in_a, in_b, in_c, in_d}
use Rattle.machine.specs.Allocate.{mark_all}
use Rattle.table_search.proofs.Marking.mark_held.Goals as goal

pub returns : goal.returns
unfolding mark_all
returns c =
    let holding = c.entry-e.ensures in
    rw (c.mark_found-4.ensures, c.mark_found-3.ensures, c.mark_found-2.ensures, c.mark_found.ensures)
    rw (holding in_a, holding in_b, holding in_c, holding in_d)
