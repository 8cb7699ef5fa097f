-- The hats, the tasks, the queue and the search, one after another, are the allocation.
use Rattle.table_search.proofs.Laws.Marked.{all-joined}
use Rattle.table_search.proofs.Marking.first_free.Goals as goal

pub returns : goal.returns
returns c =
    all-joined c.args.table.now c.args.hint _ c.requires.same_nodes c.requires.nothing
    c.mark_hats.ensures c.mark_tasks.ensures c.spread.ensures c.first_unmarked.ensures
