-- `table_record::Task::is_fresh` meets its contract: its tests are those of `same_words`.
use Rattle.table_record.proofs.Laws.RecordWords.{fresh-words}
use Rattle.table_record.proofs.Task.is_fresh.Goals as goal

pub returns : goal.returns
returns c =
    rw (c.are_none.ensures, c.are_none-2.ensures) (fresh-words c.args.self)
