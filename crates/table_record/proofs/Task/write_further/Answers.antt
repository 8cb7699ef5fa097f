-- `table_record::Task::write_further` meets its contract: the words that it leaves are those of the same call.
use Rattle.table_record.proofs.Laws.RecordWords.{further-written}
use Rattle.table_record.proofs.Task.write_further.Goals as goal

pub returns : goal.returns
returns c =
    further-written c.args.words.now c.requires.words_len c.args.self c.requires.same_call
