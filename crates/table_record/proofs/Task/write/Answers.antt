-- `table_record::Task::write` meets its contract: the words of the call, then the others.
use lib.ListN.{length-set}
use Rattle.table_record.proofs.Laws.RecordWords.{call-written}
use Rattle.table_record.proofs.Task.write.Goals as goal

pub write_further-requires : goal.write_further-requires
write_further-requires c =
    record { words_len = simp length-set c.requires; same_call = call-written c.args.words.now c.requires c.args.self }
