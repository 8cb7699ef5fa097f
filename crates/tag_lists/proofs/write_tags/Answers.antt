-- `tag_lists::write_tags` meets its contract: a list of whole tags is too long where it has more than 1,024.
use Rattle.std.proofs.Common.{length}
use Rattle.tag_lists.specs.TagLists.{writing}
use Rattle.tag_lists.proofs.Laws.Forms.{turned-taken, two-each}
use Rattle.tag_lists.proofs.write_tags.Goals as goal

pub returns : goal.returns
returns c =
    let tags = c.as_chunks.ensures in
    let turned = c.turn.ensures in
    turned-taken writing c.args.words.now c.args.bytes.now c.turn.new.out c.is_empty.result c.as_chunks.result.0.now
    tags.front tags.front_len (rw (c.is_empty.ensures, tags.back_len) (two-each (length c.args.words.now))) turned.value turned.ok turned.err
