-- `tag_lists::read_tags` meets its contract: a list of whole tags is too long where it has more than 1,024.
use Rattle.std.proofs.Common.{length}
use Rattle.tag_lists.specs.TagLists.{reading}
use Rattle.tag_lists.proofs.Laws.Forms.{turned-taken, five-each}
use Rattle.tag_lists.proofs.read_tags.Goals as goal

pub returns : goal.returns
returns c =
    let tags = c.as_chunks.ensures in
    let turned = c.turn.ensures in
    turned-taken reading c.args.bytes.now c.args.words.now c.turn.new.out c.is_empty.result c.as_chunks.result.0.now
    tags.front tags.front_len (rw (c.is_empty.ensures, tags.back_len) (five-each (length c.args.bytes.now))) turned.value turned.ok turned.err
