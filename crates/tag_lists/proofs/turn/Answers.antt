-- `tag_lists::turn` meets its contract: each tag is good where none is found that is not.
use Rattle.std.proofs.Common.{rules}
use Rattle.tag_lists.proofs.Laws.Forms.{all-good}
use Rattle.tag_lists.proofs.turn.Goals as goal

pub put_all-requires-clause-good : goal.put_all-requires-clause-good
put_all-requires-clause-good g c = all-good g.T.Form.good c.args.tags.now (search rules)
