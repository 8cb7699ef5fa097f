use mathlib.Core.Path.{sym}
use Rattle.text.proofs.Laws.SameTexts.{same-lengths-differ}
use Rattle.text.proofs.is_text.Goals as goal

pub returns-then-text-want : goal.returns-then-text-want
returns-then-text-want c = sym (same-lengths-differ c.args.text.now c.args.want.now c.if-text-want.true)
