-- `text_page::digits::put_two` meets its contract.
use mathlib.Core.Path.{refl}
use native.Mathlib.Omega.{arith}
use Rattle.text_page.proofs.Laws.Digits.{two-stored}
use Rattle.text_page.proofs.digits.put_two.Goals as goal

pub returns : goal.returns
returns c = two-stored c.args.out.now 0 c.args.n c.tens.result _ (omega arith) c.tens.ensures refl
