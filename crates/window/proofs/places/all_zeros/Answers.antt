-- `window::places::all_zeros` meets its contract: the words gathered are 0 where each is.
use Rattle.std.proofs.Common.{◌≡◌, refl, rules, ◌∙◌, bit_or}
use Rattle.std.specs.List.{fold}
use Rattle.window.proofs.Laws.Counting.{gathered-all, is_zero}
use Rattle.window.proofs.places.all_zeros.Goals as goal

pub returns : goal.returns
returns c =
    let words = c.args.words.now in
    let e : c.fold.result ≡ fold bit_or 0 words = search rules in
    is_zero c.fold.result ∙ rw e (gathered-all 0 0 words 0 refl)
