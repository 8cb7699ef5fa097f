-- `airline_list::words::has_word` meets its contract: both words are numbers of eight bytes.
use Rattle.std.proofs.Common.{◌∙◌, arith, rules}
use Rattle.std.specs.Prelude.{eqb}
use Rattle.airline_list.proofs.Laws.WordLaws.{word-same}
use Rattle.airline_list.proofs.words.has_word.Goals as goal

pub returns : goal.returns
returns c =
    let small = c.type_inv.text in
    (λ i. eqb (c.from_le_bytes.ensures i) (c.from_le_bytes-2.ensures i))
    ∙ word-same c.args.text.now c.args.at c.requires (λ i. omega (arith, small i)) c.args.want.now
    (search rules, λ i. search rules)
