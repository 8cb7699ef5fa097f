use Rattle.std.proofs.Common.{◌≡◌, ap, ◌∙◌, ◌*◌, ◌-◌, ◌/◌, ◌%◌, length, get_or, arith, add-one, length-set}
use Rattle.tag.specs.Tags.{tag_of}
use Rattle.tag.proofs.Stores.{filled-end}
use Rattle.tag.proofs.Twofold.{length-twofold, twofold-next}
use Rattle.tag.proofs.TwoDigits.{parted, twos-parted}
use Rattle.tag.proofs.digits_of_words.Goals as goal

pub loop-i-preserved : goal.loop-i-preserved
loop-i-preserved c =
    let l = c.loop-i in
    let twos = c.twos-twos in
    let two = get_or twos.result l.i 0 in
    let ten = c.tens-ten.ensures in
    let one : two - 10 * c.tens-ten.result ≡ two % 10 = omega arith in
    let five = ap length twos.ensures in (
      simp length-set l.invariant.0,
      rw (add-one l.i)
          (twofold-next (λ t. t / 10) (λ t. t % 10) l.digits twos.result l.i c.tens-ten.result
          (two - 10 * c.tens-ten.result) (omega arith) (omega arith) ten one l.invariant.1),
    )

pub returns : goal.returns
returns c =
    let l = c.loop-i in
    let twos = c.twos-twos in
    let five = ap length twos.ensures in
    filled-end l.digits (parted twos.result) (2 * l.i) (omega arith)
    (omega (arith, length-twofold (λ t. t / 10) (λ t. t % 10) twos.result)) l.invariant.1
    ∙ ap parted twos.ensures
    ∙ twos-parted (tag_of c.args.digit c.args.low)
