use mathlib.Core.Path.{refl, sym}
use Prim.Native.Nat.{◌*◌, ◌+◌}
use native.Mathlib.Numerals.{add-one}
use native.Mathlib.Omega.{arith}
use lib.ListN.{length-set, get_or}
use Rattle.tag_packed.specs.Packed.{pairs}
use Rattle.tag.proofs.Stores.{filled_next, filled-end}
use Rattle.tag.proofs.DigitLaws.{digit_at}
use Rattle.tag_packed.proofs.Laws.Halves.{length_pairs, pair-at}
use Rattle.tag_packed.proofs.pack.Goals as goal

pub loop-i-init : goal.loop-i-init
loop-i-init c = (refl, refl)

pub overflow_mul-byte-in-loop-i : goal.overflow_mul-byte-in-loop-i
overflow_mul-byte-in-loop-i c =
    omega (arith, digit_at c.args.digits (2 * c.loop-i.i) c.requires)

pub overflow_add-byte-in-loop-i : goal.overflow_add-byte-in-loop-i
overflow_add-byte-in-loop-i c =
    let digits = c.args.digits in
    let i = c.loop-i.i in
    omega (arith, digit_at digits (2 * i) c.requires, digit_at digits (2 * i + 1) c.requires)

pub loop-i-preserved : goal.loop-i-preserved
loop-i-preserved c =
    let l = c.loop-i in
    let digits = c.args.digits in
    let wanted = length_pairs 5 digits in (
      simp length-set l.invariant.0,
      rw (add-one l.i)
          (filled_next l.byte-items (pairs 5 digits) l.i (get_or digits (2 * l.i) 0 * 16 + get_or digits (2 * l.i + 1) 0)
          (omega arith) (omega arith) (sym (pair-at 5 digits l.i (omega arith))) l.invariant.1),
    )

pub returns : goal.returns
returns c =
    let l = c.loop-i in
    let digits = c.args.digits in
    filled-end l.byte-items (pairs 5 digits) l.i (omega arith) (omega (arith, length_pairs 5 digits)) l.invariant.1
