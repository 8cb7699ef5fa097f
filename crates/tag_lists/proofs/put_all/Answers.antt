use Rattle.std.proofs.Common.{◌≡◌, ◌+◌, ◌*◌, ◌≤◌, suc, [], ◌∷◌, ◌++◌, length, take, arith, ◌∙◌, add-one, length-take-le}
use Rattle.std.proofs.lemmas.List.{take_more}
use native.Mathlib.Nat.{mul-le-mul_left}
use Rattle.tag_lists.proofs.Laws.Forms.{put-more}
use Rattle.tag_lists.proofs.put_all.Goals as goal

pub loop-i-preserved : goal.loop-i-preserved
loop-i-preserved g c =
    let l = c.loop-i in
    let tags = c.args.tags.now in
    let tag = c.index-tags-i.result in
    let more : take (l.i + 1) tags ≡ take l.i tags ++ tag ∷ [] =
    take_more tags l.i tag c.loop-i-test.true ∙ rw (← c.index-tags-i.is) in
    let fits = mul-le-mul_left {m = l.i + 1} {n = length tags} g.T.Form.ROOM (omega arith) in
    let room : g.T.Form.ROOM * suc l.i ≤ length c.args.out.now = rw (← add-one l.i) (omega (arith, fits, c.requires.room)) in
    rw (c.put.ensures, c.ROOM.ensures, more, add-one l.i)
    (put-more g.T.Form.turned g.T.Form.ROOM g.met.T.Form.sized c.args.out.now l.out (take l.i tags) tag l.i
    (length-take-le l.i tags (omega arith)) room l.invariant)
