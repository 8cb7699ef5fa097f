-- `tag_lists::put_all` meets its contract: the tags so far stand in front, and what is past them is as it was.
use Rattle.std.proofs.Common.{◌≡◌, ◌*◌, ◌++◌, take, drop}
use Rattle.std.specs.List.{flat_map}
use Rattle.tag_lists.proofs.put_all.Given as goal

abbrev pub invariant-loop-i : goal.invariant-loop-i
invariant-loop-i g l =
    l.out ≡ flat_map g.T.Form.turned (take l.i l.tags) ++ drop (g.T.Form.ROOM * l.i) l.initial.out
