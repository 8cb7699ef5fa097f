use mathlib.Core.Path.{◌≡◌, ap, ◌∙◌}
use mathlib.Core.List.{List}
use Prim.Native.Nat.{ℕ, ◌+◌, ◌-◌, ◌*◌, ◌≤◌, min}
use native.Mathlib.Omega.{arith}
use mathlib.Core.Option.{some}
use lib.ListN.{length, drop, length-take, length-drop}
use Rattle.text.specs.Numerals.{tag_text}
use Rattle.text.proofs.Laws.WritingLaws.{part-stored}
use Rattle.text.proofs.Laws.Rows.{tag-length}
use Rattle.text_page.specs.Page.{cell_length, per_line}
use Rattle.machine.specs.Table.{value_words}
use Rattle.tag.specs.Tags.{tag_of}
use Rattle.lane_walk.specs.Walks.{ahead, node_after}
use Rattle.lane_walk.proofs.Laws.Places.{begins-at, gone-on}
use Rattle.call_sheet.specs.Found.{tags_ahead}
use Rattle.call_sheet.proofs.Laws.Walked.{
  tags-left,
  next-tag,
  others-left,
  walked_others,
  digit-fits,
  low_fits,
  words-tag,
}
use Rattle.call_sheet.proofs.Laws.Written.{line-begun, line-done, tag-put}
use Rattle.call_sheet.proofs.pages.Ahead.put_line.Goals as goal

pub loop-c-init : goal.loop-c-init
loop-c-init c =
    record {
      node-reached = begins-at c.args.self.lanes.table.now c.args.self.from;
      out-is = line-begun c.args.out.now {blanked = c.put_blank_line.new.out} c.put_blank_line.ensures (tags_ahead c.args.self);
    }

pub put_tag-requires : goal.put_tag-requires
put_tag-requires c =
    let a = c.args.self in
    let l = c.loop-c in
    let tag = next-tag a.lanes.table.now a.from a.left a.counted l.c (omega arith) in
    let read = c.value-bag.ensures ∙ ap (value_words a.lanes.table.now) l.invariant.node-reached in
    let column = cell_length * l.c in
    let behind = length-take (length l.out - column) (drop column l.out) in (
      digit-fits read tag.is-tag c.tag_digit.ensures c.tag_low.ensures,
      low_fits read tag.is-tag c.tag_digit.ensures c.tag_low.ensures,
      omega (arith, behind, length-drop column l.out, l.auto.out, c.put_blank_line.auto.out),
    )

pub loop-c-preserved : goal.loop-c-preserved
loop-c-preserved c =
    let a = c.args.self in
    let ws = a.lanes.table.now in
    let l = c.loop-c in
    let tag = next-tag ws a.from a.left a.counted l.c (omega arith) in
    let read = c.value-bag.ensures ∙ ap (value_words ws) l.invariant.node-reached in
    let words = words-tag read tag.is-tag c.tag_digit.ensures c.tag_low.ensures in
    let text = tag_text (tag_of c.tag_digit.result c.tag_low.result) in
    let room : cell_length * l.c + length text ≤ length l.out =
    omega (arith, tag-length (tag_of c.tag_digit.result c.tag_low.result), l.auto.out, c.put_blank_line.auto.out) in
    record {
      node-reached = c.next-from.ensures ∙ gone-on ws l.c a.from l.invariant.node-reached;
      out-is = tag-put ws a.from a.left a.counted l.c (omega arith) (omega arith) c.put_blank_line.new.out
          l.invariant.out-is words (part-stored l.out text (cell_length * l.c) room c.put_tag.ensures);
    }

-- The walk has gone past the tags of the line.
gone : (table : List ℕ) (from left : ℕ) {x c : ℕ} → x ≡ node_after table c from → c ≡ min left per_line
    → x ≡ node_after table (min left per_line) from
gone table from left reached all = reached ∙ ap (λ (m : ℕ). node_after table m from) all

pub invariant_of-result : goal.invariant_of-result
invariant_of-result c =
    let a = c.args.self in
    let ws = a.lanes.table.now in
    let past = gone ws a.from a.left c.loop-c.invariant.node-reached (omega (arith, c.min-n.ensures)) in
    let e : a.left - per_line ≡ a.left - c.min-n.result = omega (arith, c.min-n.ensures) in
    record { counted = others-left ws a.from a.left a.counted per_line past ∙ ap some e }

pub returns-clause-others : goal.returns-clause-others
returns-clause-others c =
    let a = c.args.self in
    let ws = a.lanes.table.now in
    walked_others ws a.from a.left a.counted per_line
    (gone ws a.from a.left c.loop-c.invariant.node-reached (omega (arith, c.min-n.ensures)))

pub returns-clause-out_after : goal.returns-clause-out_after
returns-clause-out_after c =
    let a = c.args.self in
    let long = tags-left (ahead a.lanes.table.now a.from) a.left a.counted in
    line-done c.args.out.now {blanked = c.put_blank_line.new.out} c.put_blank_line.ensures (tags_ahead a) c.loop-c.c
    (omega (arith, c.min-n.ensures, long)) c.loop-c.invariant.out-is
