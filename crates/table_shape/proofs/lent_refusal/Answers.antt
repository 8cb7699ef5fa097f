-- The two tests decide the refusal, as in `table_refusal`.
use mathlib.Core.Path.{◌≡◌, sym, ◌∙◌}
use mathlib.Core.Bool.{Bool}
use Rattle.machine.specs.Shape.{length_ok}
use Rattle.machine.specs.Lent.{lent_to}
use Rattle.machine.proofs.Words.LentLaws.{lent_length}
use Rattle.table_record.specs.Coded.{record_of}
use Prim.Native.Nat.{ℕ}
use mathlib.Core.List.{List}
use Rattle.table_shape.proofs.lent_refusal.Goals as goal

-- The length is that of the table.
length-there :
    (ws : List ℕ) (k : ℕ) (own : List ℕ) {r b : Bool}
    → r ≡ length_ok ws
    → r ≡ b
    → length_ok (lent_to ws k own) ≡ b
length-there ws k own says h = lent_length ws k own ∙ sym says ∙ h

pub returns-then-not-length_ok : goal.returns-then-not-length_ok
returns-then-not-length_ok c =
    let a = c.args in
    rw (length-there a.table.now a.k (record_of a.own) c.length_ok.ensures c.if-not-length_ok.true)

pub lent_shape_ok-requires : goal.lent_shape_ok-requires
lent_shape_ok-requires c = sym c.length_ok.ensures ∙ c.if-not-length_ok.false

pub returns-then-not-lent_shape_ok : goal.returns-then-not-lent_shape_ok
returns-then-not-lent_shape_ok c =
    let a = c.args in
    rw (
      length-there a.table.now a.k (record_of a.own) c.length_ok.ensures c.if-not-length_ok.false,
      sym c.lent_shape_ok.ensures ∙ c.if-not-lent_shape_ok.true,
    )

pub returns : goal.returns
returns c =
    let a = c.args in
    rw (
      length-there a.table.now a.k (record_of a.own) c.length_ok.ensures c.if-not-length_ok.false,
      sym c.lent_shape_ok.ensures ∙ c.if-not-lent_shape_ok.false,
    )
