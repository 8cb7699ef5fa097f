-- `table_shape::node_ok` meets its contract: each test is one of the definition's.
use native.Mathlib.Decide.{ℕ_discrete}
use Rattle.table_shape.proofs.node_ok.Goals as goal

pub returns : goal.returns
unfolding ℕ_discrete
returns c =
    rw (
      c.node_or_none.ensures,
      c.link.ensures,
      c.node_or_none-2.ensures,
      c.link-2.ensures,
      c.value_ok.ensures,
      c.value.ensures,
    )
