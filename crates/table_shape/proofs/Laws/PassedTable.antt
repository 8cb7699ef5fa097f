-- Refusals 3 and 4, which every call but start begins with; and what a table that passes gives the code.
use mathlib.Core.Path.{◌≡◌, sym, ap}
use mathlib.Core.List.{List}
use mathlib.Core.Option.{Option, some, none}
use Prim.Native.Nat.{ℕ, ◌≤◌, ◌<◌}
use Rattle.machine.specs.Choice.{◌<?◌}
use Rattle.machine.specs.Operations.{operation_of}
use Rattle.machine.specs.Tasks.{Task, operation_word, task_of}
use Rattle.machine.specs.Table.{node_count, task_count, record_words, task}
use Rattle.machine.specs.Shape.{length_ok, shape_ok, WellFormed, sizes_of, WellSized}
use Rattle.machine.specs.Calls.{table_refusal}
use Rattle.machine.proofs.Basics.Choices.{if_yes}
use Rattle.machine.proofs.Shape.ShapeLaws.{well_sized}
use Rattle.answers.proofs.Laws.Refusals.{two_refuse, two_pass}

module _ (ws : List ℕ) where
  pub table-refused : {n : ℕ} → some n ≡ table_refusal ws none → (others : Option ℕ) → table_refusal ws others ≡ some n
  table-refused said others = two_refuse (length_ok ws) (shape_ok ws) 3 4 others (sym said)

  pub table-passed : none ≡ table_refusal ws none → WellFormed ws
  table-passed said =
      let both = two_pass (length_ok ws) (shape_ok ws) 3 4 (sym said) in
      record { length_passes = both.0; shape_passes = both.1 }

-- ---- Its sizes, and a task's record.
module _ (ws : List ℕ) (P : WellFormed ws) where
  Z : WellSized (sizes_of ws)
  Z = well_sized ws P.length_passes

  pub few-nodes : node_count ws ≤ 1024
  few-nodes = Z.most_nodes

  module _ (k : ℕ) (is_task : k < task_count ws) where
    pub operation-is : (task ws k).operation ≡ operation_of (operation_word (record_words ws k))
    unfolding task
    operation-is =
        ap (λ (t : Task). t.operation) (if_yes (k <? task_count ws) (task_of (record_words ws k)) _ is_task)
