-- `program_answer::Space::lane_command` meets its contract: the read is of the table's own words.
use Rattle.program_answer.specs.Space.{table_of}
use Rattle.program_answer.proofs.Laws.LaneLaws.{lane_done}
use Rattle.program_answer.proofs.Space.lane_command.Goals as goal

pub returns-clause-answers : goal.returns-clause-answers
returns-clause-answers c =
    (lane_done c.args.bags.now c.told-bags (table_of c.args.self.now) c.read.result c.read.ensures).0

pub returns-clause-result_in_bounds : goal.returns-clause-result_in_bounds
returns-clause-result_in_bounds c =
    (lane_done c.args.bags.now c.told-bags (table_of c.args.self.now) c.read.result c.read.ensures).1
