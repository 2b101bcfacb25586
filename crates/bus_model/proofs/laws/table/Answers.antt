use Rattle.bus_model.proofs.Tables.{table_lem, ended_lem}
use Rattle.bus_model.proofs.laws.table.Goals as goal

pub returns-clause-rows : goal.returns-clause-rows
returns-clause-rows c = table_lem

pub returns-clause-ended : goal.returns-clause-ended
returns-clause-ended c = ended_lem
