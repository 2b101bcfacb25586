use Rattle.bus_model.proofs.Stopping.{rescinds_lem, unserved_nowhere_lem}
use Rattle.bus_model.proofs.laws.rescinds.Goals as goal

pub returns-clause-requests : goal.returns-clause-requests
returns-clause-requests c = rescinds_lem

pub returns-clause-unserved : goal.returns-clause-unserved
returns-clause-unserved c = unserved_nowhere_lem
