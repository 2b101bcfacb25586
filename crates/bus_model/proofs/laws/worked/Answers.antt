use Rattle.bus_model.proofs.WorkedRuns.{shares_lem, shares_otherwise_lem, closes_lem, rescinded_lem, held_lem}
use Rattle.bus_model.proofs.laws.worked.Goals as goal

pub returns-clause-shares : goal.returns-clause-shares
returns-clause-shares c = shares_lem

pub returns-clause-otherwise : goal.returns-clause-otherwise
returns-clause-otherwise c = shares_otherwise_lem

pub returns-clause-rescinded : goal.returns-clause-rescinded
returns-clause-rescinded c = rescinded_lem

pub returns-clause-held : goal.returns-clause-held
returns-clause-held c = held_lem

pub returns-clause-closes : goal.returns-clause-closes
returns-clause-closes c = closes_lem
