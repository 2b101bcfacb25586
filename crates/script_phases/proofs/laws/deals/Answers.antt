use Rattle.script_phases.proofs.Dealing.{deals_lem}
use Rattle.script_phases.proofs.laws.deals.Goals as goal

pub returns : goal.returns
returns c = deals_lem
