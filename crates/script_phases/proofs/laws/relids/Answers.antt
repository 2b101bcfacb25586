use Rattle.script_phases.proofs.Following.{offered_relids_lem, next_relids_lem}
use Rattle.script_phases.proofs.laws.relids.Goals as goal

pub returns-clause-firsts : goal.returns-clause-firsts
returns-clause-firsts c = offered_relids_lem

pub returns-clause-others : goal.returns-clause-others
returns-clause-others c = next_relids_lem
