use Rattle.gpadl.proofs.Cutting.{cuts_so, cuts_well}
use Rattle.gpadl.proofs.law.one_cut.Goals as goal

pub returns-clause-so : goal.returns-clause-so
returns-clause-so c = cuts_so

pub returns-clause-well : goal.returns-clause-well
returns-clause-well c = cuts_well
