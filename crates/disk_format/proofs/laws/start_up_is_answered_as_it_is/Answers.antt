use Rattle.disk_format.proofs.PageFormatLaws as laws
use Rattle.disk_format.proofs.laws.start_up_is_answered_as_it_is.Goals as goal

pub returns-clause-exact : goal.returns-clause-exact
returns-clause-exact c = laws.start_exact

pub returns-clause-refused : goal.returns-clause-refused
returns-clause-refused c = laws.start_refused

pub returns-clause-own : goal.returns-clause-own
returns-clause-own c = laws.start_own
