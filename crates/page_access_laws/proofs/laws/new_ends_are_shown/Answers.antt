use Rattle.page_access_laws.proofs.New.{new_exact, new_shown}
use Rattle.page_access_laws.proofs.laws.new_ends_are_shown.Goals as goal

pub returns-clause-shows : goal.returns-clause-shows
returns-clause-shows c = new_shown

pub returns-clause-exact : goal.returns-clause-exact
returns-clause-exact c = new_exact
