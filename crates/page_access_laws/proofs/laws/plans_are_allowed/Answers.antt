use Rattle.page_access_laws.proofs.Turning.{is_call}
use Rattle.page_access_laws.proofs.laws.plans_are_allowed.Goals as goal

pub returns : goal.returns
returns c = is_call
