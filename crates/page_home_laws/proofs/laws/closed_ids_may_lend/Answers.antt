use Rattle.page_home_laws.proofs.Keeping.{may_lend}
use Rattle.page_home_laws.proofs.laws.closed_ids_may_lend.Goals as goal

pub returns : goal.returns
returns g = may_lend
