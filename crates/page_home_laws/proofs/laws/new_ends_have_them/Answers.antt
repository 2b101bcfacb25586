use Rattle.page_home_laws.proofs.Keeping.{new_has}
use Rattle.page_home_laws.proofs.laws.new_ends_have_them.Goals as goal

pub returns : goal.returns
returns g = new_has
