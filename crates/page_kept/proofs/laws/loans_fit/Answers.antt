use Rattle.page_kept.proofs.Loans.{fits}
use Rattle.page_kept.proofs.laws.loans_fit.Goals as goal

pub returns : goal.returns
returns c = fits
