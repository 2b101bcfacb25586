use Rattle.ring_loan_rule.proofs.Holding.{holds_open}
use Rattle.ring_loan_rule.proofs.laws.open_is_held.Goals as goal

pub returns : goal.returns
returns g = holds_open
