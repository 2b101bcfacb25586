use Rattle.ring_loan_rule.proofs.Reading.{says}
use Rattle.ring_loan_rule.proofs.laws.rule_says.Goals as goal

pub returns : goal.returns
returns g = says
