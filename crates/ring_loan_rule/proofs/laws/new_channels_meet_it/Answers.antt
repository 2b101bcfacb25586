use Rattle.ring_loan_rule.proofs.Reading.{opens_owned, turned}
use Rattle.ring_loan_rule.proofs.laws.new_channels_meet_it.Goals as goal

pub returns-clause-new : goal.returns-clause-new
returns-clause-new c = opens_owned

pub returns-clause-turned : goal.returns-clause-turned
returns-clause-turned c = turned
