use Rattle.std.proofs.Common.{arith, refl}
use Rattle.ring_loan_rule.proofs.laws.first_request_lends.Goals as goal

pub returns-clause-may : goal.returns-clause-may
returns-clause-may c = record { clear = refl; has = λ a e h. cc (h); settled = λ a e h. omega arith; answers = λ e. cc (e) }
