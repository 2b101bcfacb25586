use Rattle.ring_seat.proofs.Reading.{keeps_step, keeps_begin}
use Rattle.ring_seat.proofs.laws.steps_keep_the_rule.Goals as goal

pub returns-clause-step : goal.returns-clause-step
returns-clause-step c = keeps_step

pub returns-clause-begin : goal.returns-clause-begin
returns-clause-begin c = keeps_begin
