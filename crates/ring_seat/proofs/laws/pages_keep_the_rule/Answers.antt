use Rattle.ring_seat.proofs.WholeLaws.{step_keeps, call_keeps, store_keeps_all, load_keeps_all, new_keeps, end_tells, front_tells}
use Rattle.ring_seat.proofs.laws.pages_keep_the_rule.Goals as goal

pub returns-clause-new : goal.returns-clause-new
returns-clause-new c = new_keeps

pub returns-clause-step : goal.returns-clause-step
returns-clause-step c = step_keeps

pub returns-clause-begin : goal.returns-clause-begin
returns-clause-begin c = call_keeps

pub returns-clause-store : goal.returns-clause-store
returns-clause-store c = store_keeps_all

pub returns-clause-load : goal.returns-clause-load
returns-clause-load c = load_keeps_all

pub returns-clause-got : goal.returns-clause-got
returns-clause-got c = end_tells

pub returns-clause-front : goal.returns-clause-front
returns-clause-front c = front_tells
