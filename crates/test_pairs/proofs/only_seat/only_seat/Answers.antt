use Rattle.std.proofs.Common.{[]}
use Rattle.hist_lock.proofs.Rows.{only_new}
use Rattle.test_pairs.proofs.only_seat.only_seat.Goals as goal

pub returns-clause-left : goal.returns-clause-left
returns-clause-left g c = (only_new c.args.machine [] c.args.quota c.in_ok-seats.seats.items c.pop.new.self.items c.in-Some.seat c.in_ok-seats.ensures c.in-Some.ensures.items).left

pub returns-clause-calls : goal.returns-clause-calls
returns-clause-calls g c = (only_new c.args.machine [] c.args.quota c.in_ok-seats.seats.items c.pop.new.self.items c.in-Some.seat c.in_ok-seats.ensures c.in-Some.ensures.items).calls
