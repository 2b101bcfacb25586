use Rattle.channel_trace.proofs.Filling.{runs_filled, all_sent, all_got, marked_filled, seen_filled, drained_filled}
use Rattle.channel_trace.proofs.laws.fills_runs.Goals as goal

pub returns-clause-run : goal.returns-clause-run
returns-clause-run g c = runs_filled

pub returns-clause-sent : goal.returns-clause-sent
returns-clause-sent g c = all_sent

pub returns-clause-got : goal.returns-clause-got
returns-clause-got g c = all_got

pub returns-clause-marked : goal.returns-clause-marked
returns-clause-marked g c = marked_filled

pub returns-clause-seen : goal.returns-clause-seen
returns-clause-seen g c = seen_filled

pub returns-clause-drained : goal.returns-clause-drained
returns-clause-drained g c = drained_filled
