use Rattle.channel_trace.proofs.Pasts as pasts
use Rattle.channel_trace.proofs.laws.stays.Goals as goal

pub returns-clause-sent : goal.returns-clause-sent
returns-clause-sent g c = pasts.sent_stays

pub returns-clause-got : goal.returns-clause-got
returns-clause-got g c = pasts.got_stays

pub returns-clause-marked : goal.returns-clause-marked
returns-clause-marked g c = pasts.marked_stays

pub returns-clause-seen : goal.returns-clause-seen
returns-clause-seen g c = pasts.seen_stays

pub returns-clause-drained : goal.returns-clause-drained
returns-clause-drained g c = pasts.drained_stays
