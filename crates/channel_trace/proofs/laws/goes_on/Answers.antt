use Rattle.channel_trace.proofs.Steps as steps
use Rattle.channel_trace.proofs.laws.goes_on.Goals as goal

pub returns-clause-none : goal.returns-clause-none
returns-clause-none g c = steps.none_yet

pub returns-clause-guest : goal.returns-clause-guest
returns-clause-guest g c = steps.guest_adds

pub returns-clause-host : goal.returns-clause-host
returns-clause-host g c = steps.host_adds
