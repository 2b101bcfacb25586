use Rattle.channel_trace.proofs.RunLaws as laws
use Rattle.channel_trace.proofs.laws.each_moment.Goals as goal

pub returns-clause-run : goal.returns-clause-run
returns-clause-run g c = laws.was_run

pub returns-clause-guest : goal.returns-clause-guest
returns-clause-guest g c = laws.guest_might

pub returns-clause-host : goal.returns-clause-host
returns-clause-host g c = laws.host_might
