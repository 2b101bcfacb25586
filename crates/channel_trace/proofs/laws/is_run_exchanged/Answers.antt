use Rattle.channel_trace.proofs.RunLaws as laws
use Rattle.channel_trace.proofs.Steps as steps
use Rattle.channel_trace.proofs.laws.is_run_exchanged.Goals as goal

pub returns-clause-run : goal.returns-clause-run
returns-clause-run g c = laws.exchanged_run

pub returns-clause-guest : goal.returns-clause-guest
returns-clause-guest g c = laws.exchanged_guest

pub returns-clause-host : goal.returns-clause-host
returns-clause-host g c = laws.exchanged_host

pub returns-clause-ends : goal.returns-clause-ends
returns-clause-ends g c = steps.ends_exchanged
