use Rattle.channel_protocol.proofs.EchoLaws as laws
use Rattle.channel_protocol.proofs.laws.echo_keeps.Goals as goal

pub returns : goal.returns
returns c = laws.echo_keeps
