use Rattle.channel_protocol.proofs.InPackets as laws
use Rattle.channel_protocol.proofs.PacketRuns as runs
use Rattle.channel_protocol.proofs.laws.packets_carry_over.Goals as goal

pub returns-clause-keeps : goal.returns-clause-keeps
returns-clause-keeps g c = laws.keeps_in_packets

pub returns-clause-may : goal.returns-clause-may
returns-clause-may g c = laws.may_in_packets

pub returns-clause-run : goal.returns-clause-run
returns-clause-run g c = runs.packets_run
