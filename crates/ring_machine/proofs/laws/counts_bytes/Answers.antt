use Rattle.ring_machine.proofs.Bounds.{free_bytes_are, used_bytes_are, ahead_bytes_are}
use Rattle.ring_machine.proofs.laws.counts_bytes.Goals as goal

pub returns : goal.returns
returns c = record { free = free_bytes_are; used = used_bytes_are; ahead = ahead_bytes_are }
