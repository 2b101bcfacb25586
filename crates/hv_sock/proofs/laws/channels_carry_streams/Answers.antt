use Rattle.hv_sock.proofs.StreamLaws.{reads_of}
use Rattle.hv_sock.proofs.laws.channels_carry_streams.Goals as goal

pub returns : goal.returns
returns c g h settled = (reads_of h.got g.sent settled.host_front, reads_of g.got h.sent settled.guest_front)
