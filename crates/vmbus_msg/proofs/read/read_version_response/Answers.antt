use Rattle.std.proofs.Common.{refl}
use Rattle.vmbus_msg.specs.Reading.{Reads}
use Rattle.vmbus_msg.proofs.read.read_version_response.Goals as goal

pub returns : goal.returns
unfolding Reads
returns c =
    (c.in_ok-has_len.ensures, (refl, rw (c.u32_at.ensures, c.u8_at.ensures, c.u8_at-2.ensures, c.u16_at.ensures, c.u32_at-2.ensures) refl, refl))
