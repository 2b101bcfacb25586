use Rattle.std.proofs.Common.{refl}
use Rattle.vmbus_msg.specs.Reading.{Reads}
use Rattle.vmbus_msg.proofs.read.read_offer_channel.Goals as goal

pub returns : goal.returns
unfolding Reads
returns c =
    (c.in_ok-has_len.ensures, (refl, rw (c.u32_at.ensures, c.array_at.ensures, c.array_at-2.ensures, c.u64_at.ensures, c.u64_at-2.ensures, c.u16_at.ensures, c.u16_at-2.ensures, c.array_at-3.ensures, c.u16_at-3.ensures, c.u16_at-4.ensures, c.u32_at-2.ensures, c.u8_at.ensures, c.u8_at-2.ensures, c.u16_at-5.ensures, c.u32_at-3.ensures) refl, refl))
