use Rattle.std.proofs.Common.{arith}
use Rattle.ring_pair_laws.proofs.Spelling.{stands_for}
use Rattle.ring_seat.proofs.laws.rings_stand_for_lists.Goals as goal

pub returns-clause-to_host : goal.returns-clause-to_host
returns-clause-to_host c n ws ends i = stands_for n ws _ (omega (arith, i.channel.guest_fits.sound.cells, i.channel.guest_fits.cells)) _ _ i.channel.to_host

pub returns-clause-to_guest : goal.returns-clause-to_guest
returns-clause-to_guest c n ws ends i = stands_for n ws _ (omega (arith, i.channel.guest_fits.sound.cells, i.channel.guest_fits.cells)) _ _ i.channel.to_guest
