use Rattle.std.proofs.Common.{arith}
use Rattle.ring_pair_laws.proofs.Spelling.{stands_for}
use Rattle.ring_pair_laws.proofs.laws.rings_stand_for_lists.Goals as goal

pub returns-clause-to_host : goal.returns-clause-to_host
returns-clause-to_host c = λ s ok. stands_for _ _ _ (omega (arith, ok.rest.channel.guest_fits.sound.cells)) _ _ ok.rest.channel.to_host

pub returns-clause-to_guest : goal.returns-clause-to_guest
returns-clause-to_guest c = λ s ok. stands_for _ _ _ (omega (arith, ok.rest.channel.guest_fits.sound.cells)) _ _ ok.rest.channel.to_guest
