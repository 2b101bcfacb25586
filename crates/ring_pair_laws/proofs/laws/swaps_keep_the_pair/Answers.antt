use Rattle.std.proofs.Common.{◌∙◌, sym}
use Rattle.ring_pair_laws.proofs.Pairing.{handed_pair, handed_memory, handed_stays, exchanged}
use Rattle.ring_pair_laws.proofs.laws.swaps_keep_the_pair.Goals as goal

pub returns-clause-size : goal.returns-clause-size
returns-clause-size c = λ s ok. ok.rest.channel.guest_fits.cells ∙ sym ok.rest.channel.host_fits.cells

pub returns-clause-exchange : goal.returns-clause-exchange
returns-clause-exchange c = λ s. exchanged s s.at

pub returns-clause-pair : goal.returns-clause-pair
returns-clause-pair c = handed_pair

pub returns-clause-memory : goal.returns-clause-memory
returns-clause-memory c = handed_memory

pub returns-clause-ends : goal.returns-clause-ends
returns-clause-ends c = handed_stays
