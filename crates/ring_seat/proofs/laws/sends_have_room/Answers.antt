use Rattle.std.proofs.Common.{⊎_elim, arith}
use Rattle.ring_pair_laws.proofs.Spelling.{sends_cell, sends_write}
use Rattle.ring_seat.proofs.laws.sends_have_room.Goals as goal

pub returns-clause-guest : goal.returns-clause-guest
returns-clause-guest c n ws ends i at =
    let fits = i.channel.guest_fits in
    ⊎_elim (sends_cell n ws _ (omega (arith, fits.sound.cells, fits.cells)) _ _ i.channel.to_host fits.sound.done) (sends_write n ws _ (omega (arith, fits.sound.cells, fits.cells)) _ _ i.channel.to_host) at

pub returns-clause-host : goal.returns-clause-host
returns-clause-host c n ws ends i at =
    let fits = i.channel.host_fits in
    ⊎_elim (sends_cell n ws _ (omega (arith, fits.sound.cells, fits.cells)) _ _ i.channel.to_guest fits.sound.done) (sends_write n ws _ (omega (arith, fits.sound.cells, fits.cells)) _ _ i.channel.to_guest) at
