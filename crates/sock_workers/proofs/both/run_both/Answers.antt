use Rattle.sock_workers.proofs.Leaving.{guest_later}
use Rattle.sock_workers.proofs.both.run_both.Goals as goal

pub returns-in-Some-Some-clause-guest : goal.returns-in-Some-Some-clause-guest
returns-in-Some-Some-clause-guest g c =
    let turned = c.guest_turn-guest_ended in
    guest_later c.args.guest c.loop.guest _ _ _ c.loop.invariant.guest_goes (guest_later c.loop.guest turned.new.guest _ _ _ turned.ensures.goes c.done.ensures.leaves)
