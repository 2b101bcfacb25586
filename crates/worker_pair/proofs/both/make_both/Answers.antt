use Rattle.std.proofs.Common.{refl, subst, sym}
use Rattle.io_edge.specs.declared.side.Side.{Side}
use Rattle.io_edge.specs.declared.side.Side.TheVariants.{Guest, Host}
use Rattle.worker_pair.specs.Pairs.{AreMadeAt, ArePair, pages_on}
use Rattle.worker_pair.specs.Plans.{planned}
use Rattle.worker_pair.specs.declared.worker.Worker.{Worker}
use Rattle.worker_pair.proofs.NewEnds.{fresh, its_size}
use Rattle.worker_pair.proofs.Roles.{are_roles, can_make, made_at, pair_of}
use Rattle.worker_pair.proofs.both.make_both.Goals as goal

pub make_worker-requires : goal.make_worker-requires
make_worker-requires c =
    let n = pages_on c.args.plan.kind c.args.plan.window in
    let can = can_make c.side_that_asks-asks_at.result Guest c.args.plan c.args.seat c.args.asks.items _ _ c.side_that_asks-asks_at.ensures c.deal-guest_seat.ensures.guest c.requires.seat c.requires.plan in
    record { plan = can.0; seat = can.1; side = can.2; fresh = fresh c.args.guest Guest n c.requires.guest; size = its_size c.args.guest Guest n c.requires.guest }

pub make_worker-requires-2 : goal.make_worker-requires-2
make_worker-requires-2 c =
    let n = pages_on c.args.plan.kind c.args.plan.window in
    let can = can_make c.side_that_asks-asks_at.result Host c.args.plan c.args.seat c.args.asks.items _ _ c.side_that_asks-asks_at.ensures c.deal-guest_seat.ensures.host c.requires.seat c.requires.plan in
    record { plan = can.0; seat = can.1; side = can.2; fresh = fresh c.args.host Host n c.requires.host; size = its_size c.args.host Host n c.requires.host }

pub returns-in-Ok-make_worker-clause-made : goal.returns-in-Ok-make_worker-clause-made
returns-in-Ok-make_worker-clause-made c =
    let dealt = c.deal-guest_seat.ensures in
    let made = made_at c.side_that_asks-asks_at.result c.args.plan c.args.seat c.args.asks.items _ _ _ _ c.in-Ok.guest c.in-Ok-make_worker.host dealt.guest dealt.host c.in-Ok.ensures.made c.in-Ok-make_worker.ensures.made in
    subst (λ (p : Side × Worker × Worker). AreMadeAt p.0 (planned c.args.plan c.args.asks.items) c.args.seat p.1 p.2) (λ i. (c.side_that_asks-asks_at.ensures i, sym c.over.ensures i, sym c.over-in-Ok-make_worker.ensures i)) made

pub returns-in-Ok-make_worker-clause-pair : goal.returns-in-Ok-make_worker-clause-pair
returns-in-Ok-make_worker-clause-pair c =
    let dealt = c.deal-guest_seat.ensures in
    let guest = c.in-Ok in
    let host = c.in-Ok-make_worker in
    let made = made_at c.side_that_asks-asks_at.result c.args.plan c.args.seat c.args.asks.items _ _ _ _ guest.guest host.host dealt.guest dealt.host guest.ensures.made host.ensures.made in
    let roles = are_roles _ (planned c.args.plan c.args.asks.items) c.args.seat guest.guest host.host (sym (c.requires.plan.asks refl).0) made in
    subst (λ (p : Worker × Worker). ArePair p.0 p.1) (λ i. (sym c.over.ensures i, sym c.over-in-Ok-make_worker.ensures i))
    (pair_of (pages_on c.args.plan.kind c.args.plan.window) c.args.guest c.args.host guest.guest host.host c.requires.channel c.requires.guest c.requires.host guest.ensures.end host.ensures.end guest.ensures.live host.ensures.live roles)
