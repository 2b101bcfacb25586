use Rattle.std.proofs.Common.{◌≡◌, ◌∙◌, ◌∷◌, [], ap, sym, subst, arith, length, length-append, length-drop, drop, slice_index_or, slice_set}
use Rattle.std.specs.Vec.Iter.{into_iter_items}
use Rattle.device_any.specs.Boxes.{seats_in}
use Rattle.device_any.specs.Seats.{kind_at}
use Rattle.bus_run.specs.Devices.{Suits}
use Rattle.bus_run.specs.Opening.{order_with, IsOpenedWith}
use Rattle.bus_run.proofs.Opened.{OpenedNow, turn_next, within_next, given_seat, opened_start, opened_more, opened_end, next_left, still_open}
use Rattle.bus_run.proofs.opening.open_all.Goals as goal

pub loop-channel-init : goal.loop-channel-init
loop-channel-init c = record {
  opened = λ old can away.
      subst (λ l. OpenedNow c.args.path.now.guest.posted c.args.settings.now c.args.plan.items (length l) old c.args.boxes.now.items c.args.boxes.now.items l) (sym c.in_ok-pairs.ensures.items)
      (opened_start c.args.path.now.guest.posted c.args.settings.now c.args.plan.items old c.args.boxes.now.items away);
  left = subst (λ l. into_iter_items c.into_iter-channel-iterator.result ≡ drop (length l) c.args.plan.items) (sym c.in_ok-pairs.ensures.items) c.into_iter-channel-iterator.ensures.into_iter_gives.0;
  count = omega (arith, ap length c.into_iter-channel-iterator.ensures.into_iter_gives.0, c.into_iter-channel-iterator.ensures.into_iter_gives.1, c.args.plan.ok.0);
}

pub index_mut-own-requires : goal.index_mut-own-requires
index_mut-own-requires c =
    let w = c.requires.away in
    let x = c.in-Some.channel in
    let low = (within_next c.args.path.now.guest.posted c.args.settings.now c.args.plan.items _ _ w.0 c.args.boxes.now.items c.loop-channel.boxes.items c.loop-channel.pairs.items x w.1 w.2 (c.loop-channel.invariant.opened w.0 w.1 w.2) c.loop-channel.invariant.left c.in-Some.ensures.steps.0).0 in
    omega (arith, low, c.loop-channel.boxes.ok.0)

pub bounds-settings-at : goal.bounds-settings-at
bounds-settings-at c =
    let w = c.requires.away in
    let x = c.in-Some.channel in
    let low = (within_next c.args.path.now.guest.posted c.args.settings.now c.args.plan.items _ _ w.0 c.args.boxes.now.items c.loop-channel.boxes.items c.loop-channel.pairs.items x w.1 w.2 (c.loop-channel.invariant.opened w.0 w.1 w.2) c.loop-channel.invariant.left c.in-Some.ensures.steps.0).1 in
    omega (arith, low, c.requires.settings)

pub take_first-seat-requires : goal.take_first-seat-requires
take_first-seat-requires c =
    let w = c.requires.away in
    let x = c.in-Some.channel in
    let t = turn_next c.args.path.now.guest.posted c.args.settings.now c.args.plan.items _ _ w.0 c.args.boxes.now.items c.loop-channel.boxes.items c.loop-channel.pairs.items x c.index_mut-own.result.now w.1 w.2 (c.loop-channel.invariant.opened w.0 w.1 w.2) c.loop-channel.invariant.left c.in-Some.ensures.steps.0 c.index_mut-own.ensures.value in
    omega (arith, ap length t.first.seats_are)

pub open_channel-requires-clause-limits : goal.open_channel-requires-clause-limits
open_channel-requires-clause-limits c =
    let w = c.requires.away in
    let x = c.in-Some.channel in
    let low = (within_next c.args.path.now.guest.posted c.args.settings.now c.args.plan.items _ _ w.0 c.args.boxes.now.items c.loop-channel.boxes.items c.loop-channel.pairs.items x w.1 w.2 (c.loop-channel.invariant.opened w.0 w.1 w.2) c.loop-channel.invariant.left c.in-Some.ensures.steps.0).1 in
    c.requires.limits x.opening.device (record { pages = 0; window = 0 }) (omega (arith, low, c.requires.settings))

pub open_channel-requires-clause-sub : goal.open_channel-requires-clause-sub
open_channel-requires-clause-sub c =
    let w = c.requires.away in
    let x = c.in-Some.channel in
    let t = turn_next c.args.path.now.guest.posted c.args.settings.now c.args.plan.items _ _ w.0 c.args.boxes.now.items c.loop-channel.boxes.items c.loop-channel.pairs.items x c.index_mut-own.result.now w.1 w.2 (c.loop-channel.invariant.opened w.0 w.1 w.2) c.loop-channel.invariant.left c.in-Some.ensures.steps.0 c.index_mut-own.ensures.value in
    t.can.sub

pub open_channel-requires-clause-suits : goal.open_channel-requires-clause-suits
open_channel-requires-clause-suits c =
    let w = c.requires.away in
    let x = c.in-Some.channel in
    let t = turn_next c.args.path.now.guest.posted c.args.settings.now c.args.plan.items _ _ w.0 c.args.boxes.now.items c.loop-channel.boxes.items c.loop-channel.pairs.items x c.index_mut-own.result.now w.1 w.2 (c.loop-channel.invariant.opened w.0 w.1 w.2) c.loop-channel.invariant.left c.in-Some.ensures.steps.0 c.index_mut-own.ensures.value in
    let g = given_seat w.0 c.args.plan.items (length c.loop-channel.pairs.items) x c.loop-channel.boxes.items c.index_mut-own.result.now c.take_first-seat.result (seats_in c.take_first-seat.new.self) t c.take_first-seat.ensures.first in
    subst (λ n. Suits 4096 (order_with x (kind_at c.take_first-seat.result) n)) (sym c.subs-subs.ensures) g.suits

pub open_channel-requires-clause-subs : goal.open_channel-requires-clause-subs
open_channel-requires-clause-subs c =
    let w = c.requires.away in
    let x = c.in-Some.channel in
    let t = turn_next c.args.path.now.guest.posted c.args.settings.now c.args.plan.items _ _ w.0 c.args.boxes.now.items c.loop-channel.boxes.items c.loop-channel.pairs.items x c.index_mut-own.result.now w.1 w.2 (c.loop-channel.invariant.opened w.0 w.1 w.2) c.loop-channel.invariant.left c.in-Some.ensures.steps.0 c.index_mut-own.ensures.value in
    let g = given_seat w.0 c.args.plan.items (length c.loop-channel.pairs.items) x c.loop-channel.boxes.items c.index_mut-own.result.now c.take_first-seat.result (seats_in c.take_first-seat.new.self) t c.take_first-seat.ensures.first in
    omega (arith, c.subs-subs.ensures, g.subs)

pub open_channel-requires-clause-fresh : goal.open_channel-requires-clause-fresh
open_channel-requires-clause-fresh c =
    let w = c.requires.away in
    let x = c.in-Some.channel in
    let t = turn_next c.args.path.now.guest.posted c.args.settings.now c.args.plan.items _ _ w.0 c.args.boxes.now.items c.loop-channel.boxes.items c.loop-channel.pairs.items x c.index_mut-own.result.now w.1 w.2 (c.loop-channel.invariant.opened w.0 w.1 w.2) c.loop-channel.invariant.left c.in-Some.ensures.steps.0 c.index_mut-own.ensures.value in
    (given_seat w.0 c.args.plan.items (length c.loop-channel.pairs.items) x c.loop-channel.boxes.items c.index_mut-own.result.now c.take_first-seat.result (seats_in c.take_first-seat.new.self) t c.take_first-seat.ensures.first).fresh

pub open_channel-requires-clause-left : goal.open_channel-requires-clause-left
open_channel-requires-clause-left c =
    let w = c.requires.away in
    let x = c.in-Some.channel in
    let t = turn_next c.args.path.now.guest.posted c.args.settings.now c.args.plan.items _ _ w.0 c.args.boxes.now.items c.loop-channel.boxes.items c.loop-channel.pairs.items x c.index_mut-own.result.now w.1 w.2 (c.loop-channel.invariant.opened w.0 w.1 w.2) c.loop-channel.invariant.left c.in-Some.ensures.steps.0 c.index_mut-own.ensures.value in
    (given_seat w.0 c.args.plan.items (length c.loop-channel.pairs.items) x c.loop-channel.boxes.items c.index_mut-own.result.now c.take_first-seat.result (seats_in c.take_first-seat.new.self) t c.take_first-seat.ensures.first).left

pub loop-channel-preserved : goal.loop-channel-preserved
loop-channel-preserved c = record {
  opened = λ old can away.
      let x = c.in-Some.channel in
      let own = c.index_mut-own.result.now in
      let t = turn_next c.args.path.now.guest.posted c.args.settings.now c.args.plan.items _ _ old c.args.boxes.now.items c.loop-channel.boxes.items c.loop-channel.pairs.items x c.index_mut-own.result.now can away (c.loop-channel.invariant.opened old can away) c.loop-channel.invariant.left c.in-Some.ensures.steps.0 c.index_mut-own.ensures.value in
      subst (λ n. OpenedNow c.args.path.now.guest.posted c.args.settings.now c.args.plan.items n old c.args.boxes.now.items (slice_set c.loop-channel.boxes.items x.opening.device c.take_first-seat.new.self) c.push.new.self.items)
      (omega (arith, ap length c.in_ok-push.ensures.items, length-append c.loop-channel.pairs.items (c.in_ok-pair.pair ∷ [])))
      (opened_more c.args.path.now.guest.posted c.args.settings.now c.args.plan.items (length c.loop-channel.pairs.items) old c.args.boxes.now.items c.loop-channel.boxes.items c.loop-channel.pairs.items c.push.new.self.items x own c.take_first-seat.new.self c.take_first-seat.result (record { pages = 0; window = 0 }) c.in_ok-pair.pair away
      (c.loop-channel.invariant.opened old can away) t c.requires.settings c.take_first-seat.ensures.first (still_open own c.take_first-seat.new.self (kind_at t.first.seat) t.first.kind_is c.take_first-seat.ensures.kind c.take_first-seat.ensures.subs)
      (subst (λ n. IsOpenedWith c.args.path.now.guest.posted (slice_index_or c.args.settings.now x.opening.device (record { pages = 0; window = 0 })) x.opening.relid (order_with x (kind_at c.take_first-seat.result) n) c.take_first-seat.result c.in_ok-pair.pair) c.subs-subs.ensures c.in_ok-pair.ensures) c.in_ok-push.ensures.items);
  left = next_left c.args.plan.items _ _ (length c.loop-channel.pairs.items) c.in-Some.channel c.loop-channel.invariant.left c.in-Some.ensures.steps.0
      ∙ ap (λ n. drop n c.args.plan.items) (omega (arith, ap length c.in_ok-push.ensures.items, length-append c.loop-channel.pairs.items (c.in_ok-pair.pair ∷ [])));
  count = omega (arith, ap length c.in-Some.ensures.steps.0, c.in-Some.ensures.steps.1, c.loop-channel.invariant.count);
}

pub returns : goal.returns
returns c old can away =
    opened_end c.args.path.now.guest.posted c.args.settings.now c.args.plan.items (length c.loop-channel.pairs.items) old c.args.boxes.now.items c.loop-channel.boxes.items c.loop-channel.pairs.items (c.loop-channel.invariant.opened old can away)
    (omega (arith, c.in-None.ensures.steps.0, c.loop-channel.invariant.count, ap length c.loop-channel.invariant.left, length-drop (length c.loop-channel.pairs.items) c.args.plan.items))
