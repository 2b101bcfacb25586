use Rattle.std.proofs.Common.{rules}
use Rattle.ring_seat.specs.Seats.{told_in}
use Rattle.ring_seat.proofs.Sharing.{learns, join_asks, one_is}
use Rattle.ring_seat.proofs.settled.settle.Goals as goal

pub join_seat-requires : goal.join_seat-requires
join_seat-requires c =
    let v = c.args.guest.seat.me.0 in
    let w = c.args.host.seat.me.0 in (
      search rules,
      search rules,
      c.args.host.empty,
      search rules,
      join_asks c.deref.result.now.shared.key.cells c.deref.result.now.shared.key.pages c.args.guest.seat.id c.args.host.seat.id v w (told_in v) (told_in w) (one_is v c.args.guest.one) (one_is w c.args.host.one) c.requires.guest c.requires.host,
    )

pub load-requires : goal.load-requires
load-requires c = (search rules, search rules, learns c.deref-2.result.now.shared.key.cells c.deref-2.result.now.shared.key.pages c.deref-2.result.now.shared.table_id.slots c.join_seat.new.seat.id 0 c.join_seat.new.seat.me)
