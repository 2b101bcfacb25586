use Rattle.std.proofs.Common.{rules, ◌≡◌, ◌∙◌, ap, sym, subst}
use Rattle.atomic_table.specs.Table.{Me}
use Rattle.io_edge.specs.declared.side.Side.TheVariants.{Guest, Host}
use Rattle.ring_seat.specs.declared.view.View.{View}
use Rattle.ring_seat.specs.declared.view.View.TheVariants.{One}
use Rattle.ring_seat.specs.Lawful.{Lawfully}
use Rattle.ring_seat.specs.Seats.{new_told, state_in}
use Rattle.ring_seat.proofs.OneEnd.{new_lawful}
use Rattle.ring_seat.proofs.Sharing.{opens, split_asks}
use Rattle.ring_seat.proofs.channel.seats.Goals as goal

pub of_words-requires : goal.of_words-requires
of_words-requires c = opens c.args.cells c.args.pages c.as_slice.result.now c.requires.cells.0 c.requires.cells.1 (c.as_slice.ensures.value ∙ c.in_ok-words.ensures)

pub split_seat-away-requires : goal.split_seat-away-requires
split_seat-away-requires c =
    let t = c.in_ok-table.ensures in (
      search rules,
      search rules,
      split_asks c.deref.result.now.shared.key.cells c.deref.result.now.shared.key.pages c.in_ok-table.seat.id c.in_ok-table.seat.me.0 (new_told c.args.cells c.args.pages Guest) (new_told c.args.cells c.args.pages Host) (ap (λ (m : Me (Unit {0}) View). m.0) t.4),
    )

pub over-guest-requires-clause-lawful : goal.over-guest-requires-clause-lawful
over-guest-requires-clause-lawful c =
    let is : c.split_seat-away.new.seat.me.0 ≡ One (new_told c.args.cells c.args.pages Guest) = search rules in
    subst (λ (v : View). Lawfully (state_in v)) (sym is) (new_lawful c.args.cells c.args.pages Guest)

pub over-host-requires-clause-lawful : goal.over-host-requires-clause-lawful
over-host-requires-clause-lawful c =
    let is : c.split_seat-away.result.me.0 ≡ One (new_told c.args.cells c.args.pages Host) = search rules in
    subst (λ (v : View). Lawfully (state_in v)) (sym is) (new_lawful c.args.cells c.args.pages Host)
