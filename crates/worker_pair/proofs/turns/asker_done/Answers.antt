use Rattle.std.proofs.Common.{List, ap, sym, subst, ◌∙◌}
use Rattle.ring_core.specs.Seen.{Seen}
use Rattle.ring_seat.specs.declared.table_seat.TableSeat.{TableSeat}
use Rattle.bus_script.specs.declared.outcome.Reply.{Reply}
use Rattle.device_kinds.specs.Formats.{format_of, asks_of}
use Rattle.device_packets.specs.Said.{said_item}
use Rattle.worker_port.specs.Line.{IsLine, line_of}
use Rattle.worker_port.specs.declared.ended.Ended.{Ended}
use Rattle.worker_requester.specs.Asking.{AsksBy}
use Rattle.worker_pair.specs.Leaving.{items_in, told_at}
use Rattle.worker_pair.proofs.Going.{asker_leaves}
use Rattle.worker_pair.proofs.turns.asker_done.Goals as goal

pub returns : goal.returns
returns c =
    let w = c.args.asker in
    let e = c.asked.ensures in
    let d = c.done.ensures in
    let asks = subst (λ (p : Ended × Seen TableSeat × List Reply). AsksBy (format_of w.protocol.kind) p.0 (asks_of w.protocol) (items_in p.1) p.2) (λ i. (sym e.end.1 i, sym e.end.0 i, sym e.replies i)) d.ends in
    asker_leaves w c.args.ended c.asked.result c.requires (e.end.1 ∙ d.same.0) (d.line ∙ ap (line_of said_item) (sym e.end.0)) (subst (IsLine told_at) (sym e.end.0) d.stands) asks e.others.0 e.others.1
