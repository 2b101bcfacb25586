use Rattle.std.proofs.Common.{ap, ◌∙◌}
use Rattle.ring_core.specs.Seen.{Seen}
use Rattle.ring_seat.specs.declared.table_seat.TableSeat.{TableSeat}
use Rattle.hv_sock.specs.Streams.{fault_in}
use Rattle.hv_sock.proofs.StreamLaws.{reads_of}
use Rattle.hv_sock.proofs.finishing.finish.Goals as goal

pub returns-clause-to_host : goal.returns-clause-to_host
returns-clause-to_host c = reads_of c.finish.result.host_got c.finish.result.guest_sent c.finish.ensures.fronts.1

pub returns-clause-to_guest : goal.returns-clause-to_guest
returns-clause-to_guest c = reads_of c.finish.result.guest_got c.finish.result.host_sent c.finish.ensures.fronts.0

pub returns-clause-whole : goal.returns-clause-whole
returns-clause-whole c =
    let r = c.finish.result in
    let guest = ap fault_in c.finish.ensures.guest.0 ∙ (ap (λ (x : Seen TableSeat). fault_in x.state.sent) c.into_end.ensures.end ∙ c.into_end.ensures.whole) in
    let host = ap fault_in c.finish.ensures.host.0 ∙ (ap (λ (x : Seen TableSeat). fault_in x.state.sent) c.into_end-2.ensures.end ∙ c.into_end-2.ensures.whole) in
    ((reads_of r.host_got r.guest_sent c.finish.ensures.fronts.1).whole guest, (reads_of r.guest_got r.host_sent c.finish.ensures.fronts.0).whole host)
