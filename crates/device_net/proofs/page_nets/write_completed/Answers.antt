use Rattle.std.proofs.Common.{[], take, refl, sym, subst, ◌∙◌, arith, lit<}
use Rattle.channel_protocol.specs.Listed.{answer_in}
use Rattle.channel_protocol.specs.Paged.{LaysSome}
use Rattle.device_packets.specs.Said.{said_item}
use Rattle.net_format.specs.PageNets.{fixed_by}
use Rattle.device_packets.proofs.SaidLaws.{none_so}
use Rattle.device_net.proofs.NetCameLaws.{lays_done, none_fixed, some_fixed}
use Rattle.device_net.proofs.page_nets.write_completed.Goals as goal

pub returns-then-is_initialize-clause-value : goal.returns-then-is_initialize-clause-value
returns-then-is_initialize-clause-value c n =
    let some = some_fixed c.args.id c.in-Ok.m (sym (c.is_initialize.ensures c.args.id) ∙ c.if-is_initialize.true) in
    subst (λ r. LaysSome said_item (take c.write_done.result c.write_done.new.out) [] n (answer_in (fixed_by c.args.id r))) (sym c.in-Ok.is)
    (subst (LaysSome said_item (take c.write_done.result c.write_done.new.out) [] n) (sym some) (lays_done _ c.args.id 1 n c.write_done.ensures.packet (omega (arith, c.write_done.ensures.is_packet.two)) (lit< tt)))

pub returns-else-is_initialize-clause-value : goal.returns-else-is_initialize-clause-value
returns-else-is_initialize-clause-value c n =
    let none = none_fixed c.args.id c.in-Ok.m (sym (c.is_initialize.ensures c.args.id) ∙ c.if-is_initialize.false) in
    subst (λ r. LaysSome said_item (take 0 c.args.out.now) [] n (answer_in (fixed_by c.args.id r))) (sym c.in-Ok.is) (none_so _ [] n _ none refl)

pub returns-in-Err-clause-value : goal.returns-in-Err-clause-value
returns-in-Err-clause-value c n =
    subst (λ r. LaysSome said_item (take c.write_done-in-Err.result c.write_done-in-Err.new.out) [] n (answer_in (fixed_by c.args.id r))) (sym c.in-Err.is) (lays_done _ c.args.id 2 n c.write_done-in-Err.ensures.packet (omega (arith, c.write_done-in-Err.ensures.is_packet.two)) (lit< tt))
