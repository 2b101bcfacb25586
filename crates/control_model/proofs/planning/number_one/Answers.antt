use Rattle.std.proofs.Common.{◌≡◌, ◌+◌, ap, arith, get_or}
use Rattle.control_model.specs.declared.planning.Next.{Next}
use Rattle.control_model.specs.Plan.{lists_with, pages_with}
use Rattle.control_model.proofs.NumberingLaws.{one_numbered}
use Rattle.control_model.proofs.OpenedLaws.{lists_few, pages_few_one}
use Rattle.control_model.proofs.planning.number_one.Goals as goal

pub open-requires-clause-size : goal.open-requires-clause-size
open-requires-clause-size c = c.requires.small c.args.o.device 0 (omega (arith, c.requires.inside.device, c.requires.sizes))

pub returns-clause-numbered : goal.returns-clause-numbered
returns-clause-numbered c pages part ch are =
    let done = c.in_ok-open.ensures in
    one_numbered pages part c.args.specs.now c.args.sizes.now c.args.devices.now ch c.args.o c.index-devices-device.result c.fate_of-fate.result c.has_buffers-buffers.result c.args.openings.now.items c.open.new.openings.items c.args.next.now c.open.new.next are c.requires.inside.device c.requires.specs c.requires.sizes
    c.index-devices-device.is c.fate_of-fate.ensures c.has_buffers-buffers.ensures (done.opened, done.next)

pub returns-clause-few : goal.returns-clause-few
returns-clause-few c =
    let done = c.in_ok-open.ensures in
    let b = c.has_buffers-buffers.result in
    let n = get_or c.args.sizes.now c.args.o.device 0 in
    let gpadl : c.open.new.next.gpadl ≡ c.args.next.now.gpadl + lists_with b = ap (λ (x : Next). x.gpadl) done.next in
    let page : c.open.new.next.page ≡ c.args.next.now.page + pages_with b n = ap (λ (x : Next). x.page) done.next in
    let lists = lists_few b in
    let pages = pages_few_one b n (c.requires.small c.args.o.device 0 (omega (arith, c.requires.inside.device, c.requires.sizes))) in
    (omega (arith, gpadl, lists), omega (arith, page, pages))
