use Rattle.std.proofs.Common.{◌<◌, arith, length}
use Rattle.device_any.proofs.Uniting.{can_unite, goes_on}
use Rattle.bus_run.specs.Devices.{box_at}
use Rattle.bus_run.proofs.Closed.{whole_start, next_whole, whole_more, whole_end}
use Rattle.bus_run.proofs.closing.unite_all.Goals as goal

pub loop-device-init : goal.loop-device-init
loop-device-init c old quotas given back = whole_start old c.args.boxes.now.items quotas given back

pub index_mut-requires : goal.index_mut-requires
index_mut-requires c =
    let w = c.requires in
    let so_far = c.loop-device.invariant w.0 w.1 w.2 w.3 in
    omega (arith, c.loop-device-test.true, c.len-device-end.ensures, c.args.boxes.now.ok.0, w.3.count, so_far.count, c.loop-device.boxes.ok.0)

pub unite-requires : goal.unite-requires
unite-requires c =
    let w = c.requires in
    let i = c.loop-device.device in
    let so_far = c.loop-device.invariant w.0 w.1 w.2 w.3 in
    let less : i < length c.loop-device.boxes.items = omega (arith, c.loop-device-test.true, c.len-device-end.ensures, c.args.boxes.now.ok.0, w.3.count, so_far.count) in
    let n = next_whole i w.0 c.args.boxes.now.items c.loop-device.boxes.items w.1 w.2 c.index_mut.result.now w.3 so_far less c.index_mut.ensures.value in
    can_unite (box_at w.0 i) (w.1 i) (w.2 i) c.index_mut.result.now n.1

pub loop-device-preserved : goal.loop-device-preserved
loop-device-preserved c old quotas given back =
    let i = c.loop-device.device in
    let so_far = c.loop-device.invariant old quotas given back in
    let less : i < length c.loop-device.boxes.items = omega (arith, c.loop-device-test.true, c.len-device-end.ensures, c.args.boxes.now.ok.0, back.count, so_far.count) in
    let own = c.index_mut.result.now in
    let n = next_whole i old c.args.boxes.now.items c.loop-device.boxes.items quotas given own back so_far less c.index_mut.ensures.value in
    whole_more i old c.args.boxes.now.items c.loop-device.boxes.items own c.unite.new.self so_far less n.0 (goes_on (box_at old i) (quotas i) (given i) own c.unite.new.self n.1 c.unite.ensures)

pub returns : goal.returns
returns c old quotas given back =
    whole_end c.loop-device.device old c.args.boxes.now.items c.loop-device.boxes.items (c.loop-device.invariant old quotas given back) (omega (arith, c.loop-device-test.false, c.len-device-end.ensures, c.args.boxes.now.ok.0, back.count))
