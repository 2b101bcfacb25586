use Rattle.std.proofs.Common.{◌≡◌, ◌<◌, ◌∙◌, ap, sym, subst, arith, length}
use Rattle.std.specs.Prelude.{sum}
use Rattle.device_any.specs.Boxes.{IsKept, box_log}
use Rattle.bus_run.specs.Devices.{box_at}
use Rattle.bus_run.specs.Opening.{IsAway, quotas_of}
use Rattle.bus_run.proofs.Opened.{few_asks, few_quotas, room_here, shared_start, shared_more, shared_end, this_box}
use Rattle.bus_run.proofs.opening.share_all.Goals as goal

pub quotas_of-requires : goal.quotas_of-requires
quotas_of-requires c = few_asks c.args.plan.now c.args.boxes.now.items c.requires.can.each

pub loop-device-init : goal.loop-device-init
loop-device-init c = shared_start c.args.plan.now c.args.boxes.now.items

pub index_mut-requires : goal.index_mut-requires
index_mut-requires c = omega (arith, c.loop-device-test.true, c.len-device-end.ensures, c.args.boxes.now.ok.0, c.loop-device.invariant.count, c.loop-device.boxes.ok.0)

pub share-requires-clause-kept : goal.share-requires-clause-kept
share-requires-clause-kept c =
    let i = c.loop-device.device in
    let old = c.args.boxes.now.items in
    let less : i < length old = omega (arith, c.loop-device-test.true, c.len-device-end.ensures, c.args.boxes.now.ok.0) in
    let here = this_box c.args.plan.now i old c.loop-device.boxes.items c.index_mut.result.now c.loop-device.invariant less c.index_mut.ensures.value in
    subst IsKept (sym here) (room_here c.args.most c.args.plan.now old i c.requires.ready less).kept

pub share-requires-clause-few : goal.share-requires-clause-few
share-requires-clause-few c = omega (arith, ap length (c.deref.ensures.value ∙ c.in_ok-quotas.ensures), few_quotas c.loop-device.device c.args.plan.now, c.requires.can.few)

pub share-requires-clause-room : goal.share-requires-clause-room
share-requires-clause-room c =
    let i = c.loop-device.device in
    let old = c.args.boxes.now.items in
    let less : i < length old = omega (arith, c.loop-device-test.true, c.len-device-end.ensures, c.args.boxes.now.ok.0) in
    let here = this_box c.args.plan.now i old c.loop-device.boxes.items c.index_mut.result.now c.loop-device.invariant less c.index_mut.ensures.value in
    let log : length (box_log c.index_mut.result.now) ≡ length (box_log (box_at old i)) = ap (λ d. length (box_log d)) here in
    omega (arith, log, (room_here c.args.most c.args.plan.now old i c.requires.ready less).few, ap sum (c.deref.ensures.value ∙ c.in_ok-quotas.ensures), c.requires.can.asked i less, c.requires.most)

pub loop-device-preserved : goal.loop-device-preserved
loop-device-preserved c =
    let i = c.loop-device.device in
    let old = c.args.boxes.now.items in
    let so_far = c.loop-device.invariant in
    let less : i < length old = omega (arith, c.loop-device-test.true, c.len-device-end.ensures, c.args.boxes.now.ok.0) in
    let here = this_box c.args.plan.now i old c.loop-device.boxes.items c.index_mut.result.now so_far less c.index_mut.ensures.value in
    shared_more c.args.plan.now i old c.loop-device.boxes.items c.share.new.own so_far (omega (arith, less, so_far.count))
    (subst (λ d. IsAway d (quotas_of i c.args.plan.now) c.share.new.own) here (subst (λ q. IsAway c.index_mut.result.now q c.share.new.own) (c.deref.ensures.value ∙ c.in_ok-quotas.ensures) c.in_ok-share.ensures))

pub returns : goal.returns
returns c = shared_end c.args.plan.now c.loop-device.device c.args.boxes.now.items c.loop-device.boxes.items c.loop-device.invariant (omega (arith, c.loop-device-test.false, c.len-device-end.ensures, c.args.boxes.now.ok.0))
