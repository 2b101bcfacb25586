use Rattle.std.proofs.Common.{length, refl, ap, arith}
use Rattle.device_disk.proofs.FrontLaws.{short_has, long_enough, front_is, front_has, front_lacks}
use Rattle.device_disk.proofs.disks.front.Goals as goal

pub returns-then-payload-lt8 : goal.returns-then-payload-lt8
returns-then-payload-lt8 c = short_has c.args.packet.now (omega (arith, c.if-payload-lt8.true, ap length c.payload-payload.ensures.value))

pub returns-in-Ok : goal.returns-in-Ok
returns-in-Ok c =
    let p = c.args.packet.now in
    let long = long_enough p (omega (arith, c.if-payload-lt8.false, ap length c.payload-payload.ensures.value)) in
    let is = front_is p c.payload-payload.result.now c.bytes_of.new.out _ refl c.payload-payload.ensures.value c.bytes_of.ensures in
    let found = c.in-Ok.ensures.found in
    let has = front_has p c.bytes_of.new.out c.in-Ok.v long is found.0 found.1 found.2 in
    (has.0, has.1, found.1)

pub returns-in-Err : goal.returns-in-Err
returns-in-Err c =
    let p = c.args.packet.now in
    let long = long_enough p (omega (arith, c.if-payload-lt8.false, ap length c.payload-payload.ensures.value)) in
    let is = front_is p c.payload-payload.result.now c.bytes_of.new.out _ refl c.payload-payload.ensures.value c.bytes_of.ensures in
    front_lacks p c.bytes_of.new.out c.in-Err.field-0 long is c.in-Err.ensures.exact
