use Rattle.std.proofs.Common.{◌≡◌, ◌+◌, arith, refl, get_or, false, length, map}
use Rattle.script_phases.specs.Openings.{is_opened, opened_from, others}
use Rattle.phase_plan.specs.Opened.{plain}
use Rattle.phase_plan.proofs.Opens.{all_planned, opened_here, next_here}
use Rattle.phase_plan.proofs.openings.phase_openings.Goals as goal

pub loop-device-preserved : goal.loop-device-preserved
loop-device-preserved c =
    let done = c.in_ok-open_device.ensures in
    let i = c.loop-device.device in
    let n = get_or c.args.subs.now i 0 in
    let e = get_or c.args.ended.now i false in
    record {
      opened = λ earlier part specs are.
          opened_here earlier part specs c.args.ended.now c.args.devices.now c.args.subs.now are c.args.next.now c.loop-device.next i n c.opens-opened.result e c.index-devices-device.result c.loop-device.openings.items c.requires.ended c.requires.subs c.loop-device-test.true refl c.index-devices-device.is refl
          c.opens-opened.ensures (c.loop-device.invariant.opened earlier part specs are) (c.loop-device.invariant.next earlier part specs are) c.open_device.new.openings.items done.openings;
      next = λ earlier part specs are.
          next_here earlier part specs c.args.ended.now c.args.devices.now c.args.subs.now are c.args.next.now c.loop-device.next i n c.opens-opened.result e c.index-devices-device.result c.loop-device.openings.items c.requires.ended c.requires.subs c.loop-device-test.true refl c.index-devices-device.is refl
          c.opens-opened.ensures (c.loop-device.invariant.opened earlier part specs are) (c.loop-device.invariant.next earlier part specs are) c.open_device.new.next done.next;
      within = done.within _ c.loop-device-test.true c.loop-device.invariant.within;
      few = omega (arith, done.few.0, c.loop-device.invariant.few);
      room = omega (arith, done.few.1, c.loop-device.invariant.room);
    }

pub returns-clause-opened : goal.returns-clause-opened
returns-clause-opened c earlier part specs are = all_planned c.loop-device.device specs c.args.subs.now (λ l. c.loop-device.openings.items ≡ map plain (opened_from (is_opened earlier part) 0 c.args.next.now l)) are.subs_are (omega (arith, c.loop-device-test.false, c.requires.subs)) (c.loop-device.invariant.opened earlier part specs are)

pub returns-clause-next : goal.returns-clause-next
returns-clause-next c earlier part specs are = all_planned c.loop-device.device specs c.args.subs.now (λ l. c.loop-device.next ≡ c.args.next.now + length (others (opened_from (is_opened earlier part) 0 c.args.next.now l))) are.subs_are (omega (arith, c.loop-device-test.false, c.requires.subs)) (c.loop-device.invariant.next earlier part specs are)
