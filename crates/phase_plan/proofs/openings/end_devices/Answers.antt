use Rattle.std.proofs.Common.{◌∙◌, ◌<◌, length, refl, arith, get_or, false}
use Rattle.std.proofs.Math.ListN.{length-set}
use Rattle.phase_plan.proofs.Ending.{noted_next}
use Rattle.phase_plan.proofs.openings.end_devices.Goals as goal

pub loop-i-preserved : goal.loop-i-preserved
loop-i-preserved c =
    let i = c.loop-i.i in
    let less : i < length c.args.ended.now = omega (arith, c.loop-i-test.true, c.loop-i.auto.ended, c.loop-i.auto.i-end, c.loop-i.invariant.count) in
    record {
      count = length-set c.loop-i.ended i _ ∙ c.loop-i.invariant.count;
      noted = λ earlier part over dealt.
          noted_next earlier part c.args.ended.now c.loop-i.ended c.args.devices.now i (get_or c.loop-i.ended i false) c.ends.result c.index-devices-i.result c.requires c.loop-i.invariant.count less refl c.index-devices-i.is c.ends.ensures over dealt
          (c.loop-i.invariant.noted earlier part over dealt);
    }
