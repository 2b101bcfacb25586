use Rattle.bus_run.proofs.BadPlaces.{can_make}
use Rattle.bus_run.proofs.runner.new_boxes.Goals as goal

pub offer-requires : goal.offer-requires
offer-requires c = can_make c.args.lines.now c.loop-line.line-index c.line-item.result c.loop-line.boxes.items c.requires c.loop-line-test.true c.line-item.is c.loop-line.invariant
