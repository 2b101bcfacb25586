use Rattle.std.proofs.Common.{◌≡◌, map, take, vec_len, vec_capacity, length}
use Rattle.std.specs.Prelude.{is_some}
use Rattle.bus_plan.proofs.plan.ended_devices.Given as goal

abbrev pub invariant-loop-ending : goal.invariant-loop-ending
invariant-loop-ending l = record {
  all : l.all.items ≡ map is_some (take l.ending-index l.ended);
  len : vec_len l.all ≡ l.ending-index;
  capacity : vec_capacity l.all ≡ length l.ended;
}
