use Rattle.std.proofs.Common.{◌≡◌, ◌+◌, ◌*◌, ◌≤◌, List, length, map, take}
use Rattle.std.specs.Prelude.{All}
use Rattle.script_lines.specs.declared.line.DeviceSpec.{DeviceSpec}
use Rattle.script_lines.specs.declared.line.Line.{Line}
use Rattle.script_phases.specs.Openings.{is_opened, opened_from, others}
use Rattle.phase_plan.specs.Opened.{AreDevices, IsOfDevice, plain}
use Rattle.phase_plan.proofs.openings.phase_openings.Given as goal

abbrev pub invariant-loop-device : goal.invariant-loop-device
invariant-loop-device l = record {
  opened : (earlier part : List Line) (specs : List DeviceSpec) → AreDevices earlier part specs l.ended l.devices l.subs → l.openings.items ≡ map plain (opened_from (is_opened earlier part) 0 l.fn.next (take l.device specs));
  next : (earlier part : List Line) (specs : List DeviceSpec) → AreDevices earlier part specs l.ended l.devices l.subs → l.next ≡ l.fn.next + length (others (opened_from (is_opened earlier part) 0 l.fn.next (take l.device specs)));
  within : All (IsOfDevice (length l.devices)) l.openings.items;
  few : length l.openings.items ≤ 4 * l.device;
  room : l.next ≤ l.fn.next + 3 * l.device;
}
