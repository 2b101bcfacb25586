use Rattle.std.proofs.Common.{◌≡◌, ◌+◌, ◌<◌, ◌++◌, ◌∷◌, ℕ, length, map}
use Rattle.std.specs.Prelude.{All}
use Rattle.script_lines.specs.declared.line.DeviceSpec.{DeviceSpec}
use Rattle.script_phases.specs.Openings.{subs_from}
use Rattle.phase_plan.specs.Opened.{IsOfDevice, plain}
use Rattle.phase_plan.proofs.Channels.{first_of}
use Rattle.phase_plan.proofs.openings.open_device.Given as goal

abbrev pub invariant-loop-i : goal.invariant-loop-i
invariant-loop-i l = record {
  openings : (spec : DeviceSpec) → l.openings.items ≡ l.fn.openings.items ++ map plain (first_of l.device spec ∷ subs_from l.device spec 1 l.fn.next l.i);
  next : l.next ≡ l.fn.next + l.i;
  within : (count : ℕ) → l.device < count → All (IsOfDevice count) l.fn.openings.items → All (IsOfDevice count) l.openings.items;
  few : length l.openings.items ≡ length l.fn.openings.items + (1 + l.i);
}
