use Rattle.std.proofs.Common.{◌≡◌, length, take}
use Rattle.phase_plan.specs.Told.{AreDealt}
use Rattle.phase_plan.proofs.dealing.deal_lines.Given as goal

abbrev pub invariant-loop-line : goal.invariant-loop-line
invariant-loop-line l = record {
  count : length l.devices.items ≡ l.count;
  dealt : AreDealt (take l.line-index l.part) l.devices.items;
}
