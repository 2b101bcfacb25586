use Rattle.std.proofs.Common.{◌≡◌, ◌++◌, List, length}
use Rattle.script_lines.specs.declared.line.Line.{Line}
use Rattle.phase_plan.specs.Told.{AreDealt}
use Rattle.phase_plan.specs.Opened.{AreEnded}
use Rattle.phase_plan.proofs.Ending.{NotedTo}
use Rattle.phase_plan.proofs.openings.end_devices.Given as goal

abbrev pub invariant-loop-i : goal.invariant-loop-i
invariant-loop-i l = record {
  count : length l.ended ≡ length l.fn.ended;
  noted : (earlier part : List Line) → AreEnded earlier l.fn.ended → AreDealt part l.devices → NotedTo (earlier ++ part) l.fn.ended l.i l.ended;
}
