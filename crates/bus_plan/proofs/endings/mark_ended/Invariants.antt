use Rattle.std.proofs.Common.{◌≡◌, ◌++◌, List, length, take}
use Rattle.script_lines.specs.declared.line.Line.{Line}
use Rattle.bus_plan.specs.Endings.{AreEnded}
use Rattle.bus_plan.proofs.endings.mark_ended.Given as goal

abbrev pub invariant-loop-line : goal.invariant-loop-line
invariant-loop-line l = record {
  count : length l.ended ≡ length l.fn.ended;
  ended : (earlier : List Line) → AreEnded earlier l.fn.ended → AreEnded (earlier ++ take l.line-index l.part) l.ended;
}
