use Rattle.std.proofs.Common.{take}
use Rattle.script_lines.specs.Parts.{offered}
use Rattle.bus_run.specs.Whole.{AreFresh}
use Rattle.bus_run.proofs.runner.new_boxes.Given as goal

abbrev pub invariant-loop-line : goal.invariant-loop-line
invariant-loop-line l = AreFresh l.lines (offered (take l.line-index l.lines)) l.boxes.items
