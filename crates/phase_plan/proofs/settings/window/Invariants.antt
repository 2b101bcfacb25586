use Rattle.std.proofs.Common.{◌≡◌, drop}
use Rattle.script_lines.specs.Parts.{window_of}
use Rattle.phase_plan.proofs.settings.window.Given as goal

abbrev pub invariant-loop-line : goal.invariant-loop-line
invariant-loop-line l = window_of l.device (drop l.line-index l.lines) ≡ window_of l.device l.lines
