use Rattle.std.proofs.Common.{◌≡◌, drop}
use Rattle.script_lines.specs.Parts.{ring_pages_of}
use Rattle.phase_plan.proofs.settings.ring_pages.Given as goal

abbrev pub invariant-loop-line : goal.invariant-loop-line
invariant-loop-line l = ring_pages_of l.device (drop l.line-index l.lines) ≡ ring_pages_of l.device l.lines
