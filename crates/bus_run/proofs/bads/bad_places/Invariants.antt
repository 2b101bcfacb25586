use Rattle.std.proofs.Common.{◌≡◌, take}
use Rattle.script_lines.specs.Parts.{bads_of}
use Rattle.bus_run.proofs.bads.bad_places.Given as goal

abbrev pub invariant-loop-line : goal.invariant-loop-line
invariant-loop-line l = l.places.items ≡ bads_of l.fn.device (take l.line-index l.lines)
