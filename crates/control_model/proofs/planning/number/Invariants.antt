use Rattle.std.proofs.Common.{◌+◌, ◌*◌, ◌≤◌, ℕ, List, [], take}
use Rattle.script_lines.specs.declared.line.Line.{Line}
use Rattle.script_phases.specs.Openings.{Opening}
use Rattle.control_model.specs.Openings.{fate_of}
use Rattle.control_model.specs.Numbering.{AreChannels, Numbered}
use Rattle.control_model.proofs.planning.number.Given as goal

abbrev pub invariant-loop-o : goal.invariant-loop-o
invariant-loop-o l = record {
  numbered : (pages : ℕ → ℕ) (part : List Line) (cs : List Opening) → AreChannels pages part l.specs l.sizes l.devices cs l.opened → Numbered pages (λ device. fate_of device part) (take l.o-index cs) [] l.fn.next l.openings.items l.next;
  gpadl : l.next.gpadl ≤ l.fn.next.gpadl + 3 * l.o-index;
  page : l.next.page ≤ l.fn.next.page + 162 * l.o-index;
}
