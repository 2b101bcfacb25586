use Rattle.std.proofs.Common.{◌≡◌, ◌≤◌, ◌+◌, ◌*◌, drop, vec_len}
use Rattle.hostile_run.proofs.Going.{GoesOn}
use Rattle.hostile_run.proofs.run.push_lines.Given as goal

abbrev pub invariant-loop-i : goal.invariant-loop-i
invariant-loop-i l = record {
  says : GoesOn l.fn.lines l.fn.bench l.fn.text.items (drop l.i l.fn.lines) l.bench l.text.items;
  cells : l.bench.at.state.machine.cells ≡ l.fn.bench.at.state.machine.cells;
  short : vec_len l.text ≤ vec_len l.fn.text + 140022 * l.i;
}
