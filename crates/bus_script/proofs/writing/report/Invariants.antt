use Rattle.std.proofs.Common.{◌≡◌, ◌+◌, ◌*◌, ◌++◌, ◌≤◌, length, drop, count_by}
use Rattle.script_lines.specs.Parts.{asks_in}
use Rattle.bus_script.specs.Report.{prints, lines_text, room_back}
use Rattle.bus_script.proofs.writing.report.Given as goal

abbrev pub invariant-loop-line : goal.invariant-loop-line
invariant-loop-line l = record {
  told : l.text.items ++ lines_text (drop l.line-index l.line-items) (drop l.at l.results) ≡ lines_text l.line-items l.results;
  short : length l.text.items + room_back (drop l.at l.results) ≤ 500 * l.line-index + room_back l.results;
  left : l.at + count_by prints (drop l.line-index l.line-items) ≡ length l.results;
  asks : l.asks + asks_in (drop l.line-index l.line-items) ≡ asks_in l.line-items;
}
