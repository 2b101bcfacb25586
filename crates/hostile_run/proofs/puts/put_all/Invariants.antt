use Rattle.std.proofs.Common.{◌≡◌, length}
use Rattle.std.specs.List.{All}
use Rattle.hostile_lines.specs.Ranges.{IsPutIn}
use Rattle.hostile_run.specs.Run.{put_all}
use Rattle.hostile_run.proofs.puts.put_all.Given as goal

abbrev pub invariant-loop-rest : goal.invariant-loop-rest
invariant-loop-rest l = record {
  places : All (IsPutIn l.fn.d) l.rest;
  words : put_all l.fn.mem.cells l.rest l.mem.memory.words ≡ put_all l.fn.mem.cells l.fn.puts l.fn.mem.memory.words;
  cells : l.mem.cells ≡ l.fn.mem.cells;
  pages : l.mem.pages ≡ l.fn.mem.pages;
  steps : l.mem.memory.steps ≡ l.fn.mem.memory.steps;
  due : l.mem.memory.due ≡ l.fn.mem.memory.due;
}

abbrev pub decreases-loop-rest : goal.decreases-loop-rest
decreases-loop-rest l = length l.rest
