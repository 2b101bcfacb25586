use Rattle.std.proofs.Common.{◌≡◌, ◌+◌, ◌++◌, take}
use Rattle.hist_lock.specs.Seat.{IsSame}
use Rattle.example_shared.specs.Given.{asked}
use Rattle.example_shared.proofs.drawing.ask_all.Given as goal

-- so many calls were made, each for the next number of the list
abbrev pub invariant-loop-many : goal.invariant-loop-many
invariant-loop-many g l = record {
  same : IsSame l.fn.seat l.seat;
  left : l.seat.left + l.many-index ≡ l.fn.seat.left;
  asked : asked l.seat.calls ≡ asked l.fn.seat.calls ++ take l.many-index l.asks;
}
