use Rattle.std.proofs.Common.{◌≡◌, ◌≤◌, ◌++◌, drop, length}
use Rattle.control_model.specs.Plan.{movers}
use Rattle.control_model.specs.Guest.{moves_of}
use Rattle.guest_end.proofs.control.GuestControl.moves.Given as goal

abbrev pub invariant-loop-o : goal.invariant-loop-o
invariant-loop-o l = record {
  moves : l.moves ++ moves_of l.self l.heard (movers (drop l.o-index l.openings)) ≡ moves_of l.self l.heard (movers l.openings);
  few : length l.moves ≤ l.o-index;
}
