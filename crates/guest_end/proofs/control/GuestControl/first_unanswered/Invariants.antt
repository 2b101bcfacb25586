use Rattle.std.proofs.Common.{◌≡◌, ◌≤◌, drop}
use Rattle.std.specs.List.{position_from}
use Rattle.control_model.specs.Plan.{movers}
use Rattle.control_model.specs.Guest.{then_in, is_modifying}
use Rattle.guest_end.proofs.control.GuestControl.first_unanswered.Given as goal

abbrev pub invariant-loop-o : goal.invariant-loop-o
invariant-loop-o l = record {
  first : position_from (then_in l.self l.heard is_modifying) l.number (movers (drop l.o-index l.openings)) ≡ position_from (then_in l.self l.heard is_modifying) 0 (movers l.openings);
  few : l.number ≤ l.o-index;
}
