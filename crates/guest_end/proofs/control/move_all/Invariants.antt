use Rattle.std.proofs.Common.{◌≡◌, drop}
use Rattle.control_model.specs.Channels.{move_all}
use Rattle.guest_end.specs.Handles.{AreApart}
use Rattle.guest_end.proofs.control.move_all.Given as goal

abbrev pub invariant-loop-m : goal.invariant-loop-m
invariant-loop-m l = record {
  moved : move_all l.channels l.answered (drop l.m-index l.moves) ≡ move_all l.fn.channels l.answered l.moves;
  apart : AreApart l.fn.rising l.fn.channels → AreApart l.rising l.channels;
}
