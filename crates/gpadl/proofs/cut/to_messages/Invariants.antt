use Rattle.std.proofs.Common.{◌+◌, ◌≤◌, List, ◌++◌, length}
use Rattle.vmbus_msg.specs.declared.msg.Msg.{Msg}
use Rattle.gpadl.specs.Cut.{AreBodiesOf, AreMessagesOf}
use Rattle.gpadl.proofs.cut.to_messages.Given as goal

abbrev pub decreases-loop-left : goal.decreases-loop-left
decreases-loop-left l = length l.left

abbrev pub invariant-loop-left : goal.invariant-loop-left
invariant-loop-left l = record {
  few : l.number + length l.left ≤ 8190;
  done : (ms : List Msg) → AreBodiesOf l.handle l.number l.left ms → AreMessagesOf l.relid l.handle l.pages (l.messages.items ++ ms);
}
