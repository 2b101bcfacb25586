use Rattle.std.proofs.Common.{◌≡◌, drop}
use Rattle.vmbus_msg_text.specs.Layouts.{layout_among}
use Rattle.vmbus_msg_text.proofs.layout.layout_of.Given as goal

abbrev pub invariant-loop-layout : goal.invariant-loop-layout
invariant-loop-layout l = layout_among (drop l.layout-index l.layouts) l.kind ≡ layout_among l.layouts l.kind
