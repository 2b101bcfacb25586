use Rattle.control_model.specs.Guest.{offered_channel}
use Rattle.guest_end.proofs.HandleLaws.{put_with}
use Rattle.guest_end.proofs.control.put.Goals as goal

pub returns-then-place-channels-clause-apart : goal.returns-then-place-channels-clause-apart
returns-then-place-channels-clause-apart c = λ apart.
    put_with c.args.rising.now c.next_handle.result c.args.channels.now c.saturating_sub-place.result c.args.channel offered_channel c.if-place-channels.true c.next_handle.ensures apart
