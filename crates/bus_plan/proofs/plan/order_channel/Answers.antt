use Rattle.std.proofs.Common.{◌∙◌, ◌+◌, Bor, List, get_or, map, ap, refl}
use Rattle.script_lines.specs.declared.line.Ask.{Ask}
use Rattle.script_phases.specs.Shares.{share}
use Rattle.bus_plan.proofs.Ordering.{channel_ordered}
use Rattle.bus_plan.proofs.plan.order_channel.Goals as goal

pub returns : goal.returns
returns c p o same count dealt =
    channel_ordered p o c.args.subs.now c.args.devices.now c.index-devices-device.result _ same count dealt c.requires.inside.device c.index-devices-device.is
    (c.in_ok-asks.ensures ∙ ap (λ (l : List (Bor Ask)). share (get_or c.args.subs.now c.args.opening.device 0 + 1) c.args.opening.sub 0 (map (λ a. a.now) l)) c.as_slice.ensures.value) refl
