-- What the script orders of a channel.
use Rattle.std.specs.Prelude.{ℕ, Bool, List, map, Option}
use Rattle.contact.specs.declared.kind.DeviceKind.{DeviceKind}
use Rattle.script_lines.specs.declared.line.Ask.{Ask}
use Rattle.script_lines.specs.Parts.{kind_of, channels_of}
use Rattle.script_phases.specs.Says.{asks_of, stop_of}
use Rattle.script_phases.specs.Openings.{Opening, Phase, subs_of}
use Rattle.script_phases.specs.Shares.{share}
use Rattle.device_kinds.specs.Kinds.{DeviceWant as Want}
use Rattle.device_wire.specs.declared.want.Want.TheVariants.{Request as Script}
use Rattle.device_kinds.specs.Formats.{startup}
use Rattle.device_wire.specs.declared.buffer_lists.BufferLists.{BufferLists}
use Rattle.channel_model.specs.Channel.{RequestPlan}

-- a channel's kind, its number among the device's channels, how many sub-channels that has, its requests, and where its service stops: after some of
-- them, the answer to the last one held or not
pub record Order : Type 0 where
  pub kind : DeviceKind
  pub sub : ℕ
  pub subs : ℕ
  pub asks : List Ask
  pub stop : Option (ℕ × Bool)

-- what the script orders of a channel that a phase opens
abbrev pub order_of : Phase → Opening → Order
order_of p o = record {
  kind = kind_of o.spec;
  sub = o.sub;
  subs = subs_of o.spec;
  asks = share (channels_of o.spec) o.sub 0 (asks_of o.device p.part);
  stop = stop_of o.device p.part;
}

-- what its start-up asks: that of a disk's first channel asks for the sub-channels in the end, that of a network's tells the page lists of its buffers, and a sub-channel has none
abbrev pub startup_of : BufferLists → Order → List Want
startup_of tells order = startup order.kind order.sub order.subs tells

-- what the end that asks has to ask, and where the other one stops
abbrev pub plan_of : BufferLists → Order → RequestPlan Want
plan_of tells order = record { start = startup_of tells order; script = map Script order.asks; stop = order.stop }
