use Rattle.std.proofs.Common.{◌≡◌, ◌++◌, drop}
use Rattle.std.specs.List.{flat_map}
use Rattle.packet_text.specs.Lines.{channel_text}
use Rattle.packet_text.proofs.channel.packets_text.Given as goal

-- what is written, and the channels that are left
abbrev pub invariant-loop-channel : goal.invariant-loop-channel
invariant-loop-channel l = l.text.items ++ flat_map (channel_text l.form) (drop l.channel-index l.channels) ≡ flat_map (channel_text l.form) l.channels
