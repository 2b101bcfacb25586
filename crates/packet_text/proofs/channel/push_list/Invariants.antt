use Rattle.std.proofs.Common.{◌≡◌, ◌++◌, drop}
use Rattle.std.specs.List.{flat_map}
use Rattle.ring_core.specs.Pages.{items_of as kept_items}
use Rattle.bus_model.specs.Channel.{items_of}
use Rattle.packet_text.specs.Lines.{line_of}
use Rattle.packet_text.proofs.channel.push_list.Given as goal

-- what is written, and the packets that are left
abbrev pub invariant-loop-i : goal.invariant-loop-i
invariant-loop-i l =
    l.text.items ++ flat_map (line_of l.form l.from) (drop l.i (items_of l.packets.list (kept_items l.packets.list l.packets.lent)))
    ≡ l.initial.text.items ++ flat_map (line_of l.form l.from) (items_of l.packets.list (kept_items l.packets.list l.packets.lent))
