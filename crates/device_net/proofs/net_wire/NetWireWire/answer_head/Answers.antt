use Rattle.std.proofs.Common.{◌≡◌, ℕ, Option, None, Some, sym}
use Rattle.std.specs.Option.{MatchOption}
use Rattle.page_kept.specs.declared.item.Item.{Item}
use Rattle.page_kept.specs.Items.{item_of}
use Rattle.channel_protocol.specs.Paged.{item_in}
use Rattle.device_packets.specs.Said.{said_item}
use Rattle.net_format.specs.PageNets.{net_said}
use Rattle.device_net.specs.Came.{status_in}
use Rattle.device_net.proofs.CameLaws.{said_none}
use Rattle.device_net.proofs.net_wire.NetWireWire.answer_head.Goals as goal

by_status : (before : Option Item) (i : Item) (o : Option ℕ) → o ≡ status_in i.packet → MatchOption o (net_said before i ≡ None) (λ h. status_in i.packet ≡ Some h)
by_status before i None is = said_none before i (sym is)
by_status before i (Some h) is = sym is

pub returns : goal.returns
returns c = by_status (item_in said_item c.args._before.now c.args._before_words.now) (said_item (item_of c.args.packet.now c.args._words.now)) c.status.result c.status.ensures
