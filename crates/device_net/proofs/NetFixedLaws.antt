-- What is fixed for a packet of a network's channel that carries no message, or one that asks nothing of the adapter.
use Rattle.std.proofs.Common.{◌≡◌, ℕ, true, false, List, None, refl, ap}
use Rattle.page_kept.specs.declared.item.Item.{Item}
use Rattle.page_kept.specs.Items.{item_of}
use Rattle.channel_protocol.specs.Listed.{has_message_in, message_in}
use Rattle.device_packets.specs.Said.{said_item}
use Rattle.net_format.specs.PageNets.{net_fixed, net_read, net_waits}
use Rattle.device_net.specs.Came.{IsCame}
use Rattle.device_net.specs.declared.nets.Came.{Came}
use Rattle.device_net.specs.declared.nets.Came.TheVariants.{Init, Receive, Send, Rndis, Other}
use Rattle.device_net.proofs.NetCameLaws.{fixed_init, fixed_receive, fixed_send, fixed_none, read_none, waits_tested}

-- no message goes back besides
pub no_message : (p ws : List ℕ) (came : Came) → IsCame came p → (came ≡ Rndis → ⊥) → has_message_in (net_fixed (said_item (item_of p ws))) ≡ false
no_message p ws (Init min max) t not = ap has_message_in (fixed_init p ws t.0)
no_message p ws Receive t not = ap has_message_in (fixed_receive p ws t)
no_message p ws Send t not = ap has_message_in (fixed_send p ws t)
no_message p ws Rndis t not = absurd (not refl)
no_message p ws Other t not = ap has_message_in (fixed_none p ws t)

pub none_besides : (own : ℕ) (p ws : List ℕ) (came : Came) → IsCame came p → (came ≡ Rndis → ⊥) → message_in own (net_fixed (said_item (item_of p ws))) ≡ None
none_besides own p ws (Init min max) t not = ap (message_in own) (fixed_init p ws t.0)
none_besides own p ws Receive t not = ap (message_in own) (fixed_receive p ws t)
none_besides own p ws Send t not = ap (message_in own) (fixed_send p ws t)
none_besides own p ws Rndis t not = absurd (not refl)
none_besides own p ws Other t not = ap (message_in own) (fixed_none p ws t)

-- and nothing is asked
pub none_asked : (p ws : List ℕ) (came : Came) → IsCame came p → (came ≡ Rndis → ⊥) → net_read (said_item (item_of p ws)) ≡ None
none_asked p ws (Init min max) t not = read_none p ws true false false t.0
none_asked p ws Receive t not = read_none p ws false true false t
none_asked p ws Send t not = read_none p ws false false true t
none_asked p ws Rndis t not = absurd (not refl)
none_asked p ws Other t not = read_none p ws false false false t

-- and a packet that is anything has an answer
pub some_waits : (i : Item) (came : Came) → IsCame came i.packet → (came ≡ Other → ⊥) → net_waits i ≡ true
some_waits i (Init min max) t not = waits_tested i true false false false t.0
some_waits i Receive t not = waits_tested i false true false false t
some_waits i Send t not = waits_tested i false false true false t
some_waits i Rndis t not = waits_tested i false false false true t
some_waits i Other t not = absurd (not refl)
