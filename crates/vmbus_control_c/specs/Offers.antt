-- An offer as the numbers that C sees.
use Rattle.std.specs.Prelude.{◌≡◌, ℕ, ◌<◌, ◌^◌}
use Rattle.vmbus_msg.specs.declared.msg.Msg.{Msg}
use Rattle.vmbus_msg.specs.declared.msg.Msg.TheVariants.{OfferChannel}
use Rattle.contact.specs.Classes.{class_id}
use Rattle.contact.specs.declared.kind.Kind.{Kind}
use Rattle.contact.specs.declared.kind.Kind.TheVariants.{Beat, Down, Disk, Net, Kvp, Sock}
use Rattle.contact.specs.declared.channel_offer.Offered.{Offered}
use Rattle.vmbus_control_c.specs.declared.offers.VmbusOffer.{VmbusOffer}

-- the number of a kind
abbrev pub kind_number : Kind → ℕ
kind_number Beat = 1
kind_number Down = 2
kind_number Disk = 3
kind_number Net = 4
kind_number (Sock port) = 5
kind_number Kvp = 6

-- the port of a kind, which others than sockets' don't have
abbrev pub port_of : Kind → ℕ
port_of (Sock port) = port
port_of _ = 0

-- the numbers of an offer
abbrev pub numbers_of : Offered → VmbusOffer
numbers_of o = record { relid = o.relid; kind = kind_number o.kind; port = port_of o.kind; sub = o.sub }

-- its port and its index fit their fields
abbrev pub Fits : Offered → Type 0
Fits o = (port_of o.kind < 2 ^ 32) × (o.sub < 2 ^ 16)

-- a message is an offer with the class id of a kind
abbrev pub HasClass : Msg → Kind → Type 0
HasClass (OfferChannel padding if_type if_instance reserved1 reserved2 chn_flags mmio user sub reserved3 relid monitorid monitor interrupt connection) kind = if_type ≡ class_id kind
HasClass _ kind = ⊥
