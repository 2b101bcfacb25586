-- The class ids of channels, and offers.
use Rattle.std.specs.Prelude.{◌≡◌, ◌≢◌, ℕ, ◌+◌, List, [], ◌∷◌, ◌++◌, replicate}
use Rattle.std.specs.Int.{to_le_bytes, w32}
use Rattle.vmbus_msg.specs.declared.msg.Msg.{Msg}
use Rattle.vmbus_msg.specs.declared.msg.Msg.TheVariants.{OfferChannel}
use Rattle.contact.specs.declared.kind.Kind.{Kind}
use Rattle.contact.specs.declared.kind.Kind.TheVariants.{Beat, Down, Disk, Net, Kvp, Sock}
use Rattle.contact.specs.declared.kind.DeviceKind.{DeviceKind}
use Rattle.contact.specs.declared.kind.DeviceKind.TheVariants.{Beat as BeatDevice, Down as DownDevice, Disk as DiskDevice, Net as NetDevice, Kvp as KvpDevice}
use Rattle.contact.specs.Services.{service_id}
use Rattle.contact.specs.declared.channel_offer.Offered.{Offered}
use Rattle.contact.specs.declared.channel_offer.OfferFault.{OfferFault}
use Rattle.contact.specs.declared.channel_offer.OfferFault.TheVariants.{Class}

-- 57164f39-9115-4e78-ab55-382f3bd5422d, 0e0b6031-5213-4934-818b-38d90ced39db, ba6163d9-04a1-4d29-b605-72e2ffb1dc7f, f8615163-df3e-46c5-913f-f2d2f965ed0e and a9a0f4e7-5a45-4d96-b827-8a841e8c03e6: of the five groups the first three are little-endian
abbrev pub class_id : Kind → List ℕ
class_id Beat = 0x39 ∷ 0x4f ∷ 0x16 ∷ 0x57 ∷ 0x15 ∷ 0x91 ∷ 0x78 ∷ 0x4e ∷ 0xab ∷ 0x55 ∷ 0x38 ∷ 0x2f ∷ 0x3b ∷ 0xd5 ∷ 0x42 ∷ 0x2d ∷ []
class_id Down = 0x31 ∷ 0x60 ∷ 0x0b ∷ 0x0e ∷ 0x13 ∷ 0x52 ∷ 0x34 ∷ 0x49 ∷ 0x81 ∷ 0x8b ∷ 0x38 ∷ 0xd9 ∷ 0x0c ∷ 0xed ∷ 0x39 ∷ 0xdb ∷ []
class_id Disk = 0xd9 ∷ 0x63 ∷ 0x61 ∷ 0xba ∷ 0xa1 ∷ 0x04 ∷ 0x29 ∷ 0x4d ∷ 0xb6 ∷ 0x05 ∷ 0x72 ∷ 0xe2 ∷ 0xff ∷ 0xb1 ∷ 0xdc ∷ 0x7f ∷ []
class_id Net = 0x63 ∷ 0x51 ∷ 0x61 ∷ 0xf8 ∷ 0x3e ∷ 0xdf ∷ 0xc5 ∷ 0x46 ∷ 0x91 ∷ 0x3f ∷ 0xf2 ∷ 0xd2 ∷ 0xf9 ∷ 0x65 ∷ 0xed ∷ 0x0e ∷ []
class_id Kvp = 0xe7 ∷ 0xf4 ∷ 0xa0 ∷ 0xa9 ∷ 0x45 ∷ 0x5a ∷ 0x96 ∷ 0x4d ∷ 0xb8 ∷ 0x27 ∷ 0x8a ∷ 0x84 ∷ 0x1e ∷ 0x8c ∷ 0x03 ∷ 0xe6 ∷ []
class_id (Sock port) = service_id port

-- what the offer of a device of a kind says
abbrev pub offered_kind : DeviceKind → Kind
offered_kind BeatDevice = Beat
offered_kind DownDevice = Down
offered_kind DiskDevice = Disk
offered_kind NetDevice = Net
offered_kind KvpDevice = Kvp

-- the instance id of an offer: its relid, and 12 zero bytes
abbrev pub instance_id : ℕ → List ℕ
instance_id relid = to_le_bytes w32 relid ++ replicate 12 0

-- the offer of a channel: its class, instance, index among the device's sub-channels, relid and connection, no monitor, and all else 0
abbrev pub offer : Kind → ℕ → ℕ → Msg
offer kind relid sub = OfferChannel 0 (class_id kind) (instance_id relid) 0 0 0 0 (replicate 120 0) sub 0 relid 255 0 0 relid

-- the offers of devices, with relids from this one on
abbrev pub offers_from : ℕ → List Kind → List Msg
offers_from relid [] = []
offers_from relid (kind ∷ kinds) = offer kind relid 0 ∷ offers_from (relid + 1) kinds

-- what an offer says of its channel
abbrev pub Offers : Msg → Offered → Type 0
Offers (OfferChannel padding if_type if_instance reserved1 reserved2 chn_flags mmio user sub reserved3 relid monitorid monitor interrupt connection) o =
    (if_type ≡ class_id o.kind) × (o.relid ≡ relid) × (o.sub ≡ sub)
Offers _ o = ⊥

-- the class of an offer isn't known
abbrev pub HasNoKind : Msg → OfferFault → Type 0
HasNoKind (OfferChannel padding if_type if_instance reserved1 reserved2 chn_flags mmio user sub reserved3 relid monitorid monitor interrupt connection) fault =
    (fault ≡ Class if_type) × ((kind : Kind) → if_type ≢ class_id kind)
HasNoKind _ fault = ⊥

-- the message is an offer
abbrev pub IsOffer : Msg → Type 0
IsOffer (OfferChannel padding if_type if_instance reserved1 reserved2 chn_flags mmio user sub reserved3 relid monitorid monitor interrupt connection) = Unit {0}
IsOffer _ = ⊥
