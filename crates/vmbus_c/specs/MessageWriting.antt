-- The control message of the type that numbers give, and where ids and user data stand in its bytes.
use Rattle.std.specs.Prelude.{◌≡◌, ℕ, ◌%◌, ◌==◌, List, slice_range, Option, Some, None, if◌then◌else◌}
use Rattle.vmbus_msg.specs.declared.msg.Msg.{Msg}
use Rattle.vmbus_msg.specs.declared.msg.Msg.TheVariants.{OfferChannel, RescindChannelOffer, RequestOffers, AllOffersDelivered, OpenChannel, OpenChannelResult, CloseChannel, GpadlHeader, GpadlBody, GpadlCreated, GpadlTeardown, GpadlTorndown, RelidReleased, InitiateContact, VersionResponse, Unload, UnloadResponse, TlConnectRequest, ModifyChannel, ModifyChannelResponse}
use Rattle.vmbus_c.specs.declared.messages.VmbusMessage.{VmbusMessage}

-- the ids and the user data of a message stand in these bytes, where they stand in its own. (A page list's messages are written of their pages.)
abbrev pub Stands : Msg → List ℕ → Type 0
Stands (OfferChannel padding if_type if_instance reserved1 reserved2 chn_flags mmio user sub reserved3 relid monitorid monitor interrupt connection) b = (if_type ≡ slice_range b 8 24) × (if_instance ≡ slice_range b 24 40) × (user ≡ slice_range b 60 180)
Stands (OpenChannel padding relid openid gpadl target_vp downstream user) b = user ≡ slice_range b 28 148
Stands (TlConnectRequest padding guest_endpoint host_service) b = (guest_endpoint ≡ slice_range b 8 24) × (host_service ≡ slice_range b 24 40)
Stands (GpadlHeader h) b = ⊥
Stands (GpadlBody h) b = ⊥
Stands m b = Unit {0}

-- the message of a type, of those numbers that the type has
abbrev pub message_of : VmbusMessage → List ℕ → Option Msg
message_of v b =
    if v.kind == 1 then Some (OfferChannel v.padding (slice_range b 8 24) (slice_range b 24 40) v.reserved1 v.reserved2 (v.chn_flags % 65536) (v.mmio % 65536) (slice_range b 60 180) (v.sub % 65536) (v.reserved3 % 65536) v.relid (v.monitorid % 256) (v.monitor % 256) (v.interrupt % 65536) v.connection) else
    if v.kind == 2 then Some (RescindChannelOffer v.padding v.relid) else
    if v.kind == 3 then Some (RequestOffers v.padding) else
    if v.kind == 4 then Some (AllOffersDelivered v.padding) else
    if v.kind == 5 then Some (OpenChannel v.padding v.relid v.openid v.gpadl v.target_vp v.downstream (slice_range b 28 148)) else
    if v.kind == 6 then Some (OpenChannelResult v.padding v.relid v.openid v.status) else
    if v.kind == 7 then Some (CloseChannel v.padding v.relid) else
    if v.kind == 10 then Some (GpadlCreated v.padding v.relid v.gpadl v.status) else
    if v.kind == 11 then Some (GpadlTeardown v.padding v.relid v.gpadl) else
    if v.kind == 12 then Some (GpadlTorndown v.padding v.gpadl) else
    if v.kind == 13 then Some (RelidReleased v.padding v.relid) else
    if v.kind == 14 then Some (InitiateContact v.padding v.version v.target_vcpu v.page v.monitor1 v.monitor2) else
    if v.kind == 15 then Some (VersionResponse v.padding (v.supported % 256) (v.state % 256) (v.padding2 % 65536) v.conn) else
    if v.kind == 16 then Some (Unload v.padding) else
    if v.kind == 17 then Some (UnloadResponse v.padding) else
    if v.kind == 21 then Some (TlConnectRequest v.padding (slice_range b 8 24) (slice_range b 24 40)) else
    if v.kind == 22 then Some (ModifyChannel v.padding v.relid v.target_vp) else
    if v.kind == 24 then Some (ModifyChannelResponse v.padding v.relid v.status) else
    None
