-- The bytes of each control message, one line a message in each table.
use Rattle.std.specs.Prelude.{◌≡◌, ℕ, ◌+◌, ◌*◌, ◌^◌, ◌<◌, List, [], ◌∷◌, ◌++◌, length, ◌==◌, if◌then◌else◌}
use Rattle.std.specs.List.{flat_map, AllByRecursion}
use Rattle.wire_table.specs.Little.{bytes_of}
use Rattle.wire_table.specs.Rows.{Row, num, raw, Kind, nums, raws, spelled_after, total}
use Rattle.vmbus_msg.specs.declared.msg.Msg.{Msg}
use Rattle.vmbus_msg.specs.declared.msg.Msg.TheVariants.{OfferChannel, RescindChannelOffer, RequestOffers, AllOffersDelivered, OpenChannel, OpenChannelResult, CloseChannel, GpadlHeader, GpadlBody, GpadlCreated, GpadlTeardown, GpadlTorndown, RelidReleased, InitiateContact, VersionResponse, Unload, UnloadResponse, TlConnectRequest, ModifyChannel, ModifyChannelResponse}

-- the number that tells which message it is, its first field
abbrev pub type_of : Msg → ℕ
type_of (OfferChannel padding if_type if_instance reserved1 reserved2 chn_flags mmio user sub reserved3 relid monitorid monitor interrupt connection) = 1
type_of (RescindChannelOffer padding relid) = 2
type_of (RequestOffers padding) = 3
type_of (AllOffersDelivered padding) = 4
type_of (OpenChannel padding relid openid gpadl target_vp downstream user) = 5
type_of (OpenChannelResult padding relid openid status) = 6
type_of (CloseChannel padding relid) = 7
type_of (GpadlHeader h) = 8
type_of (GpadlBody h) = 9
type_of (GpadlCreated padding relid gpadl status) = 10
type_of (GpadlTeardown padding relid gpadl) = 11
type_of (GpadlTorndown padding gpadl) = 12
type_of (RelidReleased padding relid) = 13
type_of (InitiateContact padding version target_vcpu page monitor1 monitor2) = 14
type_of (VersionResponse padding supported state padding2 conn) = 15
type_of (Unload padding) = 16
type_of (UnloadResponse padding) = 17
type_of (TlConnectRequest padding guest_endpoint host_service) = 21
type_of (ModifyChannel padding relid target_vp) = 22
type_of (ModifyChannelResponse padding relid status) = 24

-- the fields after the type, in the order of the wire
abbrev pub fields_of : Msg → List Row
fields_of (OfferChannel padding if_type if_instance reserved1 reserved2 chn_flags mmio user sub reserved3 relid monitorid monitor interrupt connection) = num 4 padding ∷ raw if_type ∷ raw if_instance ∷ num 8 reserved1 ∷ num 8 reserved2 ∷ num 2 chn_flags ∷ num 2 mmio ∷ raw user ∷ num 2 sub ∷ num 2 reserved3 ∷ num 4 relid ∷ num 1 monitorid ∷ num 1 monitor ∷ num 2 interrupt ∷ num 4 connection ∷ []
fields_of (RescindChannelOffer padding relid) = num 4 padding ∷ num 4 relid ∷ []
fields_of (RequestOffers padding) = num 4 padding ∷ []
fields_of (AllOffersDelivered padding) = num 4 padding ∷ []
fields_of (OpenChannel padding relid openid gpadl target_vp downstream user) = num 4 padding ∷ num 4 relid ∷ num 4 openid ∷ num 4 gpadl ∷ num 4 target_vp ∷ num 4 downstream ∷ raw user ∷ []
fields_of (OpenChannelResult padding relid openid status) = num 4 padding ∷ num 4 relid ∷ num 4 openid ∷ num 4 status ∷ []
fields_of (CloseChannel padding relid) = num 4 padding ∷ num 4 relid ∷ []
fields_of (GpadlHeader h) = num 4 h.padding ∷ num 4 h.relid ∷ num 4 h.gpadl ∷ num 2 h.range_buflen ∷ num 2 h.rangecount ∷ num 4 h.byte_count ∷ num 4 h.byte_offset ∷ []
fields_of (GpadlBody h) = num 4 h.padding ∷ num 4 h.msgnumber ∷ num 4 h.gpadl ∷ []
fields_of (GpadlCreated padding relid gpadl status) = num 4 padding ∷ num 4 relid ∷ num 4 gpadl ∷ num 4 status ∷ []
fields_of (GpadlTeardown padding relid gpadl) = num 4 padding ∷ num 4 relid ∷ num 4 gpadl ∷ []
fields_of (GpadlTorndown padding gpadl) = num 4 padding ∷ num 4 gpadl ∷ []
fields_of (RelidReleased padding relid) = num 4 padding ∷ num 4 relid ∷ []
fields_of (InitiateContact padding version target_vcpu page monitor1 monitor2) = num 4 padding ∷ num 4 version ∷ num 4 target_vcpu ∷ num 8 page ∷ num 8 monitor1 ∷ num 8 monitor2 ∷ []
fields_of (VersionResponse padding supported state padding2 conn) = num 4 padding ∷ num 1 supported ∷ num 1 state ∷ num 2 padding2 ∷ num 4 conn ∷ []
fields_of (Unload padding) = num 4 padding ∷ []
fields_of (UnloadResponse padding) = num 4 padding ∷ []
fields_of (TlConnectRequest padding guest_endpoint host_service) = num 4 padding ∷ raw guest_endpoint ∷ raw host_service ∷ []
fields_of (ModifyChannel padding relid target_vp) = num 4 padding ∷ num 4 relid ∷ num 4 target_vp ∷ []
fields_of (ModifyChannelResponse padding relid status) = num 4 padding ∷ num 4 relid ∷ num 4 status ∷ []

-- what the fields after the type are, by the type: none where there is no such message
abbrev pub kinds_of : ℕ → List Kind
kinds_of k =
    if k == 1 then nums 4 ∷ raws 16 ∷ raws 16 ∷ nums 8 ∷ nums 8 ∷ nums 2 ∷ nums 2 ∷ raws 120 ∷ nums 2 ∷ nums 2 ∷ nums 4 ∷ nums 1 ∷ nums 1 ∷ nums 2 ∷ nums 4 ∷ [] else
    if k == 2 then nums 4 ∷ nums 4 ∷ [] else
    if k == 3 then nums 4 ∷ [] else
    if k == 4 then nums 4 ∷ [] else
    if k == 5 then nums 4 ∷ nums 4 ∷ nums 4 ∷ nums 4 ∷ nums 4 ∷ nums 4 ∷ raws 120 ∷ [] else
    if k == 6 then nums 4 ∷ nums 4 ∷ nums 4 ∷ nums 4 ∷ [] else
    if k == 7 then nums 4 ∷ nums 4 ∷ [] else
    if k == 8 then nums 4 ∷ nums 4 ∷ nums 4 ∷ nums 2 ∷ nums 2 ∷ nums 4 ∷ nums 4 ∷ [] else
    if k == 9 then nums 4 ∷ nums 4 ∷ nums 4 ∷ [] else
    if k == 10 then nums 4 ∷ nums 4 ∷ nums 4 ∷ nums 4 ∷ [] else
    if k == 11 then nums 4 ∷ nums 4 ∷ nums 4 ∷ [] else
    if k == 12 then nums 4 ∷ nums 4 ∷ [] else
    if k == 13 then nums 4 ∷ nums 4 ∷ [] else
    if k == 14 then nums 4 ∷ nums 4 ∷ nums 4 ∷ nums 8 ∷ nums 8 ∷ nums 8 ∷ [] else
    if k == 15 then nums 4 ∷ nums 1 ∷ nums 1 ∷ nums 2 ∷ nums 4 ∷ [] else
    if k == 16 then nums 4 ∷ [] else
    if k == 17 then nums 4 ∷ [] else
    if k == 21 then nums 4 ∷ raws 16 ∷ raws 16 ∷ [] else
    if k == 22 then nums 4 ∷ nums 4 ∷ nums 4 ∷ [] else
    if k == 24 then nums 4 ∷ nums 4 ∷ nums 4 ∷ [] else
    []

-- the page frame numbers after the fields, of 8 bytes each
abbrev pub frames_of : Msg → List ℕ
frames_of (GpadlHeader h) = h.frames
frames_of (GpadlBody h) = h.frames
frames_of m = []

-- the type and the fields
abbrev pub rows_of : Msg → List Row
rows_of m = num 4 (type_of m) ∷ fields_of m

-- the bytes of a message: its type, its fields and its frames
unfoldable pub bytes_of_message : Msg → List ℕ
bytes_of_message (GpadlHeader h) = spelled_after [] (rows_of (GpadlHeader h)) ++ flat_map (bytes_of 8) h.frames
bytes_of_message (GpadlBody h) = spelled_after [] (rows_of (GpadlBody h)) ++ flat_map (bytes_of 8) h.frames
bytes_of_message m = spelled_after [] (rows_of m)

-- how many bytes a message has
abbrev pub length_of : Msg → ℕ
length_of m = 4 + total (kinds_of (type_of m)) + 8 * length (frames_of m)

-- a number fits its width, and raw bytes are as many
abbrev pub Fits : Kind → Row → Type 0
Fits (nums w) (num x v) = (x ≡ w) × (v < 256 ^ w)
Fits (nums w) (raw bs) = ⊥
Fits (raws n) (num x v) = ⊥
Fits (raws n) (raw bs) = length bs ≡ n

-- each row fits
abbrev pub AllFit : List Kind → List Row → Type 0
AllFit [] [] = Unit {0}
AllFit [] (r ∷ rs) = ⊥
AllFit (k ∷ ks) [] = ⊥
AllFit (k ∷ ks) (r ∷ rs) = Fits k r × AllFit ks rs

-- each field and each frame fits its width. (What frames a page list's header or body may have is a fact of their types.)
pub record InForm (m : Msg) : Type 0 where
  pub fields : AllFit (kinds_of (type_of m)) (fields_of m)
  pub frames : AllByRecursion (λ f. f < 256 ^ 8) (frames_of m)

-- bytes, all of them, are those of a message
pub record IsMessage (m : Msg) (bytes : List ℕ) : Type 0 where
  pub form : InForm m
  pub spelled : bytes ≡ bytes_of_message m
