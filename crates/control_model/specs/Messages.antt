-- The messages that the two sides send.
use Rattle.std.specs.Prelude.{◌≡◌, ℕ, ◌+◌, List, [], ◌∷◌, ◌++◌, map, replicate}
use Rattle.std.specs.List.{range_with_len}
use Rattle.vmbus_msg.specs.declared.msg.Msg.{Msg}
use Rattle.vmbus_msg.specs.declared.msg.Msg.TheVariants.{RequestOffers, AllOffersDelivered, OpenChannel, OpenChannelResult, CloseChannel, RescindChannelOffer, GpadlCreated, GpadlTeardown, GpadlTorndown, RelidReleased, InitiateContact, VersionResponse, Unload, UnloadResponse, TlConnectRequest, ModifyChannel, ModifyChannelResponse}
use Rattle.contact.specs.declared.kind.Kind.TheVariants.{Disk, Sock}
use Rattle.contact.specs.Services.{service_id}
use Rattle.contact.specs.Classes.{offer, offers_from}
use Rattle.gpadl.specs.Cut.{AreMessagesOf}
use Rattle.control_model.specs.declared.opening.Opening.{Opening}
use Rattle.control_model.specs.declared.buffer.Buffer.{Buffer}
use Rattle.control_model.specs.declared.burst.Burst.{Burst}
use Rattle.control_model.specs.declared.moves.Move.{Move}
use Rattle.control_model.specs.declared.burst.Burst.TheVariants.{Empty, One, Two, Three, PageList, BufferList, Offers, Opens, Moves}
use Rattle.control_model.specs.Plan.{BusPlan, list_pages, buffer_list, buffer_begins, buffer_size, subs_behind, IsOpening}

-- the guest proposes a version
abbrev pub propose : ℕ → Msg
propose version = InitiateContact 0 version 0 0 0 0

-- the host accepts it, with 1, or refuses it, with 0
abbrev pub respond : ℕ → Msg
respond supported = VersionResponse 0 supported 0 0 1

-- the guest asks for the offers, and the host has sent them all
abbrev pub request : Msg
request = RequestOffers 0

abbrev pub delivered : Msg
delivered = AllOffersDelivered 0

-- the guest asks for the channel of the service at a port: of the two ends the guest's has port 1
abbrev pub connect : ℕ → Msg
connect port = TlConnectRequest 0 (service_id 1) (service_id port)

-- the host offers it
abbrev pub offer_service : ℕ → ℕ → Msg
offer_service port relid = offer (Sock port) relid 0

-- the pages of a list, from its first one on
abbrev pub pages_from : Opening → List ℕ
pages_from o = range_with_len o.first_page (list_pages o.ring_pages)

-- the pages of a buffer's list
abbrev pub buffer_pages : Opening → Buffer → List ℕ
buffer_pages o k = range_with_len (buffer_begins o k) buffer_size

-- the host knows a page list
abbrev pub created : ℕ → ℕ → Msg
created relid gpadl = GpadlCreated 0 relid gpadl 0

-- the guest opens a channel on its page list: the ring to the guest begins behind the ring to the host, its header page and its data pages
abbrev pub open_on : Opening → Msg
open_on o = OpenChannel 0 o.relid o.relid o.gpadl 0 (o.ring_pages + 1) (replicate 120 0)

-- the host opened it
abbrev pub opened : ℕ → ℕ → Msg
opened relid openid = OpenChannelResult 0 relid openid 0

-- the host offers a sub-channel: only a disk has some
abbrev pub offer_sub : Opening → Msg
offer_sub o = offer Disk o.relid o.sub

-- the guest moves a channel to a virtual processor, and the host did so
abbrev pub modify : ℕ → ℕ → Msg
modify relid vp = ModifyChannel 0 relid vp

abbrev pub modified : ℕ → Msg
modified relid = ModifyChannelResponse 0 relid 0

abbrev pub modify_one : Move → Msg
modify_one m = modify m.relid m.vp

-- the guest closes a channel, and lets its page list go
abbrev pub close : ℕ → Msg
close relid = CloseChannel 0 relid

abbrev pub teardown : Opening → Msg
teardown o = GpadlTeardown 0 o.relid o.gpadl

-- and that of a buffer
abbrev pub teardown_buffer : Opening → Buffer → Msg
teardown_buffer o k = GpadlTeardown 0 o.relid (buffer_list o k)

-- the host let it go
abbrev pub torndown : ℕ → Msg
torndown gpadl = GpadlTorndown 0 gpadl

-- the host takes a channel back: its page list ends with that
abbrev pub rescind : ℕ → Msg
rescind relid = RescindChannelOffer 0 relid

-- the guest gives a channel back
abbrev pub release : ℕ → Msg
release relid = RelidReleased 0 relid

-- the farewell, and its answer
abbrev pub farewell : Msg
farewell = Unload 0

abbrev pub farewell_taken : Msg
farewell_taken = UnloadResponse 0

-- what a burst puts on its way
abbrev pub Sends : BusPlan → Burst → List Msg → Type 0
Sends plan Empty sent = sent ≡ []
Sends plan (One m) sent = sent ≡ m ∷ []
Sends plan (Two m n) sent = sent ≡ m ∷ n ∷ []
Sends plan (Three m n o) sent = sent ≡ m ∷ n ∷ o ∷ []
Sends plan (PageList o) sent = AreMessagesOf o.relid o.gpadl (pages_from o) sent
Sends plan (BufferList o k) sent = AreMessagesOf o.relid (buffer_list o k) (buffer_pages o k) sent
Sends plan Offers sent = sent ≡ offers_from 1 plan.kinds ++ delivered ∷ []
Sends plan (Opens m part place) sent = sent ≡ m ∷ map offer_sub (subs_behind plan part place)
Sends plan (Moves moves) sent = sent ≡ map modify_one moves

-- a burst can be sent: the page list in it has pages
abbrev pub Fits : Burst → Type 0
Fits (PageList o) = IsOpening o
Fits (BufferList o k) = IsOpening o
Fits _ = Unit {0}
