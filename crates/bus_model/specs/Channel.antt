-- The run of one channel in one phase.
use Rattle.std.specs.Prelude.{ℕ, ◌≡◌, ◌-◌, ◌==◌, min, nat_le, ◌&&◌, ◌||◌, not, Bool, true, false, List, [], ◌∷◌, ◌++◌, map, filter, take, drop, replicate, length, Option, Some, None, if◌then◌else◌}
use Rattle.std.specs.List.{AllByRecursion}
use Rattle.contact.specs.declared.kind.DeviceKind.{DeviceKind}
use Rattle.page_kept.specs.declared.item.Item.{Item}
use Rattle.page_kept.specs.Items.{item_of}
use Rattle.channel_trace.specs.declared.event.Event.{Event}
use Rattle.channel_trace.specs.declared.event.Event.TheVariants.{Sent, Got, Empty, Marked, Saw}
use Rattle.channel_trace.specs.Filled.{filled}
use Rattle.channel_trace.specs.Runs.{IsFront}
use Rattle.device_kinds.specs.Formats.{format_of, asked_as, no_lists}
use Rattle.device_packets.specs.Said.{said_item}
use Rattle.bus_script.specs.declared.outcome.LineResult.{LineResult}
use Rattle.bus_script.specs.declared.outcome.LineResult.TheVariants.{RescindedServed, Unserved}
use Rattle.io_edge.specs.declared.side.Side.{Side}
use Rattle.io_edge.specs.declared.side.Side.TheVariants.{Guest, Host}
use Rattle.ring_pair_laws.specs.Lists.{AreOfRun, Lists}
use Rattle.script_lines.specs.declared.line.Ask.{Ask}
use Rattle.bus_script.specs.declared.outcome.Reply.{Reply}
use Rattle.channel_model.specs.WireFormat.{WireFormat}
use Rattle.device_kinds.specs.Kinds.{DeviceWant as Want}
use Rattle.device_wire.specs.declared.buffer_lists.BufferLists.{BufferLists}
use Rattle.channel_model.specs.Channel.{count_of, held_of, IsProtocolRun}
use Rattle.channel_model.specs.Roles.{side_that_asks}
use Rattle.channel_model.specs.Server.{answered}
use Rattle.device_kinds.specs.Served.{Served, done_of}
use Rattle.bus_model.specs.Orders.{Order, plan_of, startup_of}

-- packets, each with the page words that it has in these items: none past the items
abbrev pub items_of : List (List ℕ) → List Item → List Item
items_of [] is = []
items_of (p ∷ ps) [] = item_of p [] ∷ items_of ps []
items_of (p ∷ ps) (i ∷ is) = i ∷ items_of ps is

-- what the end of this side sent and got: all words of it
abbrev pub items_sent : Side → Lists → List Item
items_sent Guest lists = items_of lists.guest_sent lists.guest_sent_items
items_sent Host lists = items_of lists.host_sent lists.host_sent_items

abbrev pub items_got : Side → Lists → List Item
items_got Guest lists = items_of lists.guest_got lists.guest_got_items
items_got Host lists = items_of lists.host_got lists.host_got_items

-- and as it is read
abbrev pub sent_by : Side → Lists → List Item
sent_by side lists = map said_item (items_sent side lists)

abbrev pub got_by : Side → Lists → List Item
got_by side lists = map said_item (items_got side lists)

abbrev pub other : Side → Side
other Guest = Host
other Host = Guest

-- how many of a channel's requests are served, and whether the answer to the last one is held
abbrev pub served_count : Order → ℕ
served_count order = count_of order.stop (length order.asks)

abbrev pub is_held : Order → Bool
is_held order = held_of order.stop (length order.asks)

-- the calls whose replies go back
abbrev pub replies_to : Order → List Served → List Served
replies_to order served = answered (format_of order.kind) (is_held order) (served_count order) served

-- What the end that asks and the end that serves sent and got is the run of the order's plan, where these page lists are told, with these calls: what was sent was got, as it was sent, in packets with their page words as they are read; the
-- packets of the one end ask the start-up's and the script's requests, in order; the packets of the other end answer them, in order, with what was served.
-- Where the service stops, requests after the stop may be missing, and the last answer where it is held
abbrev pub Carries : Side → Order → BufferLists → Lists → List Served → Type 0
Carries asks_at order tells lists served =
    IsProtocolRun (format_of order.kind) (plan_of tells order) (sent_by asks_at lists) (got_by asks_at lists) (sent_by (other asks_at) lists) (got_by (other asks_at) lists) served (map (λ c. c.reply) (replies_to order served))

-- the ids of the packets that ask the script's requests, in order: those behind the start-up, which has as many steps whatever page lists it tells
abbrev pub script_ids : Order → List Item → List ℕ
script_ids order sent = map (format_of order.kind).id_of (drop (length (startup_of no_lists order)) (filter (format_of order.kind).is_request sent))

-- what a device is asked by requests under these ids: a message for an adapter that has a request id has that of its packet, and any other request is as it stands in the script
abbrev pub asked_under : List ℕ → List Ask → List Ask
asked_under [] asks = []
asked_under (id ∷ ids) [] = []
asked_under (id ∷ ids) (a ∷ asks) = asked_as id a ∷ asked_under ids asks

-- what the end of this side asks of the device, in order
abbrev pub asked_by : Side → Order → Lists → List Ask
asked_by side order lists = asked_under (script_ids order (sent_by side lists)) order.asks

-- a packet of the end that asks is a request, or acknowledges a message
abbrev pub is_of_asker : DeviceKind → Item → Bool
is_of_asker kind i = (format_of kind).is_request i || (format_of kind).is_ack i

-- Each end got the front of what the other one sent, with all page words: what it loaded of a page is what the other one had put there when it sent the packet.
-- Where the service doesn't stop each got all of it
pub record ItemsArrive (order : Order) (lists : Lists) : Type 0 where
  pub at_host : IsFront (items_got Host lists) (items_sent Guest lists)
  pub at_guest : IsFront (items_got Guest lists) (items_sent Host lists)
  pub whole : order.stop ≡ None → (items_got Host lists ≡ items_sent Guest lists) × (items_got Guest lists ≡ items_sent Host lists)

-- a request that has an answer went under this id, and an answer came under it
abbrev pub asks_under : WireFormat Item Want Ask Reply → ℕ → Item → Bool
asks_under s t p = s.is_request p && (s.waits p && (s.id_of p == t))

abbrev pub answers_under : WireFormat Item Want Ask Reply → ℕ → Item → Bool
answers_under s t p = s.is_answer p && (s.id_of p == t)

-- what the end of this side did, the last event first
abbrev pub past_by : Side → Lists → List (Event (List ℕ))
past_by Guest lists = lists.guest_past
past_by Host lists = lists.host_past

-- and each packet of it with its page words, as it is read
abbrev pub events_by : Side → Lists → List (Event Item)
events_by side lists = filled (λ p. said_item (item_of p [])) (sent_by side lists) (got_by side lists) (past_by side lists)

-- a message of the end that serves went under this id, and an acknowledgement came under it
abbrev pub messages_under : WireFormat Item Want Ask Reply → ℕ → Item → Bool
messages_under s t p = s.is_message p && (s.id_of p == t)

abbrev pub acks_under : WireFormat Item Want Ask Reply → ℕ → Item → Bool
acks_under s t p = s.is_ack p && (s.id_of p == t)

-- after these events one is open: a packet that opens was sent, and none that closes came since
abbrev pub is_open : (Item → Bool) → (Item → Bool) → List (Event Item) → Bool
is_open opens closes [] = false
is_open opens closes (Sent p ∷ past) = opens p || is_open opens closes past
is_open opens closes (Got p ∷ past) = not (closes p) && is_open opens closes past
is_open opens closes (Empty ∷ past) = is_open opens closes past
is_open opens closes (Marked ∷ past) = is_open opens closes past
is_open opens closes (Saw ∷ past) = is_open opens closes past

-- of what opens and closes under an id: at no moment was one sent under an id under which one was open
abbrev pub GoesInTurn : (ℕ → Item → Bool) → (ℕ → Item → Bool) → List (Event Item) → Type 0
GoesInTurn opens closes events = (t : ℕ) (later before : List (Event Item)) (p : Item) → events ≡ later ++ Sent p ∷ before → opens t p ≡ true → is_open (opens t) (closes t) before ≡ false

-- The end that asks sent its requests so: a request under an id is open until an answer came under it. A request of a disk or of a network lends the page of its id, or none: so a page has one request at a time, until its
-- completion was taken, and isn't used again where that never comes, as behind a rescind
abbrev pub InTurn : Order → Lists → Type 0
InTurn order lists = GoesInTurn (asks_under (format_of order.kind)) (answers_under (format_of order.kind)) (events_by (side_that_asks order.kind) lists)

-- And the end that serves its messages: one under an id of its own is open until an acknowledgement came under it. A message of a network lends the page of the receive buffer that goes with its id: so such a page has one
-- message at a time, and isn't used again where the acknowledgement never comes
abbrev pub MessagesInTurn : Order → Lists → Type 0
MessagesInTurn order lists = GoesInTurn (messages_under (format_of order.kind)) (acks_under (format_of order.kind)) (events_by (other (side_that_asks order.kind)) lists)

-- and what was served are the first of these requests, in order: all of them where it doesn't stop. The end that asks sent nothing but requests and what
-- acknowledges messages. Page words arrive as they were put there, both ends' events are one run that tells the lists, and ids are used in turn in it, those of requests and those of the messages of the end that serves. On
-- a network's channel the start-up told these page lists
pub record IsChannelRun (order : Order) (lists : Lists) (served : List Served) : Type 0 where
  pub tells : BufferLists
  pub carried : Carries (side_that_asks order.kind) order tells lists served
  pub alone : AllByRecursion (λ p. is_of_asker order.kind p ≡ true) (sent_by (side_that_asks order.kind) lists)
  pub serves : map (λ s. s.request) served ≡ take (served_count order) (asked_by (side_that_asks order.kind) order lists)
  pub arrive : ItemsArrive order lists
  pub moments : AreOfRun lists
  pub turns : InTurn order lists
  pub messages : MessagesInTurn order lists

abbrev pub rescinded_of : Served → LineResult
rescinded_of s = RescindedServed s.serial

-- the outcomes of a channel's m requests, by where it stops: a request that was served is done, but for the last one where its answer is held; the others
-- are unserved
abbrev pub outcomes_by : Option (ℕ × Bool) → ℕ → List Served → List LineResult
outcomes_by None m served = map done_of served
outcomes_by (Some (k, false)) m served = map done_of served ++ replicate (m - min k m) Unserved
outcomes_by (Some (k, true)) m served =
    if nat_le k m then map done_of (take (k - 1) served) ++ (map rescinded_of (drop (k - 1) served) ++ replicate (m - k) Unserved) else map done_of served

abbrev pub outcomes_of : Order → List Served → List LineResult
outcomes_of order served = outcomes_by order.stop (length order.asks) served
