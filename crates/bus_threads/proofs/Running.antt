-- What both workers of a pair come to, once they ended.
use Rattle.std.proofs.Common.{◌≡◌, ◌≢◌, ◌≤◌, ◌+◌, ℕ, length, filter, arith, Bool, true, false, List, [], ◌++◌, map, Option, refl, sym, ap, ◌∙◌, subst}
use Rattle.std.specs.Prelude.{take}
use Rattle.std.proofs.lemmas.List.{length-map, append-nil}
use Rattle.page_kept.specs.declared.item.Item.{Item}
use Rattle.page_kept.specs.Items.{item_of, packets}
use Rattle.channel_trace.specs.declared.event.Event.{Event}
use Rattle.channel_trace.specs.Filled.{filled}
use Rattle.channel_trace.specs.Laws.{AreOfOneRun}
use Rattle.channel_trace.specs.Runs.{IsFront, sent_of, got_of}
use Rattle.channel_trace.proofs.Steps.{ends_exchanged}
use Rattle.bus_model.specs.Orders.{Order, plan_of}
use Rattle.std.specs.List.{AllByRecursion}
use Rattle.bus_model.specs.Channel.{IsChannelRun, Carries, GoesInTurn, InTurn, ItemsArrive, MessagesInTurn, acks_under, answers_under, asks_under, events_by, is_of_asker, items_got, items_of, items_sent, messages_under, replies_to, sent_by, got_by, other}
use Rattle.bus_model.proofs.FromLists.{serves_first_lem}
use Rattle.device_kinds.specs.Served.{Served}
use Rattle.script_lines.specs.declared.line.Ask.{Ask}
use Rattle.bus_script.specs.declared.outcome.Reply.{Reply}
use Rattle.device_kinds.specs.Formats.{besides_on, format_of, no_lists, startup, ChannelScript, asks_of}
use Rattle.device_packets.specs.Said.{said_item}
use Rattle.device_wire.specs.declared.buffer_lists.BufferLists.{BufferLists}
use Rattle.device_kinds.proofs.KindLaws.{same_answers, keeps, start_is_fixed}
use Rattle.device_kinds.specs.Kinds.{DeviceWant as Want}
use Rattle.device_wire.specs.declared.want.Want.TheVariants.{Request as Script}
use Rattle.io_edge.specs.declared.side.Side.{Side}
use Rattle.io_edge.specs.declared.side.Side.TheVariants.{Guest, Host}
use Rattle.ring_core.specs.Seen.{Seen}
use Rattle.ring_pair_laws.specs.Lists.{AreOfRun, Lists}
use Rattle.ring_seat.specs.declared.table_seat.TableSeat.{TableSeat}
use Rattle.channel_model.specs.Acks.{OwnFrom}
use Rattle.channel_model.specs.Asker.{Encoded, requests_of}
use Rattle.channel_model.specs.Channel.{AskerEnds, ServerEnds, asks_of as channel_asks, count_of, held_of, IsProtocolRun as Runs}
use Rattle.channel_model.specs.Amounts.{SendsKinds}
use Rattle.channel_model.specs.Roles.{side_that_asks}
use Rattle.channel_model.specs.WireFormat.{WireFormat}
use Rattle.worker_requester.specs.Asking.{AskedFrom, Asking, AsksAll, AsksBy}
use Rattle.worker_port.specs.Rooms.{AskedWithin, AskLacksFor, has_room, is_asked, is_broken}
use Rattle.worker_server.specs.Serving.{Serving, EndsAll, EndsBy, calls_behind}
use Rattle.worker_port.specs.declared.ended.Ended.{Ended}
use Rattle.worker_port.specs.declared.ended.Ended.TheVariants.{Marked, PeerMarked, Room, Broken}
use Rattle.worker_port.specs.Line.{GotItems, IsLine, Line, line_of, past_as, whole}
use Rattle.worker_port.proofs.ItemRuns.{items_run, items_got as items_got_of, items_sent as items_sent_of}
use Rattle.bus_threads.proofs.ItemJoins.{front_all, got_items, items_are}
use Rattle.bus_threads.proofs.Turns.{has_ids, has_own_ids, in_turn, own_in_turn}
use Rattle.worker_port.proofs.RoomLaws.{never_lacks}
use Rattle.worker_pair.specs.Leaving.{Leaves, LeavesAsked, LeavesServed, WorkerDone, items_in, told_at}
use Rattle.worker_pair.specs.Pairs.{ArePair, PlansAgree}
use Rattle.worker_pair.specs.Workers.{end_at}
use Rattle.device_any.specs.Seats.{served_at, device_place, IsSameSeat}
use Rattle.worker_pair.specs.Seats.{at_guest, at_host}
use Rattle.device_any.specs.declared.device_seat.DeviceSeat.{DeviceSeat}
use Rattle.worker_pair.specs.declared.worker.Worker.{Worker}
use Rattle.worker_pair.specs.declared.worker.Worker.TheVariants.{Asks, Serves}
use Rattle.bus_threads.specs.Pairs.{HasIds, HasOwnIds, MadeFor, MarkedFirst, RunsPair, ComesBack, ended_at, first_of, is_whole}
use Rattle.bus_threads.specs.declared.pair.PairDone.{PairDone}
use Rattle.bus_threads.proofs.Alone.{alone}
use Rattle.bus_threads.proofs.Asked.{few_asked}
use Rattle.bus_threads.proofs.Joining.{BothEnd, never_settles, told_is, runs}
use Rattle.bus_threads.proofs.Marks.{asks_so, serves_so, settled_first, stops_nowhere, marked_first}

-- what the joined ends of a channel tell: their lists, and one run of both; and all page words came as they were sent
pub record Joins (asker server : Seen TableSeat) (lists : Lists) (side : Side) : Type 0 where
  pub one : AreOfOneRun (items_in asker) (items_in server)
  pub asker_sent : sent_by side lists ≡ sent_of (items_in asker)
  pub asker_got : got_by side lists ≡ got_of (items_in asker)
  pub server_sent : sent_by (other side) lists ≡ sent_of (items_in server)
  pub server_got : got_by (other side) lists ≡ got_of (items_in server)
  pub at_host : IsFront (items_got Host lists) (items_sent Guest lists)
  pub at_guest : IsFront (items_got Guest lists) (items_sent Host lists)
  pub moments : AreOfRun lists
  pub asker_did : events_by side lists ≡ items_in asker
  pub server_did : events_by (other side) lists ≡ items_in server

-- both workers have ended, and their ends were joined
pub record BothLeave (a : Asking ChannelScript TableSeat Reply) (s : Serving ChannelScript DeviceSeat TableSeat Ask Reply) (asked served : WorkerDone) (lists : Lists) (side : Side) : Type 0 where
  pub agree : PlansAgree a s
  pub asker_leaves : LeavesAsked a asked
  pub server_leaves : LeavesServed s served
  pub joins : Joins asked.end served.end lists side

is_whole_of : (how : Ended) → has_room how ≡ true → is_broken how ≡ false → is_whole how ≡ true
is_whole_of Marked is honest = refl
is_whole_of PeerMarked is honest = refl
is_whole_of (Room packets words left) is honest = absurd (cc (is))
is_whole_of (Broken why) is honest = absurd (cc (honest))

-- the one that asks asks no more of the device than the other one has calls for, unless that one stops
few_for : (a : Asking ChannelScript TableSeat Reply) (s : Serving ChannelScript DeviceSeat TableSeat Ask Reply) (asked : WorkerDone) → PlansAgree a s → LeavesAsked a asked → s.stops ≡ false → length (filter (is_asked (format_of s.responder.protocol.kind)) (sent_of (items_in asked.end))) ≤ s.serve
few_for a s asked agree leaves go =
    let kind = a.protocol.kind in
    let few = few_asked (format_of kind) (keeps kind) asked.ended (startup kind a.protocol.sub a.protocol.subs a.protocol.lists) (map Script a.protocol.asks) (items_in asked.end) asked.replies.items (start_is_fixed kind a.protocol.sub a.protocol.subs a.protocol.lists) leaves.asks in
    omega (arith, ap (λ k. length (filter (is_asked (format_of k)) (sent_of (items_in asked.end)))) agree.kind, few, length-map {B = Want} a.protocol.asks Script, agree.calls go)

-- neither ended for want of room, or of a call
both_whole : (a : Asking ChannelScript TableSeat Reply) (s : Serving ChannelScript DeviceSeat TableSeat Ask Reply) (asked served : WorkerDone) (lists : Lists) (side : Side) → BothLeave a s asked served lists side → (is_whole asked.ended ≡ true) × (is_whole served.ended ≡ true)
both_whole a s asked served lists side both =
    let kind = s.responder.protocol.kind in
    let count = length (asks_of a.protocol) in
    let sent = subst (λ k. AskedWithin (format_of k) count (items_in asked.end)) both.agree.kind both.asker_leaves.sent in
    let lacks = subst (λ k. AskLacksFor (format_of k) (besides_on k) count asked.ended (items_in asked.end)) both.agree.kind both.asker_leaves.room in
    let whole = never_lacks (format_of kind) (besides_on kind) count (s.starts + s.come) s.serve s.stops (items_in asked.end) (items_in served.end) asked.ended served.ended both.agree.room (few_for a s asked both.agree both.asker_leaves) both.joins.one sent lacks both.server_leaves.sent both.server_leaves.room in
    (is_whole_of asked.ended whole.0 both.asker_leaves.honest, is_whole_of served.ended whole.1 both.server_leaves.honest)

asks_all : (s : WireFormat Item Want Ask Reply) (how : Ended) (asks : List Want) (past : List (Event Item)) (told : List Reply) → is_whole how ≡ true → AsksBy s how asks past told → AsksAll s asks past told
asks_all s Marked asks past told whole by = by.0
asks_all s PeerMarked asks past told whole by = by.0
asks_all s (Room packets words left) asks past told whole by = absurd (cc (whole))
asks_all s (Broken why) asks past told whole by = absurd (cc (whole))

ends_all : (s : WireFormat Item Want Ask Reply) (besides : Bool) (how : Ended) (w : Serving ChannelScript DeviceSeat TableSeat Ask Reply) (e : Line TableSeat) (calls : List Served) → is_whole how ≡ true → EndsBy s besides how w e calls → EndsAll s w e.state.past calls
ends_all s besides Marked w e calls whole by = by.0
ends_all s besides PeerMarked w e calls whole by = by.0
ends_all s besides (Room packets words left) w e calls whole by = absurd (cc (whole))
ends_all s besides (Broken why) w e calls whole by = absurd (cc (whole))

-- the end that asks, for what the phase orders
asker_ends : (order : Order) (tells : BufferLists) (protocol : ChannelScript) (past : List (Event Item)) (told : List Reply) → protocol ≡ record { kind = order.kind; sub = order.sub; subs = order.subs; lists = tells; asks = order.asks } → AsksAll (format_of protocol.kind) (asks_of protocol) past told
    → AskerEnds (format_of order.kind) (plan_of tells order) past told
asker_ends order tells protocol past told is all = subst (λ (t : ChannelScript). AsksAll (format_of t.kind) (asks_of t) past told) is all (plan_of tells order) refl

-- and the one that serves
server_ends : (order : Order) (tells : BufferLists) (seat : DeviceSeat) (earlier : List Served) (a : Asking ChannelScript TableSeat Reply) (s : Serving ChannelScript DeviceSeat TableSeat Ask Reply) (past : List (Event Item)) (calls : List Served) → MadeFor order seat earlier a s
    → EndsAll (format_of s.responder.protocol.kind) s past calls → ServerEnds (format_of order.kind) (plan_of tells order) past calls
server_ends order tells seat earlier a s past calls made all =
    subst (λ k. EndsAll (format_of k) s past calls) made.answers all (plan_of tells order) (record {
      serve = made.serve ∙ ap (count_of order.stop) (sym (length-map order.asks Script));
      held = made.held ∙ ap (held_of order.stop) (sym (length-map order.asks Script));
      stops = made.stops;
      starts = made.starts ∙ same_answers order.kind order.sub order.subs no_lists tells;
    })

-- the lists of a run are those that the joined ends tell
lists_are : (side : Side) (order : Order) (tells : BufferLists) (a b c d : List Item) (lists : Lists) (calls : List Served) → sent_by side lists ≡ a → got_by side lists ≡ b → sent_by (other side) lists ≡ c → got_by (other side) lists ≡ d
    → Runs (format_of order.kind) (plan_of tells order) a b c d calls (map (λ c. c.reply) (replies_to order calls)) → Carries side order tells lists calls
lists_are side order tells a b c d lists calls e f g h run =
    let Of : List Item → List Item → List Item → List Item → Type 0 = λ x y z w. Runs (format_of order.kind) (plan_of tells order) x y z w calls (map (λ c. c.reply) (replies_to order calls)) in
    subst (λ x. Of x (got_by side lists) (sent_by (other side) lists) (got_by (other side) lists)) (sym e) (subst (λ x. Of a x (sent_by (other side) lists) (got_by (other side) lists)) (sym f)
    (subst (λ x. Of a b x (got_by (other side) lists)) (sym g) (subst (λ x. Of a b c x) (sym h) run)))

-- what came is all that was sent where the service doesn't stop, since as much is read of it
arrives_at : (side : Side) (order : Order) (tells : BufferLists) (lists : Lists) (calls : List Served) → IsFront (items_got Host lists) (items_sent Guest lists) → IsFront (items_got Guest lists) (items_sent Host lists) → Carries side order tells lists calls → ItemsArrive order lists
arrives_at Guest order tells lists calls at_host at_guest run = record {
  at_host = at_host;
  at_guest = at_guest;
  whole = λ all. (front_all said_item (items_got Host lists) (items_sent Guest lists) at_host (run.whole_got all), front_all said_item (items_got Guest lists) (items_sent Host lists) at_guest run.answers_got);
}
arrives_at Host order tells lists calls at_host at_guest run = record {
  at_host = at_host;
  at_guest = at_guest;
  whole = λ all. (front_all said_item (items_got Host lists) (items_sent Guest lists) at_host run.answers_got, front_all said_item (items_got Guest lists) (items_sent Host lists) at_guest (run.whole_got all));
}

-- ids are used in turn
turns_at : (order : Order) (tells : BufferLists) (lists : Lists) (past : List (Event Item)) (most : ℕ) → events_by (side_that_asks order.kind) lists ≡ past
    → Encoded (format_of order.kind) (channel_asks (format_of order.kind) (plan_of tells order)) (requests_of (format_of order.kind) past)
    → AskedFrom (format_of order.kind) most (startup order.kind order.sub order.subs tells ++ map Script order.asks) past → InTurn order lists
turns_at order tells lists past most did encoded from =
    let s = format_of order.kind in
    subst (GoesInTurn (asks_under s) (answers_under s)) (sym did) (in_turn s most (channel_asks s (plan_of tells order)) past encoded from)

-- however the one that serves ended, its messages went under ids of its own, in turn
own_from : (s : WireFormat Item Want Ask Reply) (besides : Bool) (how : Ended) (w : Serving ChannelScript DeviceSeat TableSeat Ask Reply) (e : Line TableSeat) (calls : List Served) → EndsBy s besides how w e calls → OwnFrom s 64 e.state.past
own_from s besides Marked w e calls by = by.2
own_from s besides PeerMarked w e calls by = by.2
own_from s besides (Room packets words left) w e calls by = by.1
own_from s besides (Broken why) w e calls by = by.1

messages_at : (order : Order) (lists : Lists) (past : List (Event Item)) → events_by (other (side_that_asks order.kind)) lists ≡ past → OwnFrom (format_of order.kind) 64 past → MessagesInTurn order lists
messages_at order lists past did from =
    let s = format_of order.kind in
    subst (GoesInTurn (messages_under s) (acks_under s)) (sym did) (own_in_turn s 64 past from)

-- the channel ran, and each request that was served was a call of the seat
pub record RanBy (order : Order) (tells : BufferLists) (seat : DeviceSeat) (earlier : List Served) (back : DeviceSeat) (lists : Lists) (asked served : WorkerDone) : Type 0 where
  pub before : take (length earlier) (served_at back) ≡ earlier
  pub channel : IsChannelRun order lists (calls_behind earlier (served_at back))
  pub told : channel.tells ≡ tells
  pub same : IsSameSeat seat back
  pub serials : served.serials.items ≡ map (λ s. s.serial) (calls_behind earlier (served_at back))
  pub replies : asked.replies.items ≡ map (λ s. s.reply) (replies_to order (calls_behind earlier (served_at back)))
  pub marks : MarkedFirst order.stop (length order.asks) asked.ended served.ended

ran : (order : Order) (seat : DeviceSeat) (earlier : List Served) (a : Asking ChannelScript TableSeat Reply) (s : Serving ChannelScript DeviceSeat TableSeat Ask Reply) (asked served : WorkerDone) (lists : Lists) (side : Side) → side_that_asks order.kind ≡ side → MadeFor order seat earlier a s
    → (both : BothLeave a s asked served lists side) → RanBy order a.protocol.lists seat earlier both.server_leaves.back lists asked served
ran order seat earlier a s asked served lists side at_side made ended =
    let tells = a.protocol.lists in
    let told = asked.replies.items in
    let all = served_at ended.server_leaves.back in
    let calls = calls_behind earlier all in
    let behind : calls_behind s.responder.before all ≡ calls = ap (λ l. calls_behind l all) made.before in
    let whole = both_whole a s asked served lists side ended in
    let at : Joins asked.end served.end lists (side_that_asks order.kind) = subst (Joins asked.end served.end lists) (sym at_side) ended.joins in
    let both : BothEnd order tells (items_in asked.end) (items_in served.end) calls told = record {
      can = made.can;
      one = at.one;
      asker_ends = asker_ends order tells a.protocol (items_in asked.end) told made.protocol (asks_all _ asked.ended _ _ _ whole.0 ended.asker_leaves.asks);
      server_ends = server_ends order tells seat earlier a s (items_in served.end) calls made (ends_all _ _ served.ended _ _ _ whole.1 (subst (λ l. EndsBy (format_of s.responder.protocol.kind) (besides_on s.responder.protocol.kind) served.ended s (line_of said_item served.end) l) behind ended.server_leaves.serves));
    } in
    let carried : Carries (side_that_asks order.kind) order tells lists calls =
    lists_are (side_that_asks order.kind) order tells _ _ _ _ lists calls at.asker_sent at.asker_got at.server_sent at.server_got (runs order tells (items_in asked.end) (items_in served.end) calls told both) in
    let kinds : SendsKinds (format_of order.kind) (items_in asked.end) = subst (λ (t : ChannelScript). SendsKinds (format_of t.kind) (items_in asked.end)) made.protocol ended.asker_leaves.sent.kinds.kinds in
    let only = subst (AllByRecursion (λ (p : Item). is_of_asker order.kind p ≡ true)) (sym at.asker_sent) (alone (format_of order.kind) (keeps order.kind) (sent_of (items_in asked.end)) kinds) in
    record {
      before = ap (λ (l : List Served). take (length l) all) (sym made.before) ∙ (ended.server_leaves.before ∙ made.before);
      channel = record {
        tells = tells;
        carried = carried;
        alone = only;
        serves = serves_first_lem (side_that_asks order.kind) order tells lists calls made.can carried;
        arrive = arrives_at (side_that_asks order.kind) order tells lists calls at.at_host at.at_guest carried;
        moments = at.moments;
        turns = turns_at order tells lists (items_in asked.end) (length a.table) at.asker_did both.asker_ends.encoded (subst (λ (t : ChannelScript). AskedFrom (format_of t.kind) (length a.table) (asks_of t) (items_in asked.end)) made.protocol ended.asker_leaves.ids);
        messages = messages_at order lists (items_in served.end) at.server_did (subst (λ k. OwnFrom (format_of k) 64 (items_in served.end)) made.answers (own_from _ _ served.ended s (line_of said_item served.end) _ ended.server_leaves.serves));
      };
      told = refl;
      same = ended.server_leaves.place ∙ ap device_place made.seat_is;
      serials = ended.server_leaves.serials ∙ ap (map (λ c. c.serial)) behind;
      replies = told_is order tells (items_in asked.end) (items_in served.end) calls told both;
      marks = marked_first order.stop (length order.asks) asked.ended served.ended (items_in asked.end) (items_in served.end) at.one (asks_so _ asked.ended _ _ _ whole.0 ended.asker_leaves.asks) (serves_so _ _ served.ended s (line_of said_item served.end) _ whole.1 ended.server_leaves.serves)
          (λ none. stops_nowhere (format_of order.kind) (plan_of tells order) (items_in served.end) calls none both.server_ends)
          (λ k stop leaves marked unseen. never_settles order tells (items_in asked.end) (items_in served.end) calls told both k stop leaves (settled_first (format_of order.kind) (plan_of tells order) (items_in asked.end) told both.asker_ends marked unseen));
    }

-- the done's ends, by the side that asks
marks_at : (order : Order) (side : Side) (done : PairDone) (asked served : Ended) → side_that_asks order.kind ≡ side → ended_at side done ≡ asked → ended_at (other side) done ≡ served → MarkedFirst order.stop (length order.asks) asked served
    → MarkedFirst order.stop (length order.asks) (ended_at (side_that_asks order.kind) done) (ended_at (other (side_that_asks order.kind)) done)
marks_at order side done asked served at a s first =
    subst (λ (x : Side). MarkedFirst order.stop (length order.asks) (ended_at x done) (ended_at (other x) done)) (sym at) (subst (λ (p : Ended × Ended). MarkedFirst order.stop (length order.asks) p.0 p.1) (λ i. (sym a i, sym s i)) first)

-- the seat that comes back
comes_back : (s : Serving ChannelScript DeviceSeat TableSeat Ask Reply) (served : WorkerDone) (seat : Option DeviceSeat) → seat ≡ served.seat → LeavesServed s served → ComesBack s.responder.seat seat
comes_back s served seat is leaves = record {
  same = leaves.back;
  is_back = is ∙ leaves.seat;
  place = leaves.place;
}

-- what a channel comes to is put together from what both workers leave
pub record Closes (g h : Worker) (guest host : WorkerDone) (done : PairDone) : Type 0 where
  pub pair : ArePair g h
  pub guest_leaves : Leaves g guest
  pub host_leaves : Leaves h host
  pub run : AreOfOneRun guest.end.state.past host.end.state.past
  pub guest_lists : (done.settled.guest_sent ≡ guest.end.state.sent) × (done.settled.guest_got ≡ guest.end.state.got)
  pub host_lists : (done.settled.host_sent ≡ host.end.state.sent) × (done.settled.host_got ≡ host.end.state.got)
  pub fronts : IsFront done.settled.guest_got done.settled.host_sent × IsFront done.settled.host_got done.settled.guest_sent
  pub guest_items : (done.settled.guest_sent_items ≡ guest.end.state.pages.sent) × (done.settled.guest_got_items ≡ guest.end.state.pages.got)
  pub host_items : (done.settled.host_sent_items ≡ host.end.state.pages.sent) × (done.settled.host_got_items ≡ host.end.state.pages.got)
  pub pasts : (done.settled.guest_past ≡ guest.end.state.past) × (done.settled.host_past ≡ host.end.state.past)
  pub item_fronts : (guest.end.state.pages.count ≢ 0 → IsFront done.settled.guest_got_items done.settled.host_sent_items) × (host.end.state.pages.count ≢ 0 → IsFront done.settled.host_got_items done.settled.guest_sent_items)
  pub guest_seat : at_guest done.guest_seat ≡ guest.seat
  pub host_seat : at_host done.host_seat ≡ host.seat
  pub guest_ended : done.guest ≡ guest.ended
  pub host_ended : done.host ≡ host.ended
  pub serials : done.serials.items ≡ guest.serials.items ++ host.serials.items
  pub replies : done.replies.items ≡ guest.replies.items ++ host.replies.items

none_before : {A : Type 0} (all front back : List A) → all ≡ front ++ back → front ≡ [] → all ≡ back
none_before {A} all front back is none = is ∙ ap (λ (l : List A). l ++ back) none

none_after : {A : Type 0} (all front back : List A) → all ≡ front ++ back → back ≡ [] → all ≡ front
none_after {A} all front back is none = is ∙ ap (λ (l : List A). front ++ l) none ∙ append-nil front

-- the items of the lists are those of an end
list_is : (ps qs : List (List ℕ)) (is js : List Item) → ps ≡ qs → is ≡ js → items_of ps is ≡ whole qs js
list_is ps qs is js e f = let same : items_of ps is ≡ items_of qs js = λ i. items_of (e i) (f i) in same ∙ items_are qs js

-- what both ends of a channel come to, whose workers stand
record Ends (guest host : Seen TableSeat) (lists : Lists) : Type 0 where
  guest_sent : items_sent Guest lists ≡ whole guest.state.sent guest.state.pages.sent
  guest_got : items_got Guest lists ≡ whole guest.state.got guest.state.pages.got
  host_sent : items_sent Host lists ≡ whole host.state.sent host.state.pages.sent
  host_got : items_got Host lists ≡ whole host.state.got host.state.pages.got
  to_guest : GotItems guest.state host.state
  to_host : GotItems host.state guest.state
  one : AreOfOneRun (items_in guest) (items_in host)
  moments : AreOfRun lists

ends_of : (g h : Worker) (guest host : WorkerDone) (done : PairDone) → Closes g h guest host done → IsLine told_at guest.end → IsLine told_at host.end → guest.end.state.pages.count ≡ host.end.state.pages.count → Ends guest.end host.end done.settled
ends_of g h guest host done closes at_guest at_host same =
    let gl = closes.guest_lists in
    let hl = closes.host_lists in
    let gi = closes.guest_items in
    let hi = closes.host_items in
    let Front : List (List ℕ) × List (List ℕ) → Type 0 = λ l. IsFront l.0 l.1 in
    let Items : List Item × List Item → Type 0 = λ l. IsFront l.0 l.1 in
    let to_guest = got_items told_at guest.end host.end at_guest at_host same (subst Front (λ i. (gl.1 i, hl.0 i)) closes.fronts.0) (λ some. subst Items (λ i. (gi.1 i, hi.0 i)) (closes.item_fronts.0 some)) in
    let to_host = got_items told_at host.end guest.end at_host at_guest (sym same) (subst Front (λ i. (hl.1 i, gl.0 i)) closes.fronts.1) (λ some. subst Items (λ i. (hi.1 i, gi.0 i)) (closes.item_fronts.1 some)) in
    record {
      guest_sent = list_is done.settled.guest_sent guest.end.state.sent done.settled.guest_sent_items guest.end.state.pages.sent gl.0 gi.0;
      guest_got = list_is done.settled.guest_got guest.end.state.got done.settled.guest_got_items guest.end.state.pages.got gl.1 gi.1;
      host_sent = list_is done.settled.host_sent host.end.state.sent done.settled.host_sent_items host.end.state.pages.sent hl.0 hi.0;
      host_got = list_is done.settled.host_got host.end.state.got done.settled.host_got_items host.end.state.pages.got hl.1 hi.1;
      to_guest = to_guest;
      to_host = to_host;
      one = items_run said_item guest.end host.end at_guest at_host closes.run to_guest to_host;
      moments = record {
        run = subst (λ (l : List (Event (List ℕ)) × List (Event (List ℕ))). AreOfOneRun l.0 l.1) (λ i. (sym closes.pasts.0 i, sym closes.pasts.1 i)) closes.run;
        guest_sent = ap sent_of closes.pasts.0 ∙ (at_guest.sent ∙ sym gl.0);
        guest_got = ap got_of closes.pasts.0 ∙ (at_guest.got ∙ sym gl.1);
        host_sent = ap sent_of closes.pasts.1 ∙ (at_host.sent ∙ sym hl.0);
        host_got = ap got_of closes.pasts.1 ∙ (at_host.got ∙ sym hl.1);
      };
    }

-- an end's lists, as they are read
sent_is : (e : Seen TableSeat) (l : List Item) → IsLine told_at e → l ≡ whole e.state.sent e.state.pages.sent → map said_item l ≡ sent_of (items_in e)
sent_is e l h is = ap (map said_item) is ∙ sym (items_sent_of said_item e h)

got_is : (e : Seen TableSeat) (l : List Item) → IsLine told_at e → l ≡ whole e.state.got e.state.pages.got → map said_item l ≡ got_of (items_in e)
got_is e l h is = ap (map said_item) is ∙ sym (items_got_of said_item e h)

-- what an end did, in items as they are read
did_is : (e : Seen TableSeat) (sent got : List Item) (past : List (Event (List ℕ))) → sent ≡ whole e.state.sent e.state.pages.sent → got ≡ whole e.state.got e.state.pages.got → past ≡ e.state.past
    → filled (λ p. said_item (item_of p [])) (map said_item sent) (map said_item got) past ≡ items_in e
unfolding past_as
did_is e sent got past a b c = λ i. filled (λ p. said_item (item_of p [])) (map said_item (a i)) (map said_item (b i)) (c i)

front_is : (xs ys us vs : List Item) → xs ≡ us → ys ≡ vs → IsFront us vs → IsFront xs ys
front_is xs ys us vs e f front = subst (λ (l : List Item × List Item). IsFront l.0 l.1) (λ i. (sym e i, sym f i)) front

-- the ends of a pair have as many data pages still
same_pages : (g h : Worker) (guest host : WorkerDone) → ArePair g h → guest.end.state.pages.count ≡ (end_at g).state.pages.count → host.end.state.pages.count ≡ (end_at h).state.pages.count → guest.end.state.pages.count ≡ host.end.state.pages.count
same_pages g h guest host pair e f = e ∙ (pair.pages ∙ sym f)

guest_asks : (a : Asking ChannelScript TableSeat Reply) (s : Serving ChannelScript DeviceSeat TableSeat Ask Reply) (guest host : WorkerDone) (done : PairDone) → Closes (Asks a) (Serves s) guest host done → BothLeave a s guest host done.settled Guest
guest_asks a s guest host done closes =
    let at_g = closes.guest_leaves.stands in
    let at_h = closes.host_leaves.stands in
    let e = ends_of (Asks a) (Serves s) guest host done closes at_g at_h (same_pages (Asks a) (Serves s) guest host closes.pair closes.guest_leaves.end.pages closes.host_leaves.end.pages) in
    record {
      agree = closes.pair.roles;
      asker_leaves = closes.guest_leaves;
      server_leaves = closes.host_leaves;
      joins = record {
        one = e.one;
        asker_sent = sent_is guest.end _ at_g e.guest_sent;
        asker_got = got_is guest.end _ at_g e.guest_got;
        server_sent = sent_is host.end _ at_h e.host_sent;
        server_got = got_is host.end _ at_h e.host_got;
        at_host = front_is _ _ _ _ e.host_got e.guest_sent e.to_host;
        at_guest = front_is _ _ _ _ e.guest_got e.host_sent e.to_guest;
        moments = e.moments;
        asker_did = did_is guest.end _ _ _ e.guest_sent e.guest_got closes.pasts.0;
        server_did = did_is host.end _ _ _ e.host_sent e.host_got closes.pasts.1;
      };
    }

host_asks : (a : Asking ChannelScript TableSeat Reply) (s : Serving ChannelScript DeviceSeat TableSeat Ask Reply) (guest host : WorkerDone) (done : PairDone) → Closes (Serves s) (Asks a) guest host done → BothLeave a s host guest done.settled Host
host_asks a s guest host done closes =
    let at_g = closes.guest_leaves.stands in
    let at_h = closes.host_leaves.stands in
    let e = ends_of (Serves s) (Asks a) guest host done closes at_g at_h (same_pages (Serves s) (Asks a) guest host closes.pair closes.guest_leaves.end.pages closes.host_leaves.end.pages) in
    record {
      agree = closes.pair.roles;
      asker_leaves = closes.host_leaves;
      server_leaves = closes.guest_leaves;
      joins = record {
        one = ends_exchanged _ _ e.one;
        asker_sent = sent_is host.end _ at_h e.host_sent;
        asker_got = got_is host.end _ at_h e.host_got;
        server_sent = sent_is guest.end _ at_g e.guest_sent;
        server_got = got_is guest.end _ at_g e.guest_got;
        at_host = front_is _ _ _ _ e.host_got e.guest_sent e.to_host;
        at_guest = front_is _ _ _ _ e.guest_got e.host_sent e.to_guest;
        moments = e.moments;
        asker_did = did_is host.end _ _ _ e.host_sent e.host_got closes.pasts.1;
        server_did = did_is guest.end _ _ _ e.guest_sent e.guest_got closes.pasts.0;
      };
    }

-- and their ids are those of its table
ids_at : (a : Asking ChannelScript TableSeat Reply) (past : List (Event Item)) (sent : List Item) → sent ≡ sent_of past → AskedFrom (format_of a.protocol.kind) (length a.table) (asks_of a.protocol) past → HasIds (format_of a.protocol.kind) (length a.table) sent
ids_at a past sent is from = subst (HasIds (format_of a.protocol.kind) (length a.table)) (sym is) (has_ids (format_of a.protocol.kind) (length a.table) (asks_of a.protocol) past from)

-- and those of messages are its own
own_ids_at : (s : Serving ChannelScript DeviceSeat TableSeat Ask Reply) (served : WorkerDone) (sent : List Item) → sent ≡ sent_of (items_in served.end) → LeavesServed s served → HasOwnIds (format_of s.responder.protocol.kind) 64 sent
own_ids_at s served sent is leaves =
    subst (HasOwnIds (format_of s.responder.protocol.kind) 64) (sym is) (has_own_ids (format_of s.responder.protocol.kind) 64 (items_in served.end) (own_from _ _ served.ended s (line_of said_item served.end) _ leaves.serves))

pub runs_pair : (g h : Worker) (guest host : WorkerDone) (done : PairDone) → Closes g h guest host done → RunsPair (record { guest = g; host = h }) done
unfolding guest_asks host_asks
runs_pair (Asks a) (Asks b) guest host done closes = absurd closes.pair.roles
runs_pair (Asks a) (Serves s) guest host done closes =
    let both = guest_asks a s guest host done closes in
    let whole = both_whole a s guest host done.settled Guest both in
    record {
      guest = ap is_whole closes.guest_ended ∙ whole.0;
      host = ap is_whole closes.host_ended ∙ whole.1;
      seats = (closes.guest_seat ∙ closes.guest_leaves.seat, comes_back s host (at_host done.host_seat) closes.host_seat closes.host_leaves);
      ids = ids_at a (items_in guest.end) (sent_by Guest done.settled) both.joins.asker_sent closes.guest_leaves.ids;
      own_ids = own_ids_at s host (sent_by Host done.settled) both.joins.server_sent closes.host_leaves;
      runs = λ order seat earlier opens.
          let r = ran order seat earlier a s guest host done.settled Guest opens.0 opens.1 both in
          record {
            back = closes.host_leaves.back;
            serving = ap (λ o. first_of o (at_host done.host_seat)) (closes.guest_seat ∙ closes.guest_leaves.seat) ∙ closes.host_seat ∙ closes.host_leaves.seat;
            before = r.before;
            channel = r.channel;
            same = r.same;
            serials = none_before done.serials.items guest.serials.items host.serials.items closes.serials closes.guest_leaves.serials ∙ r.serials;
            replies = none_after done.replies.items guest.replies.items host.replies.items closes.replies closes.host_leaves.replies ∙ r.replies;
            marks = marks_at order Guest done guest.ended host.ended opens.0 closes.guest_ended closes.host_ended r.marks;
          };
      tells = λ order seat earlier opens. (ran order seat earlier a s guest host done.settled Guest opens.0 opens.1 both).told;
    }
runs_pair (Serves s) (Asks a) guest host done closes =
    let both = host_asks a s guest host done closes in
    let whole = both_whole a s host guest done.settled Host both in
    record {
      guest = ap is_whole closes.guest_ended ∙ whole.1;
      host = ap is_whole closes.host_ended ∙ whole.0;
      seats = (comes_back s guest (at_guest done.guest_seat) closes.guest_seat closes.guest_leaves, closes.host_seat ∙ closes.host_leaves.seat);
      ids = ids_at a (items_in host.end) (sent_by Host done.settled) both.joins.asker_sent closes.host_leaves.ids;
      own_ids = own_ids_at s guest (sent_by Guest done.settled) both.joins.server_sent closes.guest_leaves;
      runs = λ order seat earlier opens.
          let r = ran order seat earlier a s host guest done.settled Host opens.0 opens.1 both in
          record {
            back = closes.guest_leaves.back;
            serving = ap (λ o. first_of o (at_host done.host_seat)) (closes.guest_seat ∙ closes.guest_leaves.seat);
            before = r.before;
            channel = r.channel;
            same = r.same;
            serials = none_after done.serials.items guest.serials.items host.serials.items closes.serials closes.host_leaves.serials ∙ r.serials;
            replies = none_before done.replies.items guest.replies.items host.replies.items closes.replies closes.guest_leaves.replies ∙ r.replies;
            marks = marks_at order Host done host.ended guest.ended opens.0 closes.host_ended closes.guest_ended r.marks;
          };
      tells = λ order seat earlier opens. (ran order seat earlier a s host guest done.settled Host opens.0 opens.1 both).told;
    }
runs_pair (Serves s) (Serves t) guest host done closes = absurd closes.pair.roles
