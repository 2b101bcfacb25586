-- Laws of runs.
use Rattle.std.specs.Prelude.{ℕ, ◌≡◌, ◌≤◌, ◌<◌, ◌+◌, ◌-◌, min, Bool, true, false, List, [], ◌∷◌, ◌++◌, length, map, filter, take, replicate, count_by, slice_get, slice_index_or, Some, None}
use Rattle.std.specs.List.{AllByRecursion, flat_map, range_with_len}
use Rattle.channel_trace.specs.declared.event.Event.{Event}
use Rattle.channel_trace.specs.declared.event.Event.TheVariants.{Sent}
use Rattle.channel_trace.specs.Runs.{IsFront, sent_of, got_of}
use Rattle.contact.specs.declared.kind.DeviceKind.{DeviceKind}
use Rattle.contact.specs.declared.kind.DeviceKind.TheVariants.{Net}
use Rattle.page_kept.specs.declared.item.Item.{Item}
use Rattle.pkt_desc.specs.Lending.{lent_of}
use Rattle.pkt_desc.specs.declared.loan.Lent.{Lent}
use Rattle.script_lines.specs.declared.line.Line.{Line}
use Rattle.script_lines.specs.declared.line.Ask.{Ask}
use Rattle.script_lines.specs.Lines.{Asks, Modifies}
use Rattle.script_phases.specs.Says.{is_rescinded, is_shut}
use Rattle.script_phases.specs.Openings.{Phase, phases, by_relid}
use Rattle.bus_script.specs.declared.outcome.LineResult.{LineResult}
use Rattle.bus_script.specs.declared.outcome.LineResult.TheVariants.{Version, Done, RescindedServed, Unserved, Modified, Unsupported, Gone, Closed}
use Rattle.bus_script.specs.declared.outcome.Reply.{Reply}
use Rattle.bus_script.specs.Report.{prints}
use Rattle.device_kinds.specs.Kinds.{IsAskable}
use Rattle.device_kinds.specs.Formats.{no_lists, format_of, fits_on, lends_on}
use Rattle.device_wire.specs.declared.buffer_lists.BufferLists.{BufferLists}
use Rattle.io_edge.specs.declared.side.Side.{Side}
use Rattle.io_edge.specs.declared.side.Side.TheVariants.{Guest, Host}
use Rattle.ring_pair_laws.specs.Lists.{Lists}
use Rattle.channel_model.specs.Outcome.{Outcome, Done as IsDone, RescindedServed as IsRescinded, Unserved as IsUnserved, lines_of}
use Rattle.channel_model.specs.Acks.{acks_for}
use Rattle.channel_model.specs.Roles.{side_that_asks}
use Rattle.device_kinds.specs.Served.{Served, done_of}
use Rattle.bus_model.specs.Orders.{Order, order_of, startup_of}
use Rattle.bus_model.specs.Channel.{IsChannelRun, Carries, acks_under, answers_under, asked_under, asked_by, asks_under, events_by, got_by, sent_by, items_sent, items_got, other, served_count, is_held, replies_to, rescinded_of, outcomes_of}
use Rattle.device_kinds.specs.Logs.{Recorded, served_from}
use Rattle.bus_model.specs.Run.{Carried, IsBusRun, PhaseRuns, Known, seats_of, source_said, told_by}
use Rattle.bus_model.specs.declared.channel_run.ChannelRun.{ChannelRun}
use Rattle.device_kinds.specs.declared.history.DeviceHistory.{DeviceHistory}

-- What each end got is a front of what the other one sent, as it was sent, and all of it where the service doesn't stop. The end that asks got all that the other one sent, also where it does
pub record Arrived (order : Order) (lists : Lists) : Type 0 where
  pub at_host : IsFront (items_got Host lists) (items_sent Guest lists)
  pub at_guest : IsFront (items_got Guest lists) (items_sent Host lists)
  pub whole : order.stop ≡ None → (items_got Host lists ≡ items_sent Guest lists) × (items_got Guest lists ≡ items_sent Host lists)
  pub settled : items_got (side_that_asks order.kind) lists ≡ items_sent (other (side_that_asks order.kind)) lists

abbrev pub Arrives : Type 0
Arrives = (order : Order) (lists : Lists) (served : List Served) → IsChannelRun order lists served → Arrived order lists

-- Under each id, at each moment, at most one request more was sent than answers came: so also at the end, in the lists
pub record OneOpen (order : Order) (lists : Lists) : Type 0 where
  pub ever : (t : ℕ) (later before : List (Event Item)) → events_by (side_that_asks order.kind) lists ≡ later ++ before
      → count_by (asks_under (format_of order.kind) t) (sent_of before) ≤ count_by (answers_under (format_of order.kind) t) (got_of before) + 1
  pub lists_tell : (t : ℕ) → count_by (asks_under (format_of order.kind) t) (sent_by (side_that_asks order.kind) lists) ≤ count_by (answers_under (format_of order.kind) t) (got_by (side_that_asks order.kind) lists) + 1
  -- an id whose answer never came went once: where one was sent, and no answer under it came later, none was sent under it later
  pub unanswered : (t : ℕ) (later before : List (Event Item)) (p : Item) → events_by (side_that_asks order.kind) lists ≡ later ++ Sent p ∷ before → asks_under (format_of order.kind) t p ≡ true
      → count_by (answers_under (format_of order.kind) t) (got_of later) ≡ 0 → count_by (asks_under (format_of order.kind) t) (sent_of later) ≡ 0

abbrev pub OpensOne : Type 0
OpensOne = (order : Order) (lists : Lists) (served : List Served) → IsChannelRun order lists served → OneOpen order lists

-- a request that has an answer, under an id from 1 to 64, and lends this
pub record LendsBy (kind : DeviceKind) (p : Item) (l : Lent) : Type 0 where
  pub asks : (format_of kind).is_request p ≡ true
  pub waits : (format_of kind).waits p ≡ true
  pub least : 1 ≤ (format_of kind).id_of p
  pub within : (format_of kind).id_of p ≤ 64
  pub lent : lent_of p.packet ≡ Some l

-- Of two requests that lend one page the second goes once the completion of the first was taken: a page has one request at a time, and one whose completion was never taken, as where a rescind
-- came first, is lent to no other
abbrev pub LendsInTurn : Order → Lists → Type 0
LendsInTurn order lists = (later between before : List (Event Item)) (first second : Item) (l m : Lent)
    → events_by (side_that_asks order.kind) lists ≡ later ++ Sent second ∷ (between ++ Sent first ∷ before)
    → LendsBy order.kind first l → LendsBy order.kind second m → l.page ≡ m.page
    → 1 ≤ count_by (answers_under (format_of order.kind) ((format_of order.kind).id_of first)) (got_of between)

abbrev pub LendsOne : Type 0
LendsOne = (order : Order) (lists : Lists) (served : List Served) → IsChannelRun order lists served → lends_on order.kind ≡ true → LendsInTurn order lists

-- a message of the end that serves, under an id of its own from 1 to 64, that lends this
pub record MessageLends (kind : DeviceKind) (p : Item) (l : Lent) : Type 0 where
  pub message : (format_of kind).is_message p ≡ true
  pub least : 1 ≤ (format_of kind).id_of p
  pub within : (format_of kind).id_of p ≤ 64
  pub lent : lent_of p.packet ≡ Some l

-- The pages of a channel's two ends: a request lends one of the first 64 pages, that of id 1 the first of them; and a message one of the 64 behind
pub record LendsOwn (order : Order) (lists : Lists) : Type 0 where
  pub requests : (later before : List (Event Item)) (p : Item) (l : Lent) → events_by (side_that_asks order.kind) lists ≡ later ++ Sent p ∷ before → LendsBy order.kind p l → l.page + 1 ≡ (format_of order.kind).id_of p
  pub messages : (later before : List (Event Item)) (p : Item) (l : Lent) → events_by (other (side_that_asks order.kind)) lists ≡ later ++ Sent p ∷ before → MessageLends order.kind p l → l.page ≡ 63 + (format_of order.kind).id_of p

abbrev pub LendsOwnPages : Type 0
LendsOwnPages = (order : Order) (lists : Lists) (served : List Served) → IsChannelRun order lists served → lends_on order.kind ≡ true → LendsOwn order lists

-- Of two messages that lend one page the second goes once the acknowledgement of the first was taken: a page has one message at a time, and one whose acknowledgement was never taken, as where a
-- rescind came first, is lent to no other
abbrev pub MessagesLendInTurn : Order → Lists → Type 0
MessagesLendInTurn order lists = (later between before : List (Event Item)) (first second : Item) (l m : Lent)
    → events_by (other (side_that_asks order.kind)) lists ≡ later ++ Sent second ∷ (between ++ Sent first ∷ before)
    → MessageLends order.kind first l → MessageLends order.kind second m → l.page ≡ m.page
    → 1 ≤ count_by (acks_under (format_of order.kind) ((format_of order.kind).id_of first)) (got_of between)

abbrev pub MessagesLendOne : Type 0
MessagesLendOne = (order : Order) (lists : Lists) (served : List Served) → IsChannelRun order lists served → lends_on order.kind ≡ true → MessagesLendInTurn order lists

-- as many requests are served as the order says
abbrev pub ServesEach : Type 0
ServesEach = (order : Order) (lists : Lists) (served : List Served) → IsChannelRun order lists served → length served ≡ served_count order

-- what was served follows from what was carried: the first requests, where all can be asked
abbrev pub ServesFirst : Type 0
ServesFirst = (side : Side) (order : Order) (tells : BufferLists) (lists : Lists) (served : List Served) → AllByRecursion (IsAskable order.kind) order.asks → Carries side order tells lists served → map (λ s. s.request) served ≡ take (served_count order) (asked_by side order lists)

-- where the device is no network's, it is asked what stands in the script, whatever the ids are
abbrev pub AsksAsScripted : Type 0
AsksAsScripted = (order : Order) (ids : List ℕ) → (order.kind ≡ Net → ⊥) → AllByRecursion (IsAskable order.kind) order.asks → asked_under ids order.asks ≡ take (length ids) order.asks

-- The messages that came back besides the answers: the end that asks completed them in the order in which they were sent, each once where the service doesn't stop, and at most once where it does
pub record Completed (order : Order) (lists : Lists) : Type 0 where
  pub in_order : IsFront (filter (format_of order.kind).is_ack (sent_by (side_that_asks order.kind) lists)) (acks_for (format_of order.kind) (sent_by (other (side_that_asks order.kind)) lists))
  pub each : order.stop ≡ None → filter (format_of order.kind).is_ack (sent_by (side_that_asks order.kind) lists) ≡ acks_for (format_of order.kind) (sent_by (other (side_that_asks order.kind)) lists)

abbrev pub CompletesEach : Type 0
CompletesEach = (order : Order) (lists : Lists) (served : List Served) → IsChannelRun order lists served → Completed order lists

-- each line that prints has one outcome
abbrev pub OneEach : Type 0
OneEach = (lines : List Line) (settled : List ChannelRun) (histories : List DeviceHistory) (results : List LineResult) → IsBusRun lines settled histories results → length results ≡ count_by prints lines

-- The table of a channel's outcomes, row by row, where it has m requests
pub record Table (m : ℕ) (order : Order) (served : List Served) : Type 0 where
  -- no rescind here: all are done
  pub not_rescinded : order.stop ≡ None → (length served ≡ m) × (outcomes_of order served ≡ map done_of served)
  -- a rescind after k: the first min(k, m) are done, the rest unserved
  pub rescinded : (k : ℕ) → order.stop ≡ Some (k, false) → (length served ≡ min k m) × (outcomes_of order served ≡ map done_of served ++ replicate (m - min k m) Unserved)
  -- after k, held, and there are as many: the first k - 1 are done, the k-th is served and rescinded, the rest unserved
  pub held : (k : ℕ) → order.stop ≡ Some (k, true) → 1 ≤ k → k ≤ m
      → (first : List Served) × (last : Served) × (served ≡ first ++ last ∷ []) × (length first ≡ k - 1) × (outcomes_of order served ≡ map done_of first ++ rescinded_of last ∷ replicate (m - k) Unserved)
  -- after k, held, and there are fewer: all are done
  pub too_few : (k : ℕ) → order.stop ≡ Some (k, true) → m < k → (length served ≡ m) × (outcomes_of order served ≡ map done_of served)

abbrev pub TableOfOutcomes : Type 0
TableOfOutcomes = (order : Order) (lists : Lists) (served : List Served) → IsChannelRun order lists served → Table (length order.asks) order served

-- What a rescind leaves of a channel's requests. Each has exactly one outcome. Those that were served are the first ones, and of these the first are done, and have
-- their replies; one more was served without an answer exactly where the last answer is held and as many requests came. The others are unserved
pub record Rescinded (order : Order) (lists : Lists) (served : List Served) : Type 0 where
  pub one_each : length (outcomes_of order served) ≡ length order.asks
  pub served_first : IsFront (map (λ s. s.request) served) (asked_by (side_that_asks order.kind) order lists)
  pub done : List Served
  pub held : List Served
  pub done_first : served ≡ done ++ held
  pub outcomes : outcomes_of order served ≡ map done_of done ++ (map rescinded_of held ++ replicate (length order.asks - length served) Unserved)
  pub none_held : is_held order ≡ false → held ≡ []
  pub one_held : (k : ℕ) → order.stop ≡ Some (k, true) → 1 ≤ k → k ≤ length order.asks → length held ≡ 1

abbrev pub Rescinds : Type 0
Rescinds = (order : Order) (lists : Lists) (served : List Served) → IsChannelRun order lists served → Rescinded order lists served

-- the request was served, whether its answer came back or not
abbrev pub was_served : LineResult → Bool
was_served (Version tried) = false
was_served (Done serial reply) = true
was_served (RescindedServed serial) = true
was_served Unserved = false
was_served (Modified vp answered) = false
was_served Unsupported = false
was_served Gone = false
was_served Closed = false

-- What the report calls unserved is in no history: what a phase adds to a device's history are, seat by seat, the calls of that seat's channel, whose requests
-- are the first of the channel's, as many as are served; no entry is of a seat without a channel, and there are as many entries as the requests of the
-- device's channels have outcomes that were served
pub record ServedAlone (p : Phase) (channels : List Carried) (device : ℕ) (before after : List Recorded) : Type 0 where
  pub more : List Recorded
  pub after_is : after ≡ before ++ more
  pub entries : (seat : ℕ) (c : Carried) → slice_get (seats_of device channels) seat ≡ Some c → served_from seat (length before) more ≡ c.served
  pub first : (seat : ℕ) (c : Carried) → slice_get (seats_of device channels) seat ≡ Some c
      → map (λ s. s.request) (served_from seat (length before) more) ≡ take (served_count (order_of p c.opening)) (asked_by (side_that_asks (order_of p c.opening).kind) (order_of p c.opening) c.run.settled)
  pub besides : (seat : ℕ) → length (seats_of device channels) ≤ seat → served_from seat (length before) more ≡ []
  pub count : length more ≡ count_by was_served (flat_map (λ l. l) (told_by p channels device))

abbrev pub UnservedNowhere : Type 0
UnservedNowhere = (p : Phase) (before after : List (List Recorded)) (runs : List ChannelRun) (told : List LineResult) (run : PhaseRuns p before after runs told) (device : ℕ) → device < length before
    → ServedAlone p run.channels device (slice_index_or before device []) (slice_index_or after device [])

-- the outcome of a line, by the words of both ends
abbrev pub line_of : Outcome Reply → LineResult
line_of (IsDone n r) = Done n r
line_of (IsRescinded n) = RescindedServed n
line_of IsUnserved = Unserved

-- the serials of the end that serves and the replies of the end that asks tell the outcomes
abbrev pub ListsTell : Type 0
ListsTell = (order : Order) (lists : Lists) (served : List Served) → IsChannelRun order lists served
    → map line_of (lines_of (length order.asks) (map (λ s. s.serial) served) (map (λ s. s.reply) (replies_to order served))) ≡ outcomes_of order served

-- and what comes before the table's rows: a device that an earlier phase rescinded, and one that an earlier phase closed and none rescinded
pub record EndedRows (p : Phase) (device : ℕ) : Type 0 where
  pub gone : is_rescinded device p.earlier ≡ true → (before : List Line) (ask : Ask) → source_said p before (Some (device, Asks ask)) ≡ Known Gone ∷ []
  pub closed : is_rescinded device p.earlier ≡ false → is_shut device p.earlier ≡ true → (before : List Line) (ask : Ask) → source_said p before (Some (device, Asks ask)) ≡ Known Closed ∷ []
  pub gone_unmoved : is_rescinded device p.earlier ≡ true → (before : List Line) (vp : ℕ) → source_said p before (Some (device, Modifies vp)) ≡ Known Gone ∷ []
  pub closed_unmoved : is_rescinded device p.earlier ≡ false → is_shut device p.earlier ≡ true → (before : List Line) (vp : ℕ) → source_said p before (Some (device, Modifies vp)) ≡ Known Closed ∷ []

abbrev pub RowsOfEnded : Type 0
RowsOfEnded = (p : Phase) (device : ℕ) → EndedRows p device

-- phase, relid and device of what was carried, and of the channels that a phase opens
abbrev pub carried_at : ChannelRun → ℕ × ℕ × ℕ
carried_at r = (r.phase, r.relid, r.device)

abbrev pub opened_at : Phase → List (ℕ × ℕ × ℕ)
opened_at p = map (λ o. (p.number, o.relid, o.device)) (by_relid p.opened)

-- each channel that a phase opens carried its packets, and no other one, phase by phase in order of relid
abbrev pub CarriesOpened : Type 0
CarriesOpened = (lines : List Line) (settled : List ChannelRun) (histories : List DeviceHistory) (results : List LineResult) → IsBusRun lines settled histories results → map carried_at settled ≡ flat_map opened_at (phases lines)

-- what was served is right for an order: its requests can be asked, the served ones are the first of them, under ids that count on from those of the start-up, and each reply is one that the device may give
pub record Suits (order : Order) (served : List Served) : Type 0 where
  pub can : AllByRecursion (IsAskable order.kind) order.asks
  pub few : length order.asks ≤ 4096
  pub serves : map (λ c. c.request) served ≡ take (served_count order) (asked_under (range_with_len (1 + length (startup_of no_lists order)) (length order.asks)) order.asks)
  pub fits : AllByRecursion (λ (c : Served). fits_on order.kind c.request c.reply ≡ true) served

-- then some channel carried it: no field of a channel's run excludes another one, wherever its service stops
abbrev pub OrdersRun : Type 0
OrdersRun = (order : Order) (served : List Served) → Suits order served → (lists : Lists) × IsChannelRun order lists served
