-- For each order, and each list of served requests that is right for it, there is a run of its channel.
use Rattle.std.proofs.Common.{◌≡◌, ℕ, zero, suc, ◌+◌, ◌≤◌, Bool, true, List, [], ◌∷◌, map, take, length, length-append, refl, sym, ap, ◌∙◌, subst, arith, Option, Some, None}
use Rattle.std.specs.List.{AllByRecursion, range_with_len}
use Rattle.std.specs.Prelude.{count_by}
use Rattle.std.proofs.lemmas.List.{append-nil, length-map}
use Rattle.contact.specs.declared.kind.DeviceKind.{DeviceKind}
use Rattle.io_edge.specs.declared.side.Side.{Side}
use Rattle.io_edge.specs.declared.side.Side.TheVariants.{Guest, Host}
use Rattle.channel_trace.proofs.Steps.{ends_exchanged}
use Rattle.ring_pair_laws.specs.Lists.{AreOfRun, Lists}
use Rattle.script_lines.specs.declared.line.Ask.{Ask}
use Rattle.device_wire.specs.declared.want.Want.TheVariants.{Request as Script}
use Rattle.device_kinds.specs.Kinds.{IsAskable, DeviceWant as Want}
use Rattle.device_kinds.specs.Formats.{no_lists, format_of, fits_on, asked_as}
use Rattle.device_kinds.proofs.KindLaws.{few_starts, keeps, start_is_fixed, script_asks, asked_is}
use Rattle.channel_model.specs.Channel.{IsProtocolRun, count_of}
use Rattle.channel_model.specs.Roles.{side_that_asks}
use Rattle.device_kinds.specs.Served.{Served}
use Rattle.bus_model.specs.Orders.{Order, startup_of, plan_of, order_of}
use Rattle.script_phases.specs.Openings.{Phase, Opening}
use Rattle.bus_model.specs.Channel.{Carries, InTurn, ItemsArrive, MessagesInTurn, acks_under, answers_under, asked_under, asks_under, events_by, got_by, is_of_asker, items_of, messages_under, other, replies_to, sent_by, served_count}
use Rattle.bus_model.specs.Run.{Carried, IsCarried}
use Rattle.bus_model.specs.Laws.{Suits, OrdersRun}
use Rattle.bus_model.proofs.Made.{AllSo, Fit, Made, made, so_same}
use Rattle.bus_model.proofs.Making.{first_got, first_past, first_sent, makes_run, second_got, second_past, second_sent}
use Rattle.bus_model.proofs.ReadAs.{reads_so}
use Rattle.bus_model.proofs.Turning.{events_sent, goes_once}
use Rattle.page_kept.specs.declared.item.Item.{Item}
use Rattle.page_kept.specs.Items.{packets}
use Rattle.device_packets.specs.Said.{said_item}
use Rattle.bus_model.proofs.FromLists.{serves_first_lem}

fit : (kind : DeviceKind) (n id : ℕ) (asks : List Ask) (served : List Served) → AllByRecursion (IsAskable kind) asks → map (λ c. c.request) served ≡ take n (asked_under (range_with_len id (length asks)) asks)
    → AllByRecursion (λ (c : Served). fits_on kind c.request c.reply ≡ true) served → Fit said_item (format_of kind) (keeps kind) (reads_so kind) n id (map Script asks) served
fit kind zero id asks [] can serves fits = refl
fit kind zero id asks (c ∷ served) can serves fits = absurd (none (asked_under (range_with_len id (length asks)) asks) serves)
  where
    none : (asks : List Ask) → map (λ (c : Served). c.request) (c ∷ served) ≡ take 0 asks → ⊥
    none [] e = absurd (cc)
    none (a ∷ asks) e = absurd (cc)
fit kind (suc n) id [] [] can serves fits = refl
fit kind (suc n) id [] (c ∷ served) can serves fits = absurd (cc)
fit kind (suc n) id (a ∷ asks) [] can serves fits = absurd (cc)
fit kind (suc n) id (a ∷ asks) (c ∷ served) can serves fits =
    let head : c.request ≡ asked_as id a = cc in
    let tail : map (λ (c : Served). c.request) served ≡ take n (asked_under (range_with_len (id + 1) (length asks)) asks) = cc in
    (asked_is kind id a can.0 ∙ ap Some (sym head), fits.0, fit kind n (id + 1) asks served can.1 tail fits.1)

count_few : (stop : Option (ℕ × Bool)) (m : ℕ) → count_of stop m ≤ m
count_few None m = omega arith
count_few (Some k) m = omega arith

-- the lists of a run, where page words are as they are read, and the end that asks sends all before it gets anything
abbrev pub lists_of : Side → List Item → List Item → Lists
lists_of Guest sent back =
    record { guest_sent = packets sent; guest_got = packets back; host_sent = packets back; host_got = packets sent; guest_sent_items = sent; guest_got_items = back; host_sent_items = back; host_got_items = sent; guest_past = first_past (packets sent) (packets back); host_past = second_past (packets sent) (packets back) }
lists_of Host sent back =
    record { guest_sent = packets back; guest_got = packets sent; host_sent = packets sent; host_got = packets back; guest_sent_items = back; guest_got_items = sent; host_sent_items = sent; host_got_items = back; guest_past = second_past (packets sent) (packets back); host_past = first_past (packets sent) (packets back) }

-- all packets have their items
all_items : (is : List Item) → items_of (packets is) is ≡ is
all_items [] = refl
all_items (i ∷ is) = ap (λ (l : List Item). i ∷ l) (all_items is)

plan_made : (order : Order) (served : List Served) → Suits order served → Made said_item (format_of order.kind) (keeps order.kind) (reads_so order.kind) (plan_of no_lists order) served
plan_made order served suits =
    let long : length (map Script order.asks) ≡ length order.asks = length-map order.asks Script in
    let starts : length (startup_of no_lists order) ≤ 5 = few_starts order.kind order.sub order.subs no_lists in
    let all : count_of order.stop (length (map Script order.asks)) ≡ count_of order.stop (length order.asks) = ap (count_of order.stop) long in
    made said_item (format_of order.kind) (keeps order.kind) (reads_so order.kind) (plan_of no_lists order) served
    (record { fixed = start_is_fixed order.kind order.sub order.subs no_lists; asks = script_asks order.kind order.asks suits.can })
    (omega (arith, starts, long, suits.few, length-append (startup_of no_lists order) (map Script order.asks)))
    (count_few order.stop (length (map Script order.asks)))
    (subst (λ n. Fit said_item (format_of order.kind) (keeps order.kind) (reads_so order.kind) n (1 + length (startup_of no_lists order)) (map Script order.asks) served) (sym all)
    (fit order.kind (served_count order) (1 + length (startup_of no_lists order)) order.asks served suits.can suits.serves suits.fits))

agree : (order : Order) → count_of order.stop (length {A = Want} (map Script order.asks)) ≡ served_count order
agree order = ap (count_of order.stop) (length-map order.asks Script)

-- its lists are read as they were made
record ReadAs (side : Side) (sent back : List Item) : Type 0 where
  sent_is : sent_by side (lists_of side sent back) ≡ sent
  got_is : got_by side (lists_of side sent back) ≡ back
  other_sent : sent_by (other side) (lists_of side sent back) ≡ back
  other_got : got_by (other side) (lists_of side sent back) ≡ sent

read_so : (is : List Item) → AllSo said_item is → map said_item (items_of (packets is) is) ≡ is
read_so is so = ap (map said_item) (all_items is) ∙ so_same said_item is so

read_as : (side : Side) (sent back : List Item) → AllSo said_item sent → AllSo said_item back → ReadAs side sent back
read_as Guest sent back so too = record { sent_is = read_so sent so; got_is = read_so back too; other_sent = read_so back too; other_got = read_so sent so }
read_as Host sent back so too = record { sent_is = read_so sent so; got_is = read_so back too; other_sent = read_so back too; other_got = read_so sent so }

carries : (side : Side) (order : Order) (served : List Served) → (m : Made said_item (format_of order.kind) (keeps order.kind) (reads_so order.kind) (plan_of no_lists order) served) → Carries side order no_lists (lists_of side m.sent m.back) served
carries side order served m =
    let read = read_as side m.sent m.back m.sent_so m.back_so in
    let Of : List Item × List Item × List Item × List Item → Type 0 = λ l. IsProtocolRun (format_of order.kind) (plan_of no_lists order) l.0 l.1 l.2 l.3 served (map (λ c. c.reply) (replies_to order served)) in
    let run : IsProtocolRun (format_of order.kind) (plan_of no_lists order) m.sent m.back m.back m.sent served (map (λ c. c.reply) (replies_to order served)) = record {
      front = m.runs.front;
      whole_got = m.runs.whole_got;
      answers_got = m.runs.answers_got;
      requests = m.runs.requests;
      whole = m.runs.whole;
      acks = m.runs.acks;
      all_acked = m.runs.all_acked;
      served = m.runs.served;
      started = m.runs.started;
      asked = m.runs.asked;
      count = m.runs.count;
      replies = rw (sym (length-map order.asks Script)) refl;
    } in
    subst Of (λ i. (sym read.sent_is i, sym read.got_is i, sym read.other_sent i, sym read.other_got i)) run

alone_at : (side : Side) (kind : DeviceKind) (sent back : List Item) → ReadAs side sent back → AllByRecursion (λ p. is_of_asker kind p ≡ true) sent → AllByRecursion (λ p. is_of_asker kind p ≡ true) (sent_by side (lists_of side sent back))
alone_at side kind sent back read h = subst (AllByRecursion (λ p. is_of_asker kind p ≡ true)) (sym read.sent_is) h

arrive_at : (side : Side) (order : Order) (sent back : List Item) → ItemsArrive order (lists_of side sent back)
arrive_at Guest order sent back = record { at_host = ([], sym (append-nil _)); at_guest = ([], sym (append-nil _)); whole = λ all. (refl, refl) }
arrive_at Host order sent back = record { at_host = ([], sym (append-nil _)); at_guest = ([], sym (append-nil _)); whole = λ all. (refl, refl) }

moments_at : (side : Side) (sent back : List Item) → AreOfRun (lists_of side sent back)
moments_at Guest sent back = record {
  run = makes_run (packets sent) (packets back);
  guest_sent = first_sent (packets sent) (packets back);
  guest_got = first_got (packets sent) (packets back);
  host_sent = second_sent (packets sent) (packets back);
  host_got = second_got (packets sent) (packets back);
}
moments_at Host sent back = record {
  run = ends_exchanged (first_past (packets sent) (packets back)) (second_past (packets sent) (packets back)) (makes_run (packets sent) (packets back));
  guest_sent = second_sent (packets sent) (packets back);
  guest_got = second_got (packets sent) (packets back);
  host_sent = first_sent (packets sent) (packets back);
  host_got = first_got (packets sent) (packets back);
}

turn_at : (order : Order) (sent back : List Item) → ReadAs (side_that_asks order.kind) sent back → ((t : ℕ) → count_by (asks_under (format_of order.kind) t) sent ≤ 1) → InTurn order (lists_of (side_that_asks order.kind) sent back)
turn_at order sent back read one =
    let side = side_that_asks order.kind in
    let lists = lists_of side sent back in
    let s = format_of order.kind in
    goes_once (asks_under s) (answers_under s) (events_by side lists) (λ t. omega (arith, one t, ap (count_by (asks_under s t)) (events_sent side lists (moments_at side sent back) ∙ read.sent_is)))

messages_at : (order : Order) (sent back : List Item) → ReadAs (side_that_asks order.kind) sent back → ((t : ℕ) → count_by (messages_under (format_of order.kind) t) back ≤ 1) → MessagesInTurn order (lists_of (side_that_asks order.kind) sent back)
messages_at order sent back read one =
    let side = side_that_asks order.kind in
    let lists = lists_of side sent back in
    let s = format_of order.kind in
    goes_once (messages_under s) (acks_under s) (events_by (other side) lists) (λ t. omega (arith, one t, ap (count_by (messages_under s t)) (events_sent (other side) lists (moments_at side sent back) ∙ read.other_sent)))

pub channel_made : OrdersRun
channel_made order served suits =
    let m = plan_made order served suits in
    let side = side_that_asks order.kind in
    let carried = carries side order served m in
    let lists = lists_of side m.sent m.back in
    let read = read_as side m.sent m.back m.sent_so m.back_so in (
      lists,
      record {
        tells = no_lists;
        carried = carried;
        alone = alone_at side order.kind m.sent m.back read m.alone;
        serves = serves_first_lem side order no_lists lists served suits.can carried;
        arrive = arrive_at side order m.sent m.back;
        moments = moments_at side m.sent m.back;
        turns = turn_at order m.sent m.back read m.turns;
        messages = messages_at order m.sent m.back read m.messages;
      },
    )

-- so a channel that a phase opens
abbrev pub carry : (p : Phase) (o : Opening) (served : List Served) → Suits (order_of p o) served → Carried
carry p o served suits =
    record { opening = o; run = record { phase = p.number; relid = o.relid; device = o.device; settled = (channel_made (order_of p o) served suits).0 }; served = served }

pub carried : (p : Phase) (o : Opening) (served : List Served) (suits : Suits (order_of p o) served) → IsCarried p (carry p o served suits)
carried p o served suits = record { phase = refl; relid = refl; device = refl; carried = (channel_made (order_of p o) served suits).1 }
