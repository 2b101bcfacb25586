-- A page has one request at a time.
use Rattle.std.proofs.Common.{◌≡◌, ◌≤◌, ◌+◌, ℕ, zero, suc, Bool, true, false, List, [], ◌∷◌, ◌++◌, filter, refl, sym, ap, ◌∙◌, subst, arith, append_assoc}
use Rattle.std.specs.Prelude.{◌==◌, ◌&&◌, count_by}
use Rattle.std.proofs.lemmas.Bool.Decides.{nat_tests}
use Rattle.scsi_disk.proofs.RoomLaws.{by_test}
use Rattle.page_kept.specs.declared.item.Item.{Item}
use Rattle.pkt_desc.specs.Lending.{lent_of}
use Rattle.pkt_desc.specs.declared.loan.Lent.{Lent}
use Rattle.channel_trace.specs.declared.event.Event.{Event}
use Rattle.channel_trace.specs.declared.event.Event.TheVariants.{Sent}
use Rattle.channel_trace.specs.Runs.{sent_of, got_of}
use Rattle.channel_trace.proofs.Pasts.{sent_of-append}
use Rattle.channel_model.proofs.Served.{filter_first, filter_past}
use Rattle.channel_model.specs.Asker.{Encoded}
use Rattle.channel_model.specs.Channel.{asks_of}
use Rattle.channel_model.specs.Roles.{side_that_asks}
use Rattle.channel_model.specs.WireFormat.{WireFormat}
use Rattle.script_lines.specs.declared.line.Ask.{Ask}
use Rattle.bus_script.specs.declared.outcome.Reply.{Reply}
use Rattle.device_kinds.specs.Kinds.{DeviceWant as Want}
use Rattle.device_kinds.specs.Formats.{format_of, lends_on}
use Rattle.device_kinds.proofs.KindLaws.{keeps, pages_kept}
use Rattle.device_kinds.specs.Served.{Served}
use Rattle.io_edge.specs.declared.side.Side.{Side}
use Rattle.ring_pair_laws.specs.Lists.{AreOfRun, Lists}
use Rattle.bus_model.specs.Orders.{Order, plan_of}
use Rattle.bus_model.specs.Channel.{GoesInTurn, IsChannelRun, answers_under, asks_under, events_by, sent_by}
use Rattle.bus_model.specs.Laws.{LendsBy, LendsOne}
use Rattle.bus_model.proofs.Turning.{events_sent, goes_until, stays_open}

pub some_at_least : (n : ℕ) → (n ≡ 0 → ⊥) → 1 ≤ n
some_at_least zero f = absurd (f refl)
some_at_least (suc n) f = omega arith

-- two aren't sent under one id where nothing between them closes it
pub both_open : {X : Type 0} (opens closes : ℕ → Item → Bool) (t : ℕ) (events later between before : List (Event Item)) (first second : Item) → events ≡ later ++ Sent second ∷ (between ++ Sent first ∷ before) → GoesInTurn opens closes events
    → opens t first ≡ true → opens t second ≡ true → count_by (closes t) (got_of between) ≡ 0 → X
both_open opens closes t events later between before first second is turns one two none =
    let until : GoesInTurn opens closes (between ++ Sent first ∷ before) = goes_until opens closes (later ++ Sent second ∷ []) (between ++ Sent first ∷ before) (subst (GoesInTurn opens closes) (is ∙ sym (append_assoc later (Sent second ∷ []) (between ++ Sent first ∷ before))) turns) in
    let held = (stays_open opens closes t between before first until one none).held in
    absurd (let bad : true ≡ false = sym held ∙ turns t later (between ++ Sent first ∷ before) second is two in cc)

-- what was sent before a packet, and behind it
pub sent_around : (side : Side) (lists : Lists) → AreOfRun lists → (later before : List (Event Item)) (p : Item) → events_by side lists ≡ later ++ Sent p ∷ before → sent_by side lists ≡ sent_of before ++ p ∷ sent_of later
sent_around side lists run later before p is = sym (events_sent side lists run) ∙ (ap sent_of is ∙ (sent_of-append later (Sent p ∷ before) ∙ append_assoc (sent_of before) (p ∷ []) (sent_of later)))

module _ (s : WireFormat Item Want Ask Reply) where
  first_encoded : (asks : List Want) (p : Item) (ps : List Item) → Encoded s asks (p ∷ ps) → (a : Want) × (p ≡ s.encode (s.id_of p) a)
  first_encoded [] p ps h = absurd h
  first_encoded (a ∷ asks) p ps h = (a, h.0)

  rest_encoded : (asks : List Want) (p : Item) (ps : List Item) → Encoded s asks (p ∷ ps) → (rest : List Want) × Encoded s rest ps
  rest_encoded [] p ps h = absurd h
  rest_encoded (a ∷ asks) p ps h = (asks, h.1)

  -- each request that was sent asks one of these
  encoded_at : (asks : List Want) (xs ys : List Item) (p : Item) → s.is_request p ≡ true → Encoded s asks (filter s.is_request (xs ++ p ∷ ys)) → (a : Want) × (p ≡ s.encode (s.id_of p) a)
  encoded_at asks [] ys p request h = first_encoded asks p (filter s.is_request ys) (subst (Encoded s asks) (filter_first s.is_request p ys request) h)
  encoded_at asks (x ∷ xs) ys p request h =
      by_test (s.is_request x)
      (λ too.
      let rest = rest_encoded asks x (filter s.is_request (xs ++ p ∷ ys)) (subst (Encoded s asks) (filter_first s.is_request x (xs ++ p ∷ ys) too) h) in
      encoded_at rest.0 xs ys p request rest.1)
      (λ not_so. encoded_at asks xs ys p request (subst (Encoded s asks) (filter_past s.is_request x (xs ++ p ∷ ys) not_so) h))

  asks_at : (p : Item) (t : ℕ) → s.is_request p ≡ true → s.waits p ≡ true → s.id_of p ≡ t → asks_under s t p ≡ true
  asks_at p t request waits same =
      let id : (s.id_of p == t) ≡ true = grind (arith, nat_tests, same) in
      ap (λ b. b && (s.waits p && (s.id_of p == t))) request ∙ (ap (λ b. b && (s.id_of p == t)) waits ∙ id)

module _ (order : Order) (lists : Lists) (served : List Served) (run : IsChannelRun order lists served) (lends : lends_on order.kind ≡ true) where
  -- a request lends the page of its id
  pub own_page : (later before : List (Event Item)) (p : Item) (l : Lent) → events_by (side_that_asks order.kind) lists ≡ later ++ Sent p ∷ before → LendsBy order.kind p l → l.page + 1 ≡ (format_of order.kind).id_of p
  own_page later before p l is by =
      let s = format_of order.kind in
      let sent = sent_around (side_that_asks order.kind) lists run.moments later before p is in
      let one = encoded_at s (asks_of s (plan_of run.tells order)) (sent_of before) (sent_of later) p by.asks (subst (λ (l : List Item). Encoded s (asks_of s (plan_of run.tells order)) (filter s.is_request l)) sent run.carried.requests) in
      let has : s.has_answer one.0 ≡ true = sym ((keeps order.kind).waits_ask (s.id_of p) one.0) ∙ (ap s.waits (sym one.1) ∙ by.waits) in
      (pages_kept order.kind lends).lent (s.id_of p) one.0 l by.least by.within has (ap (λ (i : Item). lent_of i.packet) (sym one.1) ∙ by.lent)

  taken_between : (later between before : List (Event Item)) (first second : Item) (l m : Lent) → events_by (side_that_asks order.kind) lists ≡ later ++ Sent second ∷ (between ++ Sent first ∷ before)
      → LendsBy order.kind first l → LendsBy order.kind second m → l.page ≡ m.page → 1 ≤ count_by (answers_under (format_of order.kind) ((format_of order.kind).id_of first)) (got_of between)
  taken_between later between before first second l m is by too same =
      let s = format_of order.kind in
      let t = s.id_of first in
      let earlier : events_by (side_that_asks order.kind) lists ≡ (later ++ Sent second ∷ between) ++ Sent first ∷ before = is ∙ sym (append_assoc later (Sent second ∷ between) (Sent first ∷ before)) in
      let one = own_page (later ++ Sent second ∷ between) before first l earlier by in
      let two = own_page later (between ++ Sent first ∷ before) second m is too in
      let id : s.id_of second ≡ t = omega (arith, one, two, same) in
      some_at_least (count_by (answers_under s t) (got_of between)) (λ none.
      both_open (asks_under s) (answers_under s) t (events_by (side_that_asks order.kind) lists) later between before first second is run.turns (asks_at s first t by.asks by.waits refl) (asks_at s second t too.asks too.waits id) none)

pub lends_one_lem : LendsOne
lends_one_lem order lists served run lends = taken_between order lists served run lends
