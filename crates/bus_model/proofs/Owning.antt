-- A page has one message of the end that serves at a time.
use Rattle.std.proofs.Common.{◌≡◌, ◌≤◌, ◌+◌, ℕ, zero, suc, Bool, true, false, List, [], ◌∷◌, ◌++◌, length, Option, Some, None, refl, sym, ap, ◌∙◌, subst, arith, append_assoc}
use Rattle.std.specs.Prelude.{◌==◌, ◌&&◌, count_by}
use Rattle.std.specs.List.{AllByRecursion}
use Rattle.std.proofs.lemmas.Bool.Decides.{nat_tests}
use Rattle.scsi_disk.proofs.RoomLaws.{by_test}
use Rattle.page_kept.specs.declared.item.Item.{Item}
use Rattle.pkt_desc.specs.Lending.{lent_of}
use Rattle.pkt_desc.specs.declared.loan.Lent.{Lent}
use Rattle.channel_trace.specs.declared.event.Event.{Event}
use Rattle.channel_trace.specs.declared.event.Event.TheVariants.{Sent}
use Rattle.channel_trace.specs.Runs.{sent_of, got_of}
use Rattle.contact.specs.declared.kind.DeviceKind.{DeviceKind}
use Rattle.contact.specs.declared.kind.DeviceKind.TheVariants.{Disk, Net}
use Rattle.channel_model.specs.Roles.{side_that_asks}
use Rattle.channel_model.specs.Lift.{or_else}
use Rattle.channel_model.specs.Server.{Serves, ServesAsk, ServesOne}
use Rattle.channel_model.specs.WireFormat.{Back, IsBack, listed, packets_in, packets_of, under_own}
use Rattle.rndis_msg.specs.declared.rndis.Rndis.{Rndis}
use Rattle.rndis_msg.specs.Grammar.{rndis_bytes}
use Rattle.net_dev.specs.Station.{initialize_reply}
use Rattle.script_lines.specs.declared.line.Ask.{Ask}
use Rattle.bus_script.specs.declared.outcome.Reply.{Reply}
use Rattle.device_kinds.specs.Formats.{format_of, lends_on}
use Rattle.device_kinds.specs.Kinds.{nets}
use Rattle.net_format.specs.Nets.{channel_type}
use Rattle.net_format.specs.PageNets.{message_of, rndis_back, transfer_packet}
use Rattle.device_kinds.proofs.KindLaws.{keeps, no_messages}
use Rattle.net_format.proofs.NetPageLaws.{of_fixed}
use Rattle.net_format.proofs.TransferLaws.{transfer_lends_own}
use Rattle.device_kinds.specs.Served.{Served}
use Rattle.ring_pair_laws.specs.Lists.{Lists}
use Rattle.bus_model.specs.Orders.{Order}
use Rattle.bus_model.specs.Channel.{IsChannelRun, acks_under, events_by, messages_under, other}
use Rattle.bus_model.specs.Laws.{LendsOwnPages, MessageLends, MessagesLendOne}
use Rattle.bus_model.proofs.Lending.{both_open, own_page, sent_around, some_at_least}

all_and : (P : Item → Type 0) (xs ys : List Item) → AllByRecursion P xs → AllByRecursion P ys → AllByRecursion P (xs ++ ys)
all_and P [] ys h k = k
all_and P (x ∷ xs) ys h k = (h.0, all_and P xs ys h.1 k)

all_at : (P : Item → Type 0) (xs ys : List Item) (x : Item) → AllByRecursion P (xs ++ x ∷ ys) → P x
all_at P [] ys x h = h.0
all_at P (y ∷ xs) ys x h = all_at P xs ys x h.1

module _ (kind : DeviceKind) where
  -- where this is a message that lends, it lends the page of its id
  abbrev IsOwn : Item → Type 0
  IsOwn p = (l : Lent) → (format_of kind).is_message p ≡ true → 1 ≤ (format_of kind).id_of p → (format_of kind).id_of p ≤ 64 → lent_of p.packet ≡ Some l → l.page ≡ 63 + (format_of kind).id_of p

  abbrev AreOwn : Option (ℕ → Item) → Type 0
  AreOwn None = Unit {0}
  AreOwn (Some m) = (own : ℕ) → IsOwn (m own)

  own_first : (own : ℕ) (o : Option (ℕ → Item)) (rest : List Item) → AreOwn o → AllByRecursion IsOwn rest → AllByRecursion IsOwn (listed (under_own own o) ++ rest)
  own_first own None rest are all = all
  own_first own (Some m) rest are all = (are own, all)

  -- an answer is no message
  own_back : (own id : ℕ) (b : Back Item) → IsBack (format_of kind) id b → AreOwn b.message → AllByRecursion IsOwn (packets_of own b)
  own_back own id b back are = own_first own b.message (b.answer ∷ []) are ((λ l is. absurd (let bad : true ≡ false = sym is ∙ back.other in cc)), tt)

-- a network's messages do so, and a disk has none
rndis_own : (m : Rndis) → AreOwn Net (Some (λ own. rndis_back own m))
unfolding rndis_back transfer_packet
rndis_own m own l is least within h = transfer_lends_own own (channel_type m) (length (rndis_bytes m)) l least within h

given_own : (kind : DeviceKind) → lends_on kind ≡ true → (i : Item) (r : Reply) → AreOwn kind ((format_of kind).gives i r).message
given_own Disk lends i r = subst (AreOwn Disk) (sym ((no_messages Disk refl).gives i r)) tt
given_own Net lends i r = of_back (or_else nets.other (nets.own_reply r)).back
  where
    of_back : (o : Option Rndis) → AreOwn Net (message_of o)
    of_back None = tt
    of_back (Some m) = rndis_own m
given_own _ lends i r = absurd (cc)

fixed_own : (kind : DeviceKind) → lends_on kind ≡ true → (i : Item) (b : Back Item) → (format_of kind).fixed i ≡ Some b → AreOwn kind b.message
fixed_own Disk lends i b is = subst (AreOwn Disk) (sym ((no_messages Disk refl).fixed i b is)) tt
fixed_own Net lends i b is = of_fixed (λ x. AreOwn Net x.message) i b tt tt tt (λ request_id. rndis_own (initialize_reply request_id)) tt is
fixed_own _ lends i b is = absurd (cc)

module _ (kind : DeviceKind) (lends : lends_on kind ≡ true) where
  abbrev All : List Item → Type 0
  All = AllByRecursion (IsOwn kind)

  -- what goes back for a packet, with the device's reply, and where it asks nothing of the device
  own_given : (own : ℕ) (p : Item) (q : Ask) (r : Reply) → (format_of kind).read p ≡ Some q → All (packets_of own ((format_of kind).gives p r))
  own_given own p q r reads =
      let s = format_of kind in
      by_test (s.waits p)
      (λ waits. own_back kind own (s.id_of p) (s.gives p r) ((keeps kind).given p r waits) (given_own kind lends p r))
      (λ silent. absurd (let bad : None ≡ Some q = sym ((keeps kind).unread p silent) ∙ reads in cc))

  own_fixed : (own : ℕ) (p : Item) → (format_of kind).read p ≡ None → All (packets_in own ((format_of kind).fixed p))
  own_fixed own p none =
      let s = format_of kind in
      by_test (s.waits p)
      (λ waits.
      let back = (keeps kind).fixes p waits none in
      subst (λ (o : Option (Back Item)). All (packets_in own o)) (sym back.1) (own_back kind own (s.id_of p) back.0 back.2 (fixed_own kind lends p back.0 back.1)))
      (λ silent. subst (λ (o : Option (Back Item)). All (packets_in own o)) (sym ((keeps kind).silent p silent)) tt)

  own_ask : (held : Bool) (p : Item) (q : Ask) (n : ℕ) (c : Served) (calls : List Served) (sent : List Item) (more : ℕ → List Served → List Item → Type 0) → (format_of kind).read p ≡ Some q
      → ((m : ℕ) (later : List Served) (rest : List Item) → more m later rest → All rest) → ServesAsk (format_of kind) held p n c calls sent more → All sent
  own_ask true p q n c calls sent more reads on h = subst All (sym h.1) tt
  own_ask false p q n c calls sent more reads on h =
      subst All (sym h.2) (all_and (IsOwn kind) (packets_of h.0 ((format_of kind).gives p c.reply)) h.1 (own_given h.0 p q c.reply reads) (on n calls h.1 h.3))

  own_one : (held : Bool) (p : Item) (o : Option Ask) (n : ℕ) (calls : List Served) (sent : List Item) (more : ℕ → List Served → List Item → Type 0) → (format_of kind).read p ≡ o
      → ((m : ℕ) (later : List Served) (rest : List Item) → more m later rest → All rest) → ServesOne (format_of kind) held p o n calls sent more → All sent
  own_one held p None n calls sent more reads on h = subst All (sym h.2) (all_and (IsOwn kind) (packets_in h.0 ((format_of kind).fixed p)) h.1 (own_fixed h.0 p reads) (on n calls h.1 h.3))
  own_one held p (Some q) zero calls sent more reads on h = subst All (sym h.1) tt
  own_one held p (Some q) (suc n) [] sent more reads on h = absurd h
  own_one held p (Some q) (suc n) (c ∷ calls) sent more reads on h = own_ask (held && n == 0) p q n c calls sent more reads on h.1

  own_served : (held : Bool) (got : List Item) (n : ℕ) (calls : List Served) (sent : List Item) → Serves (format_of kind) held got n calls sent → All sent
  own_served held [] n calls sent h = subst All (sym h.1) tt
  own_served held (p ∷ got) n calls sent h =
      own_one held p ((format_of kind).read p) n calls sent (λ m later rest. Serves (format_of kind) held got m later rest) refl (λ m later rest. own_served held got m later rest) h

module _ (order : Order) (lists : Lists) (served : List Served) (run : IsChannelRun order lists served) (lends : lends_on order.kind ≡ true) where
  -- a message lends the page of its id
  message_page : (later before : List (Event Item)) (p : Item) (l : Lent) → events_by (other (side_that_asks order.kind)) lists ≡ later ++ Sent p ∷ before → MessageLends order.kind p l → l.page ≡ 63 + (format_of order.kind).id_of p
  message_page later before p l is by =
      let all = own_served order.kind lends _ _ _ _ _ run.carried.served in
      let sent = sent_around (other (side_that_asks order.kind)) lists run.moments later before p is in
      all_at (IsOwn order.kind) (sent_of before) (sent_of later) p (subst (AllByRecursion (IsOwn order.kind)) sent all) l by.message by.least by.within by.lent

  message_at : (p : Item) (t : ℕ) → (format_of order.kind).is_message p ≡ true → (format_of order.kind).id_of p ≡ t → messages_under (format_of order.kind) t p ≡ true
  message_at p t message same =
      let id : ((format_of order.kind).id_of p == t) ≡ true = grind (arith, nat_tests, same) in
      ap (λ b. b && ((format_of order.kind).id_of p == t)) message ∙ id

  acked_between : (later between before : List (Event Item)) (first second : Item) (l m : Lent) → events_by (other (side_that_asks order.kind)) lists ≡ later ++ Sent second ∷ (between ++ Sent first ∷ before)
      → MessageLends order.kind first l → MessageLends order.kind second m → l.page ≡ m.page → 1 ≤ count_by (acks_under (format_of order.kind) ((format_of order.kind).id_of first)) (got_of between)
  acked_between later between before first second l m is by too same =
      let s = format_of order.kind in
      let t = s.id_of first in
      let earlier : events_by (other (side_that_asks order.kind)) lists ≡ (later ++ Sent second ∷ between) ++ Sent first ∷ before = is ∙ sym (append_assoc later (Sent second ∷ between) (Sent first ∷ before)) in
      let one = message_page (later ++ Sent second ∷ between) before first l earlier by in
      let two = message_page later (between ++ Sent first ∷ before) second m is too in
      let id : s.id_of second ≡ t = omega (arith, one, two, same) in
      some_at_least (count_by (acks_under s t) (got_of between)) (λ none.
      both_open (messages_under s) (acks_under s) t (events_by (other (side_that_asks order.kind)) lists) later between before first second is run.messages (message_at first t by.message refl) (message_at second t too.message id) none)

pub lends_own_lem : LendsOwnPages
lends_own_lem order lists served run lends = record { requests = own_page order lists served run lends; messages = message_page order lists served run lends }

pub messages_lend_one_lem : MessagesLendOne
messages_lend_one_lem order lists served run lends = acked_between order lists served run lends
