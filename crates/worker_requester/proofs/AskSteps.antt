-- The asking worker's steps keep what it keeps.
use Rattle.page_kept.specs.declared.item.Item.{Item}
use Rattle.std.proofs.Common.{◌≡◌, ℕ, ◌+◌, ◌-◌, ◌<◌, ◌≤◌, ◌^◌, List, [], ◌∷◌, ◌++◌, length, drop, filter, map, replicate, refl, sym, ap, ◌∙◌, subst, arith, Option, Some, None, Bool, true, false, cond, count_by, is_some, inl, inr}
use Rattle.std.specs.Prelude.{◌==◌, ◌||◌, ◌⊎◌, if◌then◌else◌, nat_lt, slice_get, slice_set}
use Rattle.std.proofs.lemmas.List.{append-nil, map-append, drop_all, drop-append-le, length-append, length-drop, length-set}
use Rattle.std.proofs.lemmas.List.Elements.{filter-append}
use Rattle.std.proofs.lemmas.List.Sums.{count_by-le-length}
use Rattle.std.proofs.lemmas.Option.{slice_get_within}
use Rattle.std.proofs.lemmas.Bool.Decides.{nat_tests}
use Rattle.channel_trace.specs.declared.event.Event.{Event}
use Rattle.channel_trace.specs.declared.event.Event.TheVariants.{Sent, Got, Empty, Marked, Saw}
use Rattle.channel_trace.specs.Runs.{sent_of, got_of, has_marked, has_seen, is_drained}
use Rattle.channel_trace.proofs.Pasts.{drained_seen, follows_unmarked}
use Rattle.ring_core.specs.declared.room.Room.{Room as SpareRoom}
use Rattle.ring_core.specs.declared.told.Told.{Told}
use Rattle.ring_core.specs.Seen.{Seen}
use Rattle.ring_core.specs.Told.{Tale}
use Rattle.txn_table.specs.Open.{request_of}
use Rattle.channel_model.specs.WireFormat.{WireFormat, Keeps}
use Rattle.channel_model.specs.Acks.{acks_for}
use Rattle.channel_model.specs.Asker.{Encoded, opened, said, since, under, without, open_of, requests_of}
use Rattle.channel_model.specs.Channel.{AskerBreaks}
use Rattle.channel_model.specs.Workers.{ask_of, Apart, AskerKept, AcksKept}
use Rattle.channel_model.specs.Amounts.{room_of, besides_of, AsksAtMost}
use Rattle.channel_model.proofs.Acking.{acks_whole, acks_new, acks_came, acks_gave, acks_asked, acks_quiet}
use Rattle.channel_model.proofs.Amounts.{asks_at_most, kinds_asked, kinds_acked}
use Rattle.channel_model.proofs.Opens.{by_test}
use Rattle.channel_model.proofs.Asking.{since_more, under_more, asker_accepted, asker_sent, asker_told, asker_answered, asker_stray, asker_came, asker_acked, asker_breaks, asker_open, asker_empty, asker_marked, asker_saw, asker_settled, asker_stopped}
use Rattle.worker_port.specs.Line.{Line, SleepsFor, page_words}
use Rattle.worker_requester.specs.Asking.{AckFull, Asking, AskLacks, AskedFrom, EndTried, EndsAcked, EverTried, GoesFree, IsAsking, IsPaced, LeavesAcks, LeavesTried, AsksAll, Holds, HoldTried, RestsTried, HasSettled, AskerLacks, LacksNext, id_in, answer_of, ask_at, asked_in, waits_in, waits_under, want_by, pending, AsksOn, AsksBy}
use Rattle.worker_requester.specs.declared.requester.Blocked.{Blocked}
use Rattle.worker_requester.specs.declared.requester.Blocked.TheVariants.{Done, Place, Answer, Ack, Room}
use Rattle.worker_port.specs.declared.ended.Ended.{Ended}
use Rattle.worker_port.specs.declared.ended.Ended.TheVariants.{Marked as EndMarked, PeerMarked as EndPeerMarked, Room as EndRoom, Broken as EndBroken}
use Rattle.worker_port.specs.Owed.{IsNeed, MetFull}
use Rattle.worker_port.specs.Tries.{FoundFull, FoundNone, FoundNothing, MarkedOnce}
use Rattle.worker_port.specs.Rooms.{AreShort, AskedWithin, CameOver, HasReservedSent, KeepsRoom, SaysWhy}
use Rattle.worker_port.proofs.RoomLaws.{asks_over, ask_left, ack_left, takes_over}
use Rattle.worker_port.specs.declared.ended.Turn.TheVariants.{Ended as TurnEnded}
use Rattle.worker_requester.specs.Causes.{AskCause}
use Rattle.worker_requester.specs.Acking.{IsNext}
use Rattle.worker_requester.proofs.NextLaws.{acks_skipped, first_of}
use Rattle.worker_requester.proofs.Tables.{set_request, some_within, count_less, none_open, none_in}

not_both : {X : Type 0} (b : Bool) → b ≡ false → b ≡ true → X
not_both b e f = absurd (cc)

some_same : {X : Type 0} (x y : X) → Some x ≡ Some y → x ≡ y
some_same x y e = cc

some_none : {Y X : Type 0} (x : X) → Some x ≡ None → Y
some_none x e = absurd (cc)

kept_if : (b : Bool) (x : Option ℕ) (k : ℕ) → (if b then None else x) ≡ Some k → x ≡ Some k
kept_if true x k e = some_none k (sym e)
kept_if false x k e = e

set_if : (b : Bool) (n : ℕ) (x : Option ℕ) (k : ℕ) → (if b then Some n else x) ≡ Some k → {Y : Type 0} → (n ≡ k → Y) → (x ≡ Some k → Y) → Y
set_if true n x k e f g = f (some_same n k e)
set_if false n x k e f g = g e

module _ {A : Type 0} where
  ask_if : (asks : List A) (b : Bool) (x : Option ℕ) → ask_at asks (if b then None else x) ≡ (if b then None else ask_at asks x)
  ask_if asks true x = refl
  ask_if asks false x = refl

  ask_set : (asks : List A) (b : Bool) (k : ℕ) (a : A) (x : Option ℕ) → slice_get asks k ≡ Some a → ask_at asks (if b then Some k else x) ≡ (if b then Some a else ask_at asks x)
  ask_set asks true k a x e = e
  ask_set asks false k a x e = refl

module _ {A Q R : Type 0} (s : WireFormat Item A Q R) where
  -- who waits under no such id
  not_waiting : (todo : List A) (waiting : Option ℕ) (id : ℕ) → waits_under waiting id ≡ false → under s id (waits_in todo waiting) ≡ None
  not_waiting todo None id e = refl
  not_waiting [] (Some w) id e = refl
  not_waiting (a ∷ todo) (Some w) id e = ap (λ b. cond b (Some (w, a)) None) e

  -- what waits isn't open
  -- one that stands last is found, or another one of that id
  last_found : {Y : Type 0} (os : List (ℕ × A)) (id : ℕ) (a : A) → under s id (os ++ (id, a) ∷ []) ≡ None → Y
  last_found [] id a e = let here : (id == id) ≡ true = grind (arith, nat_tests) in some_none (id, a) (sym (ap (λ b. cond b (Some (id, a)) None) here) ∙ e)
  last_found {Y = Y} (o ∷ os) id a e =
      by_test {P = Y} (o.0 == id)
      (λ f. some_none o (sym (ap (λ b. cond b (Some o) (under s id (os ++ (id, a) ∷ []))) f) ∙ e))
      (λ f. last_found os id a (sym (ap (λ b. cond b (Some o) (under s id (os ++ (id, a) ∷ []))) f) ∙ e))

  apart_last : (os : List (ℕ × A)) (id : ℕ) (a : A) → Apart s (os ++ (id, a) ∷ []) → under s id os ≡ None
  apart_last [] id a h = refl
  apart_last (o ∷ os) id a h =
      by_test (o.0 == id)
      (λ e. let same : o.0 ≡ id = grind (arith, nat_tests, e) in last_found os id a (subst (λ k. under s k (os ++ (id, a) ∷ []) ≡ None) same h.0))
      (λ e. ap (λ b. cond b (Some o) (under s id os)) e ∙ apart_last os id a h.1)

  said_answer : (o : Option (ℕ × A)) (found : Option A) (before : Option Item) (p : Item) → found ≡ ask_of o → said s o before p ≡ answer_of s found before p
  said_answer None found before p e = ap (λ f. answer_of s f before p) (sym e)
  said_answer (Some o) found before p e = ap (λ f. answer_of s f before p) (sym e)

  -- what came last, where it is no answer: the last packet of the list tells
  pub last_of : (got : List Item) (q : Item) → since s None (got ++ q ∷ []) ≡ cond (s.is_answer q) None (Some q)
  last_of got q = since_more s None got q

cond_none : {A : Type 0} (b : Bool) → cond {A = List A} b [] [] ≡ []
cond_none true = refl
cond_none false = refl

module _ {A Q R : Type 0} (s : WireFormat Item A Q R) where
  -- what comes opens nothing
  none_opens : (p : Item) (os : List (ℕ × A)) → os ≡ [] → cond (s.is_answer p) (without s (s.id_of p) os) os ≡ []
  none_opens p os none = ap (λ l. cond (s.is_answer p) (without s (s.id_of p) l) l) none ∙ cond_none (s.is_answer p)

  -- where no id has a request, none is open
  none_left : (os ws : List (ℕ × A)) → ((id : ℕ) → ask_of (under s id (os ++ ws)) ≡ None) → os ≡ []
  none_left [] ws h = refl
  none_left (o ∷ os) ws h =
      let same : (o.0 == o.0) ≡ true = grind (arith, nat_tests) in
      some_none o.1 (sym (ap ask_of (ap (λ b. cond b (Some o) (under s o.0 (os ++ ws))) same)) ∙ h o.0)

  pub encoded_few : (asks : List A) (ps : List Item) → Encoded s asks ps → length ps ≤ length asks
  encoded_few asks [] enc = omega arith
  encoded_few [] (p ∷ ps) enc = absurd enc
  encoded_few (a ∷ asks) (p ∷ ps) enc = omega (arith, encoded_few asks ps enc.1)

module _ {A Q R : Type 0} (s : WireFormat Item A Q R) where
  -- the packet at the place of a message is that message
  pub message_here : (got : List Item) (k : ℕ) (m p : Item) → slice_get got k ≡ Some m → s.is_message m ≡ true → slice_get got k ≡ Some p → s.is_message p ≡ true
  message_here got k m p at is here = ap s.is_message (some_same p m (sym here ∙ at)) ∙ is

module _ {T S A Q R : Type 0} (s : WireFormat Item A Q R) (asks : List A) (w : Asking T S R) where
  -- as many requests were sent as stand before the next one
  sent_next : IsAsking s asks w → length (requests_of s w.end.state.past) ≡ w.next
  sent_next h =
      let few = encoded_few s asks (requests_of s w.end.state.past) h.kept.encoded in
      omega (arith, few, h.within, length-drop (length (requests_of s w.end.state.past)) asks, length-drop w.next asks, ap length h.kept.rest)

  -- none is open where the table is empty
  none_stands : IsAsking s asks w → count_by is_some w.table ≡ 0 → open_of s asks w.end.state.past ≡ []
  none_stands h none = none_left s (open_of s asks w.end.state.past) (waits_in (drop w.next asks) w.waiting) (λ id. sym (h.kept.opens id) ∙ ap (ask_at asks) (none_open w.table none id))

some_there : (o : Option ℕ) → is_some o ≡ true → (k : ℕ) × (o ≡ Some k)
some_there None e = absurd (cc)
some_there (Some k) e = (k, refl)

module _ {A Q R : Type 0} (s : WireFormat Item A Q R) where
  -- with one id closed, what stands under the others
  other_there : (os : List (ℕ × A)) (o : ℕ × A) (rs rs' : List (Option ℕ)) → under s o.0 os ≡ None → ((j : ℕ) → request_of rs' j ≡ (if j == o.0 then None else request_of rs j))
      → ((j : ℕ) → is_some (under s j (o ∷ os)) ≡ true → is_some (request_of rs j) ≡ true) → (j : ℕ) → is_some (under s j os) ≡ true → is_some (request_of rs' j) ≡ true
  other_there os o rs rs' none close all j there =
      by_test (o.0 == j)
      (λ e. let same : o.0 ≡ j = grind (arith, nat_tests, e) in not_both (is_some (under s j os)) (ap (λ k. is_some (under s k os)) (sym same) ∙ ap is_some none) there)
      (λ e. let other : (j == o.0) ≡ false = grind (arith, nat_tests, e) in
      ap is_some (close j ∙ ap (λ b. if b then None else request_of rs j) other) ∙ all j (ap (λ b. is_some (cond b (Some o) (under s j os))) e ∙ there))

  -- no more are open, each under an id of its own that has a request in the table, than the table has requests
  few_open : (os : List (ℕ × A)) (rs : List (Option ℕ)) → Apart s os → ((j : ℕ) → is_some (under s j os) ≡ true → is_some (request_of rs j) ≡ true) → length os ≤ count_by is_some rs
  few_open [] rs apart all = omega arith
  few_open (o ∷ os) rs apart all =
      let here : (o.0 == o.0) ≡ true = grind (arith, nat_tests) in
      let k = some_there (request_of rs o.0) (all o.0 (ap (λ b. is_some (cond b (Some o) (under s o.0 os))) here)) in
      let at = some_within rs o.0 k.0 k.1 in
      let rs' : List (Option ℕ) = slice_set rs (o.0 - 1) None in
      omega (arith, few_open os rs' apart.1 (other_there os o rs rs' apart.0 (λ j. set_request rs o.0 None j at.0 at.1) all), count_less rs o.0 k.0 k.1)

some_at : {A : Type 0} (asks : List A) (o : Option ℕ) → is_some (ask_at asks o) ≡ true → is_some o ≡ true
some_at asks None e = e
some_at asks (Some k) e = refl

some_ask : {A : Type 0} (o : Option (ℕ × A)) → is_some o ≡ true → is_some (ask_of o) ≡ true
some_ask None e = e
some_ask (Some o) e = refl

module _ {T S A Q R : Type 0} (s : WireFormat Item A Q R) (asks : List A) (w : Asking T S R) where
  -- the request that waits goes under an id that is free among those that were sent
  pub goes_free : (id : ℕ) (a : A) (p : Item) → w.waiting ≡ Some id → slice_get asks w.next ≡ Some a → s.id_of p ≡ id → IsAsking s asks w → GoesFree s (length w.table) asks p w.end.state.past
  goes_free id a p waits at own h =
      let os : List (ℕ × A) = open_of s asks w.end.state.past in
      let here : waits_in (drop w.next asks) w.waiting ≡ (id, a) ∷ [] = ap (waits_in (drop w.next asks)) waits ∙ ap (λ l. waits_in l (Some id)) (first_of asks w.next a at) in
      let apart : Apart s (os ++ (id, a) ∷ []) = subst (λ l. Apart s (os ++ l)) here h.kept.apart in
      let none : under s id os ≡ None = apart_last s os id a apart in
      let opens : (j : ℕ) → asked_in asks w.table j ≡ ask_of (under s j (os ++ (id, a) ∷ [])) = λ j. h.kept.opens j ∙ ap (λ l. ask_of (under s j (os ++ l))) here in
      let all : (j : ℕ) → is_some (under s j (os ++ (id, a) ∷ [])) ≡ true → is_some (request_of w.table j) ≡ true =
      λ j there. some_at asks (request_of w.table j) (ap is_some (opens j) ∙ some_ask (under s j (os ++ (id, a) ∷ [])) there) in
      let same : (id == id) ≡ true = grind (arith, nat_tests) in
      let stands : asked_in asks w.table id ≡ Some a = opens id ∙ (under_more s os (id, a) id none ∙ ap (λ b. if b then Some a else ask_of (under s id os)) same) in
      let k = some_there (request_of w.table id) (some_at asks (request_of w.table id) (ap is_some stands)) in
      let within = some_within w.table id k.0 k.1 in
      record {
        least = omega (arith, within.0, own);
        within = omega (arith, within.1, own);
        none = ap (λ j. under s j os) own ∙ none;
        fewer = omega (arith, few_open s (os ++ (id, a) ∷ []) w.table apart all, length-append os ((id, a) ∷ []), count_by-le-length is_some w.table);
      }

module _ {T S A Q R : Type 0} (s : WireFormat Item A Q R) (keeps : Keeps s) (asks : List A) (w : Asking T S R) where
  -- the table as a map, and what waits
  abbrev tabled : ℕ → Option A
  tabled = asked_in asks w.table

  abbrev todo : List A
  todo = drop w.next asks

  -- what is still to be looked at, once one more came
  came_more : (got' : List Item) (p : Item) → got' ≡ w.end.state.got ++ p ∷ [] → IsAsking s asks w → AcksKept s (Got p ∷ w.end.state.past) (drop w.acked got')
  came_more got' p more h =
      subst (AcksKept s (Got p ∷ w.end.state.past)) (sym (ap (drop w.acked) more ∙ drop-append-le w.acked w.end.state.got (p ∷ []) h.looked)) (acks_came s w.end.state.past (drop w.acked w.end.state.got) p h.acks)

  looked_more : (got' : List Item) (p : Item) → got' ≡ w.end.state.got ++ p ∷ [] → IsAsking s asks w → w.acked ≤ length got'
  looked_more got' p more h = omega (arith, h.looked, ap length more, length-append w.end.state.got (p ∷ []))

  pub empty_kept : (end' : Line S) → end'.state.past ≡ Empty ∷ w.end.state.past → end'.state.got ≡ w.end.state.got → end'.state.machine.asleep ≡ false → IsAsking s asks w → IsAsking s asks (record w { end = end' })
  empty_kept end' is got awake h = record {
    kept = rw is (asker_empty s asks w.end.state.past todo (waits_in todo w.waiting) tabled w.told h.kept);
    acks = rw (is, got) (acks_quiet s w.end.state.past Empty (drop w.acked w.end.state.got) refl refl h.acks);
    kinds = rw is h.kinds;
    looked = omega (arith, h.looked, ap length got);
    within = h.within;
    places = h.places;
    asked = h.asked;
    saw = ap has_seen is ∙ h.saw;
    rests = λ e. not_both end'.state.machine.asleep awake e;
    paced = subst (IsPaced s w.starts asks) (sym is) h.paced;
    alone = λ id e few. ap (open_of s asks) is ∙ h.alone id e few;
    from = subst (AskedFrom s (length w.table) asks) (sym is) h.from;
  }

  pub saw_kept : (end' : Line S) (hold' : Blocked) → end'.state.past ≡ Saw ∷ w.end.state.past → end'.state.got ≡ w.end.state.got → end'.state.machine.asleep ≡ false → IsAsking s asks w → IsAsking s asks (record w { end = end'; seen = true; hold = hold' })
  saw_kept end' hold' is got awake h = record {
    kept = rw is (asker_saw s asks w.end.state.past todo (waits_in todo w.waiting) tabled w.told h.kept);
    acks = rw (is, got) (acks_quiet s w.end.state.past Saw (drop w.acked w.end.state.got) refl refl h.acks);
    kinds = rw is h.kinds;
    looked = omega (arith, h.looked, ap length got);
    within = h.within;
    places = h.places;
    asked = h.asked;
    saw = ap has_seen is;
    rests = λ e. not_both end'.state.machine.asleep awake e;
    paced = subst (IsPaced s w.starts asks) (sym is) h.paced;
    alone = λ id e few. ap (open_of s asks) is ∙ h.alone id e few;
    from = subst (AskedFrom s (length w.table) asks) (sym is) h.from;
  }

  -- nothing was done that the peer sees
  pub still_kept : (end' : Line S) (hold' : Blocked) → end'.state.past ≡ w.end.state.past → end'.state.got ≡ w.end.state.got → (end'.state.machine.asleep ≡ true → Holds s asks hold' (record w { end = end'; hold = hold' }) × SleepsFor (want_by hold') end' × (w.seen ≡ false))
      → IsAsking s asks w → IsAsking s asks (record w { end = end'; hold = hold' })
  still_kept end' hold' is got rests h = record {
    kept = rw is h.kept;
    acks = rw (is, got) h.acks;
    kinds = rw is h.kinds;
    looked = omega (arith, h.looked, ap length got);
    within = h.within;
    places = h.places;
    asked = h.asked;
    saw = ap has_seen is ∙ h.saw;
    rests = rests;
    paced = subst (IsPaced s w.starts asks) (sym is) h.paced;
    alone = λ id e few. ap (open_of s asks) is ∙ h.alone id e few;
    from = subst (AskedFrom s (length w.table) asks) (sym is) h.from;
  }

  -- a try that sent nothing
  pub tried_kept : (end' : Line S) → end'.state.past ≡ w.end.state.past → end'.state.got ≡ w.end.state.got → end'.state.machine.asleep ≡ false → IsAsking s asks w → IsAsking s asks (record w { end = end' })
  tried_kept end' is got awake h = still_kept end' w.hold is got (λ asleep. absurd (let bad : true ≡ false = sym asleep ∙ awake in cc)) h

  -- an answer was taken: the packet that came just before it is read with it, where that was none
  pub took_kept : (end' : Line S) (table' : List (Option ℕ)) (told' : List R) (p : Item) → s.is_answer p ≡ true → got_of w.end.state.past ≡ w.end.state.got → end'.state.past ≡ Got p ∷ w.end.state.past
      → end'.state.got ≡ w.end.state.got ++ p ∷ [] → end'.state.machine.asleep ≡ false → waits_under w.waiting (s.id_of p) ≡ false
      → ((j : ℕ) → request_of table' j ≡ (if j == s.id_of p then None else request_of w.table j)) → told' ≡ w.told ++ answer_of s (asked_in asks w.table (s.id_of p)) (since s None w.end.state.got) p → length table' ≡ length w.table → IsAsking s asks w
      → IsAsking s asks (record w { end = end'; table = table'; told = told' })
  took_kept end' table' told' p answers line is more awake free set new size h =
      let other = not_waiting s todo w.waiting (s.id_of p) free in
      let open' = asker_open s asks w.end.state.past todo (waits_in todo w.waiting) tabled w.told (s.id_of p) other h.kept in
      let before : Option Item = since s None (got_of w.end.state.past) in
      let says : told' ≡ w.told ++ said s (under s (s.id_of p) (open_of s asks w.end.state.past)) before p =
      new ∙ (ap (λ g. w.told ++ answer_of s (tabled (s.id_of p)) (since s None g) p) (sym line)
      ∙ ap (λ l. w.told ++ l) (sym (said_answer s (under s (s.id_of p) (open_of s asks w.end.state.past)) (tabled (s.id_of p)) before p open'))) in
      let set' : (j : ℕ) → asked_in asks table' j ≡ (if j == s.id_of p then None else tabled j) = λ j. ap (ask_at asks) (set j) ∙ ask_if asks (j == s.id_of p) (request_of w.table j) in
      record {
        kept = rw (is, says) (asker_answered s asks w.end.state.past todo (waits_in todo w.waiting) tabled (asked_in asks table') w.told p answers other set' h.kept);
        acks = rw is (came_more end'.state.got p more h);
        kinds = rw is h.kinds;
        looked = looked_more end'.state.got p more h;
        within = h.within;
        places = λ id k e. h.places id k (kept_if (id == s.id_of p) (request_of w.table id) k (sym (set id) ∙ e));
        asked = h.asked;
        saw = ap has_seen is ∙ h.saw;
        rests = λ e. not_both end'.state.machine.asleep awake e;
        paced = subst (IsPaced s w.starts asks) (sym is) h.paced;
        alone = λ id e few. ap (open_of s asks) is ∙ none_opens s p (open_of s asks w.end.state.past) (h.alone id e few);
        from = subst (AskedFrom s (length table') asks) (sym is) (subst (λ n. AskedFrom s n asks w.end.state.past) (sym size) h.from);
      }

  -- a packet was taken that is no answer
  pub came_kept : (end' : Line S) (p : Item) → s.is_answer p ≡ false → end'.state.past ≡ Got p ∷ w.end.state.past → end'.state.got ≡ w.end.state.got ++ p ∷ [] → end'.state.machine.asleep ≡ false → IsAsking s asks w
      → IsAsking s asks (record w { end = end' })
  came_kept end' p none is more awake h = record {
    kept = rw is (asker_came s asks w.end.state.past todo (waits_in todo w.waiting) tabled w.told p none h.kept);
    acks = rw is (came_more end'.state.got p more h);
    kinds = rw is h.kinds;
    looked = looked_more end'.state.got p more h;
    within = h.within;
    places = h.places;
    asked = h.asked;
    saw = ap has_seen is ∙ h.saw;
    rests = λ e. not_both end'.state.machine.asleep awake e;
    paced = subst (IsPaced s w.starts asks) (sym is) h.paced;
    alone = λ id e few. ap (open_of s asks) is ∙ none_opens s p (open_of s asks w.end.state.past) (h.alone id e few);
    from = subst (AskedFrom s (length w.table) asks) (sym is) h.from;
  }

  -- the packets before the next message were passed over
  pub skipped_kept : (next : ℕ) → IsNext s w.end.state.got w.acked next → w.end.state.machine.asleep ≡ false → IsAsking s asks w → IsAsking s asks (record w { acked = next })
  skipped_kept next is awake h = record {
    kept = h.kept;
    acks = acks_skipped s w.end.state.got w.end.state.past w.acked next is h.acks;
    kinds = h.kinds;
    looked = is.within;
    within = h.within;
    places = h.places;
    asked = h.asked;
    saw = h.saw;
    rests = λ e. not_both w.end.state.machine.asleep awake e;
    paced = h.paced;
    alone = h.alone;
    from = h.from;
  }

  -- the next message was acknowledged
  pub acked_kept : (end' : Line S) (m p : Item) → slice_get w.end.state.got w.acked ≡ Some m → s.is_message m ≡ true → p ≡ s.ack m → end'.state.past ≡ Sent p ∷ w.end.state.past → end'.state.got ≡ w.end.state.got
      → end'.state.machine.asleep ≡ false → IsAsking s asks w → IsAsking s asks (record w { end = end'; acked = w.acked + 1 })
  acked_kept end' m p at is_message made is got awake h =
      let silent : s.is_request (s.ack m) ≡ false = keeps.ack_asks (s.ack m) (keeps.acks m is_message).0 in
      let first : drop w.acked w.end.state.got ≡ m ∷ drop (w.acked + 1) w.end.state.got = first_of w.end.state.got w.acked m at in
      let opens : open_of s asks (Sent (s.ack m) ∷ w.end.state.past) ≡ open_of s asks w.end.state.past =
      ap (λ b. cond b (open_of s asks w.end.state.past ++ opened s (s.ack m) (drop (length (requests_of s w.end.state.past)) asks)) (open_of s asks w.end.state.past)) silent in
      record {
        kept = rw (is, made) (asker_acked s keeps asks w.end.state.past todo (waits_in todo w.waiting) tabled w.told m is_message h.kept);
        acks = rw (is, made, got) (acks_gave s keeps w.end.state.past m (drop (w.acked + 1) w.end.state.got) is_message (subst (AcksKept s w.end.state.past) first h.acks));
        kinds = rw (is, made) (kinds_acked s w.end.state.past (s.ack m) (keeps.acks m is_message).0 h.kinds);
        looked = omega (arith, slice_get_within w.end.state.got w.acked m at, ap length got);
        within = h.within;
        places = h.places;
        asked = h.asked;
        saw = ap has_seen is ∙ h.saw;
        rests = λ e. not_both end'.state.machine.asleep awake e;
        paced = subst (IsPaced s w.starts asks) (sym is) (λ asks_one. not_both (s.is_request p) (ap s.is_request made ∙ silent) asks_one, h.paced);
        alone = λ id e few. ap (open_of s asks) (is ∙ ap (λ q. Sent q ∷ w.end.state.past) made) ∙ (opens ∙ h.alone id e few);
        from = subst (AskedFrom s (length w.table) asks) (sym is) (λ waits. not_both (s.waits p) (keeps.asks p (ap s.is_request made ∙ silent)) waits, h.from);
      }

module _ {T S A Q R : Type 0} (s : WireFormat Item A Q R) (keeps : Keeps s) (asks : List A) (w : Asking T S R) where
  -- an answer to the request that isn't sent yet was dropped
  pub stray_kept : (end' : Line S) (p : Item) (id : ℕ) → s.is_answer p ≡ true → w.waiting ≡ Some id → end'.state.past ≡ Got p ∷ w.end.state.past → end'.state.got ≡ w.end.state.got ++ p ∷ [] → end'.state.machine.asleep ≡ false → (id == s.id_of p) ≡ true → IsAsking s asks w
      → IsAsking s asks (record w { end = end' })
  stray_kept end' p id answers waits is more awake same h =
      let a = h.asked id waits in
      let first = first_of asks w.next a.0 a.1 in
      let here : waits_in (drop w.next asks) w.waiting ≡ (id, a.0) ∷ [] = ap (waits_in (drop w.next asks)) waits ∙ ap (λ l. waits_in l (Some id)) first in
      let is_id : id ≡ s.id_of p = grind (arith, nat_tests, same) in
      let apart : Apart s (open_of s asks w.end.state.past ++ (s.id_of p, a.0) ∷ []) =
      subst (λ k. Apart s (open_of s asks w.end.state.past ++ (k, a.0) ∷ [])) is_id (subst (λ l. Apart s (open_of s asks w.end.state.past ++ l)) here h.kept.apart) in
      record {
        kept = rw is (asker_stray s asks w.end.state.past (drop w.next asks) (waits_in (drop w.next asks) w.waiting) (asked_in asks w.table) w.told p answers (apart_last s (open_of s asks w.end.state.past) (s.id_of p) a.0 apart) h.kept);
        acks = rw is (came_more s keeps asks w end'.state.got p more h);
        kinds = rw is h.kinds;
        looked = looked_more s keeps asks w end'.state.got p more h;
        within = h.within;
        places = h.places;
        asked = h.asked;
        saw = ap has_seen is ∙ h.saw;
        rests = λ e. not_both end'.state.machine.asleep awake e;
        paced = subst (IsPaced s w.starts asks) (sym is) h.paced;
        alone = λ j e few. ap (open_of s asks) is ∙ none_opens s p (open_of s asks w.end.state.past) (h.alone j e few);
        from = subst (AskedFrom s (length w.table) asks) (sym is) h.from;
      }

  -- the next request got a free id
  pub accepted_kept : (table' : List (Option ℕ)) (id : ℕ) (a : A) → slice_get asks w.next ≡ Some a → s.has_answer a ≡ true → w.waiting ≡ None → 1 ≤ id → id ≤ length w.table → length w.table ≤ 64 → request_of w.table id ≡ None
      → (w.next ≤ w.starts → count_by is_some w.table ≡ 0) → table' ≡ slice_set w.table (id - 1) (Some w.next) → w.end.state.machine.asleep ≡ false → IsAsking s asks w → IsAsking s asks (record w { table = table'; waiting = Some id })
  accepted_kept table' id a at answers none one le few free alone is awake h =
      let first = first_of asks w.next a at in
      let none' : waits_in (drop w.next asks) w.waiting ≡ [] = ap (waits_in (drop w.next asks)) none in
      let here : waits_in (drop w.next asks) (Some id) ≡ (id, a) ∷ [] = ap (λ l. waits_in l (Some id)) first in
      let set : (j : ℕ) → request_of table' j ≡ (if j == id then Some w.next else request_of w.table j) = λ j. ap (λ l. request_of l j) is ∙ set_request w.table id (Some w.next) j one le in
      let set' : (j : ℕ) → asked_in asks table' j ≡ (if j == id then Some a else asked_in asks w.table j) = λ j. ap (ask_at asks) (set j) ∙ ask_set asks (j == id) w.next a (request_of w.table j) at in
      let k = subst (λ l. AskerKept s asks w.end.state.past (drop w.next asks) l (asked_in asks w.table) w.told) none' h.kept in
      record {
        kept = subst (λ l. AskerKept s asks w.end.state.past (drop w.next asks) l (asked_in asks table') w.told) (sym here)
            (asker_accepted s asks w.end.state.past (drop w.next asks) (asked_in asks w.table) (asked_in asks table') w.told id a (ap (ask_at asks) free) set' k);
        acks = h.acks;
        kinds = h.kinds;
        looked = h.looked;
        within = h.within;
        places = λ j k e. set_if (j == id) w.next (request_of w.table j) k (sym (set j) ∙ e) (λ same. subst (λ n. n < length asks) same (slice_get_within asks w.next a at)) (λ f. h.places j k f);
        asked = λ j e. (a, at, answers, subst (λ n. n < 2 ^ 64) (some_same id j e) (omega (arith, le, few)));
        saw = h.saw;
        rests = λ e. not_both w.end.state.machine.asleep awake e;
        paced = h.paced;
        alone = λ j e few. none_stands s asks w h (alone few);
        from = subst (λ n. AskedFrom s n asks w.end.state.past) (sym (ap length is ∙ length-set w.table (id - 1) (Some w.next))) h.from;
      }

  -- it was sent
  pub sent_kept : (end' : Line S) (id : ℕ) (a : A) (p : Item) → slice_get asks w.next ≡ Some a → w.waiting ≡ Some id → p ≡ s.encode id a → end'.state.past ≡ Sent p ∷ w.end.state.past → end'.state.got ≡ w.end.state.got → end'.state.machine.asleep ≡ false
      → w.seen ≡ false → IsAsking s asks w → IsAsking s asks (record w { end = end'; next = w.next + 1; waiting = None })
  sent_kept end' id a p at waits made is got awake unseen h =
      let asked = h.asked id waits in
      let same_ask : asked.0 ≡ a = some_same asked.0 a (sym asked.1 ∙ at) in
      let answers : s.has_answer a ≡ true = ap s.has_answer (sym same_ask) ∙ asked.2 in
      let first = first_of asks w.next a at in
      let here : waits_in (drop w.next asks) w.waiting ≡ (id, a) ∷ [] = ap (waits_in (drop w.next asks)) waits ∙ ap (λ l. waits_in l (Some id)) first in
      let k : AskerKept s asks w.end.state.past (a ∷ drop (w.next + 1) asks) ((id, a) ∷ []) (asked_in asks w.table) w.told =
      subst (λ l. AskerKept s asks w.end.state.past l ((id, a) ∷ []) (asked_in asks w.table) w.told) first
      (subst (λ l. AskerKept s asks w.end.state.past (drop w.next asks) l (asked_in asks w.table) w.told) here h.kept) in
      let same : s.id_of (s.encode id a) ≡ id = keeps.id_kept id a asked.3 answers in
      let waits' : s.waits (s.encode id a) ≡ true = keeps.waits_ask id a ∙ answers in
      let opens : (id, a) ∷ [] ≡ opened s (s.encode id a) (a ∷ drop (w.next + 1) asks) =
      ap (λ n. (n, a) ∷ []) (sym same) ∙ ap (λ b. cond b ((s.id_of (s.encode id a), a) ∷ []) []) (sym waits') in
      let sent = asker_sent s asks w.end.state.past a (drop (w.next + 1) asks) ((id, a) ∷ []) (asked_in asks w.table) w.told (s.encode id a) (keeps.encodes id a) (ap (λ n. s.encode n a) (sym same)) opens k in
      record {
        kept = rw (is, made) sent;
        acks = rw (is, made, got) (acks_asked s keeps w.end.state.past id a (drop w.acked w.end.state.got) h.acks);
        kinds = rw (is, made) (kinds_asked s w.end.state.past (s.encode id a) (keeps.encodes id a) h.kinds);
        looked = omega (arith, h.looked, ap length got);
        within = omega (arith, slice_get_within asks w.next a at);
        places = h.places;
        asked = λ j e. some_none j (sym e);
        saw = ap has_seen is ∙ h.saw;
        rests = λ e. not_both end'.state.machine.asleep awake e;
        paced = subst (IsPaced s w.starts asks) (sym is) (λ _. (λ few. h.alone id waits (omega (arith, few, sent_next s asks w h)), h.saw ∙ unseen), h.paced);
        alone = λ j e few. some_none j (sym e);
        from = subst (AskedFrom s (length w.table) asks) (sym is) (λ _. goes_free s asks w id a p waits at (ap s.id_of made ∙ same) h, h.from);
      }

  -- a request that has no answer was sent
  pub told_kept : (end' : Line S) (a : A) (p : Item) → slice_get asks w.next ≡ Some a → w.waiting ≡ None → (w.next ≤ w.starts → count_by is_some w.table ≡ 0) → s.has_answer a ≡ false → p ≡ s.encode 0 a → end'.state.past ≡ Sent p ∷ w.end.state.past → end'.state.got ≡ w.end.state.got → end'.state.machine.asleep ≡ false
      → w.seen ≡ false → IsAsking s asks w → IsAsking s asks (record w { end = end'; next = w.next + 1 })
  told_kept end' a p at none alone silent made is got awake unseen h =
      let first = first_of asks w.next a at in
      let none' : waits_in (drop w.next asks) w.waiting ≡ [] = ap (waits_in (drop w.next asks)) none in
      let none'' : waits_in (drop (w.next + 1) asks) w.waiting ≡ [] = ap (waits_in (drop (w.next + 1) asks)) none in
      let k : AskerKept s asks w.end.state.past (a ∷ drop (w.next + 1) asks) [] (asked_in asks w.table) w.told =
      subst (λ l. AskerKept s asks w.end.state.past l [] (asked_in asks w.table) w.told) first
      (subst (λ l. AskerKept s asks w.end.state.past (drop w.next asks) l (asked_in asks w.table) w.told) none' h.kept) in
      let sent = asker_told s keeps asks w.end.state.past a (drop (w.next + 1) asks) (asked_in asks w.table) w.told 0 silent k in
      record {
        kept = rw (is, made, none'') sent;
        acks = rw (is, made, got) (acks_asked s keeps w.end.state.past 0 a (drop w.acked w.end.state.got) h.acks);
        kinds = rw (is, made) (kinds_asked s w.end.state.past (s.encode 0 a) (keeps.encodes 0 a) h.kinds);
        looked = omega (arith, h.looked, ap length got);
        within = omega (arith, slice_get_within asks w.next a at);
        places = h.places;
        asked = λ j e. some_none j (sym e ∙ none);
        saw = ap has_seen is ∙ h.saw;
        rests = λ e. not_both end'.state.machine.asleep awake e;
        paced = subst (IsPaced s w.starts asks) (sym is) (λ _. (λ few. none_stands s asks w h (alone (omega (arith, few, sent_next s asks w h))), h.saw ∙ unseen), h.paced);
        alone = λ j e few. some_none j (sym e ∙ none);
        from = subst (AskedFrom s (length w.table) asks) (sym is) (λ waits. not_both (s.waits p) (ap s.waits made ∙ (keeps.waits_ask 0 a ∙ silent)) waits, h.from);
      }

  marked_kept : IsAsking s asks w → AskerKept s asks (Marked ∷ w.end.state.past) (drop w.next asks) (waits_in (drop w.next asks) w.waiting) (asked_in asks w.table) w.told
  marked_kept h = asker_marked s asks w.end.state.past (drop w.next asks) (waits_in (drop w.next asks) w.waiting) (asked_in asks w.table) w.told h.kept

  marked_acks : IsAsking s asks w → AcksKept s (Marked ∷ w.end.state.past) (drop w.acked w.end.state.got)
  marked_acks h = acks_quiet s w.end.state.past Marked (drop w.acked w.end.state.got) refl refl h.acks

  -- all was asked and settled
  pub marks_settled : (past' : List (Event Item)) → past' ≡ Marked ∷ w.end.state.past → HasSettled asks w → IsAsking s asks w → AsksAll s asks past' w.told
  marks_settled past' is settled h plan same =
      let nothing : drop w.next asks ≡ [] = drop_all w.next asks (omega (arith, settled.all)) in
      let k = subst (λ l. AskerKept s l (Marked ∷ w.end.state.past) [] (waits_in (drop w.next asks) w.waiting) (asked_in asks w.table) w.told) (sym same)
      (subst (λ l. AskerKept s asks (Marked ∷ w.end.state.past) l (waits_in (drop w.next asks) w.waiting) (asked_in asks w.table) w.told) nothing (marked_kept h)) in
      let rest : drop w.acked w.end.state.got ≡ [] = drop_all w.acked w.end.state.got (omega (arith, settled.acked)) in
      rw is (asker_settled s plan (Marked ∷ w.end.state.past) (waits_in (drop w.next asks) w.waiting) (asked_in asks w.table) w.told k (subst (AcksKept s (Marked ∷ w.end.state.past)) rest (marked_acks h)) (λ id. ap (ask_at asks) (none_open w.table settled.none id)))

  -- the other end stopped
  pub marks_drained : (past' : List (Event Item)) → past' ≡ Marked ∷ w.end.state.past → is_drained w.end.state.past ≡ true → has_marked w.end.state.past ≡ false → IsAsking s asks w → AsksAll s asks past' w.told
  marks_drained past' is drained unmarked h plan same =
      let k = subst (λ l. AskerKept s l (Marked ∷ w.end.state.past) (drop w.next asks) (waits_in (drop w.next asks) w.waiting) (asked_in asks w.table) w.told) (sym same) (marked_kept h) in
      rw is (asker_stopped s plan (Marked ∷ w.end.state.past) (drop w.next asks) (waits_in (drop w.next asks) w.waiting) (asked_in asks w.table) w.told (drop w.acked w.end.state.got) k (marked_acks h) drained (drained_seen w.end.state.past drained, follows_unmarked w.end.state.past unmarked))

  pub drains : (end' : Line S) → end'.state.past ≡ Empty ∷ w.end.state.past → IsAsking s asks w → w.seen ≡ true → is_drained end'.state.past ≡ true
  drains end' is h seen = ap is_drained is ∙ ap (λ b. b || is_drained w.end.state.past) (h.saw ∙ seen)

  pub breaks : IsAsking s asks w → AskerBreaks s asks w.end.state.past w.told
  breaks h = asker_breaks s asks w.end.state.past (drop w.next asks) (waits_in (drop w.next asks) w.waiting) (asked_in asks w.table) w.told (drop w.acked w.end.state.got) h.kept h.acks

  -- what was sent so far
  few_sent : IsAsking s asks w → AsksAtMost s (length asks) w.end.state.past
  few_sent h = asks_at_most s asks w.end.state.past (drop w.next asks) (waits_in (drop w.next asks) w.waiting) (asked_in asks w.table) w.told (drop w.acked w.end.state.got) h.kept h.acks h.kinds

  pub asked_so_far : IsAsking s asks w → AreShort (sent_of w.end.state.past) → AskedWithin s (length asks) w.end.state.past
  asked_so_far h short = record { kinds = few_sent h; short = short }

  -- where what is to be sent next lacks room, more messages came than there are asks
  pub next_over : (besides : Bool) (packets words : ℕ) → IsAsking s asks w → HasReservedSent (room_of besides (length asks)) w.end → LacksNext s asks packets words w
      → CameOver s.is_message (besides_of besides (length asks)) (room_of besides (length asks)) w.end.state.past
  next_over besides packets words h room lacks = by lacks
    where
      by : LacksNext s asks packets words w → CameOver s.is_message (besides_of besides (length asks)) (room_of besides (length asks)) w.end.state.past
      by (inl (m, at, is, l)) =
          asks_over s besides (length asks) packets words (s.ack m).packet w.end (few_sent h) room l
          (ack_left s (length asks) m (drop (w.acked + 1) w.end.state.got) w.end (few_sent h) (subst (AcksKept s w.end.state.past) (first_of w.end.state.got w.acked m at) h.acks) is)
      by (inr (a, at, id, l)) =
          asks_over s besides (length asks) packets words (s.encode (id_in w.waiting) a).packet w.end (few_sent h) room l
          (ask_left s asks w.next w.end (few_sent h) (omega (arith, sent_next s asks w h)) (slice_get_within asks w.next a at))

  -- and so where the next packet that comes lacks it
  pub lacks_by : (besides : Bool) (packets words : ℕ) → got_of w.end.state.past ≡ w.end.state.got → IsAsking s asks w → KeepsRoom (room_of besides (length asks)) w.end → AskerLacks s asks packets words w
      → CameOver s.is_message (besides_of besides (length asks)) (room_of besides (length asks)) w.end.state.past
  lacks_by besides packets words line h room (inl l) = takes_over s.is_message (besides_of besides (length asks)) (room_of besides (length asks)) packets words w.end room.got line l
  lacks_by besides packets words line h room (inr l) = next_over besides packets words h room.sent l

  pub stray_by : (o : Option ℕ) → w.waiting ≡ o → (end' : Line S) (p : Item) → s.is_answer p ≡ true → waits_under o (s.id_of p) ≡ true → end'.state.past ≡ Got p ∷ w.end.state.past → end'.state.got ≡ w.end.state.got ++ p ∷ []
      → end'.state.machine.asleep ≡ false → IsAsking s asks w → IsAsking s asks (record w { end = end' })
  stray_by None waits end' p answers e is more awake h = absurd (cc)
  stray_by (Some id) waits end' p answers e is more awake h = stray_kept end' p id answers waits is more awake e h

  pub reply_room : (n c cap : ℕ) → n + c + (length asks - w.next) ≤ cap + pending w.waiting → IsAsking s asks w → n + c ≤ cap
  reply_room n c cap e h = by w.waiting refl
    where
      by : (o : Option ℕ) → w.waiting ≡ o → n + c ≤ cap
      by None q = omega (arith, e, ap pending q)
      by (Some id) q = omega (arith, e, ap pending q, slice_get_within asks w.next (h.asked id q).0 (h.asked id q).1)

  -- a new worker
  pub new_kept : (n : ℕ) → w.end.state.past ≡ [] → w.end.state.got ≡ [] → w.acked ≡ 0 → w.table ≡ replicate n None → w.next ≡ 0 → w.waiting ≡ None → w.told ≡ [] → w.seen ≡ false → w.end.state.machine.asleep ≡ false → IsAsking s asks w
  new_kept n past got acked table next waiting told seen awake = record {
    kept = rw (past, table, next, waiting, told) (record { encoded = tt; rest = refl; opens = λ id. ap (ask_at asks) (none_in n id); apart = tt; says = refl });
    acks = rw (past, got, acked) (acks_new s);
    kinds = rw past (omega arith);
    looked = omega (arith, acked);
    within = omega (arith, next);
    places = λ id k e. some_none k (sym e ∙ (ap (λ t. request_of t id) table ∙ none_in n id));
    asked = λ id e. some_none id (sym e ∙ waiting);
    saw = ap has_seen past ∙ sym seen;
    rests = λ e. not_both w.end.state.machine.asleep awake e;
    paced = subst (IsPaced s w.starts asks) (sym past) tt;
    alone = λ id e few. some_none id (sym e ∙ waiting);
    from = subst (AskedFrom s (length w.table) asks) (sym past) tt;
  }

  -- why nothing is sent doesn't lie with the end
  pub holds_on : (end' : Line S) (hold hold' : Blocked) → end'.state.got ≡ w.end.state.got → end'.spare_sent ≡ w.end.spare_sent → end'.end.state.pages.count ≡ w.end.end.state.pages.count → Holds s asks hold w → Holds s asks hold (record w { end = end'; hold = hold' })
  holds_on end' Done hold' got spare pages h = rw got h
  holds_on end' Place hold' got spare pages h = rw got h
  holds_on end' Answer hold' got spare pages h = rw got h
  holds_on end' (Ack need) hold' got spare pages h =
      (h.0, ap (λ l. slice_get l w.acked) got ∙ h.1, h.2, h.3, h.4, h.5, subst (λ (r : SpareRoom × ℕ). (0 < r.0.packets) × (length (s.ack h.0).packet + page_words r.1 1 ≤ r.0.words)) (λ i. (sym spare i, sym pages i)) h.6)
  holds_on end' (Room need) hold' got spare pages h =
      (h.0, h.1, h.2, h.3, h.4, h.5, h.6 ∙ ap length (sym got), subst (λ (r : SpareRoom × ℕ). (0 < r.0.packets) × (length (s.encode (id_in w.waiting) h.0).packet + page_words r.1 1 ≤ r.0.words)) (λ i. (sym spare i, sym pages i)) h.7)

  pub need_in : (hold : Blocked) → Holds s asks hold w → IsNeed (want_by hold)
  need_in Done h = tt
  need_in Place h = tt
  need_in Answer h = tt
  need_in (Ack need) h = (h.4, h.5)
  need_in (Room need) h = (h.4, h.5)

module _ {A Q R : Type 0} (s : WireFormat Item A Q R) where
  -- what acknowledges the packets that came is what was sent of it, and what those that are still to be looked at want
  acks_split : (past : List (Event Item)) (rest : List Item) → AcksKept s past rest → acks_for s (got_of past) ≡ filter s.is_ack (sent_of past) ++ acks_for s rest
  acks_split past rest h =
      ap (acks_for s) h.got_is ∙ (ap (map s.ack) (filter-append s.is_message h.done rest) ∙ (map-append s.ack (filter s.is_message h.done) (filter s.is_message rest) ∙ ap (λ l. l ++ acks_for s rest) (sym h.acks)))

module _ {T S A Q R : Type 0} (s : WireFormat Item A Q R) (asks : List A) (w : Asking T S R) where
  -- each message that came was acknowledged
  pub acked_all : (next count : ℕ) → count ≡ length w.end.state.got → nat_lt next count ≡ false → IsNext s w.end.state.got w.acked next → IsAsking s asks w → acks_for s (got_of w.end.state.past) ≡ filter s.is_ack (sent_of w.end.state.past)
  acked_all next count is none far h =
      let past : List (Event Item) = w.end.state.past in
      let all : count ≤ next = grind (arith, nat_tests, none) in
      let rest : drop next w.end.state.got ≡ [] = drop_all next w.end.state.got (omega (arith, is, all)) in
      sym (acks_whole s past (subst (AcksKept s past) rest (acks_skipped s w.end.state.got past w.acked next far h.acks)))

  pub leaves_none : (next count : ℕ) → count ≡ length w.end.state.got → nat_lt next count ≡ false → IsNext s w.end.state.got w.acked next → IsAsking s asks w → LeavesAcks s w.end
  leaves_none next count is none far h = record { left = []; acks = acked_all next count is none far h ∙ sym (append-nil (filter s.is_ack (sent_of w.end.state.past))); full = inl refl }

  -- what acknowledges the next one found too little room
  pub leaves_full : (end' : Line S) (m : Item) → slice_get w.end.state.got w.acked ≡ Some m → s.is_message m ≡ true → end'.state.past ≡ w.end.state.past → (end'.state.machine.room ≤ length (s.ack m).packet + 1) × (end'.state.machine.words ≡ length (s.ack m).packet) → IsAsking s asks w
      → LeavesAcks s end'
  leaves_full end' m at is same found h =
      let past : List (Event Item) = w.end.state.past in
      let rest : List Item = drop w.acked w.end.state.got in
      let more : List Item = drop (w.acked + 1) w.end.state.got in
      let next : acks_for s rest ≡ s.ack m ∷ acks_for s more = ap (acks_for s) (first_of w.end.state.got w.acked m at) ∙ ap (λ b. map s.ack (cond b (m ∷ filter s.is_message more) (filter s.is_message more))) is in
      record {
        left = acks_for s rest;
        acks = subst (λ (l : List (Event Item)). acks_for s (got_of l) ≡ filter s.is_ack (sent_of l) ++ acks_for s rest) (sym same) (acks_split s past rest h.acks);
        full = inr (record { packet = s.ack m; rest = acks_for s more; first = next; room = found.0; words = found.1 });
      }

  -- and it was tried once
  pub ack_full : (told : S → Option Told) (tale : S → Tale) (end' : Line S) (m : Item) → slice_get w.end.state.got w.acked ≡ Some m → s.is_message m ≡ true → end'.state.past ≡ w.end.state.past → FoundFull told tale (s.ack m).packet w.end.end end'.end → IsAsking s asks w
      → AckFull told tale s w.end.end end'
  ack_full told tale end' m at is same full h =
      let past : List (Event Item) = w.end.state.past in
      let rest : List Item = drop w.acked w.end.state.got in
      let more : List Item = drop (w.acked + 1) w.end.state.got in
      let next : acks_for s rest ≡ s.ack m ∷ acks_for s more = ap (acks_for s) (first_of w.end.state.got w.acked m at) ∙ ap (λ b. map s.ack (cond b (m ∷ filter s.is_message more) (filter s.is_message more))) is in
      record {
        packet = s.ack m;
        rest = acks_for s more;
        acks = subst (λ (l : List (Event Item)). acks_for s (got_of l) ≡ filter s.is_ack (sent_of l) ++ s.ack m ∷ acks_for s more) (sym same) (acks_split s past rest h.acks ∙ ap (λ l. filter s.is_ack (sent_of past) ++ l) next);
        full = full;
      }

module _ {S A Q R : Type 0} (told : S → Option Told) (tale : S → Tale) (s : WireFormat Item A Q R) (e e' : Line S) where
  -- it marked itself behind that
  pub tried_marked : (before looked : Seen S) → e'.state.past ≡ Marked ∷ e.state.past → FoundNone told tale before looked → AckFull told tale s looked e → MarkedOnce told tale e.end e'.end → LeavesTried told tale s before e'
  tried_marked before looked past none full once = record {
    left = full.packet ∷ full.rest;
    acks = subst (λ (l : List (Event Item)). acks_for s (got_of l) ≡ filter s.is_ack (sent_of l) ++ full.packet ∷ full.rest) (sym past) full.acks;
    tried = record { looked = looked; tried = e.end; none = none; full = full.full; marked = once };
  }

  -- or with nothing left
  pub all_marked : (before : Seen S) → e'.state.past ≡ Marked ∷ e.state.past → acks_for s (got_of e.state.past) ≡ filter s.is_ack (sent_of e.state.past) → LeavesTried told tale s before e'
  all_marked before past all = record {
    left = [];
    acks = subst (λ (l : List (Event Item)). acks_for s (got_of l) ≡ filter s.is_ack (sent_of l) ++ []) (sym past) (all ∙ sym (append-nil (filter s.is_ack (sent_of e.state.past))));
    tried = tt;
  }

module _ {T S A Q R : Type 0} (told : S → Option Told) (tale : S → Tale) (s : WireFormat Item A Q R) (asks : List A) (w : Asking T S R) where
  -- a worker that rests tried what waits for room
  pub rests_tried : (end' : Line S) (hold : Blocked) (before looked : Seen S) → end'.state.got ≡ w.end.state.got → FoundNone told tale before looked → HoldTried told tale s asks hold looked w → FoundNothing told tale (want_by hold) w.end.end end'.end
      → RestsTried told tale s asks hold before (record w { end = end'; hold = hold })
  rests_tried end' Done before looked got none h rested = record { looked = looked; none = none; rested = subst (λ x. FoundNothing told tale None x end'.end) h rested }
  rests_tried end' Place before looked got none h rested = record { looked = looked; none = none; rested = subst (λ x. FoundNothing told tale None x end'.end) h rested }
  rests_tried end' Answer before looked got none h rested = record { looked = looked; none = none; rested = subst (λ x. FoundNothing told tale None x end'.end) h rested }
  rests_tried end' (Ack need) before looked got none h rested =
      (h.0, ap (λ l. slice_get l w.acked) got ∙ h.1, record { looked = looked; tried = w.end.end; none = none; full = h.2; rested = rested })
  rests_tried end' (Room need) before looked got none h rested = (h.0, h.1, record { looked = looked; tried = w.end.end; none = none; full = h.2; rested = rested })

module _ {S A Q R : Type 0} (s : WireFormat Item A Q R) (e e' : Line S) where
  met_still : (left : List Item) → (e'.state.machine.room ≡ e.state.machine.room) × (e'.state.machine.words ≡ e.state.machine.words) → (left ≡ []) ⊎ MetFull left e → (left ≡ []) ⊎ MetFull left e'
  met_still left same (inl none) = inl none
  met_still left same (inr met) = inr (record { packet = met.packet; rest = met.rest; first = met.first; room = omega (arith, same.0, met.room); words = same.1 ∙ met.words })

  -- the mark leaves it so
  pub leaves_marked : e'.state.past ≡ Marked ∷ e.state.past → (e'.state.machine.room ≡ e.state.machine.room) × (e'.state.machine.words ≡ e.state.machine.words) → LeavesAcks s e → LeavesAcks s e'
  leaves_marked past same h = record {
    left = h.left;
    acks = subst (λ (l : List (Event Item)). acks_for s (got_of l) ≡ filter s.is_ack (sent_of l) ++ h.left) (sym past) h.acks;
    full = met_still h.left same h.full;
  }

module _ {T S A Q R : Type 0} (s : WireFormat Item A Q R) (besides : Bool) (asks : List A) (w : Asking T S R) where
  pub ends_acked : (how : Ended) → AskLacks s besides asks how w → EndsAcked s how w.end
  ends_acked EndMarked h = tt
  ends_acked EndPeerMarked h = h.1
  ends_acked (EndRoom packets words left) h = tt
  ends_acked (EndBroken why) h = tt

  -- a worker that ended since its end is broken says why
  pub says_why : (how : Ended) → AskLacks s besides asks how w → SaysWhy how w.end
  says_why EndMarked h = tt
  says_why EndPeerMarked h = tt
  says_why (EndRoom packets words left) h = tt
  says_why (EndBroken why) h = h.0

pub ask_trans : {T S R C : Type 0} (channel : S → C) (told_by : S → Option Told) (u v w : Asking T S R) → AsksOn channel told_by u v → AsksOn channel told_by v w → AsksOn channel told_by u w
ask_trans channel told_by u v w a b = record { tells = b.tells ∙ a.tells; protocol = b.protocol ∙ a.protocol; relid = b.relid ∙ a.relid; starts = b.starts ∙ a.starts; window = b.window ∙ a.window; end = record { seat = b.end.seat ∙ a.end.seat; side = b.end.side ∙ a.end.side; pages = b.end.pages ∙ a.end.pages } }

-- a worker that ended in a turn had tried what it let go
pub ever_tried : {T S A Q R C : Type 0} (channel : S → C) (told : S → Option Told) (tale : S → Tale) (sp : T → WireFormat Item A Q R) (how : Ended) (u v w : Asking T S R) → AsksOn channel told u v → AsksOn channel told v w
    → AskCause told tale (TurnEnded how) v.end w.end → (v.end.state.machine.asleep ≡ false → EndTried told tale (sp w.protocol) how v.end.end w.end) → EverTried channel told tale (sp u.protocol) how u.end.end w.end
ever_tried channel told tale sp how u v w a b cause tried = record {
  before = v.end.end;
  same = a.end;
  tried = subst (λ t. EndTried told tale (sp t) how v.end.end w.end) (b.protocol ∙ a.protocol) (tried (awake v.end.state.machine.asleep refl));
}
  where
    awake : (b : Bool) → v.end.state.machine.asleep ≡ b → v.end.state.machine.asleep ≡ false
    awake true e = absurd (cause.asleep e)
    awake false e = e

-- what it gives at its end is what was asked of it at its beginning
pub asks_on : {T S A Q R C : Type 0} (channel : S → C) (told_by : S → Option Told) (sp : T → WireFormat Item A Q R) (asks : T → List A) (how : Ended) (u w : Asking T S R) (past : List (Event Item)) (told : List R) → AsksOn channel told_by u w
    → AsksBy (sp w.protocol) how (asks w.protocol) past told → AsksBy (sp u.protocol) how (asks u.protocol) past told
asks_on channel told_by sp asks how u w past told on h = subst (λ t. AsksBy (sp t) how (asks t) past told) on.protocol h
