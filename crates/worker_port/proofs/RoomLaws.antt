-- How much room a worker needs, and that it lacks none.
use Rattle.page_kept.specs.declared.item.Item.{Item}
use Rattle.std.proofs.Common.{◌≡◌, ℕ, ◌+◌, ◌*◌, ◌<◌, ◌≤◌, List, [], ◌∷◌, ◌++◌, length, filter, refl, sym, ap, ◌∙◌, subst, arith, Bool, true, false, inl, inr, ◌⊎◌, ⊎_elim, length-append, Option}
use Rattle.std.specs.Prelude.{Result, Ok, Err, is_err, None}
use Rattle.std.proofs.lemmas.List.{length-map}
use Rattle.std.proofs.lemmas.List.Elements.{filter-append}
use Rattle.channel_trace.specs.declared.event.Event.{Event}
use Rattle.channel_trace.specs.declared.event.Event.TheVariants.{Sent, Marked as EventMarked}
use Rattle.channel_trace.specs.Runs.{IsFront, sent_of, got_of, guest_of}
use Rattle.hist_lock.specs.Seat.{Call}
use Rattle.ring_machine.specs.Endings.{refused}
use Rattle.ring_core.specs.declared.room.Room.{Room}
use Rattle.channel_model.specs.WireFormat.{WireFormat, Keeps}
use Rattle.channel_model.specs.Workers.{ServerKept, AcksKept}
use Rattle.channel_model.specs.Amounts.{room_of, besides_of, AsksAtMost, MayHaveMessages}
use Rattle.channel_model.proofs.Amounts.{never_over, sent_within, serves_at_most}
use Rattle.channel_model.proofs.Runs.{guest_front, host_front}
use Rattle.channel_model.proofs.Served.{filter_first}
use Rattle.worker_port.specs.Line.{LacksTake, Line, page_places, page_words}
use Rattle.worker_port.proofs.PageLaws.{places_mono, places_next, words_mono, words_next}
use Rattle.worker_port.specs.Owed.{LacksSend, LacksSendOf}
use Rattle.worker_port.specs.Rooms.{places_for, words_in, words_with, AreShort, CameOver, HasReserved, HasReservedSent, KeepsRoom, GotInto, SentInto, AskedOver, AskedWithin, ServedWithin, AskLacksFor, ServeLacksFor, has_room, is_asked, NeverLacks}
use Rattle.worker_port.specs.declared.ended.Ended.{Ended}
use Rattle.worker_port.specs.declared.ended.Ended.TheVariants.{Marked, PeerMarked, Room as RoomEnd, Broken}

by_less : (m n : ℕ) → (m < n) ⊎ (n ≤ m)
by_less m n = grind arith

pub words_more : (ps : List Item) (p : Item) → words_in (ps ++ p ∷ []) ≡ words_in ps + length p.packet
words_more [] p = omega arith
words_more (q ∷ ps) p = omega (arith, words_more ps p)

pub short_more : (ps : List Item) (p : Item) → AreShort ps → length p.packet ≤ 384 → AreShort (ps ++ p ∷ [])
short_more [] p h le = (le, tt)
short_more (q ∷ ps) p h le = (h.0, short_more ps p h.1 le)

short_front : (ps qs : List Item) → AreShort (ps ++ qs) → AreShort ps
short_front [] qs h = tt
short_front (p ∷ ps) qs h = (h.0, short_front ps qs h.1)

short_words : (ps : List Item) → AreShort ps → words_in ps ≤ 384 * length ps
short_words [] h = omega arith
short_words (p ∷ ps) h = omega (arith, h.0, short_words ps h.1)

count_front : (f : Item → Bool) (ps qs : List Item) → IsFront ps qs → length (filter f ps) ≤ length (filter f qs)
count_front f ps qs front = omega (arith, ap (λ l. length (filter f l)) front.1, ap length (filter-append f ps front.0), length-append (filter f ps) (filter f front.0))

-- what came from a peer that sent no more
not_over : (kind : Item → Bool) (most room : ℕ) (mine other : List (Event Item)) → IsFront (got_of mine) (sent_of other) → AreShort (sent_of other) → length (got_of mine) ≤ room → length (filter kind (got_of mine)) ≤ most
    → CameOver kind most room mine → ⊥
not_over kind most room mine other front short few few' over = grind (arith, over.over, few, few', short_words (got_of mine) (short_front (got_of mine) front.0 (subst AreShort front.1 short)))

no_lack : {A Q R : Type 0} (s : WireFormat Item A Q R) (besides : Bool) (asks : ℕ) (how : Ended) (mine : List (Event Item)) → (CameOver s.is_message (besides_of besides asks) (room_of besides asks) mine → ⊥) → AskLacksFor s besides asks how mine
    → has_room how ≡ true
no_lack s besides asks (RoomEnd packets words left) mine none h = absurd (none h)
no_lack s besides asks _ mine none h = refl

no_call_lack : {A Q R : Type 0} (s : WireFormat Item A Q R) (besides : Bool) (most serve : ℕ) (stops : Bool) (how : Ended) (mine : List (Event Item)) → (CameOver s.is_request most (room_of besides most) mine → ⊥)
    → (stops ≡ false → AskedOver (is_asked s) serve mine → ⊥) → ServeLacksFor s besides most serve stops how mine → has_room how ≡ true
no_call_lack s besides most serve stops (RoomEnd packets words left) mine none few (inl over) = absurd (none over)
no_call_lack s besides most serve stops (RoomEnd packets words left) mine none few (inr over) = absurd (few over.0 over.1)
no_call_lack s besides most serve stops Marked mine none few h = refl
no_call_lack s besides most serve stops PeerMarked mine none few h = refl
no_call_lack s besides most serve stops (Broken why) mine none few h = refl

room_more : (besides : Bool) (m n : ℕ) → m ≤ n → room_of besides m ≤ room_of besides n
room_more besides m n le = grind (arith, le)

pub never_lacks : {A Q R : Type 0} (s : WireFormat Item A Q R) → NeverLacks s
never_lacks s besides asks most serve stops asker server asked served le few one a lacks b lacks' =
    let front : IsFront (got_of server) (sent_of asker) = subst (λ t. IsFront (got_of server) (sent_of t)) one.guest_is (subst (λ u. IsFront (got_of u) (sent_of (guest_of one.turns))) one.host_is (host_front one.turns one.run)) in
    let back : IsFront (got_of asker) (sent_of server) = subst (λ t. IsFront (got_of t) (sent_of server)) one.guest_is (subst (λ u. IsFront (got_of (guest_of one.turns)) (sent_of u)) one.host_is (guest_front one.turns one.run)) in
    let fits = never_over s besides asks asker server one a.kinds b.kinds in (
      no_lack s besides asks asked asker (not_over s.is_message (besides_of besides asks) (room_of besides asks) asker server back b.short fits.asker_got fits.messages) lacks,
      no_call_lack s besides most serve stops served server
          (not_over s.is_request most (room_of besides most) server asker front a.short (omega (arith, fits.server_got, room_more besides asks most le)) (omega (arith, fits.requests, le)))
          (λ go over. omega (arith, over, few go, count_front (is_asked s) (got_of server) (sent_of asker) front)) lacks',
    )

-- a list that lacks room for the next packet that comes has more than there was room made for
pub takes_over : {S : Type 0} → (kind : Item → Bool) (most room packets words : ℕ) (e : Line S) → HasReserved room e → got_of e.state.past ≡ e.state.got → LacksTake packets words e → CameOver kind most room e.state.past
takes_over kind most room packets words e h got l =
    record {
      over = ⊎_elim (λ (over : room < length e.state.got). inl (omega (arith, over, ap length got)))
          (λ (few : length e.state.got ≤ room). ⊎_elim (λ none. absurd (omega (arith, none, l.packets_is, h.packets, few, places_mono c (length e.state.got) (room + 1) (omega (arith, few)))))
          (λ less. inr (inl (omega (arith, less, l.words_is, h.words, ap words_in got, words_next c room (room + 1) refl, words_mono c (length e.state.got) room few)))) l.lacks)
          (by_less room (length e.state.got));
    }
  where
    c : ℕ
    c = e.end.state.pages.count

-- a list that lacks room for a packet that goes is used up
pub sent_up : {S : Type 0} → (room packets words : ℕ) (p : List ℕ) (e : Line S) → HasReservedSent room e → LacksSendOf packets words p e → room ≤ length (sent_of e.state.past)
sent_up room packets words p e h l =
    let c : ℕ = e.end.state.pages.count in
    let n : ℕ = length (sent_of e.state.past) in
    ⊎_elim (λ none. omega (arith, none, l.packets_is, h.packets))
    (λ less. ⊎_elim (λ (left : n < room). absurd (omega (arith, less, l.words_is, h.words, l.most, short_words (sent_of e.state.past) h.short, words_next c n (n + 1) refl, words_mono c (n + 1) room (omega (arith, left)), left))) (λ all. all) (by_less n room)) l.lacks

pub got_same : {S : Type 0} → (old new : Line S) → new.end.state.pages.count ≡ old.end.state.pages.count → new.state.got ≡ old.state.got → new.spare_got ≡ old.spare_got → GotInto old new
got_same old new pages got spare = record {
  pages = pages;
  packets = omega (arith, ap (λ l. places_for old.end.state.pages.count (length l)) got, ap (λ (r : Room). r.packets) spare);
  words = omega (arith, ap (words_with old.end.state.pages.count) got, ap (λ (r : Room). r.words) spare);
}

-- one more came, with its page words
pub got_one : {S : Type 0} → (old mid new : Line S) (p : Item) (n : ℕ) → new.end.state.pages.count ≡ old.end.state.pages.count → new.state.got ≡ old.state.got ++ p ∷ [] → length p.packet ≡ n → old.spare_got.packets ≤ mid.spare_got.packets + 1
    → old.spare_got.words ≤ mid.spare_got.words + n → mid.spare_got.packets ≤ new.spare_got.packets + page_places old.end.state.pages.count 1 → mid.spare_got.words ≤ new.spare_got.words + page_words old.end.state.pages.count 1 → GotInto old new
got_one old mid new p n pages got size packets words places page =
    let c : ℕ = old.end.state.pages.count in
    let long : length new.state.got ≡ length old.state.got + 1 = omega (arith, ap length got, length-append old.state.got (p ∷ [])) in
    record {
      pages = pages;
      packets = omega (arith, packets, places, long, places_next c (length old.state.got) (length new.state.got) long);
      words = omega (arith, words, page, size, ap words_in got, words_more old.state.got p, words_next c (length old.state.got) (length new.state.got) long);
    }

pub reserved_on : {S : Type 0} → (room : ℕ) (old new : Line S) → GotInto old new → new.state.machine.cells ≡ old.state.machine.cells → HasReserved room old → HasReserved room new
reserved_on room old new into cells h =
    let same = into.pages in
    record {
      packets = subst (λ c. places_for c (room + 1) ≤ new.spare_got.packets + places_for c (length new.state.got)) (sym same) (omega (arith, into.packets, h.packets));
      words = subst (λ c. 384 * room + (new.state.machine.cells + page_words c (room + 1)) ≤ new.spare_got.words + words_with c new.state.got) (sym same) (omega (arith, into.words, h.words, cells));
    }

-- nothing was sent
pub room_quiet : {S : Type 0} → (room : ℕ) (old new : Line S) → GotInto old new → new.state.machine.cells ≡ old.state.machine.cells → new.spare_sent ≡ old.spare_sent → sent_of new.state.past ≡ sent_of old.state.past → KeepsRoom room old → KeepsRoom room new
room_quiet room old new into cells spare sent h = record {
  got = reserved_on room old new into cells h.got;
  sent = record {
    packets = omega (arith, h.sent.packets, ap (λ (r : Room). r.packets) spare, ap length sent);
    words = subst (λ c. 384 * room + page_words c room ≤ new.spare_sent.words + words_with c (sent_of new.state.past)) (sym into.pages)
        (omega (arith, h.sent.words, ap (λ (r : Room). r.words) spare, ap (words_with old.end.state.pages.count) sent));
    short = subst AreShort (sym sent) h.sent.short;
  };
}

-- one packet more was sent
pub room_sent : {S : Type 0} → (room : ℕ) (p : Item) (old new : Line S) → length p.packet ≤ 384 → GotInto old new → new.state.machine.cells ≡ old.state.machine.cells → SentInto (length p.packet) old new → new.state.past ≡ Sent p ∷ old.state.past
    → KeepsRoom room old → KeepsRoom room new
room_sent room p old new le into cells takes past h =
    let sent : sent_of new.state.past ≡ sent_of old.state.past ++ p ∷ [] = ap sent_of past in
    let long : length (sent_of new.state.past) ≡ length (sent_of old.state.past) + 1 = omega (arith, ap length sent, length-append (sent_of old.state.past) (p ∷ [])) in
    record {
      got = reserved_on room old new into cells h.got;
      sent = record {
        packets = omega (arith, h.sent.packets, takes.packets, long);
        words = subst (λ c. 384 * room + page_words c room ≤ new.spare_sent.words + words_with c (sent_of new.state.past)) (sym into.pages)
            (omega (arith, h.sent.words, takes.words_is, ap words_in sent, words_more (sent_of old.state.past) p, words_next old.end.state.pages.count (length (sent_of old.state.past)) (length (sent_of new.state.past)) long));
        short = subst AreShort (sym sent) (short_more (sent_of old.state.past) p h.sent.short le);
      };
    }

-- a new end
pub room_new : {S : Type 0} → (room : ℕ) (e : Line S) → e.state.past ≡ [] → e.state.got ≡ [] → room ≤ e.spare_sent.packets → 384 * room + page_words e.end.state.pages.count room ≤ e.spare_sent.words
    → places_for e.end.state.pages.count (room + 1) ≤ e.spare_got.packets → 384 * room + (e.state.machine.cells + page_words e.end.state.pages.count (room + 1)) ≤ e.spare_got.words → KeepsRoom room e
room_new room e past got packets words came came_words = record {
  got = record { packets = omega (arith, came); words = omega (arith, came_words) };
  sent = record { packets = omega (arith, packets); words = omega (arith, words); short = subst (λ l. AreShort (sent_of l)) (sym past) tt };
}

pub took_whole : {T E : Type 0} (r : Result T E) → is_err r ≡ false → refused r ≡ None
took_whole (Ok x) e = refl
took_whole (Err x) e = absurd (cc)

module _ {A Q R : Type 0} (s : WireFormat Item A Q R) where
  -- where the asking end lacks room for what it is to send, more messages came than it has asks
  pub asks_over : {S : Type 0} → (besides : Bool) (count packets words : ℕ) (p : List ℕ) (e : Line S) → AsksAtMost s count e.state.past → HasReservedSent (room_of besides count) e → LacksSendOf packets words p e
      → length (filter s.is_request (sent_of e.state.past)) + length (filter s.is_ack (sent_of e.state.past)) < count + length (filter s.is_message (got_of e.state.past))
      → CameOver s.is_message (besides_of besides count) (room_of besides count) e.state.past
  asks_over besides count packets words p e few h l more =
      let up = sent_up (room_of besides count) packets words p e h l in
      record { over = inr (inr (grind (arith, up, few.kinds, few.requests, few.acks, more))) }

  -- the next ask isn't sent, or a message that came isn't acknowledged
  pub ask_left : {S : Type 0} → (asks : List A) (next : ℕ) (e : Line S) → AsksAtMost s (length asks) e.state.past → length (filter s.is_request (sent_of e.state.past)) ≤ next → next < length asks
      → length (filter s.is_request (sent_of e.state.past)) + length (filter s.is_ack (sent_of e.state.past)) < length asks + length (filter s.is_message (got_of e.state.past))
  ask_left asks next e few le lt = omega (arith, few.acks, le, lt)

  pub ack_left : {S : Type 0} → (count : ℕ) (m : Item) (rest : List Item) (e : Line S) → AsksAtMost s count e.state.past → AcksKept s e.state.past (m ∷ rest) → s.is_message m ≡ true
      → length (filter s.is_request (sent_of e.state.past)) + length (filter s.is_ack (sent_of e.state.past)) < count + length (filter s.is_message (got_of e.state.past))
  ack_left count m rest e few h is =
      let all = ap (λ l. length (filter s.is_message l)) h.got_is ∙ (ap length (filter-append s.is_message h.done (m ∷ rest)) ∙ length-append (filter s.is_message h.done) (filter s.is_message (m ∷ rest))) in
      omega (arith, few.requests, all, ap length (filter_first s.is_message m rest is), ap length h.acks, length-map (filter s.is_message h.done) s.ack)

  -- where the serving end lacks room for what it owes, more requests came than it made room for
  pub owed_over : {S : Type 0} → (keeps : Keeps s) (besides held : Bool) (n most packets words : ℕ) (p : Item) (more rest : List Item) (calls : List (Call Q R)) (left : Option ℕ) (e : Line S) → MayHaveMessages s besides
      → ServerKept s held n e.state.past calls (p ∷ more) left rest → HasReservedSent (room_of besides most) e → LacksSendOf packets words p.packet e → CameOver s.is_request most (room_of besides most) e.state.past
  owed_over keeps besides held n most packets words p more rest calls left e may kept h l =
      let up = sent_up (room_of besides most) packets words p.packet e h l in
      let within = sent_within s keeps besides held n e.state.past calls (p ∷ more) left rest may kept in
      record { over = inr (inr (grind (arith, up, within, length-append (sent_of e.state.past) (p ∷ more)))) }

  -- a worker of the end that serves lacks room
  pub serve_over : {S : Type 0} → (keeps : Keeps s) (besides held : Bool) (n most packets words : ℕ) (owed rest : List Item) (calls : List (Call Q R)) (left : Option ℕ) (e : Line S) → MayHaveMessages s besides
      → ServerKept s held n e.state.past calls owed left rest → got_of e.state.past ≡ e.state.got → KeepsRoom (room_of besides most) e → LacksSend packets words owed e ⊎ LacksTake packets words e
      → CameOver s.is_request most (room_of besides most) e.state.past
  serve_over keeps besides held n most packets words owed rest calls left e may kept got h (inl l) =
      owed_over keeps besides held n most packets words l.packet l.rest rest calls left e may (subst (λ o. ServerKept s held n e.state.past calls o left rest) l.first kept) h.sent l.room
  serve_over keeps besides held n most packets words owed rest calls left e may kept got h (inr l) = takes_over s.is_request most (room_of besides most) packets words e h.got got l

  -- what it sent
  pub served_so_far : {S : Type 0} → (keeps : Keeps s) (besides held : Bool) (n room : ℕ) (owed rest : List Item) (calls : List (Call Q R)) (left : Option ℕ) (e : Line S) → MayHaveMessages s besides
      → ServerKept s held n e.state.past calls owed left rest → KeepsRoom room e → ServedWithin s besides e.state.past
  served_so_far keeps besides held n room owed rest calls left e may kept h =
      record { kinds = serves_at_most s keeps besides held n e.state.past calls owed left rest may kept; short = h.sent.short }

  -- and it is the same once it has marked itself
  pub served_marked : {S : Type 0} → (besides : Bool) (e : Line S) (past : List (Event Item)) → past ≡ EventMarked ∷ e.state.past → ServedWithin s besides e.state.past → ServedWithin s besides past
  served_marked besides e past is h = subst (ServedWithin s besides) (sym is) (record { kinds = record { kinds = h.kinds.kinds; answers = h.kinds.answers; messages = h.kinds.messages }; short = h.short })

  pub asked_marked : {S : Type 0} → (most : ℕ) (e : Line S) (past : List (Event Item)) → past ≡ EventMarked ∷ e.state.past → AskedWithin s most e.state.past → AskedWithin s most past
  asked_marked most e past is h = subst (AskedWithin s most) (sym is) (record { kinds = record { kinds = h.kinds.kinds; requests = h.kinds.requests; acks = h.kinds.acks }; short = h.short })
