-- The serving worker's steps keep what it keeps.
use Rattle.page_kept.specs.declared.item.Item.{Item}
use Rattle.page_kept.specs.Items.{item_of}
use Rattle.std.proofs.Common.{◌≡◌, ℕ, ◌+◌, ◌-◌, ◌≤◌, List, [], ◌∷◌, ◌++◌, length, map, filter, drop, replicate, refl, sym, ap, ◌∙◌, subst, arith, Option, Some, None, is_some, Bool, true, false, inl, inr, ◌⊎◌, length-append}
use Rattle.std.specs.Prelude.{◌&&◌, ◌||◌, ◌<◌, ◌==◌, not, zero, suc, take, if◌then◌else◌, slice_get}
use Rattle.std.specs.Option.{option_map_or}
use Rattle.std.proofs.lemmas.List.{append-nil, drop-append-le, drop_all, drop_more, take-append-le, take-append-drop, take_all, take_more}
use Rattle.std.proofs.lemmas.List.Elements.{filter-append}
use Rattle.std.proofs.lemmas.Option.{get_or_from_slice_get, slice_get_within}
use Rattle.std.proofs.lemmas.Bool.Decides.{nat_tests}
use Rattle.channel_trace.specs.declared.event.Event.{Event}
use Rattle.channel_trace.specs.declared.event.Event.TheVariants.{Sent, Got, Empty, Marked, Saw}
use Rattle.channel_trace.specs.Runs.{sent_of, got_of, has_marked, has_seen, is_drained}
use Rattle.channel_trace.specs.Laws.{Follows}
use Rattle.channel_trace.proofs.Pasts.{drained_seen, follows_unmarked}
use Rattle.hist_lock.specs.Seat.{Call}
use Rattle.ring_core.specs.declared.told.Told.{Told}
use Rattle.ring_core.specs.Seen.{Seen}
use Rattle.ring_core.specs.Told.{Tale}
use Rattle.channel_model.specs.WireFormat.{WireFormat, Keeps}
use Rattle.channel_model.specs.Acks.{is_in, own_open, OwnFrom, AllOwnOpen}
use Rattle.channel_model.specs.Amounts.{MayHaveMessages}
use Rattle.channel_model.specs.Server.{Serves, ServesOne, ServesAsk}
use Rattle.channel_model.specs.Channel.{RequestPlan, count_of, held_of, ServerStops, ServerEnds, ServerBreaks}
use Rattle.channel_model.specs.Workers.{ServerKept, OwnKept, Owes}
use Rattle.channel_model.proofs.Acking.{own_new, own_gave, own_from, own_served, own_acked, own_early, own_came, own_empty, own_saw}
use Rattle.channel_model.proofs.Amounts.{own_none}
use Rattle.channel_model.proofs.Opens.{by_test, filter_yes, filter_no}
use Rattle.channel_model.proofs.Counts.{calls_left}
use Rattle.channel_model.proofs.Serving.{server_took, server_served, server_passed, server_gave, server_quiet, server_new, server_ends, server_follows, server_breaks}
use Rattle.worker_port.specs.Line.{Line, SleepsFor, page_words}
use Rattle.ring_core.specs.declared.room.Room.{Room as Spare}
use Rattle.worker_port.specs.Owed.{is_nil, need_of, MetFull}
use Rattle.worker_port.specs.Tries.{FoundFull, FoundNone, FoundNothing, MarkedOnce}
use Rattle.worker_port.specs.Rooms.{SaysWhy, ServedWithin, AskedOver, ServeLacksFor, OnlyWith, is_asked}
use Rattle.txn_table.specs.Open.{HasNone}
use Rattle.worker_server.specs.Serving.{Responder, Serving, IsServing, Rests, HasRoomFor, HasServed, HasToWait, Closes, ServesPacket, Orders, EndsAll, BreaksOff, CallsEach, AnswersAll, FirstFull, LetsGo, LetsGoTried, LacksPlace, EverTried, LeavesTried, LeftOff, OwedTried, RestsTried, EndsBy, LeavesOff, LacksRoom, ServesOn, IsFull, own_in, has_done, has_served, lacks_call, marked_by}
use Rattle.worker_port.specs.declared.ended.Turn.TheVariants.{Ended as TurnEnded}
use Rattle.worker_server.specs.Causes.{ServeCause}
use Rattle.worker_server.proofs.OwnLaws.{own_within, full_open, none_full, table_empty}
use Rattle.worker_port.specs.declared.ended.Ended.{Ended}
use Rattle.worker_port.specs.declared.ended.Ended.TheVariants.{Marked as EndedMarked, PeerMarked, Room, Broken as EndedBroken}

not_both : {X : Type 0} (b : Bool) → b ≡ false → b ≡ true → X
not_both b e f = absurd (cc)

pub on_either : {X Y Z W : Type 0} → (X → Z) → (Y → W) → X ⊎ Y → Z ⊎ W
on_either f g (inl x) = inl (f x)
on_either f g (inr y) = inr (g y)

only_on : (b : Bool) {X Y : Type 0} → (X → Y) → OnlyWith b X → OnlyWith b Y
only_on true f x = f x
only_on false f x = x

-- the end that met Full has done nothing since of which the room that it found tells
pub full_still : {E : Type 0} → (owed : List Item) (old new : Line E) → (new.state.machine.room ≡ old.state.machine.room) × (new.state.machine.words ≡ old.state.machine.words) → MetFull owed old → MetFull owed new
full_still owed old new same full = record { packet = full.packet; rest = full.rest; first = full.first; room = omega (arith, full.room, same.0); words = same.1 ∙ full.words }

-- the words of the first of these packets
abbrev first_words : List Item → List ℕ
first_words [] = []
first_words (p ∷ ps) = p.packet

-- the list of what was sent has room for what is owed as long as neither changes
pub room_still : {E : Type 0} (owed : List Item) (old new : Line E) → new.end.state.pages.count ≡ old.end.state.pages.count → new.spare_sent ≡ old.spare_sent → HasRoomFor owed old → HasRoomFor owed new
room_still [] old new pages same room = tt
room_still (p ∷ ps) old new pages same room = subst (λ (r : Spare × ℕ). (0 < r.0.packets) × (length p.packet + page_words r.1 1 ≤ r.0.words)) (λ i. (sym same i, sym pages i)) room

pub room_on : {T S E Q R : Type 0} (old new : Serving T S E Q R) → new.responder ≡ old.responder → new.end.end.state.pages.count ≡ old.end.end.state.pages.count → new.end.spare_sent ≡ old.end.spare_sent → HasRoomFor old.responder.owed old.end → HasRoomFor new.responder.owed new.end
room_on old new responder pages same room = subst (λ d. HasRoomFor d.owed new.end) (sym responder) (room_still old.responder.owed old.end new.end pages same room)

module _ {S : Type 0} (told : S → Option Told) (tale : S → Tale) where
  -- nothing that is owed is tried by no call
  pub owes_none : (owed : List Item) (e : Seen S) → owed ≡ [] → OwedTried told tale owed e e
  owes_none owed e none = subst (λ l. OwedTried told tale l e e) (sym none) refl

  pub first_tried : (owed : List Item) (old new : Seen S) → FirstFull told tale owed old new → OwedTried told tale owed old new
  first_tried owed old new f = subst (λ l. OwedTried told tale l old new) (sym f.first) f.full

  -- a worker that rests tried what is owed first
  pub rests_tried : (owed : List Item) (want : Option ℕ) (before met looked new : Seen S) → OwedTried told tale owed before met → FoundNone told tale met looked → FoundNothing told tale want looked new → RestsTried told tale owed want before new
  rests_tried [] want before met looked new h none rested = record { looked = looked; none = subst (λ x. FoundNone told tale x looked) h none; rested = rested }
  rests_tried (p ∷ ps) want before met looked new h none rested = record { tried = met; looked = looked; full = h; none = none; rested = rested }

-- nothing that is owed needs none
pub room_none : {E : Type 0} (owed : List Item) (e : Line E) → owed ≡ [] → HasRoomFor owed e
room_none [] e none = tt
room_none (p ∷ ps) e none = absurd (cc)

module _ {T S E Q R : Type 0} (w : Serving T S E Q R) where
  -- a worker that has done what its plan says
  pub done_parts : has_done w ≡ true → (w.stops ≡ true) × (w.missing ≡ 0) × (has_served w.responder.left ≡ true)
  done_parts e =
      let both = and_parts (w.stops && (w.missing == 0)) (has_served w.responder.left) e in
      let parts = and_parts w.stops (w.missing == 0) both.0 in
      (parts.0, let zero_is : w.missing ≡ 0 = grind (arith, nat_tests, parts.1) in zero_is, both.1)
    where
      and_parts : (b c : Bool) → (b && c) ≡ true → (b ≡ true) × (c ≡ true)
      and_parts true c e = (refl, e)
      and_parts false c e = absurd (cc)

module _ {T S E A Q R : Type 0} (s : WireFormat Item A Q R) (besides : Bool) (w : Serving T S E Q R) where
  -- why it has to wait: packets that came aren't served, or there is more to do than to stop
  pub waits_full : w.served < length w.end.state.got → HasServed s besides w → HasToWait s besides w
  waits_full less (inl all) = absurd (omega (arith, less, all))
  waits_full less (inr full) = inr (less, full)

  pub wait_served : HasToWait s besides w → HasServed s besides w
  wait_served (inl (all, more)) = inl all
  wait_served (inr (less, full)) = inr full

  -- a worker that ended since its end is broken says why
  pub says_why : (left_at : S → ℕ) (how : Ended) → LacksRoom left_at s besides how w → SaysWhy how w.end
  says_why left_at EndedMarked h = tt
  says_why left_at PeerMarked h = tt
  says_why left_at (Room packets words left) h = tt
  says_why left_at (EndedBroken why) h = h.0

-- and it does where none waited, and nothing of that changed
pub waits_on : {T S E A Q R : Type 0} (sp : T → WireFormat Item A Q R) (besides : T → Bool) (old new : Serving T S E Q R) → new.responder ≡ old.responder → new.served ≡ old.served → new.missing ≡ old.missing → new.stops ≡ old.stops → new.end.state.got ≡ old.end.state.got
    → new.end.state.past ≡ Empty ∷ old.end.state.past → HasToWait (sp old.responder.protocol) (besides old.responder.protocol) old → HasToWait (sp new.responder.protocol) (besides new.responder.protocol) new
waits_on sp besides old new responder served missing stops got past (inl (all, more)) =
    inl (
      served ∙ (all ∙ ap length (sym got)),
      ap (λ b. (b && (new.missing == 0)) && has_served new.responder.left) stops
          ∙ (ap (λ n. (old.stops && (n == 0)) && has_served new.responder.left) missing ∙ (ap (λ d. (old.stops && (old.missing == 0)) && has_served d.left) responder ∙ more)),
    )
waits_on sp besides old new responder served missing stops got past (inr (less, full)) =
    inr (
      omega (arith, served, less, ap length got),
      subst (λ d. OnlyWith (besides d.protocol) (AllOwnOpen (sp d.protocol) 64 new.end.state.past)) (sym responder) (subst (λ l. OnlyWith (besides old.responder.protocol) (AllOwnOpen (sp old.responder.protocol) 64 l)) (sym past) full),
    )

module _ {T S E A Q R : Type 0} (s : WireFormat Item A Q R) (keeps : Keeps s) (besides : Bool) (w : Serving T S E Q R) where
  waited_more : (p : Item) (got : List Item) → length (filter s.waits (filter s.is_request (got ++ p ∷ []))) ≡ length (filter s.waits (filter s.is_request got)) + (if s.is_request p && s.waits p then 1 else 0)
  waited_more p got =
      by_test (s.is_request p)
      (λ e. ap (λ l. length (filter s.waits l)) (filter_yes s.is_request got p e)
      ∙ by_test (s.waits p)
      (λ f. ap length (filter_yes s.waits (filter s.is_request got) p f) ∙ (length-append (filter s.waits (filter s.is_request got)) (p ∷ [])
      ∙ (ap (λ b. length (filter s.waits (filter s.is_request got)) + (if b && true then 1 else 0)) (sym e)
      ∙ ap (λ b. length (filter s.waits (filter s.is_request got)) + (if s.is_request p && b then 1 else 0)) (sym f))))
      (λ f. ap length (filter_no s.waits (filter s.is_request got) p f) ∙ (omega arith
      ∙ (ap (λ b. length (filter s.waits (filter s.is_request got)) + (if b && false then 1 else 0)) (sym e)
      ∙ ap (λ b. length (filter s.waits (filter s.is_request got)) + (if s.is_request p && b then 1 else 0)) (sym f)))))
      (λ e. ap (λ l. length (filter s.waits l)) (filter_no s.is_request got p e) ∙ (omega arith ∙ ap (λ b. length (filter s.waits (filter s.is_request got)) + (if b && s.waits p then 1 else 0)) (sym e)))

  -- what came closes what it acknowledges
  closes : (p : Item) (table' : List (Option ℕ)) → Closes s w.responder.owed p w.responder.table table' → OwnKept s w.end.state.past w.responder.owed (own_in w.responder.table) → OwnKept s (Got p ∷ w.end.state.past) w.responder.owed (own_in table')
  closes p table' c own =
      by_test (s.is_ack p)
      (λ e. by_test (is_in (s.id_of p) (map s.id_of (filter s.is_message w.responder.owed)))
      (λ f. subst (λ t. OwnKept s (Got p ∷ w.end.state.past) w.responder.owed (own_in t)) (sym (c.early e f)) (own_early s w.end.state.past p w.responder.owed (own_in w.responder.table) e f own))
      (λ f. own_acked s w.end.state.past p w.responder.owed (own_in w.responder.table) (own_in table') e f (c.acked e f) own))
      (λ e. subst (λ t. OwnKept s (Got p ∷ w.end.state.past) w.responder.owed (own_in t)) (sym (c.other e)) (own_came s w.end.state.past p w.responder.owed (own_in w.responder.table) e own))

  -- a packet was taken
  pub took_kept : (end' : Line E) (table' : List (Option ℕ)) (missing' : ℕ) (p : Item) → end'.state.past ≡ Got p ∷ w.end.state.past → end'.state.got ≡ w.end.state.got ++ p ∷ [] → end'.state.machine.asleep ≡ false
      → missing' ≡ w.missing - (if s.is_request p && s.waits p then 1 else 0) → Closes s w.responder.owed p w.responder.table table' → length table' ≡ length w.responder.table → w.end.state.machine.marked ≡ false → IsServing s besides w
      → IsServing s besides (record w { end = end'; missing = missing'; responder = record w.responder { table = table' } })
  took_kept end' table' missing' p is more awake less close size unmarked h =
      let got = w.end.state.got in
      let rest : drop w.served end'.state.got ≡ drop w.served got ++ p ∷ [] = ap (drop w.served) more ∙ drop-append-le w.served got (p ∷ []) h.within in
      let k = server_took s keeps w.responder.held w.serve w.end.state.past w.responder.calls w.responder.owed w.responder.left (drop w.served got) p h.kept in
      record {
        kept = subst (λ l. ServerKept s w.responder.held w.serve l w.responder.calls w.responder.owed w.responder.left (drop w.served end'.state.got)) (sym is)
            (subst (λ l. ServerKept s w.responder.held w.serve (Got p ∷ w.end.state.past) w.responder.calls w.responder.owed w.responder.left l) (sym rest) k);
        own = λ u. subst (λ l. OwnKept s l w.responder.owed (own_in table')) (sym is) (closes p table' close (h.own unmarked));
        from = subst (OwnFrom s 64) (sym is) h.from;
        places = size ∙ h.places;
        within = omega (arith, h.within, ap length more, length-append got (p ∷ []));
        few = h.few;
        missing_is = omega (arith, h.missing_is, less, waited_more p (got_of w.end.state.past), ap (λ l. length (filter s.waits (filter s.is_request (got_of l)))) is);
        saw = ap has_seen is ∙ h.saw;
        rests = λ e. not_both end'.state.machine.asleep awake e;
        each = λ go. ap (λ l. length (filter (is_asked s) l)) (ap (take w.served) more ∙ take-append-le w.served got (p ∷ []) h.within) ∙ h.each go;
      }

  -- nothing was sent or got
  pub quiet_kept : (end' : Line E) (seen' : Bool) (want' : Option ℕ) (e : Event Item) → end'.state.past ≡ e ∷ w.end.state.past → sent_of (e ∷ w.end.state.past) ≡ sent_of w.end.state.past
      → got_of (e ∷ w.end.state.past) ≡ got_of w.end.state.past → end'.state.got ≡ w.end.state.got → end'.state.machine.asleep ≡ false → has_seen (e ∷ w.end.state.past) ≡ seen'
      → (end'.state.machine.marked ≡ false → OwnKept s (e ∷ w.end.state.past) w.responder.owed (own_in w.responder.table)) → OwnFrom s 64 (e ∷ w.end.state.past)
      → IsServing s besides w → IsServing s besides (record w { end = end'; seen = seen'; want = want' })
  quiet_kept end' seen' want' e is same same' got awake saw own from h =
      let k = server_quiet s keeps w.responder.held w.serve w.end.state.past e w.responder.calls w.responder.owed w.responder.left (drop w.served w.end.state.got) same same' h.kept in
      record {
        kept = subst (λ l. ServerKept s w.responder.held w.serve l w.responder.calls w.responder.owed w.responder.left (drop w.served end'.state.got)) (sym is)
            (subst (λ l. ServerKept s w.responder.held w.serve (e ∷ w.end.state.past) w.responder.calls w.responder.owed w.responder.left (drop w.served l)) (sym got) k);
        own = λ u. subst (λ l. OwnKept s l w.responder.owed (own_in w.responder.table)) (sym is) (own u);
        from = subst (OwnFrom s 64) (sym is) from;
        places = h.places;
        within = omega (arith, h.within, ap length got);
        few = h.few;
        missing_is = omega (arith, h.missing_is, ap (λ l. length (filter s.waits (filter s.is_request (got_of l)))) is, ap (λ l. length (filter s.waits (filter s.is_request l))) same');
        saw = ap has_seen is ∙ saw;
        rests = λ b. not_both end'.state.machine.asleep awake b;
        each = λ go. ap (λ l. length (filter (is_asked s) (take w.served l))) got ∙ h.each go;
      }

  -- none waited, or the other end's mark was seen
  pub empty_kept : (end' : Line E) → end'.state.past ≡ Empty ∷ w.end.state.past → end'.state.got ≡ w.end.state.got → end'.state.machine.asleep ≡ false → w.end.state.machine.marked ≡ false → IsServing s besides w → IsServing s besides (record w { end = end' })
  empty_kept end' is got awake unmarked h =
      quiet_kept end' w.seen w.want Empty is refl refl got awake h.saw (λ u. own_empty s w.end.state.past w.responder.owed (own_in w.responder.table) (h.own unmarked)) h.from h

  pub saw_kept : (end' : Line E) (want' : Option ℕ) → end'.state.past ≡ Saw ∷ w.end.state.past → end'.state.got ≡ w.end.state.got → end'.state.machine.asleep ≡ false → w.end.state.machine.marked ≡ false → IsServing s besides w
      → IsServing s besides (record w { end = end'; seen = true; want = want' })
  saw_kept end' want' is got awake unmarked h =
      quiet_kept end' true want' Saw is refl refl got awake refl (λ u. own_saw s w.end.state.past w.responder.owed (own_in w.responder.table) (h.own unmarked)) h.from h

  -- nothing was done that the peer sees
  pub still_kept : (end' : Line E) (want' : Option ℕ) → end'.state.past ≡ w.end.state.past → end'.state.got ≡ w.end.state.got
      → (end'.state.machine.asleep ≡ true → Rests s besides (record w { end = end'; want = want' })) → w.end.state.machine.marked ≡ false → IsServing s besides w → IsServing s besides (record w { end = end'; want = want' })
  still_kept end' want' is got rests unmarked h =
      record {
        kept = subst (λ l. ServerKept s w.responder.held w.serve l w.responder.calls w.responder.owed w.responder.left (drop w.served end'.state.got)) (sym is)
            (subst (λ l. ServerKept s w.responder.held w.serve w.end.state.past w.responder.calls w.responder.owed w.responder.left (drop w.served l)) (sym got) h.kept);
        own = λ u. subst (λ l. OwnKept s l w.responder.owed (own_in w.responder.table)) (sym is) (h.own unmarked);
        from = subst (OwnFrom s 64) (sym is) h.from;
        places = h.places;
        within = omega (arith, h.within, ap length got);
        few = h.few;
        missing_is = omega (arith, h.missing_is, ap (λ l. length (filter s.waits (filter s.is_request (got_of l)))) is);
        saw = ap has_seen is ∙ h.saw;
        rests = rests;
        each = λ go. ap (λ l. length (filter (is_asked s) (take w.served l))) got ∙ h.each go;
      }

  -- a packet that was owed was sent
  pub gave_kept : (end' : Line E) (responder' : Responder T S Q R) (p : Item) → end'.state.past ≡ Sent p ∷ w.end.state.past → w.responder.owed ≡ p ∷ drop 1 w.responder.owed
      → responder' ≡ record w.responder { owed = drop 1 w.responder.owed; sheets = drop 1 w.responder.sheets } → end'.state.got ≡ w.end.state.got → end'.state.machine.asleep ≡ false → w.end.state.machine.marked ≡ false
      → IsServing s besides w → IsServing s besides (record w { end = end'; responder = responder' })
  gave_kept end' responder' p is first responder got awake unmarked h =
      let k = server_gave s keeps w.responder.held w.serve w.end.state.past w.responder.calls p (drop 1 w.responder.owed) w.responder.left (drop w.served w.end.state.got)
      (subst (λ l. ServerKept s w.responder.held w.serve w.end.state.past w.responder.calls l w.responder.left (drop w.served w.end.state.got)) first h.kept) in
      let own : OwnKept s w.end.state.past (p ∷ drop 1 w.responder.owed) (own_in w.responder.table) = subst (λ l. OwnKept s w.end.state.past l (own_in w.responder.table)) first (h.own unmarked) in
      subst (λ d. IsServing s besides (record w { end = end'; responder = d })) (sym responder) (record {
        kept = subst (λ l. ServerKept s w.responder.held w.serve l w.responder.calls (drop 1 w.responder.owed) w.responder.left (drop w.served end'.state.got)) (sym is)
            (subst (λ l. ServerKept s w.responder.held w.serve (Sent p ∷ w.end.state.past) w.responder.calls (drop 1 w.responder.owed) w.responder.left (drop w.served l)) (sym got) k);
        own = λ u. subst (λ l. OwnKept s l (drop 1 w.responder.owed) (own_in w.responder.table)) (sym is) (own_gave s w.end.state.past p (drop 1 w.responder.owed) (own_in w.responder.table) own);
        from = subst (OwnFrom s 64) (sym is)
            (own_from s 64 w.end.state.past p (drop 1 w.responder.owed) (own_in w.responder.table) (λ id e. let in_table = own_within w.responder.table id e in (in_table.0, omega (arith, in_table.1, h.places))) own h.from);
        places = h.places;
        within = omega (arith, h.within, ap length got);
        few = omega (arith, h.few, ap length first);
        missing_is = omega (arith, h.missing_is, ap (λ l. length (filter s.waits (filter s.is_request (got_of l)))) is);
        saw = ap has_seen is ∙ h.saw;
        rests = λ b. not_both end'.state.machine.asleep awake b;
        each = λ go. ap (λ l. length (filter (is_asked s) (take w.served l))) got ∙ h.each go;
      })

  -- a packet that came was served
  served_left : (past : List (Event Item)) (calls calls' : List (Call Q R)) (owed : List Item) (left left' : Option ℕ) (p : Item) (rest : List Item) → ServesPacket s w.responder.held p left calls calls' owed left'
      → ServerKept s w.responder.held w.serve past calls [] left (p ∷ rest) → ServerKept s w.responder.held w.serve past calls' owed left' rest
  served_left past calls calls' owed None left' p rest one h = rw (one.0, one.1, one.2) (server_passed s keeps w.responder.held w.serve past calls [] p rest h)
  served_left past calls calls' owed (Some m) left' p rest one h = rw (one.2, one.3) (server_served s keeps w.responder.held w.serve past calls one.0 [] owed m p rest one.1 h)

  -- it makes a call exactly where it asks the device
  ask_calls : (o : Option Q) (m : ℕ) (p : Item) (cs : List (Call Q R)) (owed : List Item) → (is_some o ≡ true → (m == 0) ≡ false) → ServesOne s w.responder.held p o m cs owed (λ k later rest. Serves s w.responder.held [] k later rest)
      → length cs ≡ (if is_some o then 1 else 0)
  ask_calls None m p cs owed go h = ap length h.3.0
  ask_calls (Some q) zero p cs owed go h = let bad : true ≡ false = go refl in absurd (cc)
  ask_calls (Some q) (suc n) p [] owed go h = absurd h
  ask_calls (Some q) (suc n) p (c ∷ cs) owed go h = one (w.responder.held && n == 0) h.1
    where
      one : (b : Bool) → ServesAsk s b p n c cs owed (λ k later rest. Serves s w.responder.held [] k later rest) → suc (length cs) ≡ 1
      one true asks = ap (λ l. suc (length l)) asks.0
      one false asks = ap (λ l. suc (length l)) asks.3.0

  calls_one : (p : Item) (calls calls' : List (Call Q R)) (owed : List Item) (left left' : Option ℕ) → (is_asked s p ≡ true → has_served left ≡ false) → ServesPacket s w.responder.held p left calls calls' owed left'
      → length calls' ≡ length calls + (if is_asked s p then 1 else 0)
  calls_one p calls calls' owed None left' go h =
      by_test (is_asked s p)
      (λ e. let bad : true ≡ false = go e in absurd (cc))
      (λ e. ap length h.0 ∙ (omega arith ∙ ap (λ b. length calls + (if b then 1 else 0)) (sym e)))
  calls_one p calls calls' owed (Some m) left' go h = omega (arith, ap length h.2, length-append calls h.0, ask_calls (s.read p) m p h.0 owed go h.1)

  asked_more : (p : Item) (ps : List Item) → length (filter (is_asked s) (ps ++ p ∷ [])) ≡ length (filter (is_asked s) ps) + (if is_asked s p then 1 else 0)
  asked_more p ps =
      by_test (is_asked s p)
      (λ e. ap length (filter_yes (is_asked s) ps p e) ∙ (length-append (filter (is_asked s) ps) (p ∷ []) ∙ ap (λ b. length (filter (is_asked s) ps) + (if b then 1 else 0)) (sym e)))
      (λ e. ap length (filter_no (is_asked s) ps p e) ∙ (omega arith ∙ ap (λ b. length (filter (is_asked s) ps) + (if b then 1 else 0)) (sym e)))

  has_call : (p : Item) → slice_get w.end.state.got w.served ≡ Some p → lacks_call s w ≡ false → w.stops ≡ false → is_asked s p ≡ true → has_served w.responder.left ≡ false
  has_call p at not_lacks go asks =
      by_test (has_served w.responder.left)
      (λ all.
      let lacks : lacks_call s w ≡ true = ap (λ b. not b && (has_served w.responder.left && option_map_or (is_asked s) (slice_get w.end.state.got w.served) false)) go ∙ (ap (λ b. b && option_map_or (is_asked s) (slice_get w.end.state.got w.served) false) all
      ∙ (ap (λ o. option_map_or (is_asked s) o false) at ∙ asks)) in
      let bad : true ≡ false = sym lacks ∙ not_lacks in absurd (cc))
      (λ some. some)

  each_served : (p : Item) (calls' : List (Call Q R)) (owed' : List Item) (left' : Option ℕ) → w.served + 1 ≤ length w.end.state.got → slice_get w.end.state.got w.served ≡ Some p → lacks_call s w ≡ false
      → ServesPacket s w.responder.held p w.responder.left w.responder.calls calls' owed' left' → IsServing s besides w → w.stops ≡ false → length (filter (is_asked s) (take (w.served + 1) w.end.state.got)) ≡ length calls'
  each_served p calls' owed' left' less at not_lacks one h go =
      let got = w.end.state.got in
      let grown : take (w.served + 1) got ≡ take w.served got ++ p ∷ [] = take_more got w.served (item_of [] []) (omega (arith, less)) ∙ ap (λ x. take w.served got ++ x ∷ []) (get_or_from_slice_get got w.served p (item_of [] []) at) in
      omega (arith, ap (λ l. length (filter (is_asked s) l)) grown, asked_more p (take w.served got), h.each go, calls_one p w.responder.calls calls' owed' w.responder.left left' (has_call p at not_lacks go) one)

  pub served_kept : (responder' : Responder T S Q R) (p : Item) → w.served + 1 ≤ length w.end.state.got → slice_get w.end.state.got w.served ≡ Some p → w.responder.owed ≡ [] → lacks_call s w ≡ false → length responder'.owed ≤ 2 → responder'.held ≡ w.responder.held
      → ServesPacket s responder'.held p w.responder.left w.responder.calls responder'.calls responder'.owed responder'.left → Owes s responder'.owed (own_in w.responder.table) (own_in responder'.table) → length responder'.table ≡ length w.responder.table → w.end.state.machine.asleep ≡ false
      → IsServing s besides w → IsServing s besides (record w { responder = responder'; served = w.served + 1 })
  served_kept responder' p less at none not_lacks few held one owes size awake h =
      let got = w.end.state.got in
      let first : drop w.served got ≡ p ∷ drop (w.served + 1) got = drop_more got w.served (item_of [] []) (omega (arith, less)) ∙ ap (λ x. x ∷ drop (w.served + 1) got) (get_or_from_slice_get got w.served p (item_of [] []) at) in
      let k : ServerKept s w.responder.held w.serve w.end.state.past w.responder.calls [] w.responder.left (p ∷ drop (w.served + 1) got) =
      subst (λ l. ServerKept s w.responder.held w.serve w.end.state.past w.responder.calls [] w.responder.left l) first
      (subst (λ l. ServerKept s w.responder.held w.serve w.end.state.past w.responder.calls l w.responder.left (drop w.served got)) none h.kept) in
      let one' : ServesPacket s w.responder.held p w.responder.left w.responder.calls responder'.calls responder'.owed responder'.left = subst (λ b. ServesPacket s b p w.responder.left w.responder.calls responder'.calls responder'.owed responder'.left) held one in
      record {
        kept = subst (λ b. ServerKept s b w.serve w.end.state.past responder'.calls responder'.owed responder'.left (drop (w.served + 1) got)) (sym held)
            (served_left w.end.state.past w.responder.calls responder'.calls responder'.owed w.responder.left responder'.left p (drop (w.served + 1) got) one' k);
        own = λ unmarked. own_served s w.end.state.past responder'.owed (own_in w.responder.table) (own_in responder'.table) owes (subst (λ l. OwnKept s w.end.state.past l (own_in w.responder.table)) none (h.own unmarked));
        from = h.from;
        places = size ∙ h.places;
        within = omega (arith, less);
        few = few;
        missing_is = h.missing_is;
        saw = h.saw;
        rests = λ b. not_both w.end.state.machine.asleep awake b;
        each = each_served p responder'.calls responder'.owed responder'.left less at not_lacks one' h;
      }

  -- a worker that ended gives what the plan asks for
  kept_plan : (plan : RequestPlan A) → Orders s plan w → IsServing s besides w
      → ServerKept s (held_of plan.stop (length plan.script)) (count_of plan.stop (length plan.script)) w.end.state.past w.responder.calls w.responder.owed w.responder.left (drop w.served w.end.state.got)
  kept_plan plan is h =
      subst (λ b. ServerKept s b (count_of plan.stop (length plan.script)) w.end.state.past w.responder.calls w.responder.owed w.responder.left (drop w.served w.end.state.got)) is.held
      (subst (λ n. ServerKept s w.responder.held n w.end.state.past w.responder.calls w.responder.owed w.responder.left (drop w.served w.end.state.got)) is.serve h.kept)

  ends_plan : (plan : RequestPlan A) → Orders s plan w → IsServing s besides w → w.responder.owed ≡ [] → w.served ≡ length w.end.state.got → ServerStops s plan w.end.state.past w.responder.calls → ServerEnds s plan w.end.state.past w.responder.calls
  ends_plan plan is h none all end =
      let nothing : drop w.served w.end.state.got ≡ [] = drop_all w.served w.end.state.got (omega (arith, all)) in
      let k : ServerKept s (held_of plan.stop (length plan.script)) (count_of plan.stop (length plan.script)) w.end.state.past w.responder.calls [] w.responder.left [] =
      subst (λ l. ServerKept s (held_of plan.stop (length plan.script)) (count_of plan.stop (length plan.script)) w.end.state.past w.responder.calls [] w.responder.left l) nothing
      (subst (λ l. ServerKept s (held_of plan.stop (length plan.script)) (count_of plan.stop (length plan.script)) w.end.state.past w.responder.calls l w.responder.left (drop w.served w.end.state.got)) none (kept_plan plan is h)) in
      server_ends s plan w.end.state.past w.responder.calls w.responder.left k (inl end)

  served_all : (left : Option ℕ) (rest : List Item) → has_served left ≡ true → ServerKept s w.responder.held w.serve w.end.state.past w.responder.calls w.responder.owed left rest → length w.responder.calls ≡ w.serve
  served_all None rest e h = (calls_left s keeps w.responder.held h.served w.serve w.responder.calls (sent_of w.end.state.past ++ w.responder.owed) h.serves).1 h.stands
  served_all (Some m) rest e h =
      let none : m ≡ 0 = grind (arith, nat_tests, e) in
      omega (arith, none, (calls_left s keeps w.responder.held h.served w.serve w.responder.calls (sent_of w.end.state.past ++ w.responder.owed) h.serves).0 m h.stands)

  -- each packet that came and asks the device was a call, once all that came is served
  pub calls_each : (past : List (Event Item)) → got_of past ≡ w.end.state.got → w.served ≡ length w.end.state.got → IsServing s besides w → CallsEach s w past w.responder.calls
  calls_each past is all h go = ap (λ l. length (filter (is_asked s) l)) (is ∙ sym (take_all w.served w.end.state.got (omega (arith, all)))) ∙ h.each go

  -- no call is left for what is served next: more asked the device than there were calls for
  parts : (b : Bool) (o : Option Item) → (not w.stops && (b && option_map_or (is_asked s) o false)) ≡ true → (w.stops ≡ false) × (b ≡ true) × ((p : Item) × (o ≡ Some p) × (is_asked s p ≡ true))
  parts b o e =
      by_test w.stops
      (λ yes. let bad : false ≡ true = sym (ap (λ x. not x && (b && option_map_or (is_asked s) o false)) yes) ∙ e in absurd (cc))
      (λ go. let rest : (b && option_map_or (is_asked s) o false) ≡ true = sym (ap (λ x. not x && (b && option_map_or (is_asked s) o false)) go) ∙ e in let more = next b o rest in (go, more.0, more.1))
    where
      next : (b : Bool) (o : Option Item) → (b && option_map_or (is_asked s) o false) ≡ true → (b ≡ true) × ((p : Item) × (o ≡ Some p) × (is_asked s p ≡ true))
      next false o e = let bad : false ≡ true = e in absurd (cc)
      next true None e = let bad : false ≡ true = e in absurd (cc)
      next true (Some p) e = (refl, (p, refl, e))

  pub asked_over : got_of w.end.state.past ≡ w.end.state.got → IsServing s besides w → lacks_call s w ≡ true → (w.stops ≡ false) × AskedOver (is_asked s) w.serve w.end.state.past
  asked_over is h lacks =
      let got = w.end.state.got in
      let part = parts (has_served w.responder.left) (slice_get got w.served) lacks in
      let p = part.2.0 in
      let less : w.served < length got = slice_get_within got w.served p part.2.1 in
      let grown : take (w.served + 1) got ≡ take w.served got ++ p ∷ [] = take_more got w.served (item_of [] []) less ∙ ap (λ x. take w.served got ++ x ∷ []) (get_or_from_slice_get got w.served p (item_of [] []) part.2.1) in
      let whole : got ≡ take (w.served + 1) got ++ drop (w.served + 1) got = sym (take-append-drop (w.served + 1) got) in
      let count = length (filter (is_asked s) (take (w.served + 1) got)) in
      let front : count ≤ length (filter (is_asked s) got) =
      omega (arith, ap (λ l. length (filter (is_asked s) l)) whole, ap length (filter-append (is_asked s) (take (w.served + 1) got) (drop (w.served + 1) got)), length-append (filter (is_asked s) (take (w.served + 1) got)) (filter (is_asked s) (drop (w.served + 1) got))) in
      let more : count ≡ length w.responder.calls + 1 = ap (λ l. length (filter (is_asked s) l)) grown ∙ (asked_more p (take w.served got) ∙ (ap (λ b. length (filter (is_asked s) (take w.served got)) + (if b then 1 else 0)) part.2.2 ∙ ap (λ n. n + 1) (h.each part.0))) in
      let calls : length w.responder.calls ≡ w.serve = served_all w.responder.left (drop w.served got) part.1 h.kept in
      (part.0, omega (arith, front, more, calls, ap (λ l. length (filter (is_asked s) l)) is))

  -- with nothing owed and all served, all is answered
  pub answers_all : w.responder.owed ≡ [] → got_of w.end.state.past ≡ w.end.state.got → w.served ≡ length w.end.state.got → IsServing s besides w → AnswersAll s w w.end.state.past w.responder.calls
  answers_all none is all h =
      let nothing : drop w.served w.end.state.got ≡ [] = drop_all w.served w.end.state.got (omega (arith, all)) in
      let whole : got_of w.end.state.past ≡ h.kept.served = h.kept.got_is ∙ (ap (λ l. h.kept.served ++ l) nothing ∙ append-nil h.kept.served) in
      let back : sent_of w.end.state.past ++ w.responder.owed ≡ sent_of w.end.state.past = ap (λ l. sent_of w.end.state.past ++ l) none ∙ append-nil (sent_of w.end.state.past) in
      record {
        serves = subst (λ l. Serves s w.responder.held l w.serve w.responder.calls (sent_of w.end.state.past)) (sym whole) (subst (λ l. Serves s w.responder.held h.kept.served w.serve w.responder.calls l) back h.kept.serves);
        each = calls_each w.end.state.past is all h;
      }

  -- where the table is full each id has an open message
  pub lacks_place : w.responder.owed ≡ [] → w.end.state.machine.marked ≡ false → IsFull w.responder.table → IsServing s besides w → AllOwnOpen s 64 w.end.state.past
  lacks_place none unmarked full h id low high =
      let own : OwnKept s w.end.state.past [] (own_in w.responder.table) = subst (λ l. OwnKept s w.end.state.past l (own_in w.responder.table)) none (h.own unmarked) in
      sym (own.opens id ∙ ap (is_in id) (append-nil (own_open s w.end.state.past))) ∙ full_open w.responder.table id full low (omega (arith, high, h.places))

  -- it never is where there are no messages
  pub only_full : MayHaveMessages s besides → w.responder.owed ≡ [] → w.end.state.machine.marked ≡ false → IsFull w.responder.table → IsServing s besides w → OnlyWith besides (AllOwnOpen s 64 w.end.state.past)
  only_full may none unmarked full h = by besides may
    where
      by : (b : Bool) → MayHaveMessages s b → OnlyWith b (AllOwnOpen s 64 w.end.state.past)
      by true may = lacks_place none unmarked full h
      by false silent =
          none_full w.responder.table (omega (arith, h.places)) full
          (own_none s keeps silent w.responder.held w.serve w.end.state.past w.responder.calls w.responder.owed w.responder.left (drop w.served w.end.state.got) (own_in w.responder.table) h.kept (h.own unmarked))

  -- what is owed is let go
  pub lets_go : MetFull w.responder.owed w.end → IsServing s besides w → LetsGo s w w.end w.responder.calls
  lets_go full h = record { served = h.kept.served; first = (drop w.served w.end.state.got, h.kept.got_is); missing = w.responder.owed; serves = h.kept.serves; few = h.few; full = full }

  the_stop : (o : Option (ℕ × Bool)) → true ≡ is_some o → (after : ℕ × Bool) × (o ≡ Some after)
  the_stop None e = absurd (cc)
  the_stop (Some after) e = (after, refl)

  -- it stopped
  ends_stopped : w.stops ≡ true → w.responder.owed ≡ [] → w.served ≡ length w.end.state.got → has_served w.responder.left ≡ true → w.missing ≡ 0 → IsServing s besides w → EndsAll s w w.end.state.past w.responder.calls
  ends_stopped stops none all served started h plan is =
      let after = the_stop plan.stop (sym stops ∙ is.stops) in
      ends_plan plan is h none all (record {
        after = after.0;
        stop = after.1;
        count = served_all w.responder.left (drop w.served w.end.state.got) served h.kept ∙ is.serve;
        started = omega (arith, h.missing_is, started, is.starts);
      })

  -- the other end had ended
  ends_drained : is_drained w.end.state.past ≡ true → Follows w.end.state.past → IsServing s besides w → EndsAll s w w.end.state.past w.responder.calls
  ends_drained drained follows h plan is = server_follows s plan w.end.state.past w.responder.calls w.responder.left w.responder.owed (drop w.served w.end.state.got) (kept_plan plan is h) drained follows

module _ {T S E A Q R : Type 0} (s : WireFormat Item A Q R) (keeps : Keeps s) (besides : Bool) (w : Serving T S E Q R) where
  -- the mark, with the table emptied
  abbrev gone : Responder T S Q R
  gone = record w.responder { table = replicate 64 None }

  pub marked_kept : (end' : Line E) → end'.state.past ≡ Marked ∷ w.end.state.past → end'.state.got ≡ w.end.state.got → end'.state.machine.asleep ≡ false → end'.state.machine.marked ≡ true → IsServing s besides w → IsServing s besides (record w { end = end'; responder = gone })
  marked_kept end' is got awake marked h =
      let q = quiet_kept s keeps besides w end' w.seen w.want Marked is refl refl got awake h.saw (λ u. absurd (let bad : true ≡ false = sym marked ∙ u in cc)) h.from h in
      record {
        kept = q.kept;
        own = λ u. absurd (let bad : true ≡ false = sym marked ∙ u in cc);
        from = q.from;
        places = refl;
        within = q.within;
        few = q.few;
        missing_is = q.missing_is;
        saw = q.saw;
        rests = λ b. not_both end'.state.machine.asleep awake b;
        each = q.each;
      }

  -- a mark is an end
  pub marks_stopped : (end' : Line E) → end'.state.past ≡ Marked ∷ w.end.state.past → end'.state.got ≡ w.end.state.got → end'.state.machine.asleep ≡ false → end'.state.machine.marked ≡ true
      → w.stops ≡ true → w.responder.owed ≡ [] → w.served ≡ length w.end.state.got → has_served w.responder.left ≡ true → w.missing ≡ 0 → IsServing s besides w → EndsAll s (record w { end = end'; responder = gone }) end'.state.past w.responder.calls
  marks_stopped end' is got awake marked stops none all served started h =
      ends_stopped s keeps besides (record w { end = end'; responder = gone }) stops none (all ∙ ap length (sym got)) served started (marked_kept end' is got awake marked h)

  pub marks_answered : (end' : Line E) → end'.state.past ≡ Marked ∷ w.end.state.past → end'.state.got ≡ w.end.state.got → end'.state.machine.asleep ≡ false → end'.state.machine.marked ≡ true → got_of end'.state.past ≡ end'.state.got
      → w.responder.owed ≡ [] → w.served ≡ length w.end.state.got → IsServing s besides w → AnswersAll s (record w { end = end'; responder = gone }) end'.state.past w.responder.calls
  marks_answered end' is got awake marked list none all h = answers_all s keeps besides (record w { end = end'; responder = gone }) none list (all ∙ ap length (sym got)) (marked_kept end' is got awake marked h)

  pub marks_gone : (end' : Line E) → end'.state.past ≡ Marked ∷ w.end.state.past → end'.state.got ≡ w.end.state.got → end'.state.machine.asleep ≡ false → end'.state.machine.marked ≡ true
      → MetFull w.responder.owed end' → IsServing s besides w → LetsGo s (record w { end = end'; responder = gone }) end' w.responder.calls
  marks_gone end' is got awake marked full h = lets_go s keeps besides (record w { end = end'; responder = gone }) full (marked_kept end' is got awake marked h)

  -- and it was tried since an earlier end
  pub gone_tried : (told : E → Option Told) (tale : E → Tale) (end' : Line E) (before looked : Seen E) → end'.state.past ≡ Marked ∷ w.end.state.past → end'.state.got ≡ w.end.state.got → end'.state.machine.asleep ≡ false → end'.state.machine.marked ≡ true
      → MetFull w.responder.owed end' → FoundNone told tale before looked → FirstFull told tale w.responder.owed looked w.end.end → MarkedOnce told tale w.end.end end'.end → IsServing s besides w
      → LetsGoTried told tale s (record w { end = end'; responder = gone }) before end' w.responder.calls
  gone_tried told tale end' before looked is got awake marked full none first once h =
      let k : IsServing s besides (record w { end = end'; responder = gone }) = marked_kept end' is got awake marked h in
      record {
        goes = record { served = k.kept.served; first = (drop w.served end'.state.got, k.kept.got_is); missing = w.responder.owed; serves = k.kept.serves; few = k.few; full = full };
        tried = record {
          looked = looked;
          tried = w.end.end;
          none = none;
          full = subst (λ p. FoundFull told tale p looked w.end.end) (ap first_words (sym first.first ∙ full.first)) first.full;
          marked = once;
        };
      }

  pub marks_drained : (end' : Line E) → end'.state.past ≡ Marked ∷ w.end.state.past → end'.state.got ≡ w.end.state.got → end'.state.machine.asleep ≡ false → end'.state.machine.marked ≡ true
      → is_drained w.end.state.past ≡ true → has_marked w.end.state.past ≡ false → IsServing s besides w → EndsAll s (record w { end = end'; responder = gone }) end'.state.past w.responder.calls
  marks_drained end' is got awake marked drained unmarked h =
      ends_drained s keeps besides (record w { end = end'; responder = gone }) (ap is_drained is ∙ drained) (subst Follows (sym is) (drained_seen w.end.state.past drained, follows_unmarked w.end.state.past unmarked))
      (marked_kept end' is got awake marked h)

  -- a place of the table is missing
  pub marks_lacking : (end' : Line E) → end'.state.past ≡ Marked ∷ w.end.state.past → w.responder.owed ≡ [] → AllOwnOpen s 64 w.end.state.past → IsServing s besides w → LacksPlace s (record w { end = end'; responder = gone }) end'.state.past w.responder.calls
  marks_lacking end' is none opens h = record {
    served = h.kept.served;
    first = (drop w.served w.end.state.got, ap got_of is ∙ h.kept.got_is);
    serves = subst (λ l. Serves s w.responder.held h.kept.served w.serve w.responder.calls (sent_of l)) (sym is)
        (subst (Serves s w.responder.held h.kept.served w.serve w.responder.calls) (ap (λ l. sent_of w.end.state.past ++ l) none ∙ append-nil (sent_of w.end.state.past)) h.kept.serves);
    full = λ id low high. ap (λ l. is_in id (own_open s l)) is ∙ opens id low high;
  }

  -- so it leaves off that follows with nothing owed
  pub follows_off : (end' : Line E) → end'.state.past ≡ Marked ∷ w.end.state.past → end'.state.got ≡ w.end.state.got → end'.state.machine.asleep ≡ false → end'.state.machine.marked ≡ true → got_of end'.state.past ≡ end'.state.got
      → w.responder.owed ≡ [] → HasServed s besides w → IsServing s besides w
      → LeftOff s besides (record w { end = end'; responder = gone }) end' w.responder.calls × LeavesOff s besides (record w { end = end'; responder = gone })
  follows_off end' is got awake marked list none (inl all) h =
      (inl (inl (marks_answered end' is got awake marked list none all h)), inl (inl (none, all ∙ ap length (sym got), calls_each s keeps besides w end'.state.past (list ∙ got) all h)))
  follows_off end' is got awake marked list none (inr full) h = by besides full
    where
      by : (b : Bool) → OnlyWith b (AllOwnOpen s 64 w.end.state.past) → LeftOff s b (record w { end = end'; responder = gone }) end' w.responder.calls × LeavesOff s b (record w { end = end'; responder = gone })
      by true f = let lacks = marks_lacking end' is none f h in (inr lacks, inr (none, lacks.full))
      by false f = absurd f

  pub follows_tried : (told : E → Option Told) (tale : E → Tale) (before : Seen E) (end' : Line E) → end'.state.past ≡ Marked ∷ w.end.state.past → end'.state.got ≡ w.end.state.got → end'.state.machine.asleep ≡ false → end'.state.machine.marked ≡ true
      → got_of end'.state.past ≡ end'.state.got → w.responder.owed ≡ [] → HasServed s besides w → IsServing s besides w
      → LeavesTried told tale s besides PeerMarked (record w { end = end'; responder = gone }) before end' w.responder.calls
  follows_tried told tale before end' is got awake marked list none (inl all) h = inl (inl (marks_answered end' is got awake marked list none all h))
  follows_tried told tale before end' is got awake marked list none (inr full) h = by besides full
    where
      by : (b : Bool) → OnlyWith b (AllOwnOpen s 64 w.end.state.past) → LeavesTried told tale s b PeerMarked (record w { end = end'; responder = gone }) before end' w.responder.calls
      by true f = inr (marks_lacking end' is none f h)
      by false f = absurd f

  -- none waited after the mark was seen
  pub drains : (end' : Line E) → end'.state.past ≡ Empty ∷ w.end.state.past → IsServing s besides w → w.seen ≡ true → is_drained end'.state.past ≡ true
  drains end' is h seen = ap is_drained is ∙ ap (λ b. b || is_drained w.end.state.past) (h.saw ∙ seen)

  -- it sleeps
  pub rests_at : (end' : Line E) (want' : Option ℕ) → want' ≡ need_of w.responder.owed → SleepsFor want' end' → end'.end.state.pages.count ≡ w.end.end.state.pages.count → end'.spare_sent ≡ w.end.spare_sent → HasRoomFor w.responder.owed w.end → end'.state.got ≡ w.end.state.got → (is_nil w.responder.owed ≡ true → HasToWait s besides w) → end'.state.past ≡ w.end.state.past → w.seen ≡ false → Rests s besides (record w { end = end'; want = want' })
  rests_at end' want' want armed pages spare room got waits is unseen = record { want = want; armed = armed; room = room_still w.responder.owed w.end end' pages spare room; waits = λ e. still (waits e); unseen = unseen }
    where
      still : HasToWait s besides w → HasToWait s besides (record w { end = end'; want = want' })
      still (inl (all, more)) = inl (all ∙ ap length (sym got), more)
      still (inr (less, full)) = inr (omega (arith, less, ap length got), subst (λ l. OnlyWith besides (AllOwnOpen s 64 l)) (sym is) full)

  -- a mark ends it, whether the other end's mark was seen or not
  pub ends_by : (seen : Bool) → EndsAll s w w.end.state.past w.responder.calls → AnswersAll s w w.end.state.past w.responder.calls → OwnFrom s 64 w.end.state.past → has_marked w.end.state.past ≡ true → has_seen w.end.state.past ≡ seen → EndsBy s besides (marked_by seen) w w.end w.responder.calls
  ends_by true all answers from marked saw = (all, inl (inl answers), from, marked, saw)
  ends_by false all answers from marked saw = (all, answers, from, marked, saw)

  pub tried_by : (told : E → Option Told) (tale : E → Tale) (seen : Bool) (before : Seen E) → AnswersAll s w w.end.state.past w.responder.calls → LeavesTried told tale s besides (marked_by seen) w before w.end w.responder.calls
  tried_by told tale true before answers = inl (inl answers)
  tried_by told tale false before answers = tt

  pub lacks_none : (left_at : S → ℕ) (seen : Bool) → HasNone w.responder.table → ServedWithin s besides w.end.state.past → LeavesOff s besides w → LacksRoom left_at s besides (marked_by seen) w
  lacks_none left_at true none sent leaves = (none, sent, leaves)
  lacks_none left_at false none sent leaves = (none, sent)

  pub breaks : IsServing s besides w → BreaksOff s w w.end.state.past w.responder.calls
  breaks h = server_breaks s w.responder.held w.serve w.end.state.past w.responder.calls w.responder.owed w.responder.left (drop w.served w.end.state.got) h.kept

  -- a new worker
  pub new_kept : w.end.state.past ≡ [] → w.end.state.got ≡ [] → w.responder.calls ≡ [] → w.responder.table ≡ replicate 64 None → w.responder.owed ≡ [] → w.responder.left ≡ Some w.serve → w.served ≡ 0 → w.missing ≡ w.starts → w.seen ≡ false → w.end.state.machine.asleep ≡ false → IsServing s besides w
  new_kept past got calls table owed left served missing seen awake = record {
    kept = rw (past, got, calls, owed, left, served) (server_new s keeps w.responder.held w.serve);
    own = λ u. rw (past, owed, table) (own_new s (own_in (replicate 64 None)) (λ id. table_empty 64 id));
    from = subst (OwnFrom s 64) (sym past) tt;
    places = ap length table;
    within = omega (arith, served);
    few = omega (arith, ap length owed);
    missing_is = let none : length (filter s.waits (filter s.is_request (got_of w.end.state.past))) ≡ 0 = ap (λ l. length (filter s.waits (filter s.is_request (got_of l)))) past in omega (arith, missing, none);
    saw = ap has_seen past ∙ sym seen;
    rests = λ e. not_both w.end.state.machine.asleep awake e;
    each = λ go. ap (λ n. length (filter (is_asked s) (take n w.end.state.got))) served ∙ ap length (sym calls);
  }

module _ {T S E A Q R : Type 0} (sp : T → WireFormat Item A Q R) (keeps : (t : T) → Keeps (sp t)) (besides : T → Bool) (w : Serving T S E Q R) where
  pub took_by : (end' : Line E) (responder' : Responder T S Q R) (missing' : ℕ) (p : Item) → end'.state.past ≡ Got p ∷ w.end.state.past → end'.state.got ≡ w.end.state.got ++ p ∷ [] → end'.state.machine.asleep ≡ false
      → missing' ≡ w.missing - (if (sp w.responder.protocol).is_request p && (sp w.responder.protocol).waits p then 1 else 0) → Closes (sp w.responder.protocol) w.responder.owed p w.responder.table responder'.table → length responder'.table ≡ length w.responder.table
      → responder' ≡ record w.responder { table = responder'.table } → w.end.state.machine.marked ≡ false → IsServing (sp w.responder.protocol) (besides w.responder.protocol) w → IsServing (sp responder'.protocol) (besides responder'.protocol) (record w { end = end'; missing = missing'; responder = responder' })
  took_by end' responder' missing' p is more awake less close size responder unmarked h =
      subst (λ d. IsServing (sp d.protocol) (besides d.protocol) (record w { end = end'; missing = missing'; responder = d })) (sym responder)
      (took_kept (sp w.responder.protocol) (keeps w.responder.protocol) (besides w.responder.protocol) w end' responder'.table missing' p is more awake less close size unmarked h)

  pub marked_by_protocol : (end' : Line E) (responder' : Responder T S Q R) → end'.state.past ≡ Marked ∷ w.end.state.past → end'.state.got ≡ w.end.state.got → end'.state.machine.asleep ≡ false → end'.state.machine.marked ≡ true → responder' ≡ record w.responder { table = replicate 64 None }
      → IsServing (sp w.responder.protocol) (besides w.responder.protocol) w → IsServing (sp responder'.protocol) (besides responder'.protocol) (record w { end = end'; responder = responder' })
  marked_by_protocol end' responder' is got awake marked responder h =
      subst (λ d. IsServing (sp d.protocol) (besides d.protocol) (record w { end = end'; responder = d })) (sym responder) (marked_kept (sp w.responder.protocol) (keeps w.responder.protocol) (besides w.responder.protocol) w end' is got awake marked h)

  -- what a worker gives whose table was emptied
  pub ends_gone : (how : Ended) (end' : Line E) (responder' : Responder T S Q R) → responder' ≡ record w.responder { table = replicate 64 None }
      → EndsBy (sp w.responder.protocol) (besides w.responder.protocol) how (record w { end = end'; responder = record w.responder { table = replicate 64 None } }) end' w.responder.calls
      → EndsBy (sp responder'.protocol) (besides responder'.protocol) how (record w { end = end'; responder = responder' }) end' responder'.calls
  ends_gone how end' responder' responder h = subst (λ d. EndsBy (sp d.protocol) (besides d.protocol) how (record w { end = end'; responder = d }) end' d.calls) (sym responder) h

  pub room_gone : (left_at : S → ℕ) (how : Ended) (end' : Line E) (responder' : Responder T S Q R) → responder' ≡ record w.responder { table = replicate 64 None }
      → LacksRoom left_at (sp w.responder.protocol) (besides w.responder.protocol) how (record w { end = end'; responder = record w.responder { table = replicate 64 None } })
      → LacksRoom left_at (sp responder'.protocol) (besides responder'.protocol) how (record w { end = end'; responder = responder' })
  room_gone left_at how end' responder' responder h = subst (λ d. LacksRoom left_at (sp d.protocol) (besides d.protocol) how (record w { end = end'; responder = d })) (sym responder) h

  pub tried_gone : (told : E → Option Told) (tale : E → Tale) (how : Ended) (before : Seen E) (end' : Line E) (responder' : Responder T S Q R) → responder' ≡ record w.responder { table = replicate 64 None }
      → LeavesTried told tale (sp w.responder.protocol) (besides w.responder.protocol) how (record w { end = end'; responder = record w.responder { table = replicate 64 None } }) before end' w.responder.calls
      → LeavesTried told tale (sp responder'.protocol) (besides responder'.protocol) how (record w { end = end'; responder = responder' }) before end' responder'.calls
  tried_gone told tale how before end' responder' responder h =
      subst (λ d. LeavesTried told tale (sp d.protocol) (besides d.protocol) how (record w { end = end'; responder = d }) before end' d.calls) (sym responder) h

  pub gave_by : (end' : Line E) (responder' : Responder T S Q R) (p : Item) → end'.state.past ≡ Sent p ∷ w.end.state.past → w.responder.owed ≡ p ∷ drop 1 w.responder.owed
      → responder' ≡ record w.responder { owed = drop 1 w.responder.owed; sheets = drop 1 w.responder.sheets } → end'.state.got ≡ w.end.state.got → end'.state.machine.asleep ≡ false → w.end.state.machine.marked ≡ false
      → IsServing (sp w.responder.protocol) (besides w.responder.protocol) w → IsServing (sp responder'.protocol) (besides responder'.protocol) (record w { end = end'; responder = responder' })
  gave_by end' responder' p is first responder got awake unmarked h =
      subst (λ t. IsServing (sp t) (besides t) (record w { end = end'; responder = responder' })) (sym (ap (λ (d : Responder T S Q R). d.protocol) responder))
      (gave_kept (sp w.responder.protocol) (keeps w.responder.protocol) (besides w.responder.protocol) w end' responder' p is first responder got awake unmarked h)

  pub served_by : (responder' : Responder T S Q R) (p : Item) → w.served + 1 ≤ length w.end.state.got → slice_get w.end.state.got w.served ≡ Some p → w.responder.owed ≡ [] → lacks_call (sp w.responder.protocol) w ≡ false → length responder'.owed ≤ 2 → responder'.held ≡ w.responder.held → responder'.protocol ≡ w.responder.protocol
      → ServesPacket (sp responder'.protocol) responder'.held p w.responder.left w.responder.calls responder'.calls responder'.owed responder'.left → Owes (sp responder'.protocol) responder'.owed (own_in w.responder.table) (own_in responder'.table) → length responder'.table ≡ length w.responder.table
      → w.end.state.machine.asleep ≡ false → IsServing (sp w.responder.protocol) (besides w.responder.protocol) w → IsServing (sp responder'.protocol) (besides responder'.protocol) (record w { responder = responder'; served = w.served + 1 })
  served_by responder' p less at none not_lacks few held protocol one owes size awake h =
      subst (λ t. IsServing (sp t) (besides t) (record w { responder = responder'; served = w.served + 1 })) (sym protocol)
      (served_kept (sp w.responder.protocol) (keeps w.responder.protocol) (besides w.responder.protocol) w responder' p less at none not_lacks few held (subst (λ t. ServesPacket (sp t) responder'.held p w.responder.left w.responder.calls responder'.calls responder'.owed responder'.left) protocol one)
      (subst (λ t. Owes (sp t) responder'.owed (own_in w.responder.table) (own_in responder'.table)) protocol owes) size awake h)

module _ {T S E Q R C : Type 0} (same : S → S → Type 0) (channel : E → C) (told : E → Option Told) where
  -- the same worker still
  pub on_trans : ((a b c : S) → same a b → same b c → same a c) → (u v w : Serving T S E Q R) → ServesOn same channel told u v → ServesOn same channel told v w → ServesOn same channel told u w
  on_trans trans u v w a b = record {
    protocol = b.protocol ∙ a.protocol;
    relid = b.relid ∙ a.relid;
    held = b.held ∙ a.held;
    serve = b.serve ∙ a.serve;
    stops = b.stops ∙ a.stops;
    starts = b.starts ∙ a.starts;
    come = b.come ∙ a.come;
    before = b.before ∙ a.before;
    end = record { seat = b.end.seat ∙ a.end.seat; side = b.end.side ∙ a.end.side; pages = b.end.pages ∙ a.end.pages };
    tells = b.tells ∙ a.tells;
    seat = trans u.responder.seat v.responder.seat w.responder.seat a.seat b.seat;
  }

  pub on_refl : ((a : S) → same a a) → (w : Serving T S E Q R) → ServesOn same channel told w w
  on_refl r w = record { protocol = refl; relid = refl; held = refl; serve = refl; stops = refl; starts = refl; come = refl; before = refl; end = record { seat = refl; side = refl; pages = refl }; tells = refl; seat = r w.responder.seat }

  orders_on : {A : Type 0} (s : WireFormat Item A Q R) (plan : RequestPlan A) (u w : Serving T S E Q R) → ServesOn same channel told u w → Orders s plan u → Orders s plan w
  orders_on s plan u w on is = record { serve = on.serve ∙ is.serve; held = on.held ∙ is.held; stops = on.stops ∙ is.stops; starts = on.starts ∙ is.starts }

  serves_on : {A : Type 0} (s : WireFormat Item A Q R) (u w : Serving T S E Q R) (got sent : List Item) (calls : List (Call Q R)) → ServesOn same channel told u w → Serves s w.responder.held got w.serve calls sent → Serves s u.responder.held got u.serve calls sent
  serves_on s u w got sent calls on h = subst (λ b. Serves s b got u.serve calls sent) on.held (subst (λ n. Serves s w.responder.held got n calls sent) on.serve h)

  answers_on : {A : Type 0} (s : WireFormat Item A Q R) (u w : Serving T S E Q R) (past : List (Event Item)) (calls : List (Call Q R)) → ServesOn same channel told u w → AnswersAll s w past calls → AnswersAll s u past calls
  answers_on s u w past calls on h = record { serves = serves_on s u w (got_of past) (sent_of past) calls on h.serves; each = λ go. h.each (on.stops ∙ go) }

  gone_on : {A : Type 0} (s : WireFormat Item A Q R) (u w : Serving T S E Q R) (e : Line E) (calls : List (Call Q R)) → ServesOn same channel told u w → LetsGo s w e calls → LetsGo s u e calls
  gone_on s u w e calls on h = record { served = h.served; first = h.first; missing = h.missing; serves = serves_on s u w h.served (sent_of e.state.past ++ h.missing) calls on h.serves; few = h.few; full = h.full }

  place_on : {A : Type 0} (s : WireFormat Item A Q R) (u w : Serving T S E Q R) (past : List (Event Item)) (calls : List (Call Q R)) → ServesOn same channel told u w → LacksPlace s w past calls → LacksPlace s u past calls
  place_on s u w past calls on h = record { served = h.served; first = h.first; serves = serves_on s u w h.served (sent_of past) calls on h.serves; full = h.full }

  -- what it gives at its end is what was asked of it at its beginning
  pub ends_on : {A : Type 0} (sp : T → WireFormat Item A Q R) (besides : T → Bool) (how : Ended) (u w : Serving T S E Q R) (e : Line E) (calls : List (Call Q R)) → ServesOn same channel told u w
      → EndsBy (sp w.responder.protocol) (besides w.responder.protocol) how w e calls → EndsBy (sp u.responder.protocol) (besides u.responder.protocol) how u e calls
  ends_on {A = A} sp besides how u w e calls on h = by how (subst (λ t. EndsBy (sp t) (besides t) how w e calls) on.protocol h)
    where
      by : (how : Ended) → EndsBy (sp u.responder.protocol) (besides u.responder.protocol) how w e calls → EndsBy (sp u.responder.protocol) (besides u.responder.protocol) how u e calls
      by EndedMarked h = (λ plan is. h.0 plan (orders_on (sp u.responder.protocol) plan u w on is), answers_on (sp u.responder.protocol) u w e.state.past calls on h.1, h.2, h.3, h.4)
      by PeerMarked h = (
        λ plan is. h.0 plan (orders_on (sp u.responder.protocol) plan u w on is),
        on_either
            (on_either (answers_on (sp u.responder.protocol) u w e.state.past calls on) (gone_on (sp u.responder.protocol) u w e calls on))
            (only_on (besides u.responder.protocol) (place_on (sp u.responder.protocol) u w e.state.past calls on)) h.1,
        h.2,
        h.3,
        h.4,
      )
      by (Room packets words left) h =
          (subst (λ b. ServerBreaks (sp u.responder.protocol) b u.serve e.state.past calls) on.held (subst (λ n. ServerBreaks (sp u.responder.protocol) w.responder.held n e.state.past calls) on.serve h.0), h.1)
      by (EndedBroken why) h =
          (subst (λ b. ServerBreaks (sp u.responder.protocol) b u.serve e.state.past calls) on.held (subst (λ n. ServerBreaks (sp u.responder.protocol) w.responder.held n e.state.past calls) on.serve h.0), h.1)

  -- and so is what it tried
  pub tried_on : {A : Type 0} (tale : E → Tale) (sp : T → WireFormat Item A Q R) (besides : T → Bool) (how : Ended) (u w : Serving T S E Q R) (before : Seen E) (e : Line E) (calls : List (Call Q R)) → ServesOn same channel told u w
      → LeavesTried told tale (sp w.responder.protocol) (besides w.responder.protocol) how w before e calls → LeavesTried told tale (sp u.responder.protocol) (besides u.responder.protocol) how u before e calls
  tried_on {A = A} tale sp besides how u w before e calls on h = by how (subst (λ t. LeavesTried told tale (sp t) (besides t) how w before e calls) on.protocol h)
    where
      goes_on : LetsGoTried told tale (sp u.responder.protocol) w before e calls → LetsGoTried told tale (sp u.responder.protocol) u before e calls
      goes_on k = record {
        goes = record { served = k.goes.served; first = k.goes.first; missing = k.goes.missing; serves = serves_on (sp u.responder.protocol) u w k.goes.served (sent_of e.state.past ++ k.goes.missing) calls on k.goes.serves; few = k.goes.few; full = k.goes.full };
        tried = k.tried;
      }

      by : (how : Ended) → LeavesTried told tale (sp u.responder.protocol) (besides u.responder.protocol) how w before e calls → LeavesTried told tale (sp u.responder.protocol) (besides u.responder.protocol) how u before e calls
      by EndedMarked k = tt
      by PeerMarked k =
          on_either (on_either (answers_on (sp u.responder.protocol) u w e.state.past calls on) goes_on) (only_on (besides u.responder.protocol) (place_on (sp u.responder.protocol) u w e.state.past calls on)) k
      by (Room packets words left) k = tt
      by (EndedBroken why) k = tt

  -- a worker that ended in a turn had tried what it let go
  pub ever_tried : {A : Type 0} (tale : E → Tale) (sp : T → WireFormat Item A Q R) (besides : T → Bool) (how : Ended) (u v w : Serving T S E Q R) → ServesOn same channel told u v → ServesOn same channel told u w → ServeCause told tale (TurnEnded how) v.end w.end
      → (v.end.state.machine.asleep ≡ false → LeavesTried told tale (sp w.responder.protocol) (besides w.responder.protocol) how w v.end.end w.end w.responder.calls)
      → EverTried channel told tale (sp u.responder.protocol) (besides u.responder.protocol) how u w.end w.responder.calls
  ever_tried tale sp besides how u v w a on cause tried = record {
    before = v.end.end;
    same = a.end;
    tried = tried_on tale sp besides how u w v.end.end w.end w.responder.calls on (tried (awake v.end.state.machine.asleep refl));
  }
    where
      awake : (b : Bool) → v.end.state.machine.asleep ≡ b → v.end.state.machine.asleep ≡ false
      awake true e = absurd (cause.asleep e)
      awake false e = e

  -- and so is what it lacked
  pub lacks_on : {A : Type 0} (sp : T → WireFormat Item A Q R) (besides : T → Bool) (how : Ended) (u w : Serving T S E Q R) (past : List (Event Item)) → ServesOn same channel told u w
      → ServeLacksFor (sp w.responder.protocol) (besides w.responder.protocol) (w.starts + w.come) w.serve w.stops how past → ServeLacksFor (sp u.responder.protocol) (besides u.responder.protocol) (u.starts + u.come) u.serve u.stops how past
  lacks_on sp besides how u w past on h =
      let room : w.starts + w.come ≡ u.starts + u.come = omega (arith, on.starts, on.come) in
      subst (λ n. ServeLacksFor (sp u.responder.protocol) (besides u.responder.protocol) n u.serve u.stops how past) room
      (subst (λ b. ServeLacksFor (sp u.responder.protocol) (besides u.responder.protocol) (w.starts + w.come) u.serve b how past) on.stops
      (subst (λ n. ServeLacksFor (sp u.responder.protocol) (besides u.responder.protocol) (w.starts + w.come) n w.stops how past) on.serve
      (subst (λ t. ServeLacksFor (sp t) (besides t) (w.starts + w.come) w.serve w.stops how past) on.protocol h)))
