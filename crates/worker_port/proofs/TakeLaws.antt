-- What a worker knows of its end after a take.
use Rattle.std.proofs.Common.{◌≡◌, ◌≢◌, ◌≤◌, ◌==◌, ℕ, zero, suc, List, [], ◌∷◌, ◌++◌, length, Option, Some, None, Bool, true, false, cond, inl, inr, refl, sym, ap, ◌∙◌, subst, arith}
use Rattle.std.specs.Prelude.{slice_get}
use Rattle.channel_trace.specs.declared.event.Event.{Event}
use Rattle.channel_trace.specs.declared.event.Event.TheVariants.{Got}
use Rattle.channel_trace.specs.Runs.{sent_of, got_of, has_marked}
use Rattle.ring_machine.specs.declared.last.TakeRefusal.{TakeRefusal}
use Rattle.ring_machine.specs.declared.machine.Ending.{Ending}
use Rattle.ring_machine.specs.declared.machine.Ending.TheVariants.{Empty as EndedEmpty, BadIndex, BadLength, BadOffset, CommittedQuiet, CommittedRaised}
use Rattle.ring_machine.specs.declared.machine.EndMachine.{EndMachine}
use Rattle.ring_machine.specs.declared.machine.Stage.TheVariants.{Idle, Stopped}
use Rattle.worker_port.specs.declared.found.Found.{Found}
use Rattle.worker_port.specs.declared.found.Found.TheVariants.{Packet as FoundPacket, Nothing as FoundNothing, Broken as FoundBroken}
use Rattle.ring_machine.specs.EndCalls.{Commit, Take}
use Rattle.ring_machine.specs.Endings.{LeavesBy, take_refusal}
use Rattle.ring_machine.specs.States.{Gets, IsPacket, past_of}
use Rattle.ring_machine.specs.Steps.{call_by, is_broken, is_busy_at, is_took}
use Rattle.page_kept.specs.declared.item.Item.{Item}
use Rattle.page_kept.specs.Items.{item_of, packets as packets_of}
use Rattle.page_kept.specs.Kept.{pages_took}
use Rattle.page_kept.specs.Layouts.{layout}
use Rattle.ring_machine.specs.PageCalls.{newest}
use Rattle.ring_core.specs.Pages.{IsClear}
use Rattle.ring_core.proofs.Paging.{first_of, other_of}
use Rattle.ring_core.specs.declared.told.Told.{Told}
use Rattle.ring_core.specs.Seen.{Kept, Seen}
use Rattle.ring_core.specs.Taking.{Takes, TakesIdle, is_honest_take}
use Rattle.ring_core.specs.Told.{Tale}
use Rattle.ring_sleep.proofs.Telling.{tells_on, told_of}
use Rattle.worker_port.specs.Tries.{FoundNone}
use Rattle.worker_port.specs.Line.{IsLine, Line, LineState, TookOne, found_of, got_as, has_packet, line_of, past_as, words_at}
use Rattle.worker_port.proofs.ItemLaws.{Grows, found_past, got_more, got_same_as, past_finds, past_got}
use Rattle.worker_port.proofs.PortLaws.{items_on, line_on, rests_by}
use Rattle.pkt_desc.specs.Packets.{kind_of, id_of}
use Rattle.page_home_laws.specs.Home.{closed}
use Rattle.worker_port.specs.Homes.{HasHome, KeepsHome, TakesHome}
use Rattle.worker_port.proofs.HomeLaws.{home_taken}
use Rattle.worker_port.proofs.PageLaws.{TakenPages, TakenWhole, by_count, few_more, newest_more}

-- a refusal says that nothing was taken, and which it is
untook : (took : Bool) (r other : TakeRefusal) → Some r ≡ cond took None (Some other) → (took ≡ false) × (r ≡ other)
untook true r other e = cc
untook false r other e = (refl, cc)

took_by_answer : (took : Bool) (r : TakeRefusal) → None ≡ cond took None (Some r) → took ≡ true
took_by_answer true r e = refl
took_by_answer false r e = cc

took_stage : (how : Ending) → is_took how ≡ true → cond (is_broken how) Stopped Idle ≡ Idle
took_stage how e = grind (arith, e)

-- how a take ended that took nothing, by its refusal
refused_past : (how : Ending) (m : EndMachine) (saw : Bool) (past : List (Event (List ℕ))) (r : TakeRefusal) → call_by how ≡ Take → is_took how ≡ false → r ≡ take_refusal how m → past_of how saw [] past ≡ found_past (found_of (Some r)) past
refused_past EndedEmpty m saw past r call none is = cc (is)
refused_past BadIndex m saw past r call none is = cc (is)
refused_past BadLength m saw past r call none is = cc (is)
refused_past BadOffset m saw past r call none is = cc (is)
refused_past _ m saw past r call none is = grind (arith, call, none)

-- a take that found nothing ended so
empty_how : (how : Ending) (m : EndMachine) (r : TakeRefusal) → call_by how ≡ Take → is_took how ≡ false → r ≡ take_refusal how m → found_of (Some r) ≡ FoundNothing → how ≡ EndedEmpty
empty_how EndedEmpty m r call none is nothing = refl
empty_how BadIndex m r call none is nothing = cc (is, nothing)
empty_how BadLength m r call none is nothing = cc (is, nothing)
empty_how BadOffset m r call none is nothing = cc (is, nothing)
empty_how _ m r call none is nothing = grind (arith, call, none)

pub found_none : {S : Type 0} (told : S → Option Told) (tale : S → Tale) (old new : Seen S) (o : Option TakeRefusal) → TakesIdle S told tale old new o → found_of o ≡ FoundNothing → FoundNone told tale old new
found_none told tale old new None takes nothing = cc
found_none told tale old new (Some r) takes nothing =
    let m : EndMachine = new.state.machine in
    let no = untook (is_took m.ended) r (take_refusal m.ended m) takes.answer in
    record { looked = takes.ran; none = empty_how m.ended m r takes.call no.0 no.1 nothing }

-- what a take that took nothing adds to the past adds neither an item nor a mark
found_adds : (f : Found) (past : List (Event (List ℕ))) → (sent_of (found_past f past) ≡ sent_of past) × (got_of (found_past f past) ≡ got_of past) × (has_marked (found_past f past) ≡ has_marked past)
found_adds f past = grind arith

-- the refusal of a take that took nothing
pub refusal_in : (o : Option TakeRefusal) → (found_of o ≡ FoundPacket → ⊥) → (r : TakeRefusal) × (o ≡ Some r)
refusal_in None not = absurd (not refl)
refusal_in (Some r) not = (r, refl)

pub no_packet : (o : Option TakeRefusal) (f : Found) → f ≡ found_of o → has_packet f ≡ false → found_of o ≡ FoundPacket → ⊥
no_packet o f is none packet = cc (packet, is, none)

pub a_packet : (f : Found) → has_packet f ≡ true → f ≡ FoundPacket
a_packet FoundPacket is = refl
a_packet _ is = cc (is)

pub no_refusal : (o : Option TakeRefusal) → found_of o ≡ FoundPacket → o ≡ None
no_refusal o is = grind (arith, is)

took_by : (f : Found) (s t : LineState) → (f ≡ FoundPacket → ⊥) → t.past ≡ found_past f s.past → t.got ≡ s.got → TookOne f s t
took_by FoundPacket s t not past got = absurd (not refl)
took_by FoundNothing s t not past got = (past, got)
took_by FoundBroken s t not past got = (past, got)

pub honest_found : (o : Option TakeRefusal) → is_honest_take o ≡ true → found_of o ≡ FoundBroken → ⊥
honest_found o honest broken = grind (arith, honest, broken)

packets_more : (ps : List (List ℕ)) (w : List ℕ) → IsPacket w → ((i : ℕ) (p : List ℕ) → slice_get ps i ≡ Some p → IsPacket p) → (i : ℕ) (p : List ℕ) → slice_get (ps ++ w ∷ []) i ≡ Some p → IsPacket p
packets_more [] w k h zero p e = let same : w ≡ p = cc in subst IsPacket same k
packets_more [] w k h (suc i) p e = absurd (cc)
packets_more (q ∷ ps) w k h zero p e = h zero p e
packets_more (q ∷ ps) w k h (suc i) p e = packets_more ps w k (λ j x f. h (suc j) x f) i p e

last_same : {X : Type 0} (xs : List X) (a b : X) → xs ++ a ∷ [] ≡ xs ++ b ∷ [] → a ≡ b
last_same [] a b e = cc
last_same (x ∷ xs) a b e = last_same xs a b (cc)

pub takes_none : {S : Type 0} (f : Found) (old new : Line S) → (f ≡ FoundPacket → ⊥) → KeepsHome old.end.state new.end.state → TakesHome f old new
takes_none FoundPacket old new not h = absurd (not refl)
takes_none FoundNothing old new not h = h
takes_none FoundBroken old new not h = h

-- a commit adds nothing to what the end did
pub commit_past : (how : Ending) (saw : Bool) (past : List (Event (List ℕ))) → call_by how ≡ Commit → past_of how saw [] past ≡ past
commit_past CommittedQuiet saw past e = refl
commit_past CommittedRaised saw past e = refl
commit_past _ saw past e = absurd (cc)

module _ {S : Type 0} {told : S → Option Told} {tale : S → Tale} {same : S → S → Type 0} where
  -- after one that took nothing
  module _ (old new : Seen S) (o : Option TakeRefusal) (not : found_of o ≡ FoundPacket → ⊥) (takes : Takes S told tale same old new o) (idle : old.state.machine.stage ≡ Idle) where
    abbrev m : EndMachine
    m = new.state.machine

    refusal : (r : TakeRefusal) × (o ≡ Some r)
    refusal = refusal_in o not

    abbrev r : TakeRefusal
    r = refusal.0

    some : o ≡ Some r
    some = refusal.1

    t : TakesIdle S told tale old new o
    t = takes.idle idle

    no : (is_took m.ended ≡ false) × (r ≡ take_refusal m.ended m)
    no = untook (is_took m.ended) r (take_refusal m.ended m) (sym some ∙ t.answer)

    past : new.state.past ≡ found_past (found_of o) old.state.past
    past = (t.refused no.0).1 ∙ (refused_past m.ended m m.saw old.state.past r t.call no.0 no.1 ∙ ap (λ x. found_past (found_of x) old.state.past) (sym some))

    module _ (f : Item → Item) (pages : new.state.pages ≡ old.state.pages) where
      pub refused_took : TookOne (found_of o) (line_of f old).state (line_of f new).state
      refused_took = took_by (found_of o) (line_of f old).state (line_of f new).state not (past_finds f (found_of o) old.state new.state not past takes.kept.0 (t.refused no.0).0 pages) (got_same_as f old.state new.state (t.refused no.0).0 pages)

      pub refused_room : ((line_of f new).state.got ≡ (line_of f old).state.got) × (new.spare_got ≡ old.spare_got)
      refused_room = (got_same_as f old.state new.state (t.refused no.0).0 pages, (t.refused no.0).2)

    pub refused_line : new.state.pages ≡ old.state.pages → old.state.machine.marked ≡ false → IsLine told old → IsLine told new
    refused_line pages unmarked h =
        let adds = found_adds (found_of o) old.state.past in
        line_on told old new pages takes.kept.0 (t.refused no.0).0 takes.cells
        (ap is_busy_at t.leaves.stage ∙ rests_by (is_broken m.ended), λ e. cc (takes.awake.0, e), λ e. let u = told_of (told old.seat) (sym (tells_on _ _ _ _ _ _ t.ran) ∙ e) in (takes.honest u.0 u.1).1)
        (t.after.start (λ e. cc)) (cc (t.leaves.read, no.0)) (cc (past, adds.0)) (cc (past, adds.1)) (cc (takes.awake.1, unmarked, h.mark, past, adds.2)) h

    -- the packets stay
    pub refused_list : new.state.got ≡ old.state.got
    refused_list = (t.refused no.0).0

    -- the pages stay
    pub refused_pages : new.state.pages ≡ cond (is_took m.ended) (pages_took (layout old.state.pages.count) old.state.pages (newest new.state.got)) old.state.pages → new.state.pages ≡ old.state.pages
    refused_pages is = is ∙ other_of (is_took m.ended) (pages_took (layout old.state.pages.count) old.state.pages (newest new.state.got)) old.state.pages no.0

  -- the pages, where a packet was taken
  pub took_pages_of : (old new : Seen S) (o : Option TakeRefusal) → Takes S told tale same old new o → old.state.machine.stage ≡ Idle → o ≡ None
      → new.state.pages ≡ cond (is_took new.state.machine.ended) (pages_took (layout old.state.pages.count) old.state.pages (newest new.state.got)) old.state.pages → new.state.pages ≡ pages_took (layout old.state.pages.count) old.state.pages (newest new.state.got)
  took_pages_of old new o takes idle none is =
      is ∙ first_of (is_took new.state.machine.ended) (pages_took (layout old.state.pages.count) old.state.pages (newest new.state.got)) old.state.pages (took_by_answer (is_took new.state.machine.ended) (take_refusal new.state.machine.ended new.state.machine) (sym none ∙ (takes.idle idle).answer))

  pub took_idle : (old new : Seen S) (o : Option TakeRefusal) → Takes S told tale same old new o → old.state.machine.stage ≡ Idle → o ≡ None → new.state.machine.stage ≡ Idle
  took_idle old new o takes idle none =
      (takes.idle idle).leaves.stage ∙ took_stage new.state.machine.ended (took_by_answer (is_took new.state.machine.ended) (take_refusal new.state.machine.ended new.state.machine) (sym none ∙ (takes.idle idle).answer))

  -- after one that took a packet, whose page words were loaded, and whose cells were given back
  module _ (old mid whole new : Seen S) (o : Option TakeRefusal) (takes : Takes S told tale same old mid o) (gets : Gets mid.state.machine.len old.state.got mid.state.got old.state.past mid.state.past)
      (w : TakenWhole told same old.state.pages gets.words mid whole) (past : new.state.past ≡ whole.state.past) (kept : Kept whole new) (h : IsLine told old) where
    abbrev tp : TakenPages old.state.pages whole.state.pages gets.words w.words
    tp = w.pages

    took_events : new.state.past ≡ Got gets.words ∷ old.state.past
    took_events = past ∙ (w.past ∙ gets.past_is)

    took_list : new.state.got ≡ old.state.got ++ gets.words ∷ []
    took_list = kept.got ∙ (w.list_got ∙ gets.list)

    sent_list : new.state.sent ≡ old.state.sent
    sent_list = kept.sent ∙ (w.list_sent ∙ takes.kept.0)

    pub taken_count : new.state.pages.count ≡ old.state.pages.count
    taken_count = ap (λ k. k.count) kept.pages ∙ tp.count

    took_sent : new.state.pages.sent ≡ old.state.pages.sent
    took_sent = ap (λ k. k.sent) kept.pages ∙ tp.sent

    -- the packet and its page words stand last
    grown : Grows old.state.got new.state.got old.state.pages.got new.state.pages.got gets.words w.words
    grown = record {
      list = took_list;
      items = by_count old.state.pages.count (λ z. inl ((h.pages.none z).1, ap (λ k. k.got) kept.pages ∙ ((tp.none z).1 ∙ (h.pages.none z).1), (tp.none z).0)) (λ some. inr ((h.pages.items some).1, ap (λ k. k.got) kept.pages ∙ tp.some some));
    }

    module _ (f : Item → Item) where
      pub taken_past : past_as f new.state ≡ Got (f (item_of gets.words w.words)) ∷ past_as f old.state
      taken_past = past_got f old new gets.words w.words h took_events grown sent_list took_sent

      pub taken_got : got_as f new.state ≡ got_as f old.state ++ f (item_of gets.words w.words) ∷ []
      taken_got = got_more f old new gets.words w.words grown

    -- a completion closes its id
    pub taken_home : (f : Item → Item) → ((i : Item) → (f i).packet ≡ i.packet) → mid.state.pages ≡ pages_took (layout old.state.pages.count) old.state.pages (newest mid.state.got) → new.state.machine.side ≡ whole.state.machine.side
        → TakesHome FoundPacket (line_of f old) (line_of f new)
    taken_home f packet took side = λ is_open i is more.
        let p : List ℕ = gets.words in
        let same : i ≡ f (item_of p w.words) = last_same (got_as f old.state) i (f (item_of p w.words)) (sym is ∙ taken_got f) in
        let named : i.packet ≡ p = ap (λ x. x.packet) same ∙ packet (item_of p w.words) in
        subst (λ q. HasHome (cond (kind_of q == 11) (closed is_open (id_of q)) is_open) new.state) (sym named)
        (home_taken old.state new.state mid.state.pages p h.pages.listed (took ∙ ap (pages_took (layout old.state.pages.count) old.state.pages) (ap newest gets.list ∙ newest_more old.state.got p))
        (side ∙ (ap (λ m. m.side) w.machine ∙ takes.side)) took_list taken_count (ap (λ k. k.sent) kept.pages ∙ w.items) (ap (λ k. k.owners) kept.pages ∙ w.owners) is_open more)

    pub one_taken : old.state.machine.marked ≡ false → LeavesBy Commit whole.state.machine new.state.machine → new.state.machine.cells ≡ whole.state.machine.cells
        → (IsClear whole.state.pages → whole.state.pages.count ≢ 0 → (packets_of whole.state.pages.sent ≡ whole.state.sent) × (packets_of whole.state.pages.got ≡ whole.state.got))
        → (whole.state.pages.count ≡ 0 → (whole.state.pages.sent ≡ []) × (whole.state.pages.got ≡ [])) → IsLine told new
    one_taken unmarked after cells items none = record {
      rests = ap is_busy_at (after.idle (λ e. cc) (λ e. cc));
      dozes = λ _. after.idle (λ e. cc) (λ e. cc);
      honest = λ _. after.idle (λ e. cc) (λ e. cc);
      sent = ap sent_of took_events ∙ (h.sent ∙ sym sent_list);
      got = ap got_of took_events ∙ (ap (λ l. l ++ gets.words ∷ []) h.got ∙ sym took_list);
      packets = λ i p e. packets_more old.state.got gets.words gets.packet h.packets i p (ap (λ l. slice_get l i) (sym took_list) ∙ e);
      committed = after.committed refl;
      mark = after.unmarked (λ e. cc) ∙ (sym unmarked ∙ (h.mark ∙ ap has_marked (sym took_events)));
      size = subst (λ n. (512 ≤ n) × (n ≤ 16777216)) (sym (cells ∙ (ap (λ m. m.cells) w.machine ∙ takes.cells))) h.size;
      pages = items_on whole.state new.state kept.pages kept.sent kept.got (record { clear = tp.clear; items = items tp.clear; none = none; few = few_whole; held = tp.held h.pages.held; listed = tp.listed ∙ (h.pages.listed ∙ sym tp.count) });
    }
      where
        few_whole : (i : ℕ) → length (words_at whole.state.pages.got i) ≤ 512
        few_whole i =
            by_count old.state.pages.count (λ z. subst (λ is. length (words_at is i) ≤ 512) (sym (tp.none z).1) (h.pages.few i))
            (λ some. subst (λ is. length (words_at is i) ≤ 512) (sym (tp.some some)) (few_more old.state.pages.got gets.words w.words h.pages.few tp.few i))
