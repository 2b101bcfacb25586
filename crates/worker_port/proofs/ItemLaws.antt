-- What an end did, in items as they are read.
use Rattle.std.proofs.Common.{◌≡◌, ℕ, zero, suc, ◌<◌, ◌≤◌, ◌==◌, ◌⊎◌, inl, inr, Bool, true, false, List, [], ◌∷◌, ◌++◌, length, get_or, refl, sym, ap, ◌∙◌, subst, arith, length-append, Option, Some}
use Rattle.std.proofs.lemmas.List.{map_push}
use Rattle.ring_loan_rule.proofs.Counts.{packets_append}
use Rattle.std.specs.Prelude.{map, slice_get, Result}
use Rattle.channel_trace.specs.declared.event.Event.{Event}
use Rattle.channel_trace.specs.declared.event.Event.TheVariants.{Sent, Got, Empty, Marked, Saw}
use Rattle.channel_trace.specs.Filled.{IsFilledBy, filled}
use Rattle.channel_trace.specs.Runs.{sent_of, got_of, has_marked}
use Rattle.channel_trace.proofs.Filling.{all_got, marked_filled}
use Rattle.page_kept.specs.declared.item.Item.{Item}
use Rattle.page_kept.specs.Items.{item_of, packets}
use Rattle.page_kept.specs.Kept.{pages_sent}
use Rattle.page_kept.specs.Layouts.{layout}
use Rattle.ring_machine.specs.declared.last.Armed.{Armed}
use Rattle.ring_machine.specs.declared.last.Armed.TheVariants.{Asleep, Work}
use Rattle.ring_machine.specs.declared.last.SendRefusal.{SendRefusal}
use Rattle.ring_machine.specs.declared.last.Signalled.{Signalled}
use Rattle.ring_machine.specs.declared.machine.Ending.{Ending}
use Rattle.ring_machine.specs.declared.machine.Ending.TheVariants.{FellAsleep, FoundWork, NoSignal, Woke, Full, BadPeer, SentQuiet, SentRaised, Marked as EndedMarked}
use Rattle.ring_machine.specs.declared.machine.EndMachine.{EndMachine}
use Rattle.ring_machine.specs.declared.state.EndState.{EndState}
use Rattle.ring_machine.specs.EndCalls.{Arm, Mark, Poll, Send}
use Rattle.ring_machine.specs.Endings.{is_asleep, is_dozed, send_answer}
use Rattle.ring_machine.specs.States.{past_of}
use Rattle.ring_machine.specs.Steps.{call_by, is_sent}
use Rattle.ring_core.specs.Seen.{Kept, Seen}
use Rattle.ring_core.specs.declared.told.Told.{Told}
use Rattle.worker_port.specs.declared.found.Found.{Found}
use Rattle.worker_port.specs.declared.found.Found.TheVariants.{Packet as FoundPacket, Nothing as FoundNothing, Broken as FoundBroken}
use Rattle.ring_core.specs.Laying.{laid}
use Rattle.ring_core.specs.Pages.{last_words}
use Rattle.ring_core.proofs.Paging.{first_of}
use Rattle.worker_port.specs.Line.{IsLine, Line, got_as, item_sent, line_of, look_of, looked, past_as, past_tried, tried_of, whole, words_at, words_sent}
use Rattle.worker_port.proofs.PageLaws.{by_count, is_zero}

-- the things before one that comes behind, and that one
front_thing : {Q : Type 0} (things : List Q) (x : Q) (n : ℕ) (d : Q) → n < length things → get_or (things ++ x ∷ []) n d ≡ get_or things n d
front_thing [] x n d h = absurd (omega (arith, h))
front_thing (t ∷ ts) x zero d h = refl
front_thing (t ∷ ts) x (suc n) d h = front_thing ts x n d (omega (arith, h))

last_thing : {Q : Type 0} (things : List Q) (x d : Q) (n : ℕ) → n ≡ length things → get_or (things ++ x ∷ []) n d ≡ x
last_thing [] x d zero e = refl
last_thing (t ∷ ts) x d (suc n) e = last_thing ts x d n (omega (arith, e))
last_thing _ x d _ e = absurd (omega (arith, e))

-- with one more thing behind, the events before are the same
module _ {P Q : Type 0} (plain : P → Q) where
  sent_behind : (s g : List Q) (x : Q) (past : List (Event P)) → length (sent_of past) ≤ length s → filled plain (s ++ x ∷ []) g past ≡ filled plain s g past
  sent_behind s g x [] h = refl
  sent_behind s g x (Sent p ∷ past) h =
      let n = length-append (sent_of past) (p ∷ []) in
      (λ i. Sent (front_thing s x (length (sent_of past)) (plain p) (omega (arith, h, n)) i) ∷ sent_behind s g x past (omega (arith, h, n)) i)
  sent_behind s g x (_ ∷ past) h = cc (sent_behind s g x past h)

  got_behind : (s g : List Q) (x : Q) (past : List (Event P)) → length (got_of past) ≤ length g → filled plain s (g ++ x ∷ []) past ≡ filled plain s g past
  got_behind s g x [] h = refl
  got_behind s g x (Got p ∷ past) h =
      let n = length-append (got_of past) (p ∷ []) in
      (λ i. Got (front_thing g x (length (got_of past)) (plain p) (omega (arith, h, n)) i) ∷ got_behind s g x past (omega (arith, h, n)) i)
  got_behind s g x (_ ∷ past) h = cc (got_behind s g x past h)

  sent_next : (s g : List Q) (x : Q) (p : P) (past : List (Event P)) → length (sent_of past) ≡ length s → filled plain (s ++ x ∷ []) g (Sent p ∷ past) ≡ Sent x ∷ filled plain s g past
  sent_next s g x p past e = (λ i. Sent (last_thing s x (plain p) (length (sent_of past)) e i) ∷ sent_behind s g x past (omega (arith, e)) i)

  got_next : (s g : List Q) (x : Q) (p : P) (past : List (Event P)) → length (got_of past) ≡ length g → filled plain s (g ++ x ∷ []) (Got p ∷ past) ≡ Got x ∷ filled plain s g past
  got_next s g x p past e = (λ i. Got (last_thing g x (plain p) (length (got_of past)) e i) ∷ got_behind s g x past (omega (arith, e)) i)

-- what a take that took nothing adds to the past
abbrev pub found_past : {P : Type 0} → Found → List (Event P) → List (Event P)
found_past FoundNothing past = Empty ∷ past
found_past _ past = past

-- the items of packets: none, or one for each
abbrev pub Along : List (List ℕ) → List Item → Type 0
Along ps [] = Unit {0}
Along [] (i ∷ is) = ⊥
Along (p ∷ ps) (i ∷ is) = (i.packet ≡ p) × Along ps is

pub along_by : (ps : List (List ℕ)) (is : List Item) → packets is ≡ ps → Along ps is
along_by ps [] e = tt
along_by [] (i ∷ is) e = cc
along_by (p ∷ ps) (i ∷ is) e = (cc, along_by ps is (cc))

pub packets_along : (ps : List (List ℕ)) (is : List Item) → Along ps is → packets (whole ps is) ≡ ps
packets_along [] [] e = refl
packets_along (p ∷ ps) [] e = ap (λ (l : List (List ℕ)). p ∷ l) (packets_along ps [] tt)
packets_along [] (i ∷ is) e = absurd e
packets_along (p ∷ ps) (i ∷ is) e = (λ j. e.0 j ∷ packets_along ps is e.1 j)

pub whole_none : (ps : List (List ℕ)) → whole ps [] ≡ map (λ (p : List ℕ). item_of p []) ps
whole_none [] = refl
whole_none (p ∷ ps) = ap (λ (l : List Item). item_of p [] ∷ l) (whole_none ps)

pub whole_items : (is : List Item) → whole (packets is) is ≡ is
whole_items [] = refl
whole_items (i ∷ is) = ap (λ (l : List Item). i ∷ l) (whole_items is)

pub none_append : (xs ys : List (List ℕ)) → whole (xs ++ ys) [] ≡ whole xs [] ++ whole ys []
none_append [] ys = refl
none_append (x ∷ xs) ys = cc (none_append xs ys)

-- a packet with these page words stands last, in a list of packets and in that of the items: there are none, or one for each
pub record Grows (ps ps' : List (List ℕ)) (is is' : List Item) (p ws : List ℕ) : Type 0 where
  pub list : ps' ≡ ps ++ p ∷ []
  pub items : ((is ≡ []) × (is' ≡ []) × (ws ≡ [])) ⊎ ((packets is ≡ ps) × (is' ≡ is ++ item_of p ws ∷ []))

module _ (f : Item → Item) where
  pub whole_long : (ps : List (List ℕ)) (is : List Item) → length (map f (whole ps is)) ≡ length ps
  whole_long [] is = refl
  whole_long (q ∷ ps) [] = ap suc (whole_long ps [])
  whole_long (q ∷ ps) (i ∷ is) = ap suc (whole_long ps is)

  pub whole_more : (ps ps' : List (List ℕ)) (is is' : List Item) (p ws : List ℕ) → Grows ps ps' is is' p ws → map f (whole ps' is') ≡ map f (whole ps is) ++ f (item_of p ws) ∷ []
  whole_more ps ps' is is' p ws g = by g.items
    where
      by : ((is ≡ []) × (is' ≡ []) × (ws ≡ [])) ⊎ ((packets is ≡ ps) × (is' ≡ is ++ item_of p ws ∷ [])) → map f (whole ps' is') ≡ map f (whole ps is) ++ f (item_of p ws) ∷ []
      by (inl none) = cc (g.list, none.0, none.1, none.2, none_append ps (p ∷ []), map_push f (whole ps []) (item_of p []))
      by (inr more) =
          let new : packets (is ++ item_of p ws ∷ []) ≡ ps' = packets_append is (item_of p ws ∷ []) ∙ (ap (λ (l : List (List ℕ)). l ++ p ∷ []) more.0 ∙ sym g.list) in
          cc (new, more.0, more.1, whole_items is, whole_items (is ++ item_of p ws ∷ []), map_push f is (item_of p ws))

  pub whole_at : (ps : List (List ℕ)) (is : List Item) (i : ℕ) (p : List ℕ) → Along ps is → slice_get ps i ≡ Some p → slice_get (map f (whole ps is)) i ≡ Some (f (item_of p (words_at is i)))
  unfolding words_at
  whole_at [] is i p a e = absurd (cc)
  whole_at (q ∷ ps) [] zero p a e = let same : q ≡ p = cc in ap (λ (r : List ℕ). Some (f (item_of r []))) same
  whole_at (q ∷ ps) [] (suc i) p a e = whole_at ps [] i p tt e
  whole_at (q ∷ ps) (j ∷ is) zero p a e = let same : j.packet ≡ p = a.0 ∙ (let z : q ≡ p = cc in z) in ap (λ (r : List ℕ). Some (f (item_of r j.words))) same
  whole_at (q ∷ ps) (j ∷ is) (suc i) p a e = whole_at ps is i p a.1 e

  pub line_at : (e : EndState) (i : ℕ) (p : List ℕ) → Along e.got e.pages.got → slice_get e.got i ≡ Some p → slice_get (got_as f e) i ≡ Some (f (item_of p (words_at e.pages.got i)))
  unfolding got_as
  line_at e i p a at = whole_at e.got e.pages.got i p a at

  pub line_long : (e : EndState) → length (got_as f e) ≡ length e.got
  unfolding got_as
  line_long e = whole_long e.got e.pages.got

  -- what a call leaves that sent and got nothing, maybe behind page words that it stored, and whose past is this
  past_by : (old new : EndState) (past : List (Event (List ℕ))) → new.past ≡ past → new.sent ≡ old.sent → new.got ≡ old.got → new.pages.sent ≡ old.pages.sent → new.pages.got ≡ old.pages.got → past_as f new ≡ past_as f (record old { past = past })
  unfolding past_as
  past_by old new past is sent got s g = (λ i. filled (λ p. f (item_of p [])) (map f (whole (sent i) (s i))) (map f (whole (got i) (g i))) (is i))

  pub got_kept : (old new : EndState) → new.got ≡ old.got → new.pages.got ≡ old.pages.got → got_as f new ≡ got_as f old
  unfolding got_as
  got_kept old new got g = (λ i. map f (whole (got i) (g i)))

  pub line_marked : (e : EndState) → has_marked (past_as f e) ≡ has_marked e.past
  unfolding past_as
  line_marked e = marked_filled (λ p. f (item_of p [])) e.past (map f (whole e.sent e.pages.sent)) (map f (whole e.got e.pages.got))

  -- and of the pages too
  past_then : (old new : EndState) (past : List (Event (List ℕ))) → new.past ≡ past → new.sent ≡ old.sent → new.got ≡ old.got → new.pages ≡ old.pages → past_as f new ≡ past_as f (record old { past = past })
  past_then old new past is sent got pages = past_by old new past is sent got (ap (λ k. k.sent) pages) (ap (λ k. k.got) pages)

  pub past_same : (old new : EndState) → new.past ≡ old.past → new.sent ≡ old.sent → new.got ≡ old.got → new.pages ≡ old.pages → past_as f new ≡ past_as f old
  past_same old new past sent got pages = past_then old new old.past past sent got pages

  pub got_same_as : (old new : EndState) → new.got ≡ old.got → new.pages ≡ old.pages → got_as f new ≡ got_as f old
  unfolding got_as
  got_same_as old new got pages = (λ i. map f (whole (got i) (pages i).got))

  -- a new end did nothing
  pub past_new : (e : EndState) → e.past ≡ [] → past_as f e ≡ []
  unfolding past_as
  past_new e past = ap (filled (λ p. f (item_of p [])) (map f (whole e.sent e.pages.sent)) (map f (whole e.got e.pages.got))) past

  pub got_new : (e : EndState) → e.got ≡ [] → e.pages.got ≡ [] → got_as f e ≡ []
  unfolding got_as
  got_new e got none = (λ i. map f (whole (got i) (none i)))

  -- an arm, by what it found
  pub arm_past : (old new : EndState) (how : Ending) (found : Armed) (saw : Bool) → call_by how ≡ Arm → is_asleep found ≡ is_dozed how → new.past ≡ past_of how saw [] old.past → new.sent ≡ old.sent → new.got ≡ old.got → new.pages ≡ old.pages
      → past_as f new ≡ looked (look_of found saw) (past_as f old)
  unfolding past_as
  arm_past old new FellAsleep Asleep saw call is past sent got pages = past_same old new past sent got pages
  arm_past old new FoundWork Work true call is past sent got pages = past_then old new (Saw ∷ old.past) past sent got pages
  arm_past old new FoundWork Work false call is past sent got pages = past_same old new past sent got pages
  arm_past old new _ found saw call is past sent got pages = grind (arith, call, is)

  pub poll_past : (old new : EndState) (how : Ending) (saw : Bool) → call_by how ≡ Poll → new.past ≡ past_of how saw [] old.past → new.sent ≡ old.sent → new.got ≡ old.got → new.pages ≡ old.pages → past_as f new ≡ past_as f old
  poll_past old new NoSignal saw call past sent got pages = past_same old new past sent got pages
  poll_past old new Woke saw call past sent got pages = past_same old new past sent got pages
  poll_past old new _ saw call past sent got pages = absurd (cc)

  pub mark_past : (old new : EndState) (how : Ending) (saw : Bool) → call_by how ≡ Mark → new.past ≡ past_of how saw [] old.past → new.sent ≡ old.sent → new.got ≡ old.got → new.pages ≡ old.pages → past_as f new ≡ Marked ∷ past_as f old
  unfolding past_as
  mark_past old new EndedMarked saw call past sent got pages = past_then old new (Marked ∷ old.past) past sent got pages
  mark_past old new _ saw call past sent got pages = absurd (cc)

  -- a take that took nothing, by what it found
  pub past_finds : (found : Found) (old new : EndState) → (found ≡ FoundPacket → ⊥) → new.past ≡ found_past found old.past → new.sent ≡ old.sent → new.got ≡ old.got → new.pages ≡ old.pages
      → past_as f new ≡ found_past found (past_as f old)
  unfolding past_as
  past_finds FoundPacket old new not past sent got pages = absurd (not refl)
  past_finds FoundNothing old new not past sent got pages = past_then old new (Empty ∷ old.past) past sent got pages
  past_finds FoundBroken old new not past sent got pages = past_same old new past sent got pages

-- a packet with these page words was sent, or none was
abbrev pub SentAs : {S : Type 0} → Seen S → Seen S → List ℕ → List ℕ → Bool → Type 0
SentAs old new p ws true = Grows old.state.sent new.state.sent old.state.pages.sent new.state.pages.sent p ws
SentAs old new p ws false = (new.state.sent ≡ old.state.sent) × (new.state.pages.sent ≡ old.state.pages.sent)

pub items_along : {S : Type 0} (told : S → Option Told) (e : Seen S) → IsLine told e → Along e.state.sent e.state.pages.sent × Along e.state.got e.state.pages.got
items_along told e h =
    by_count e.state.pages.count
    (λ z. let none = h.pages.none z in (subst (Along e.state.sent) (sym none.0) tt, subst (Along e.state.got) (sym none.1) tt))
    (λ some. let items = h.pages.items some in (along_by e.state.sent e.state.pages.sent items.0, along_by e.state.got e.state.pages.got items.1))

pub got_more : {S : Type 0} (f : Item → Item) (old new : Seen S) (p ws : List ℕ) → Grows old.state.got new.state.got old.state.pages.got new.state.pages.got p ws → got_as f new.state ≡ got_as f old.state ++ f (item_of p ws) ∷ []
unfolding got_as
got_more f old new p ws got = whole_more f old.state.got new.state.got old.state.pages.got new.state.pages.got p ws got

module _ {S : Type 0} {told : S → Option Told} (f : Item → Item) where
  pub line_filled : (e : Seen S) → IsLine told e → IsFilledBy e.state.past (map f (whole e.state.sent e.state.pages.sent)) (map f (whole e.state.got e.state.pages.got))
  line_filled e h =
      record { sent_are = ap length h.sent ∙ sym (whole_long f e.state.sent e.state.pages.sent); got_are = ap length h.got ∙ sym (whole_long f e.state.got e.state.pages.got) }

  pub line_got : (e : Seen S) → IsLine told e → got_of (past_as f e.state) ≡ got_as f e.state
  unfolding past_as got_as
  line_got e h = all_got (λ p. f (item_of p [])) e.state.past (map f (whole e.state.sent e.state.pages.sent)) (map f (whole e.state.got e.state.pages.got)) (line_filled e h)

  pub got_view : (e : Seen S) (now : Line S) → line_of f e ≡ now → IsLine told e → got_of now.state.past ≡ now.state.got
  got_view e now view h = subst (λ (x : Line _). got_of x.state.past ≡ x.state.got) view (line_got e h)

  -- one packet more, that was sent or got
  pub past_sent : (old new : Seen S) (p ws : List ℕ) → IsLine told old → new.state.past ≡ Sent p ∷ old.state.past → Grows old.state.sent new.state.sent old.state.pages.sent new.state.pages.sent p ws → new.state.got ≡ old.state.got
      → new.state.pages.got ≡ old.state.pages.got → past_as f new.state ≡ Sent (f (item_of p ws)) ∷ past_as f old.state
  unfolding past_as
  past_sent old new p ws h past sent got pages =
      (λ i. filled (λ q. f (item_of q [])) (whole_more f old.state.sent new.state.sent old.state.pages.sent new.state.pages.sent p ws sent i) (map f (whole (got i) (pages i))) (past i))
      ∙ sent_next (λ q. f (item_of q [])) (map f (whole old.state.sent old.state.pages.sent)) (map f (whole old.state.got old.state.pages.got)) (f (item_of p ws)) p old.state.past (line_filled old h).sent_are

  pub past_got : (old new : Seen S) (p ws : List ℕ) → IsLine told old → new.state.past ≡ Got p ∷ old.state.past → Grows old.state.got new.state.got old.state.pages.got new.state.pages.got p ws → new.state.sent ≡ old.state.sent
      → new.state.pages.sent ≡ old.state.pages.sent → past_as f new.state ≡ Got (f (item_of p ws)) ∷ past_as f old.state
  unfolding past_as
  past_got old new p ws h past got sent pages =
      (λ i. filled (λ q. f (item_of q [])) (map f (whole (sent i) (pages i))) (whole_more f old.state.got new.state.got old.state.pages.got new.state.pages.got p ws got i) (past i))
      ∙ got_next (λ q. f (item_of q [])) (map f (whole old.state.sent old.state.pages.sent)) (map f (whole old.state.got old.state.pages.got)) (f (item_of p ws)) p old.state.past (line_filled old h).got_are

  -- a send, by its answer
  module _ (old new : Seen S) (p ws : List ℕ) (h : IsLine told old) (got : new.state.got ≡ old.state.got) (items : new.state.pages.got ≡ old.state.pages.got) where
    send_by : (how : Ending) (m : EndMachine) (r : Result Signalled SendRefusal) (saw : Bool) → call_by how ≡ Send → r ≡ send_answer how m → new.state.past ≡ past_of how saw p old.state.past → SentAs old new p ws (is_sent how)
        → past_as f new.state ≡ past_tried (tried_of r) (f (item_of p ws)) (past_as f old.state)
    send_by SentQuiet m r saw call is past sent = rw is (past_sent old new p ws h past sent got items)
    send_by SentRaised m r saw call is past sent = rw is (past_sent old new p ws h past sent got items)
    send_by Full m r saw call is past sent = rw is (past_by f old.state new.state old.state.past past sent.0 got sent.1 items)
    send_by BadPeer m r saw call is past sent = rw is (past_by f old.state new.state old.state.past past sent.0 got sent.1 items)
    send_by _ m r saw call is past sent = absurd (cc)

    pub send_past : (r : Result Signalled SendRefusal) → call_by new.state.machine.ended ≡ Send → r ≡ send_answer new.state.machine.ended new.state.machine → new.state.past ≡ past_of new.state.machine.ended new.state.machine.saw p old.state.past
        → SentAs old new p ws (is_sent new.state.machine.ended) → past_as f new.state ≡ past_tried (tried_of r) (f (item_of p ws)) (past_as f old.state)
    send_past r call is past sent = send_by new.state.machine.ended new.state.machine r new.state.machine.saw call is past sent

-- what a call leaves of the lists that keeps them and the pages
pub quiet_lists : {S : Type 0} (f : Item → Item) (old new : Seen S) (e : Line S) → line_of f old ≡ e → Kept old new → (got_as f new.state ≡ e.state.got) × (new.spare_got ≡ e.spare_got) × (new.spare_sent ≡ e.spare_sent)
quiet_lists f old new e view kept = (
  got_same_as f old.state new.state kept.got kept.pages ∙ ap (λ (x : Line _). x.state.got) view,
  kept.spare_got ∙ ap (λ (x : Line _). x.spare_got) view,
  kept.spare_sent ∙ ap (λ (x : Line _). x.spare_sent) view,
)

-- what a send keeps
pub item_sent_is : {S : Type 0} (e : Line S) (p words : List ℕ) → item_sent e p words ≡ item_of p (words_sent e.end.state.pages p words)
unfolding item_sent
item_sent_is e p words = refl

pub item_bare : {S : Type 0} (e : Line S) (p words : List ℕ) → e.end.state.pages.count ≡ 0 → item_sent e p words ≡ item_of p []
item_bare e p words z =
    item_sent_is e p words
    ∙ ap (item_of p) (first_of (e.end.state.pages.count == 0) [] (last_words (pages_sent (layout e.end.state.pages.count) (laid e.end.state.pages p words) p).sent) (is_zero e.end.state.pages.count z))
