-- What it comes to that none is sent under an id under which one is open.
use Rattle.std.proofs.Common.{◌≡◌, ◌≤◌, ◌+◌, ℕ, suc, Bool, true, false, cond, List, [], ◌∷◌, ◌++◌, map, length, refl, sym, ap, ◌∙◌, subst, arith}
use Rattle.std.specs.Prelude.{◌&&◌, ◌||◌, not, count_by}
use Rattle.std.proofs.lemmas.List.{length-map}
use Rattle.std.proofs.lemmas.List.Sums.{sum_by-append}
use Rattle.scsi_disk.proofs.RoomLaws.{by_test}
use Rattle.page_kept.specs.declared.item.Item.{Item}
use Rattle.page_kept.specs.Items.{item_of}
use Rattle.channel_trace.specs.declared.event.Event.{Event}
use Rattle.channel_trace.specs.declared.event.Event.TheVariants.{Sent, Got, Empty, Marked, Saw}
use Rattle.channel_trace.specs.Filled.{IsFilledBy}
use Rattle.channel_trace.specs.Runs.{sent_of, got_of}
use Rattle.channel_trace.proofs.Filling.{all_sent, all_got}
use Rattle.channel_trace.proofs.Pasts.{sent_of-append}
use Rattle.channel_model.specs.Roles.{side_that_asks}
use Rattle.device_kinds.specs.Formats.{format_of}
use Rattle.device_packets.specs.Said.{said_item}
use Rattle.io_edge.specs.declared.side.Side.{Side}
use Rattle.io_edge.specs.declared.side.Side.TheVariants.{Guest, Host}
use Rattle.ring_pair_laws.specs.Lists.{AreOfRun, Lists}
use Rattle.bus_model.specs.Channel.{GoesInTurn, answers_under, asks_under, events_by, got_by, is_open, items_of, past_by, sent_by}
use Rattle.bus_model.specs.Laws.{OpensOne}

module _ {X : Type 0} (f : X → Bool) where
  count_append : (xs ys : List X) → count_by f (xs ++ ys) ≡ count_by f xs + count_by f ys
  count_append xs ys = sum_by-append (λ x. cond (f x) 1 0) xs ys

  count_one : (x : X) (b : Bool) → f x ≡ b → count_by f (x ∷ []) ≡ cond b 1 0
  count_one x b e = ap (λ c. 0 + cond c 1 0) e ∙ omega arith

  past_one : (xs : List X) (x : X) → f x ≡ false → count_by f (xs ++ x ∷ []) ≡ count_by f xs
  past_one xs x e = omega (arith, count_append xs (x ∷ []), count_one x false e)

  more_one : (xs : List X) (x : X) → f x ≡ true → count_by f (xs ++ x ∷ []) ≡ count_by f xs + 1
  more_one xs x e = omega (arith, count_append xs (x ∷ []), count_one x true e)

abbrev num : Bool → ℕ
num b = cond b 1 0

few : (b : Bool) → num b ≤ 1
few true = omega arith
few false = omega arith

-- a past that goes in turn did so before its last event
goes_before : (opens closes : ℕ → Item → Bool) (e : Event Item) (past : List (Event Item)) → GoesInTurn opens closes (e ∷ past) → GoesInTurn opens closes past
goes_before opens closes e past h = λ t later before p is. h t (e ∷ later) before p (ap (λ (l : List (Event Item)). e ∷ l) is)

pub goes_until : (opens closes : ℕ → Item → Bool) (later before : List (Event Item)) → GoesInTurn opens closes (later ++ before) → GoesInTurn opens closes before
goes_until opens closes [] before h = h
goes_until opens closes (e ∷ later) before h = goes_until opens closes later before (goes_before opens closes e (later ++ before) h)

module _ (opens closes : ℕ → Item → Bool) (t : ℕ) where
  -- one is open under the id
  abbrev open_at : List (Event Item) → Bool
  open_at past = is_open (opens t) (closes t) past

  -- at most one more was sent than came back, and that where one is open
  abbrev Counted : List (Event Item) → Type 0
  Counted past = count_by (opens t) (sent_of past) ≤ count_by (closes t) (got_of past) + num (open_at past)

  counted : (past : List (Event Item)) → GoesInTurn opens closes past → Counted past
  counted [] h = omega arith
  counted (Empty ∷ past) h = counted past (goes_before opens closes Empty past h)
  counted (Marked ∷ past) h = counted past (goes_before opens closes Marked past h)
  counted (Saw ∷ past) h = counted past (goes_before opens closes Saw past h)
  counted (Sent p ∷ past) h =
      let c = counted past (goes_before opens closes (Sent p) past h) in
      by_test (opens t p)
      (λ yes.
      let before : open_at past ≡ false = h t [] past p refl yes in
      let now : open_at (Sent p ∷ past) ≡ true = ap (λ b. b || open_at past) yes in
      omega (arith, c, more_one (opens t) (sent_of past) p yes, ap num before, ap num now))
      (λ no.
      let now : open_at (Sent p ∷ past) ≡ open_at past = ap (λ b. b || open_at past) no in
      omega (arith, c, past_one (opens t) (sent_of past) p no, ap num now))
  counted (Got p ∷ past) h =
      let c = counted past (goes_before opens closes (Got p) past h) in
      by_test (closes t p)
      (λ yes.
      let now : open_at (Got p ∷ past) ≡ false = ap (λ b. not b && open_at past) yes in
      omega (arith, c, few (open_at past), more_one (closes t) (got_of past) p yes, ap num now))
      (λ no.
      let now : open_at (Got p ∷ past) ≡ open_at past = ap (λ b. not b && open_at past) no in
      omega (arith, c, past_one (closes t) (got_of past) p no, ap num now))

  -- an id stays open as long as nothing closes it, and none goes under it
  pub record StaysOpen (later past : List (Event Item)) : Type 0 where
    pub held : open_at past ≡ true
    pub none : count_by (opens t) (sent_of later) ≡ 0

  pub stays_open : (later before : List (Event Item)) (p : Item) → GoesInTurn opens closes (later ++ Sent p ∷ before) → opens t p ≡ true → count_by (closes t) (got_of later) ≡ 0 → StaysOpen later (later ++ Sent p ∷ before)
  stays_open [] before p h asked unanswered = record { held = ap (λ b. b || open_at before) asked; none = refl }
  stays_open (Empty ∷ later) before p h asked unanswered = let r = stays_open later before p (goes_before opens closes Empty (later ++ Sent p ∷ before) h) asked unanswered in record { held = r.held; none = r.none }
  stays_open (Marked ∷ later) before p h asked unanswered = let r = stays_open later before p (goes_before opens closes Marked (later ++ Sent p ∷ before) h) asked unanswered in record { held = r.held; none = r.none }
  stays_open (Saw ∷ later) before p h asked unanswered = let r = stays_open later before p (goes_before opens closes Saw (later ++ Sent p ∷ before) h) asked unanswered in record { held = r.held; none = r.none }
  stays_open (Sent q ∷ later) before p h asked unanswered =
      let past = later ++ Sent p ∷ before in
      let r = stays_open later before p (goes_before opens closes (Sent q) past h) asked unanswered in
      by_test (opens t q)
      (λ again. absurd (let bad : true ≡ false = sym r.held ∙ h t [] past q refl again in cc))
      (λ no. record { held = ap (λ b. b || open_at past) no ∙ r.held; none = past_one (opens t) (sent_of later) q no ∙ r.none })
  stays_open (Got q ∷ later) before p h asked unanswered =
      let past = later ++ Sent p ∷ before in
      by_test (closes t q)
      (λ came. absurd (omega (arith, unanswered, more_one (closes t) (got_of later) q came)))
      (λ no.
      let r = stays_open later before p (goes_before opens closes (Got q) past h) asked (sym (past_one (closes t) (got_of later) q no) ∙ unanswered) in
      record { held = ap (λ b. not b && open_at past) no ∙ r.held; none = r.none })

  -- what is open was sent
  opened : (past : List (Event Item)) → num (open_at past) ≤ count_by (opens t) (sent_of past)
  opened [] = omega arith
  opened (Empty ∷ past) = opened past
  opened (Marked ∷ past) = opened past
  opened (Saw ∷ past) = opened past
  opened (Sent p ∷ past) =
      by_test (opens t p)
      (λ yes. omega (arith, few (open_at (Sent p ∷ past)), more_one (opens t) (sent_of past) p yes))
      (λ no.
      let now : open_at (Sent p ∷ past) ≡ open_at past = ap (λ b. b || open_at past) no in
      omega (arith, opened past, past_one (opens t) (sent_of past) p no, ap num now))
  opened (Got p ∷ past) =
      by_test (closes t p)
      (λ yes.
      let now : open_at (Got p ∷ past) ≡ false = ap (λ b. not b && open_at past) yes in
      omega (arith, ap num now))
      (λ no.
      let now : open_at (Got p ∷ past) ≡ open_at past = ap (λ b. not b && open_at past) no in
      omega (arith, opened past, ap num now))

  -- so many went under the id as before this one, and this one, and those after it
  count_around : (later before : List (Event Item)) (p : Item) → opens t p ≡ true
      → count_by (opens t) (sent_of (later ++ Sent p ∷ before)) ≡ count_by (opens t) (sent_of before) + 1 + count_by (opens t) (sent_of later)
  count_around later before p asked =
      omega (arith, ap (count_by (opens t)) (sent_of-append later (Sent p ∷ before)), count_append (opens t) (sent_of before ++ p ∷ []) (sent_of later), more_one (opens t) (sent_of before) p asked)

-- where each id is used once at most, none is used while it is open
pub goes_once : (opens closes : ℕ → Item → Bool) (events : List (Event Item)) → ((t : ℕ) → count_by (opens t) (sent_of events) ≤ 1) → GoesInTurn opens closes events
goes_once opens closes events one t later before p is asked =
    by_test (is_open (opens t) (closes t) before)
    (λ held. absurd (omega (arith, one t, ap (λ (l : List (Event Item)). count_by (opens t) (sent_of l)) is, count_around opens closes t later before p asked, opened opens closes t before, ap num held)))
    (λ none. none)

-- the events are of all packets that were sent and got
length_items : (ps : List (List ℕ)) (is : List Item) → length (items_of ps is) ≡ length ps
length_items [] is = refl
length_items (p ∷ ps) [] = ap suc (length_items ps [])
length_items (p ∷ ps) (i ∷ is) = ap suc (length_items ps is)

said_are : (ps qs : List (List ℕ)) (is : List Item) → ps ≡ qs → length ps ≡ length (map said_item (items_of qs is))
said_are ps qs is e = ap length e ∙ (sym (length_items qs is) ∙ sym (length-map (items_of qs is) said_item))

pub are_filled : (side : Side) (lists : Lists) → AreOfRun lists → IsFilledBy (past_by side lists) (sent_by side lists) (got_by side lists)
are_filled Guest lists run = record {
  sent_are = said_are (sent_of lists.guest_past) lists.guest_sent lists.guest_sent_items run.guest_sent;
  got_are = said_are (got_of lists.guest_past) lists.guest_got lists.guest_got_items run.guest_got;
}
are_filled Host lists run = record {
  sent_are = said_are (sent_of lists.host_past) lists.host_sent lists.host_sent_items run.host_sent;
  got_are = said_are (got_of lists.host_past) lists.host_got lists.host_got_items run.host_got;
}

pub events_sent : (side : Side) (lists : Lists) → AreOfRun lists → sent_of (events_by side lists) ≡ sent_by side lists
events_sent side lists run = all_sent (λ p. said_item (item_of p [])) (past_by side lists) (sent_by side lists) (got_by side lists) (are_filled side lists run)

pub events_got : (side : Side) (lists : Lists) → AreOfRun lists → got_of (events_by side lists) ≡ got_by side lists
events_got side lists run = all_got (λ p. said_item (item_of p [])) (past_by side lists) (sent_by side lists) (got_by side lists) (are_filled side lists run)

pub opens_one_lem : OpensOne
opens_one_lem order lists served run =
    let s = format_of order.kind in
    let opens = asks_under s in
    let closes = answers_under s in
    let side = side_that_asks order.kind in
    let events = events_by side lists in
    let sent = events_sent side lists run.moments in
    let got = events_got side lists run.moments in
    record {
      ever = λ t later before is.
          let goes = goes_until opens closes later before (subst (GoesInTurn opens closes) is run.turns) in
          omega (arith, counted opens closes t before goes, few (is_open (opens t) (closes t) before));
      lists_tell = λ t. omega (arith, counted opens closes t events run.turns, few (is_open (opens t) (closes t) events), ap (count_by (opens t)) sent, ap (count_by (closes t)) got);
      unanswered = λ t later before p is yes none. (stays_open opens closes t later before p (subst (GoesInTurn opens closes) is run.turns) yes none).none;
    }
