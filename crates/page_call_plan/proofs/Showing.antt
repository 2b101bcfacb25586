-- What the calls leave shows the pages of an end after its send, its take, its stores and loads.
use Rattle.std.proofs.Common.{◌≡◌, ◌≢◌, ℕ, zero, suc, ◌+◌, ◌-◌, ◌<◌, ◌≤◌, ◌==◌, Bool, true, false, not, ◌&&◌, nat_le, nat_lt, ltb, cond, List, [], ◌∷◌, ◌++◌, length, get_or, Option, Some, None, refl, sym, ap, ◌∙◌, subst, arith, true≢false}
use Rattle.std.proofs.lemmas.Bool.Decides.{nat_tests}
use Rattle.io_edge.specs.declared.side.Side.{Side}
use Rattle.pkt_desc.specs.Packets.{kind_of, id_of}
use Rattle.page_kept.specs.declared.kept.Kept.{Kept}
use Rattle.page_kept.specs.declared.owner.Owner.{Owner}
use Rattle.page_kept.specs.declared.owner.Owner.TheVariants.{Has, Lent, Held, Away}
use Rattle.page_kept.specs.declared.due.Due.{Due}
use Rattle.page_kept.specs.declared.due.Due.TheVariants.{Clear, Loads}
use Rattle.page_kept.specs.declared.item.Item.{Item}
use Rattle.page_kept.specs.Items.{item_of, packets, values}
use Rattle.page_kept.specs.Counts.{bit, count, is_ask, is_done}
use Rattle.page_kept.specs.Kept.{first_owner, with_sent, copy_in, pages_sent, pages_took}
use Rattle.page_kept.specs.Layouts.{Loan, layout}
use Rattle.page_kept.specs.Keepers.{MaySend, CanStore, asked, taken, ended, back}
use Rattle.page_kept.specs.Stepped.{with_word, page_stored, page_loaded, page_loaded_at}
use Rattle.page_kept.proofs.Loans.{fits}
use Rattle.page_call_plan.specs.Answers.{no_call, took, planned, page_due, page_not_owned, page_outside, id_open, id_not_owed, no_ids}
use Rattle.page_call_plan.specs.Ends.{PageEnd, is_list, is_at, end_at, new_end, end_due, answer_says, room_says, ask_says, send_says, asks_sent, owed_sent, asks_took, owed_took, part_says, take_says, took_says, within_says, store_says, load_says}
use Rattle.page_call_plan.specs.Ids.{IdSlot, ids_in, has_free, has_id, has_room, with_id, without_id}
use Rattle.page_call_plan.specs.Slots.{PageSlot, away, owner_of, owners_of, slot_at, is_had, is_packet, store_room, named_in, slots_sent, slots_took, part_took}
use Rattle.page_call_plan.specs.Shown.{due_of, part_of, Shows, IsExact, MayStoreAll, stores, loads}
use Rattle.page_call_plan.proofs.Requests.{by_test, with_is, without_is, without_most, lacks, some_of}
use Rattle.page_call_plan.proofs.Slotted.{owner_in_is, sent_long, took_long, sent_is, took_as, took_is}

-- the parts of a test that holds
pub left : (a b : Bool) → (a && b) ≡ true → a ≡ true
left true b h = refl
left false b h = h

pub right : (a b : Bool) → (a && b) ≡ true → b ≡ true
right true b h = h
right false b h = absurd (cc)

-- an answer that isn't the one of the refusal
pub passed : (b : Bool) (x r a : ℕ) → r ≢ a → cond b x r ≡ a → (b ≡ true) × (x ≡ a)
passed true x r a n h = (refl, h)
passed false x r a n h = absurd (n h)

-- no refusal is a plan
pub call_planned : no_call ≢ planned
call_planned h = cc

pub due_planned : page_due ≢ planned
due_planned h = cc

pub owned_planned : page_not_owned ≢ planned
owned_planned h = cc

pub outside_planned : page_outside ≢ planned
outside_planned h = cc

pub open_planned : id_open ≢ planned
open_planned h = cc

pub owed_planned : id_not_owed ≢ planned
owed_planned h = cc

pub ids_planned : no_ids ≢ planned
ids_planned h = cc

-- no refusal is a take
pub call_took : no_call ≢ took
call_took h = cc

pub call_due : no_call ≢ page_due
call_due h = cc

pub ids_took : no_ids ≢ took
ids_took h = cc

pub ids_due : no_ids ≢ page_due
ids_due h = cc

none_some : (a : Loan) → None ≡ Some a → ⊥
none_some a h = cc

some_slots : (n : ℕ) → not (n == 0) ≡ true → n ≢ 0
some_slots n h = grind (arith, nat_tests, h)

some_low : (n : ℕ) → nat_le 1 n ≡ true → (n == 0) ≡ false
some_low n h = grind (arith, nat_tests, h)

above_zero : (n : ℕ) → (n == 0) ≡ false → 0 < n
above_zero n h = grind (arith, nat_tests, h)

below_of : (a b : ℕ) → nat_lt a b ≡ true → a < b
below_of a b h = grind (arith, nat_tests, h)

past_of : (a b : ℕ) → nat_lt a b ≡ false → b ≤ a
past_of a b h = grind (arith, nat_tests, h)

pub clear_of : (e : PageEnd) → (e.due_words == 0) ≡ true → due_of e ≡ Clear
clear_of e h = ap (λ (b : Bool). cond b Clear (Loads e.due_page e.due_words 0)) h

-- one packet more
count_more : (f : List ℕ → Bool) (is : List Item) (i : Item) → count f (packets (is ++ i ∷ [])) ≡ count f (packets is) + bit (f i.packet)
count_more f [] i = omega arith
count_more f (j ∷ is) i = omega (arith, count_more f is i)

count_took : (f : List ℕ → Bool) (ps : List (List ℕ)) (p : List ℕ) → count f (ps ++ p ∷ []) ≡ count f ps + bit (f p)
count_took f [] p = omega arith
count_took f (q ∷ ps) p = omega (arith, count_took f ps p)

-- a packet is an ask or a completion of its own id alone
bits : (p : List ℕ) (t : ℕ) → ((kind_of p == 11) ≡ true → (bit (is_ask t p) ≡ 0) × (bit (is_done t p) ≡ bit (id_of p == t))) × ((kind_of p == 11) ≡ false → (bit (is_ask t p) ≡ bit (id_of p == t)) × (bit (is_done t p) ≡ 0))
bits p t = (
  λ h. (ap (λ (b : Bool). bit (not b && (id_of p == t))) h, ap (λ (b : Bool). bit (b && (id_of p == t))) h),
  λ h. (ap (λ (b : Bool). bit (not b && (id_of p == t))) h, ap (λ (b : Bool). bit (b && (id_of p == t))) h),
)

one_bit : (t : ℕ) → bit (t == t) ≡ 1
one_bit t = ap bit (let z : (t == t) ≡ true = grind (arith, nat_tests) in z)

had_is : (o : Owner) → is_had o ≡ true → o ≡ Has
had_is Has h = refl
had_is (Lent t n) h = absurd (cc)
had_is (Held t n) h = absurd (cc)
had_is Away h = absurd (cc)

same_loan : (a b : Loan) → Some a ≡ Some b → a ≡ b
same_loan a b h = cc

-- a take that is planned comes where nothing is due
pub take_clear : (e : PageEnd) (ss : List PageSlot) (owed : List IdSlot) → take_says e ss owed ≡ planned → due_of e ≡ Clear
take_clear e ss owed h =
    let a = passed (is_at e 0 ss) (cond (e.due_words == 0) (cond (has_free owed) planned no_ids) page_due) no_call planned call_planned h in
    let b = passed (e.due_words == 0) (cond (has_free owed) planned no_ids) page_due planned due_planned a.1 in
    clear_of e b.0

-- what an ask that is planned has
asks_had : (ss : List PageSlot) (asks : List IdSlot) (t : ℕ) (o : Option Loan) → ask_says ss asks t o ≡ planned → (has_room t asks ≡ true) × ((a : Loan) → o ≡ Some a → (is_had (owner_of (slot_at ss a.page)) ≡ true) × (has_id t asks ≡ false))
asks_had ss asks t None h = ((passed (has_room t asks) planned no_ids planned ids_planned h).0, λ a z. absurd (none_some a z))
asks_had ss asks t (Some b) h =
    let x = passed (is_had (owner_of (slot_at ss b.page))) (cond (has_id t asks) id_open (room_says asks t)) page_not_owned planned owned_planned h in
    by_test (has_id t asks)
    (λ y. absurd (open_planned (sym (ap (λ (c : Bool). cond c id_open (room_says asks t)) y) ∙ x.1)))
    (λ n.
    let r = sym (ap (λ (c : Bool). cond c id_open (room_says asks t)) n) ∙ x.1 in (
      (passed (has_room t asks) planned no_ids planned ids_planned r).0,
      λ a z. (subst (λ (w : Loan). is_had (owner_of (slot_at ss w.page)) ≡ true) (same_loan b a z) x.0, n),
    ))

module _ (s : Side) (got : List (List ℕ)) (k : Kept) (e : PageEnd) (ss : List PageSlot) (asks owed : List IdSlot) (sh : Shows s got k e ss asks owed) where
  some_of_list : (n : ℕ) → is_at e n ss ≡ true → k.count ≢ 0
  some_of_list n h =
      let l = left (not (length ss == 0)) (nat_le (length ss) 128) (right (e.state == n) (is_list ss) h) in
      let z : length ss ≢ 0 = some_slots (length ss) l in
      λ x. z (sym sh.count ∙ x)

  module _ (n : ℕ) (p : List ℕ) (says : send_says e n ss asks owed p ≡ planned) where
    sends_at : ((is_at e n ss && is_packet p) ≡ true) × (cond (e.due_words == 0) (cond (kind_of p == 11) (answer_says owed (id_of p)) (ask_says ss asks (id_of p) (named_in ss p))) page_due ≡ planned)
    sends_at = passed (is_at e n ss && is_packet p) (cond (e.due_words == 0) (cond (kind_of p == 11) (answer_says owed (id_of p)) (ask_says ss asks (id_of p) (named_in ss p))) page_due) no_call planned call_planned says

    sends_clear : ((e.due_words == 0) ≡ true) × (cond (kind_of p == 11) (answer_says owed (id_of p)) (ask_says ss asks (id_of p) (named_in ss p)) ≡ planned)
    sends_clear = passed (e.due_words == 0) (cond (kind_of p == 11) (answer_says owed (id_of p)) (ask_says ss asks (id_of p) (named_in ss p))) page_due planned due_planned sends_at.1

    sends_done : (kind_of p == 11) ≡ true → has_id (id_of p) owed ≡ true
    sends_done h = (passed (has_id (id_of p) owed) planned id_not_owed planned owed_planned (sym (ap (λ (b : Bool). cond b (answer_says owed (id_of p)) (ask_says ss asks (id_of p) (named_in ss p))) h) ∙ sends_clear.1)).0

    sends_ask : (kind_of p == 11) ≡ false → ask_says ss asks (id_of p) (named_in ss p) ≡ planned
    sends_ask h = sym (ap (λ (b : Bool). cond b (answer_says owed (id_of p)) (ask_says ss asks (id_of p) (named_in ss p))) h) ∙ sends_clear.1

    -- a send that is planned is one that the rule of pages lets
    pub may_send : MaySend (layout k.count) (part_of s got k) p
    may_send = record {
      clear = sh.due ∙ clear_of e sends_clear.0;
      has = λ a kind names.
          let named : named_in ss p ≡ Some a = subst (λ (c : ℕ). (layout c).lends p ≡ Some a) sh.count names in
          let inside = fits (length ss) p a named in
          let h = (asks_had ss asks (id_of p) (named_in ss p) (sends_ask kind)).1 a named in
          ap (λ (os : List Owner). get_or os a.page (first_owner s ((layout k.count).home a.page))) sh.owners
          ∙ (owner_in_is ss a.page (first_owner s ((layout k.count).home a.page)) inside.0 ∙ had_is (owner_of (slot_at ss a.page)) h.0);
      settled = λ a kind names.
          let named : named_in ss p ≡ Some a = subst (λ (c : ℕ). (layout c).lends p ≡ Some a) sh.count names in
          let h = (asks_had ss asks (id_of p) (named_in ss p) (sends_ask kind)).1 a named in
          omega (arith, sh.asks_of (id_of p), lacks (id_of p) asks h.1);
      answers = λ kind. omega (arith, sh.owed_of (id_of p), some_of (id_of p) owed (sends_done kind));
    }

    -- the end after it was sent
    sent_at : (ws : List ℕ) (b : Bool) → (kind_of p == 11) ≡ b → Shows s got (with_sent k p ws (owners_of (slots_sent ss p))) (end_at 0 e) (slots_sent ss p) (cond b asks (with_id (id_of p) asks)) (cond b (without_id (id_of p) owed) owed)
    sent_at ws true h = record {
      count = sh.count ∙ sym (sent_long ss p);
      owners = refl;
      due = sh.due;
      asks_of = λ t. omega (arith, sh.asks_of t, count_more (is_ask t) k.sent (item_of p ws), ((bits p t).0 h).0);
      owed_of = λ t. omega (arith, sh.owed_of t, count_more (is_done t) k.sent (item_of p ws), ((bits p t).0 h).1, without_is (id_of p) t owed (sends_done h));
    }
    sent_at ws false h = record {
      count = sh.count ∙ sym (sent_long ss p);
      owners = refl;
      due = sh.due;
      asks_of = λ t. omega (arith, sh.asks_of t, count_more (is_ask t) k.sent (item_of p ws), ((bits p t).1 h).0, with_is (id_of p) t asks (asks_had ss asks (id_of p) (named_in ss p) (sends_ask h)).0);
      owed_of = λ t. omega (arith, sh.owed_of t, count_more (is_done t) k.sent (item_of p ws), ((bits p t).1 h).1);
    }

    -- what the end keeps after it was sent
    pub sends_show : Shows s got (pages_sent (layout k.count) k p) (end_at 0 e) (slots_sent ss p) (asks_sent asks p) (owed_sent owed p)
    sends_show =
        let r = sent_is k ss p sh.count (some_of_list n (left (is_at e n ss) (is_packet p) sends_at.0)) sh.owners in
        subst (λ (x : Kept). Shows s got x (end_at 0 e) (slots_sent ss p) (asks_sent asks p) (owed_sent owed p)) (sym r.1) (sent_at r.0 (kind_of p == 11) refl)

    exact_at : IsExact s got k asks → (ws : List ℕ) (b : Bool) → (kind_of p == 11) ≡ b → IsExact s got (with_sent k p ws (owners_of (slots_sent ss p))) (cond b asks (with_id (id_of p) asks))
    exact_at x ws true h = λ t. omega (arith, x t, count_more (is_ask t) k.sent (item_of p ws), ((bits p t).0 h).0)
    exact_at x ws false h = λ t. omega (arith, x t, count_more (is_ask t) k.sent (item_of p ws), ((bits p t).1 h).0, with_is (id_of p) t asks (asks_had ss asks (id_of p) (named_in ss p) (sends_ask h)).0)

    pub sends_exact : IsExact s got k asks → IsExact s got (pages_sent (layout k.count) k p) (asks_sent asks p)
    sends_exact x =
        let r = sent_is k ss p sh.count (some_of_list n (left (is_at e n ss) (is_packet p) sends_at.0)) sh.owners in
        subst (λ (y : Kept). IsExact s got y (asks_sent asks p)) (sym r.1) (exact_at x r.0 (kind_of p == 11) refl)

  -- a take that isn't refused
  module _ (p : List ℕ) (a : ℕ) (some : no_call ≢ a) (room : no_ids ≢ a) (says : took_says e ss owed p ≡ a) where
    takes_at : ((is_at e 4 ss && (is_packet p && (e.due_words == 0))) ≡ true) × (cond (not (kind_of p == 11) && not (has_room (id_of p) owed)) no_ids (part_says (part_took ss p)) ≡ a)
    takes_at = passed (is_at e 4 ss && (is_packet p && (e.due_words == 0))) (cond (not (kind_of p == 11) && not (has_room (id_of p) owed)) no_ids (part_says (part_took ss p))) no_call a some says

    takes_room : (not (kind_of p == 11) && not (has_room (id_of p) owed)) ≡ false
    takes_room = by_test (not (kind_of p == 11) && not (has_room (id_of p) owed)) (λ y. absurd (room (sym (ap (λ (b : Bool). cond b no_ids (part_says (part_took ss p))) y) ∙ takes_at.1))) (λ z. z)

    takes_part : part_says (part_took ss p) ≡ a
    takes_part = sym (ap (λ (b : Bool). cond b no_ids (part_says (part_took ss p))) takes_room) ∙ takes_at.1

    room_of : (kind_of p == 11) ≡ false → has_room (id_of p) owed ≡ true
    room_of h = by_test (has_room (id_of p) owed) (λ y. y) (λ n. absurd (true≢false (sym (λ i. not (h i) && not (n i)) ∙ takes_room)))

    pub takes_clear : due_of e ≡ Clear
    takes_clear = clear_of e (right (is_packet p) (e.due_words == 0) (right (is_at e 4 ss) (is_packet p && (e.due_words == 0)) takes_at.0))

    due_part : (o : Option Loan) → part_says o ≡ a → (took_as k p (owners_of (slots_took ss p)) o).due ≡ due_of (end_due o)
    due_part None h = sh.due ∙ takes_clear
    due_part (Some l) h =
        let x = passed (nat_le 1 l.words && nat_le l.words 512) page_due no_call a some h in
        let low = left (nat_le 1 l.words) (nat_le l.words 512) x.0 in
        sym (ap (λ (b : Bool). cond b Clear (Loads l.page l.words 0)) (some_low l.words low))

    same_count : (o : Option Loan) → (took_as k p (owners_of (slots_took ss p)) o).count ≡ k.count
    same_count None = refl
    same_count (Some l) = refl

    same_sent : (o : Option Loan) → (took_as k p (owners_of (slots_took ss p)) o).sent ≡ k.sent
    same_sent None = refl
    same_sent (Some l) = refl

    same_owners : (o : Option Loan) → (took_as k p (owners_of (slots_took ss p)) o).owners ≡ owners_of (slots_took ss p)
    same_owners None = refl
    same_owners (Some l) = refl

    took_at : (b : Bool) → (kind_of p == 11) ≡ b → Shows s (got ++ p ∷ []) (took_as k p (owners_of (slots_took ss p)) (part_took ss p)) (end_due (part_took ss p)) (slots_took ss p) (cond b (without_id (id_of p) asks) asks) (cond b owed (with_id (id_of p) owed))
    took_at true h = record {
      count = same_count (part_took ss p) ∙ (sh.count ∙ sym (took_long ss p));
      owners = same_owners (part_took ss p);
      due = due_part (part_took ss p) takes_part;
      asks_of = λ t. omega (arith, sh.asks_of t, ap (λ (is : List Item). count (is_ask t) (packets is)) (same_sent (part_took ss p)), count_took (is_done t) got p, ((bits p t).0 h).1, without_most (id_of p) t asks);
      owed_of = λ t. omega (arith, sh.owed_of t, ap (λ (is : List Item). count (is_done t) (packets is)) (same_sent (part_took ss p)), count_took (is_ask t) got p, ((bits p t).0 h).0);
    }
    took_at false h = record {
      count = same_count (part_took ss p) ∙ (sh.count ∙ sym (took_long ss p));
      owners = same_owners (part_took ss p);
      due = due_part (part_took ss p) takes_part;
      asks_of = λ t. omega (arith, sh.asks_of t, ap (λ (is : List Item). count (is_ask t) (packets is)) (same_sent (part_took ss p)), count_took (is_done t) got p, ((bits p t).1 h).1);
      owed_of = λ t. omega (arith, sh.owed_of t, ap (λ (is : List Item). count (is_done t) (packets is)) (same_sent (part_took ss p)), count_took (is_ask t) got p, ((bits p t).1 h).0, with_is (id_of p) t owed (room_of h));
    }

    -- what the end keeps after it was taken
    pub takes_show : Shows s (got ++ p ∷ []) (pages_took (layout k.count) k p) (end_due (part_took ss p)) (slots_took ss p) (asks_took asks p) (owed_took owed p)
    takes_show =
        let r = took_is k ss p sh.count (some_of_list 4 (left (is_at e 4 ss) (is_packet p && (e.due_words == 0)) takes_at.0)) sh.owners in
        subst (λ (x : Kept). Shows s (got ++ p ∷ []) x (end_due (part_took ss p)) (slots_took ss p) (asks_took asks p) (owed_took owed p)) (sym r) (took_at (kind_of p == 11) refl)

    -- beside a peer that completes a request that is open, the numbers stay exact
    exact_took : IsExact s got k asks → ((kind_of p == 11) ≡ true → back (id_of p) (part_of s got k) < asked (id_of p) (part_of s got k)) → (b : Bool) → (kind_of p == 11) ≡ b
        → IsExact s (got ++ p ∷ []) (took_as k p (owners_of (slots_took ss p)) (part_took ss p)) (cond b (without_id (id_of p) asks) asks)
    exact_took x opens true h = λ t. omega (arith, x t, ap (λ (is : List Item). count (is_ask t) (packets is)) (same_sent (part_took ss p)), count_took (is_done t) got p, ((bits p t).0 h).1, without_is (id_of p) t asks has)
      where
        has : has_id (id_of p) asks ≡ true
        has = by_test (has_id (id_of p) asks) (λ y. y) (λ n. absurd (let o = opens h in omega (arith, x (id_of p), o, lacks (id_of p) asks n)))
    exact_took x opens false h = λ t. omega (arith, x t, ap (λ (is : List Item). count (is_ask t) (packets is)) (same_sent (part_took ss p)), count_took (is_done t) got p, ((bits p t).1 h).1)

    -- a completion is one of a request that is open, where no more completions are taken then than there are requests
    pub takes_open : (kind_of p == 11) ≡ true → back (id_of p) (part_of s (got ++ p ∷ []) (pages_took (layout k.count) k p)) ≤ asked (id_of p) (part_of s (got ++ p ∷ []) (pages_took (layout k.count) k p))
        → back (id_of p) (part_of s got k) < asked (id_of p) (part_of s got k)
    takes_open h most =
        let r = took_is k ss p sh.count (some_of_list 4 (left (is_at e 4 ss) (is_packet p && (e.due_words == 0)) takes_at.0)) sh.owners in
        let same : (pages_took (layout k.count) k p).sent ≡ k.sent = ap (λ (y : Kept). y.sent) r ∙ same_sent (part_took ss p) in
        omega (arith, most, ap (λ (is : List Item). count (is_ask (id_of p)) (packets is)) same, count_took (is_done (id_of p)) got p, ((bits p (id_of p)).0 h).1, one_bit (id_of p))

    pub takes_exact : IsExact s got k asks → ((kind_of p == 11) ≡ true → back (id_of p) (part_of s got k) < asked (id_of p) (part_of s got k)) → IsExact s (got ++ p ∷ []) (pages_took (layout k.count) k p) (asks_took asks p)
    takes_exact x opens =
        let r = took_is k ss p sh.count (some_of_list 4 (left (is_at e 4 ss) (is_packet p && (e.due_words == 0)) takes_at.0)) sh.owners in
        subst (λ (y : Kept). IsExact s (got ++ p ∷ []) y (asks_took asks p)) (sym r) (exact_took x opens (kind_of p == 11) refl)

-- the words of a store that is planned may be stored to
pub store_owner : (o : Owner) (w : ℕ) → w < store_room o → CanStore o w
store_owner Has w h = tt
store_owner (Lent t n) w h = absurd (omega (arith, h))
store_owner (Held t n) w h = h
store_owner Away w h = absurd (omega (arith, h))

within_all : (room w n : ℕ) → within_says room w n ≡ planned → (w + n ≤ 512) × (w + n ≤ room)
within_all room w n h =
    let x = by_test (room == 0) (λ y. absurd (owned_planned (sym (ap (λ (b : Bool). cond b page_not_owned (cond (nat_le w 512 && nat_le n (512 - w) && (nat_le w room && nat_le n (room - w))) planned page_outside)) y) ∙ h)))
    (λ z. passed (nat_le w 512 && nat_le n (512 - w) && (nat_le w room && nat_le n (room - w))) planned page_outside planned outside_planned (sym (ap (λ (b : Bool). cond b page_not_owned (cond (nat_le w 512 && nat_le n (512 - w) && (nat_le w room && nat_le n (room - w))) planned page_outside)) z) ∙ h)) in
    let t = x.0 in
    ((let z : w + n ≤ 512 = grind (arith, nat_tests, t) in z), (let z : w + n ≤ room = grind (arith, nat_tests, t) in z))

away_room : (ss : List PageSlot) (q : ℕ) → length ss ≤ q → get_or ss q away ≡ away
away_room [] q h = refl
away_room (s ∷ ss) zero h = absurd (omega (arith, h))
away_room (s ∷ ss) (suc q) h = away_room ss q (omega (arith, h))

pub stores_may : (s : Side) (got : List (List ℕ)) (k : Kept) (e : PageEnd) (ss : List PageSlot) (asks owed : List IdSlot) (q w n : ℕ) → Shows s got k e ss asks owed → store_says e ss q w n ≡ planned → MayStoreAll s k q w n
stores_may s got k e ss asks owed q w n sh says =
    let a = passed (is_at e 0 ss && not (n == 0)) (cond (e.due_words == 0) (within_says (store_room (owner_of (slot_at ss q))) w n) page_due) no_call planned call_planned says in
    let b = passed (e.due_words == 0) (within_says (store_room (owner_of (slot_at ss q))) w n) page_due planned due_planned a.1 in
    let c = within_all (store_room (owner_of (slot_at ss q))) w n b.1 in
    let some : n ≢ 0 = some_slots n (right (is_at e 0 ss) (not (n == 0)) a.0) in
    let inside : q < length ss = by_test (nat_lt q (length ss)) (λ y. below_of q (length ss) y)
    (λ z. let past : length ss ≤ q = past_of q (length ss) z in absurd (omega (arith, some, c.1, ap (λ (x : PageSlot). store_room (owner_of x)) (away_room ss q past)))) in
    λ i low high. record {
      clear = sh.due ∙ clear_of e b.0;
      page = omega (arith, inside, sh.count);
      word = omega (arith, c.0, high);
      owns = subst (λ (o : Owner). CanStore o i) (sym (ap (λ (os : List Owner). get_or os q (first_owner s ((layout k.count).home q))) sh.owners ∙ owner_in_is ss q (first_owner s ((layout k.count).home q)) inside)) (store_owner (owner_of (slot_at ss q)) i (omega (arith, c.1, high)));
    }

-- stores of page words change nothing that the end shows
pub stores_show : (s : Side) (got : List (List ℕ)) (k : Kept) (e : PageEnd) (ss : List PageSlot) (asks owed : List IdSlot) (n q w : ℕ) (vs : List ℕ) → Shows s got k e ss asks owed → Shows s got (stores k q w vs) (end_at n e) ss asks owed
stores_show s got k e ss asks owed n q w [] sh = record { count = sh.count; owners = sh.owners; due = sh.due; asks_of = sh.asks_of; owed_of = sh.owed_of }
stores_show s got k e ss asks owed n q w (v ∷ vs) sh = stores_show s got (page_stored k q w v) e ss asks owed n q (w + 1) vs record { count = sh.count; owners = sh.owners; due = sh.due; asks_of = sh.asks_of; owed_of = sh.owed_of }

-- the words from j on are loaded
pub loads_show : (s : Side) (got : List (List ℕ)) (k : Kept) (e : PageEnd) (ss : List PageSlot) (asks owed : List IdSlot) (p : List ℕ) (q n j : ℕ) (vs : List ℕ) → k.due ≡ Loads q n j → j < n → length vs + j ≡ n → k.count ≡ length ss → k.owners ≡ owners_of ss
    → ((t : ℕ) → asked t (part_of s got k) ≤ back t (part_of s got k) + ids_in t asks) → ((t : ℕ) → taken t (part_of s got k) ≡ ended t (part_of s got k) + ids_in t owed) → Shows s got (loads k p vs) new_end ss asks owed
loads_show s got k e ss asks owed p q n j [] due less all count owners a o = absurd (omega (arith, less, all))
loads_show s got k e ss asks owed p q n j (v ∷ vs) due less all count owners a o = by_test (ltb (j + 1) n) (λ h. more h (loads_show s got (with_word k q j v k.got (Loads q n (j + 1))) e ss asks owed p q n (j + 1) vs refl (below_of (j + 1) n h) (omega (arith, all)) count owners a o)) last
  where
    loaded : (b : Bool) → ltb (j + 1) n ≡ b → page_loaded k p v ≡ cond b (with_word k q j v k.got (Loads q n (j + 1))) (with_word k q j v (k.got ++ item_of p (values n (copy_in (with_word k q j v k.got Clear) q)) ∷ []) Clear)
    loaded b h = ap (λ (d : Due). page_loaded_at d k p v) due ∙ ap (λ (c : Bool). cond c (with_word k q j v k.got (Loads q n (j + 1))) (with_word k q j v (k.got ++ item_of p (values n (copy_in (with_word k q j v k.got Clear) q)) ∷ []) Clear)) h

    more : ltb (j + 1) n ≡ true → Shows s got (loads (with_word k q j v k.got (Loads q n (j + 1))) p vs) new_end ss asks owed → Shows s got (loads (page_loaded k p v) p vs) new_end ss asks owed
    more h sh = subst (λ (x : Kept). Shows s got (loads x p vs) new_end ss asks owed) (sym (loaded true h)) sh

    done : (us : List ℕ) → length us ≡ 0 → us ≡ []
    done [] h = refl
    done (u ∷ us) h = absurd (omega (arith, h))

    last : ltb (j + 1) n ≡ false → Shows s got (loads (page_loaded k p v) p vs) new_end ss asks owed
    last h =
        let least : n ≤ j + 1 = past_of (j + 1) n h in
        subst (λ (us : List ℕ). Shows s got (loads (page_loaded k p v) p us) new_end ss asks owed) (sym (done vs (omega (arith, least, all, less))))
        (subst (λ (x : Kept). Shows s got x new_end ss asks owed) (sym (loaded false h)) record { count = count; owners = owners; due = refl; asks_of = a; owed_of = o })

-- what a load that is planned loads
load_due : (e : PageEnd) (ss : List PageSlot) → load_says e ss ≡ planned → (e.due_words == 0) ≡ false
load_due e ss h =
    let a = (passed (is_at e 0 ss && (not (e.due_words == 0) && (nat_le e.due_words 512 && nat_lt e.due_page (length ss)))) planned no_call planned call_planned h).0 in
    let b = left (not (e.due_words == 0)) (nat_le e.due_words 512 && nat_lt e.due_page (length ss)) (right (is_at e 0 ss) (not (e.due_words == 0) && (nat_le e.due_words 512 && nat_lt e.due_page (length ss))) a) in
    by_test (e.due_words == 0) (λ y. absurd (true≢false (sym (sym (ap not y) ∙ b)))) (λ n. n)

pub loaded_all : (s : Side) (got : List (List ℕ)) (k : Kept) (e : PageEnd) (ss : List PageSlot) (asks owed : List IdSlot) (p vs : List ℕ) → Shows s got k e ss asks owed → load_says e ss ≡ planned → length vs ≡ e.due_words
    → (k.due ≡ Loads e.due_page e.due_words 0) × Shows s got (loads k p vs) new_end ss asks owed
loaded_all s got k e ss asks owed p vs sh says long =
    let some = load_due e ss says in
    let due : k.due ≡ Loads e.due_page e.due_words 0 = sh.due ∙ ap (λ (b : Bool). cond b Clear (Loads e.due_page e.due_words 0)) some in
    (due, loads_show s got k e ss asks owed p e.due_page e.due_words 0 vs due (above_zero e.due_words some) (omega (arith, long)) sh.count sh.owners sh.asks_of sh.owed_of)
