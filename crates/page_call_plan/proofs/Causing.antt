-- Each answer has its cause, and what may be done is planned.
use Rattle.std.proofs.Common.{◌≡◌, ◌≢◌, ℕ, zero, suc, ◌+◌, ◌-◌, ◌^◌, ◌<◌, ◌≤◌, ◌==◌, Bool, true, false, not, ◌&&◌, nat_le, nat_lt, cond, List, [], ◌∷◌, length, get_or, Option, Some, None, is_some, refl, sym, ap, ◌∙◌, subst, arith, true≢false}
use Rattle.std.proofs.lemmas.Bool.Decides.{nat_tests}
use Rattle.std.specs.List.{position, position_from}
use Rattle.std.proofs.lemmas.Iterator.Adapters.{position_from-zero}
use Rattle.io_edge.specs.declared.side.Side.{Side}
use Rattle.pkt_desc.specs.Packets.{kind_of, id_of}
use Rattle.page_kept.specs.declared.kept.Kept.{Kept}
use Rattle.page_kept.specs.declared.owner.Owner.{Owner}
use Rattle.page_kept.specs.declared.owner.Owner.TheVariants.{Has, Lent, Held, Away}
use Rattle.page_kept.specs.declared.due.Due.TheVariants.{Clear, Loads}
use Rattle.page_kept.specs.Kept.{first_owner, pages_took}
use Rattle.page_kept.specs.Layouts.{Loan, layout}
use Rattle.page_kept.specs.Keepers.{MaySend, MayStore, CanStore}
use Rattle.page_kept.proofs.Loans.{fits}
use Rattle.page_call_plan.specs.Answers.{no_call, page_done, took, planned, page_due, page_not_owned, page_outside, id_open, id_not_owed, no_ids}
use Rattle.page_call_plan.specs.Causes.{NoRoom, NoFree, SendAnswer, Lets, LoadsFirst, NotHad, StillOpen, NotOwed, NoSlot, StoreAnswer, LetsAll, LoadsBefore, NoWord, NotAll, TakeAnswer, LetsTake, LoadsEarlier, NoFreeSlot, TookAnswer, NoPage, PageCame, AllFit}
use Rattle.page_call_plan.specs.Ends.{PageEnd, is_list, is_at, end_at, end_due, answer_says, room_says, ask_says, send_says, sent_says, part_says, take_says, took_says, within_says, store_says, load_says}
use Rattle.page_call_plan.specs.Ids.{IdSlot, free, adds, is_free, first_else, has_free, has_id, has_room}
use Rattle.page_call_plan.specs.Slots.{PageSlot, away, owner_of, owners_of, slot_at, is_had, is_packet, store_room, named_in, part_took, slots_took}
use Rattle.page_call_plan.specs.Shown.{due_of, part_of, Shows, IsExact, MayStoreAll}
use Rattle.page_call_plan.proofs.Fitting.{part_inside, part_fits}
use Rattle.page_call_plan.proofs.Requests.{by_test, lacks, some_of}
use Rattle.page_call_plan.proofs.Showing.{left, right, passed, call_planned, due_planned, ids_planned, call_due, ids_due, may_send, stores_may, clear_of, store_owner}
use Rattle.page_call_plan.proofs.Slotted.{owner_in_is, took_long, took_as, took_is}

-- no slot passes
next_slot : (f : IdSlot → Bool) (s : IdSlot) (ss : List IdSlot) → f s ≡ false → ((i : ℕ) → i < length ss → f (get_or ss i free) ≡ false) → (i : ℕ) → i < suc (length ss) → f (get_or (s ∷ ss) i free) ≡ false
next_slot f s ss here rest zero h = here
next_slot f s ss here rest (suc i) h = rest i (omega (arith, h))

none_from : (f : IdSlot → Bool) (j : ℕ) (ss : List IdSlot) → position_from f j ss ≡ None → (i : ℕ) → i < length ss → f (get_or ss i free) ≡ false
none_from f j [] e i h = absurd (omega (arith, h))
none_from f j (s ∷ ss) e i h = by_test (f s)
    (λ y. absurd (let z : Some j ≡ None = sym (ap (λ (b : Bool). cond b (Some j) (position_from f (j + 1) ss)) y) ∙ e in (cc)))
    (λ n. next_slot f s ss n (none_from f (j + 1) ss (sym (ap (λ (b : Bool). cond b (Some j) (position_from f (j + 1) ss)) n) ∙ e)) i h)

none_at : (f : IdSlot → Bool) (ss : List IdSlot) → position f ss ≡ None → (i : ℕ) → i < length ss → f (get_or ss i free) ≡ false
none_at f ss e = none_from f 0 ss (sym (position_from-zero f ss) ∙ e)

used_by : (s : IdSlot) → is_free s ≡ false → s.count ≢ 0
used_by s h = grind (arith, nat_tests, h)

counted_by : (t : ℕ) (s : IdSlot) → adds t s ≡ false → s.count ≢ 0 → s.tid ≡ t → 2 ^ 64 ≤ s.count + 1
counted_by t s h used same = grind (arith, nat_tests, h, used, same)

room_none : (a f : Option ℕ) → is_some (first_else a f) ≡ false → (a ≡ None) × (f ≡ None)
room_none None None h = (refl, refl)
room_none None (Some i) h = absurd (cc)
room_none (Some i) f h = absurd (cc)

-- an id that finds no slot
no_room : (t : ℕ) (ss : List IdSlot) → has_room t ss ≡ false → NoRoom t ss
no_room t ss h =
    let n = room_none (position (adds t) ss) (position is_free ss) h in
    let u : (i : ℕ) → i < length ss → (get_or ss i free).count ≢ 0 = λ i b. used_by (get_or ss i free) (none_at is_free ss n.1 i b) in
    record { used = u; counted = λ i b same. counted_by t (get_or ss i free) (none_at (adds t) ss n.0 i b) (u i b) same }

none_is : (o : Option ℕ) → is_some o ≡ false → o ≡ None
none_is None h = refl
none_is (Some i) h = absurd (cc)

no_free : (ss : List IdSlot) → has_free ss ≡ false → NoFree ss
no_free ss h i b = used_by (get_or ss i free) (none_at is_free ss (none_is (position is_free ss) h) i b)

-- room for any request is room for one of each id
room_some : (a f : Option ℕ) → is_some f ≡ true → is_some (first_else a f) ≡ true
room_some None f h = h
room_some (Some i) f h = refl

free_has_room : (t : ℕ) (ss : List IdSlot) → has_free ss ≡ true → has_room t ss ≡ true
free_has_room t ss h = room_some (position (adds t) ss) (position is_free ss) h

loads_clear : (q n j : ℕ) → Loads q n j ≡ Clear → ⊥
loads_clear q n j h = cc

-- words are due
some_due : (e : PageEnd) → (e.due_words == 0) ≡ false → due_of e ≢ Clear
some_due e h c = loads_clear e.due_page e.due_words 0 (sym (ap (λ (b : Bool). cond b Clear (Loads e.due_page e.due_words 0)) h) ∙ c)

not_had : (o : Owner) → is_had o ≡ false → o ≢ Has
not_had o h is = true≢false (sym (ap is_had is) ∙ h)

-- what a slot shows of a page of the channel
page_is : (s : Side) (k : Kept) (ss : List PageSlot) (q : ℕ) → k.owners ≡ owners_of ss → q < length ss → get_or k.owners q (first_owner s ((layout k.count).home q)) ≡ owner_of (slot_at ss q)
page_is s k ss q owners inside = ap (λ (os : List Owner). get_or os q (first_owner s ((layout k.count).home q))) owners ∙ owner_in_is ss q (first_owner s ((layout k.count).home q)) inside

module _ (s : Side) (got : List (List ℕ)) (k : Kept) (e : PageEnd) (ss : List PageSlot) (asks owed : List IdSlot) (sh : Shows s got k e ss asks owed) where
  due_not : (e.due_words == 0) ≡ false → k.due ≢ Clear
  due_not h c = some_due e h (sym sh.due ∙ c)

  module _ (x : IsExact s got k asks) (n : ℕ) (p : List ℕ) (fit : is_at e n ss ≡ true) (packet : is_packet p ≡ true) where
    abbrev a : ℕ
    a = send_says e n ss asks owed p

    abbrev Answer : Type 0
    Answer = SendAnswer (layout k.count) (part_of s got k) asks p a

    abbrev inner : ℕ
    inner = cond (kind_of p == 11) (answer_says owed (id_of p)) (ask_says ss asks (id_of p) (named_in ss p))

    form : a ≡ cond (e.due_words == 0) inner page_due
    form = (λ i. cond (fit i && packet i) (cond (e.due_words == 0) inner page_due) no_call)

    lets : a ≡ planned → Answer
    lets is = Lets is (may_send s got k e ss asks owed sh n p is)

    by_room : (b : Bool) → has_room (id_of p) asks ≡ b → (kind_of p == 11) ≡ false → a ≡ cond b planned no_ids → Answer
    by_room true h g is = lets is
    by_room false h g is = NoSlot is g (no_room (id_of p) asks h)

    by_open : (m : Loan) → (layout k.count).lends p ≡ Some m → (b : Bool) → has_id (id_of p) asks ≡ b → (kind_of p == 11) ≡ false → a ≡ cond b id_open (room_says asks (id_of p)) → Answer
    by_open m names true h g is = StillOpen m is g names (omega (arith, x (id_of p), some_of (id_of p) asks h))
    by_open m names false h g is = by_room (has_room (id_of p) asks) refl g is

    by_had : (m : Loan) → (layout k.count).lends p ≡ Some m → (b : Bool) → is_had (owner_of (slot_at ss m.page)) ≡ b → (kind_of p == 11) ≡ false → a ≡ cond b (cond (has_id (id_of p) asks) id_open (room_says asks (id_of p))) page_not_owned → Answer
    by_had m names true h g is = by_open m names (has_id (id_of p) asks) refl g is
    by_had m names false h g is =
        let inside = fits (length ss) p m (subst (λ (c : ℕ). (layout c).lends p ≡ Some m) sh.count names) in
        NotHad m is g names (λ has. not_had (owner_of (slot_at ss m.page)) h (sym (page_is s k ss m.page sh.owners inside.0) ∙ has))

    by_named : (o : Option Loan) → named_in ss p ≡ o → (kind_of p == 11) ≡ false → a ≡ ask_says ss asks (id_of p) o → Answer
    by_named None names g is = by_room (has_room (id_of p) asks) refl g is
    by_named (Some m) names g is = by_had m (subst (λ (c : ℕ). (layout c).lends p ≡ Some m) (sym sh.count) names) (is_had (owner_of (slot_at ss m.page))) refl g is

    by_owed : (b : Bool) → has_id (id_of p) owed ≡ b → (kind_of p == 11) ≡ true → a ≡ cond b planned id_not_owed → Answer
    by_owed true h g is = lets is
    by_owed false h g is = NotOwed is g (omega (arith, sh.owed_of (id_of p), lacks (id_of p) owed h))

    by_kind : (b : Bool) → (kind_of p == 11) ≡ b → a ≡ cond b (answer_says owed (id_of p)) (ask_says ss asks (id_of p) (named_in ss p)) → Answer
    by_kind true g is = by_owed (has_id (id_of p) owed) refl g is
    by_kind false g is = by_named (named_in ss p) refl g is

    by_due : (b : Bool) → (e.due_words == 0) ≡ b → a ≡ cond b inner page_due → Answer
    by_due true h is = by_kind (kind_of p == 11) refl is
    by_due false h is = LoadsFirst is (due_not h)

    pub send_answers : SendAnswer (layout k.count) (part_of s got k) asks p (send_says e n ss asks owed p)
    send_answers = by_due (e.due_words == 0) refl form

    -- what may be sent, and has a slot, is planned
    pub send_lets : MaySend (layout k.count) (part_of s got k) p → ((kind_of p == 11) ≡ false → NoRoom (id_of p) asks → ⊥) → send_says e n ss asks owed p ≡ planned
    send_lets may slot = by_answer send_answers
      where
        by_answer : Answer → a ≡ planned
        by_answer (Lets is m) = is
        by_answer (LoadsFirst is d) = absurd (d may.clear)
        by_answer (NotHad m is g names never) = absurd (never (may.has m g names))
        by_answer (StillOpen m is g names o) = absurd (omega (arith, o, may.settled m g names))
        by_answer (NotOwed is g o) = absurd (omega (arith, o, may.answers g))
        by_answer (NoSlot is g full) = absurd (slot g full)

-- a word that may be stored to is among those that there is room for
room_of : (o : Owner) (i : ℕ) → i < 512 → CanStore o i → i < store_room o
room_of Has i h c = h
room_of (Lent t n) i h c = absurd c
room_of (Held t n) i h c = c
room_of Away i h c = absurd c

past_room : (ss : List PageSlot) (q : ℕ) → length ss ≤ q → get_or ss q away ≡ away
past_room [] q h = refl
past_room (s ∷ ss) zero h = absurd (omega (arith, h))
past_room (s ∷ ss) (suc q) h = past_room ss q (omega (arith, h))

some_room : (n : ℕ) → (n == 0) ≡ false → 0 < n
some_room n h = grind (arith, nat_tests, h)

no_words : (n : ℕ) → (n == 0) ≡ true → n ≡ 0
no_words n h = grind (arith, nat_tests, h)

took_due : took ≡ page_due → ⊥
took_due h = cc

low_some : (n : ℕ) → nat_le 1 n ≡ true → not (n == 0) ≡ true
low_some n h = grind (arith, nat_tests, h)

below_is : (a b : ℕ) → a < b → nat_lt a b ≡ true
below_is a b h = grind (arith, nat_tests, h)

some_list : (n : ℕ) → not (n == 0) ≡ true → n ≢ 0
some_list n h = grind (arith, nat_tests, h)

some_slots_of : (s : Side) (got : List (List ℕ)) (k : Kept) (e : PageEnd) (ss : List PageSlot) (asks owed : List IdSlot) → Shows s got k e ss asks owed → is_list ss ≡ true → k.count ≢ 0
some_slots_of s got k e ss asks owed sh h x = some_list (length ss) (left (not (length ss == 0)) (nat_le (length ss) 128) h) (sym sh.count ∙ x)

some_words : (n : ℕ) → n ≢ 0 → (n == 0) ≡ false
some_words n h = grind (arith, nat_tests, h)

below_or : (a b : ℕ) → nat_lt a b ≡ true → a < b
below_or a b h = grind (arith, nat_tests, h)

past_or : (a b : ℕ) → nat_lt a b ≡ false → b ≤ a
past_or a b h = grind (arith, nat_tests, h)

inside_says : (room w n : ℕ) → (nat_le w 512 && nat_le n (512 - w) && (nat_le w room && nat_le n (room - w))) ≡ false → w + n ≤ 512 → w + n ≤ room → ⊥
inside_says room w n h a b = grind (arith, nat_tests, h, a, b)

module _ (s : Side) (got : List (List ℕ)) (k : Kept) (e : PageEnd) (ss : List PageSlot) (asks owed : List IdSlot) (sh : Shows s got k e ss asks owed) (fit : is_at e 0 ss ≡ true) where
  still_due : (e.due_words == 0) ≡ false → k.due ≢ Clear
  still_due h c = some_due e h (sym sh.due ∙ c)

  module _ (q w n : ℕ) (some : n ≢ 0) where
    abbrev room : ℕ
    room = store_room (owner_of (slot_at ss q))

    abbrev b : ℕ
    b = store_says e ss q w n

    store_form : b ≡ cond (e.due_words == 0) (within_says room w n) page_due
    store_form = (λ i. cond (fit i && not (some_words n some i)) (cond (e.due_words == 0) (within_says room w n) page_due) no_call)

    may_room : (i : ℕ) → MayStore (layout k.count) s k q i → i < room
    may_room i m = room_of (owner_of (slot_at ss q)) i m.word (subst (λ (o : Owner). CanStore o i) (page_is s k ss q sh.owners (let y = m.page in let z = sh.count in omega (arith, y, z))) m.owns)

    by_room_test : (c : Bool) → (nat_le w 512 && nat_le n (512 - w) && (nat_le w room && nat_le n (room - w))) ≡ c → (e.due_words == 0) ≡ true → 0 < room → b ≡ cond c planned page_outside → StoreAnswer s k q w n b
    by_room_test true t d r is = LetsAll is (stores_may s got k e ss asks owed q w n sh is)
    by_room_test false t d r is =
        let inside : q < length ss = by_test (nat_lt q (length ss)) (λ y. below_or q (length ss) y)
        (λ z. let past : length ss ≤ q = past_or q (length ss) z in absurd (omega (arith, r, ap (λ (x : PageSlot). store_room (owner_of x)) (past_room ss q past)))) in
        NotAll is
        record {
          clear = sh.due ∙ clear_of e d;
          page = omega (arith, inside, sh.count);
          word = omega arith;
          owns = subst (λ (o : Owner). CanStore o 0) (sym (page_is s k ss q sh.owners inside)) (store_owner (owner_of (slot_at ss q)) 0 r);
        }
        (λ all.
        let last = all (w + n - 1) (omega (arith, some)) (omega (arith, some)) in
        let at = may_room (w + n - 1) last in
        let word = last.word in
        inside_says room w n t (omega (arith, word, some)) (omega (arith, at, some)))

    by_none : (c : Bool) → (room == 0) ≡ c → (e.due_words == 0) ≡ true → b ≡ cond c page_not_owned (cond (nat_le w 512 && nat_le n (512 - w) && (nat_le w room && nat_le n (room - w))) planned page_outside) → StoreAnswer s k q w n b
    by_none true t d is = NoWord is (λ i m. let at = may_room i m in omega (arith, at, no_words room t))
    by_none false t d is = by_room_test (nat_le w 512 && nat_le n (512 - w) && (nat_le w room && nat_le n (room - w))) refl d (some_room room t) is

    by_load : (c : Bool) → (e.due_words == 0) ≡ c → b ≡ cond c (within_says room w n) page_due → StoreAnswer s k q w n b
    by_load true d is = by_none (room == 0) refl d is
    by_load false d is = LoadsBefore is (still_due d)

    pub store_answers : StoreAnswer s k q w n (store_says e ss q w n)
    store_answers = by_load (e.due_words == 0) refl store_form

    pub store_lets : MayStoreAll s k q w n → store_says e ss q w n ≡ planned
    store_lets all = by_answer store_answers
      where
        by_answer : StoreAnswer s k q w n b → b ≡ planned
        by_answer (LetsAll is m) = is
        by_answer (LoadsBefore is d) = absurd (d (all w (omega arith) (omega (arith, some))).clear)
        by_answer (NoWord is never) = absurd (never w (all w (omega arith) (omega (arith, some))))
        by_answer (NotAll is m never) = absurd (never all)

  abbrev c : ℕ
  c = take_says e ss owed

  take_form : c ≡ cond (e.due_words == 0) (cond (has_free owed) planned no_ids) page_due
  take_form = (λ i. cond (fit i) (cond (e.due_words == 0) (cond (has_free owed) planned no_ids) page_due) no_call)

  by_free : (d : Bool) → has_free owed ≡ d → (e.due_words == 0) ≡ true → c ≡ cond d planned no_ids → TakeAnswer k owed c
  by_free true h z is = LetsTake is (sh.due ∙ clear_of e z)
  by_free false h z is = NoFreeSlot is (no_free owed h)

  by_taken : (d : Bool) → (e.due_words == 0) ≡ d → c ≡ cond d (cond (has_free owed) planned no_ids) page_due → TakeAnswer k owed c
  by_taken true h is = by_free (has_free owed) refl h is
  by_taken false h is = LoadsEarlier is (still_due h)

  pub take_answers : TakeAnswer k owed (take_says e ss owed)
  take_answers = by_taken (e.due_words == 0) refl take_form

  pub take_lets : k.due ≡ Clear → (NoFree owed → ⊥) → take_says e ss owed ≡ planned
  take_lets clear slot = by_answer take_answers
    where
      by_answer : TakeAnswer k owed c → c ≡ planned
      by_answer (LetsTake is d) = is
      by_answer (LoadsEarlier is d) = absurd (d clear)
      by_answer (NoFreeSlot is full) = absurd (slot full)

and_none : (b : Bool) → (b && false) ≡ false
and_none true = refl
and_none false = refl

due_says : (n : ℕ) → 0 < n → n ≤ 512 → cond {A = ℕ} (nat_le 1 n && nat_le n 512) page_due no_call ≡ page_due
due_says n low high = ap (λ (b : Bool). cond {A = ℕ} b page_due no_call) (let z : (nat_le 1 n && nat_le n 512) ≡ true = grind (arith, nat_tests, low, high) in z)

-- a take that was planned isn't refused, whatever packet the ring gave
module _ (s : Side) (got : List (List ℕ)) (k : Kept) (e : PageEnd) (ss : List PageSlot) (asks owed : List IdSlot) (sh : Shows s got k e ss asks owed) (all : AllFit ss) (p : List ℕ) (says : take_says e ss owed ≡ planned) (packet : is_packet p ≡ true) where
  planned_at : (is_at e 0 ss ≡ true) × (cond (e.due_words == 0) (cond (has_free owed) planned no_ids) page_due ≡ planned)
  planned_at = passed (is_at e 0 ss) (cond (e.due_words == 0) (cond (has_free owed) planned no_ids) page_due) no_call planned call_planned says

  clear_at : ((e.due_words == 0) ≡ true) × (cond (has_free owed) planned no_ids ≡ planned)
  clear_at = passed (e.due_words == 0) (cond (has_free owed) planned no_ids) page_due planned due_planned planned_at.1

  room_at : has_room (id_of p) owed ≡ true
  room_at = free_has_room (id_of p) owed (passed (has_free owed) planned no_ids planned ids_planned clear_at.1).0

  listed : is_list ss ≡ true
  listed = right (e.state == 0) (is_list ss) planned_at.0

  abbrev d : ℕ
  d = took_says (end_at 4 e) ss owed p

  took_form : d ≡ part_says (part_took ss p)
  took_form =
      (λ i. cond (listed i && (packet i && clear_at.0 i)) (cond (not (kind_of p == 11) && not (room_at i)) no_ids (part_says (part_took ss p))) no_call)
      ∙ ap (λ (b : Bool). cond b no_ids (part_says (part_took ss p))) (and_none (not (kind_of p == 11)))

  abbrev now : Kept
  now = pages_took (layout k.count) k p

  now_is : now ≡ took_as k p (owners_of (slots_took ss p)) (part_took ss p)
  now_is = took_is k ss p sh.count (some_slots_of s got k e ss asks owed sh listed) sh.owners

  by_part : (o : Option Loan) → part_took ss p ≡ o → d ≡ part_says o → TookAnswer now d
  by_part None h is = NoPage is (ap (λ (x : Kept). x.due) now_is ∙ (ap (λ (o : Option Loan). (took_as k p (owners_of (slots_took ss p)) o).due) h ∙ (sh.due ∙ clear_of e clear_at.0)))
  by_part (Some a) h is =
      let f = part_fits ss p a all h in
      let count : now.count ≡ length ss = ap (λ (x : Kept). x.count) now_is ∙ (ap (λ (o : Option Loan). (took_as k p (owners_of (slots_took ss p)) o).count) h ∙ sh.count) in
      let page = f.page in
      PageCame a.page a.words (is ∙ due_says a.words f.some f.most) (ap (λ (x : Kept). x.due) now_is ∙ ap (λ (o : Option Loan). (took_as k p (owners_of (slots_took ss p)) o).due) h) (omega (arith, count, page)) f.some f.most

  pub took_answers : TookAnswer (pages_took (layout k.count) k p) (took_says (end_at 4 e) ss owed p)
  took_answers = by_part (part_took ss p) refl took_form

-- words that came are loaded next
module _ (e : PageEnd) (ss : List PageSlot) (owed : List IdSlot) (p : List ℕ) (says : took_says e ss owed p ≡ page_due) where
  came : ((is_at e 4 ss && (is_packet p && (e.due_words == 0))) ≡ true) × (cond (not (kind_of p == 11) && not (has_room (id_of p) owed)) no_ids (part_says (part_took ss p)) ≡ page_due)
  came = passed (is_at e 4 ss && (is_packet p && (e.due_words == 0))) (cond (not (kind_of p == 11) && not (has_room (id_of p) owed)) no_ids (part_says (part_took ss p))) no_call page_due call_due says

  part_due : part_says (part_took ss p) ≡ page_due
  part_due = by_test (not (kind_of p == 11) && not (has_room (id_of p) owed))
      (λ y. absurd (ids_due (sym (ap (λ (b : Bool). cond b no_ids (part_says (part_took ss p))) y) ∙ came.1)))
      (λ z. sym (ap (λ (b : Bool). cond b no_ids (part_says (part_took ss p))) z) ∙ came.1)

  list_at : is_list ss ≡ true
  list_at = right (e.state == 4) (is_list ss) (left (is_at e 4 ss) (is_packet p && (e.due_words == 0)) came.0)

  list_after : is_list (slots_took ss p) ≡ true
  list_after = ap (λ (n : ℕ). not (n == 0) && nat_le n 128) (took_long ss p) ∙ list_at

  by_come : (o : Option Loan) → part_took ss p ≡ o → part_says o ≡ page_due → load_says (end_due o) (slots_took ss p) ≡ planned
  by_come None h is = absurd (took_due is)
  by_come (Some a) h is =
      let x = (passed (nat_le 1 a.words && nat_le a.words 512) page_due no_call page_due call_due is).0 in
      let some : not (a.words == 0) ≡ true = low_some a.words (left (nat_le 1 a.words) (nat_le a.words 512) x) in
      let inside : nat_lt a.page (length (slots_took ss p)) ≡ true = below_is a.page (length (slots_took ss p)) (let y = part_inside ss p a h in let z = took_long ss p in omega (arith, y, z)) in
      (λ i. cond (list_after i && (some i && (right (nat_le 1 a.words) (nat_le a.words 512) x i && inside i))) planned no_call)

  pub load_lets : load_says (end_due (part_took ss p)) (slots_took ss p) ≡ planned
  load_lets = by_come (part_took ss p) refl part_due

-- a send that was planned isn't refused once the ring has the packet
pub sent_lets : (e : PageEnd) (ss : List PageSlot) (asks owed : List IdSlot) (p : List ℕ) → send_says e 0 ss asks owed p ≡ planned → sent_says (end_at 3 e) ss asks owed p ≡ page_done
sent_lets e ss asks owed p h =
    let inner : ℕ = cond (e.due_words == 0) (cond (kind_of p == 11) (answer_says owed (id_of p)) (ask_says ss asks (id_of p) (named_in ss p))) page_due in
    let a = passed (is_at e 0 ss && is_packet p) inner no_call planned call_planned h in
    let listed : is_list ss ≡ true = right (e.state == 0) (is_list ss) (left (is_at e 0 ss) (is_packet p) a.0) in
    let packet : is_packet p ≡ true = right (is_at e 0 ss) (is_packet p) a.0 in
    let again : send_says (end_at 3 e) 3 ss asks owed p ≡ planned = (λ i. cond (listed i && packet i) inner no_call) ∙ a.1 in
    (λ i. cond (again i == planned) page_done (again i))
