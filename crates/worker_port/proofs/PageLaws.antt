-- What the calls of an end leave of its pages.
use Rattle.std.proofs.Common.{◌≡◌, ◌≢◌, ℕ, zero, suc, ◌+◌, ◌*◌, ◌<◌, ◌≤◌, ◌==◌, ◌⊎◌, true, false, take, List, [], ◌∷◌, ◌++◌, length, get_or, set, Option, Some, None, refl, sym, ap, ◌∙◌, subst, arith, inl, inr}
use Rattle.std.specs.Prelude.{slice_index_or, is_some}
use Rattle.std.proofs.lemmas.Bool.Decides.{nat_tests}
use Rattle.std.proofs.lemmas.List.{length-set}
use Rattle.page_kept.specs.declared.due.Due.TheVariants.{Clear, Loads as DueLoads}
use Rattle.page_kept.specs.declared.item.Item.{Item}
use Rattle.page_kept.specs.declared.kept.Kept.{Kept}
use Rattle.page_kept.specs.declared.owner.Owner.{Owner}
use Rattle.page_kept.specs.declared.owner.Owner.TheVariants.{Has, Lent, Held, Away}
use Rattle.page_kept.specs.declared.page_call.PageCall.{PageCall}
use Rattle.page_kept.specs.declared.page_call.PageCall.TheVariants.{LoadWords}
use Rattle.page_kept.specs.Items.{item_of, values}
use Rattle.page_kept.specs.Kept.{copy_in, first_page, gives_back, has_back, holds_now, is_held, is_lent, lends_out, lent_words, may_hold, pages_sent, pages_took, with_due, with_sent, with_took}
use Rattle.page_kept.specs.Layouts.{Loan, layout}
use Rattle.page_kept.specs.Stepped.{page_fed}
use Rattle.page_kept.proofs.Loans as loans
use Rattle.pkt_desc.specs.Packets.{kind_of, id_of}
use Rattle.ring_machine.specs.declared.state.EndState.{EndState}
use Rattle.ring_machine.specs.PageCalls.{newest}
use Rattle.ring_machine.proofs.Sound.{at_cond}
use Rattle.ring_core.specs.declared.told.Told.{Told}
use Rattle.ring_core.specs.Laying.{laid, laid_at, RanStores}
use Rattle.ring_core.specs.Loading.{Loads}
use Rattle.ring_core.specs.PageRuns.{RanPages, page_afters}
use Rattle.ring_core.specs.Pages.{IsClear, along, items_of, last_words}
use Rattle.ring_core.specs.Seen.{Seen}
use Rattle.ring_core.specs.Told.{Tale}
use Rattle.ring_core.proofs.Laying.{stored_is}
use Rattle.ring_core.proofs.Paging.{first_of, last_more, newest_tail, none_along, other_of, values_long}
use Rattle.page_table.specs.Table.{part_in}
use Rattle.worker_port.specs.Line.{AreFew, page_places, page_words, words_at}

pub is_zero : (n : ℕ) → n ≡ 0 → (n == 0) ≡ true
is_zero n e = grind (arith, nat_tests, e)

pub is_more : (n : ℕ) → n ≢ 0 → (n == 0) ≡ false
is_more n e = grind (arith, nat_tests, e)

-- either there are no pages, or there are some
pub by_count : {P : Type 0} (n : ℕ) → (n ≡ 0 → P) → (n ≢ 0 → P) → P
by_count zero none some = none refl
by_count (suc n) none some = some (λ e. cc)

-- the room for page words
pub words_none : (c n : ℕ) → c ≡ 0 → page_words c n ≡ 0
words_none c n e = ap (λ k. page_words k n) e

pub words_some : (c n : ℕ) → c ≢ 0 → page_words c n ≡ 512 * n
words_some c n e = grind (arith, e)

pub places_some : (c n : ℕ) → c ≢ 0 → page_places c n ≡ n
places_some c n e = grind (arith, e)

pub words_next : (c n m : ℕ) → m ≡ n + 1 → page_words c m ≡ page_words c n + page_words c 1
words_next c n m e = grind (arith, e)

pub places_next : (c n m : ℕ) → m ≡ n + 1 → page_places c m ≡ page_places c n + page_places c 1
places_next c n m e = grind (arith, e)

pub words_mono : (c m n : ℕ) → m ≤ n → page_words c m ≤ page_words c n
words_mono c m n h = grind (arith, h)

pub places_mono : (c m n : ℕ) → m ≤ n → page_places c m ≤ page_places c n
places_mono c m n h = grind (arith, h)

-- owners
few_at : (os : List Owner) → AreFew os → (q : ℕ) → lent_words (get_or os q Away) ≤ 512
few_at [] few q = omega arith
few_at (o ∷ os) few zero = few.0
few_at (o ∷ os) few (suc q) = few_at os few.1 q

few_set : (os : List Owner) (q : ℕ) (o : Owner) → AreFew os → lent_words o ≤ 512 → AreFew (set os q o)
few_set [] q o few le = tt
few_set (p ∷ os) zero o few le = (le, few.1)
few_set (p ∷ os) (suc q) o few le = (few.0, few_set os q o few.1 le)

-- what a send of a packet leaves of the pages of a channel that has some
pub record SentPages (k k' : Kept) (p : List ℕ) : Type 0 where
  pub count : k'.count ≡ k.count
  pub got : k'.got ≡ k.got
  pub due : k'.due ≡ k.due
  pub sent : k'.sent ≡ k.sent ++ item_of p (last_words k'.sent) ∷ []
  pub held : AreFew k.owners → AreFew k'.owners
  pub listed : length k'.owners ≡ length k.owners
  pub few : AreFew k.owners → length (last_words k'.sent) ≤ 512

sent_with : (k : Kept) (p ws : List ℕ) (os : List Owner) → (AreFew k.owners → AreFew os) → length os ≡ length k.owners → (AreFew k.owners → length ws ≤ 512) → SentPages k (with_sent k p ws os) p
sent_with k p ws os held listed few = record {
  count = refl;
  got = refl;
  due = refl;
  sent = ap (λ (w : List ℕ). k.sent ++ item_of p w ∷ []) (sym (last_more k.sent (item_of p ws)));
  held = held;
  listed = listed;
  few = λ h. omega (arith, ap length (last_more k.sent (item_of p ws)), few h);
}

sent_back : (k : Kept) (p : List ℕ) (at : Option ℕ) → SentPages k (gives_back k p at) p
sent_back k p None = sent_with k p [] k.owners (λ h. h) refl (λ h. omega arith)
sent_back k p (Some q) =
    sent_with k p (values (lent_words (get_or k.owners q Away)) (copy_in k q)) (set k.owners q Away) (λ h. few_set k.owners q Away h (omega arith)) (length-set k.owners q Away)
    (λ h. omega (arith, values_long (lent_words (get_or k.owners q Away)) (copy_in k q), few_at k.owners h q))

sent_out : (k : Kept) (p : List ℕ) (at : Option Loan) → ((a : Loan) → at ≡ Some a → a.words ≤ 512) → SentPages k (lends_out k p at) p
sent_out k p None inside = sent_with k p [] k.owners (λ h. h) refl (λ h. omega arith)
sent_out k p (Some a) inside =
    sent_with k p (values a.words (copy_in k a.page)) (set k.owners a.page (Lent (id_of p) a.words)) (λ h. few_set k.owners a.page (Lent (id_of p) a.words) h (inside a refl)) (length-set k.owners a.page (Lent (id_of p) a.words))
    (λ h. omega (arith, values_long a.words (copy_in k a.page), inside a refl))

pub sent_pages : (c : ℕ) (k : Kept) (p : List ℕ) → k.count ≢ 0 → SentPages k (pages_sent (layout c) k p) p
sent_pages c k p some =
    rw (is_more k.count some)
    (at_cond (λ j. SentPages k j p) (kind_of p == 11) _ _ (λ t. sent_back k p (first_page (is_held (id_of p)) 0 k.owners)) (λ f. sent_out k p ((layout c).lends p) (λ a e. (loans.fits c p a e).2)))

-- what a take of a packet leaves of them: its page words are due, or there are none
pub record TookPages (k k' : Kept) (p : List ℕ) : Type 0 where
  pub count : k'.count ≡ k.count
  pub sent : k'.sent ≡ k.sent
  pub held : AreFew k.owners → AreFew k'.owners
  pub listed : length k'.owners ≡ length k.owners
  pub items : ((k'.due ≡ k.due) × (k'.got ≡ k.got ++ item_of p [] ∷ [])) ⊎ ((q : ℕ) × (n : ℕ) × (k'.due ≡ DueLoads q n 0) × (k'.got ≡ k.got))

took_bare : (k : Kept) (p : List ℕ) → TookPages k (with_took k p) p
took_bare k p = record { count = refl; sent = refl; held = λ h. h; listed = refl; items = inl (refl, refl) }

took_due : (k : Kept) (p : List ℕ) (os : List Owner) (q n : ℕ) → (AreFew k.owners → AreFew os) → length os ≡ length k.owners → TookPages k (with_due k os q n) p
took_due k p os q n held listed = record { count = refl; sent = refl; held = held; listed = listed; items = inr (q, n, refl, refl) }

took_back : (k : Kept) (p : List ℕ) (at : Option ℕ) → TookPages k (has_back k p at) p
took_back k p None = took_bare k p
took_back k p (Some q) = took_due k p (set k.owners q Has) q (lent_words (get_or k.owners q Away)) (λ h. few_set k.owners q Has h (omega arith)) (length-set k.owners q Has)

took_held : (k : Kept) (p : List ℕ) (at : Option Loan) → ((a : Loan) → at ≡ Some a → a.words ≤ 512) → TookPages k (holds_now k p at) p
took_held k p None inside = took_bare k p
took_held k p (Some a) inside =
    at_cond (λ j. TookPages k j p) (may_hold (id_of p) (get_or k.owners a.page Has)) (with_due k (set k.owners a.page (Held (id_of p) a.words)) a.page a.words) (with_took k p)
    (λ t. took_due k p (set k.owners a.page (Held (id_of p) a.words)) a.page a.words (λ h. few_set k.owners a.page (Held (id_of p) a.words) h (inside a refl)) (length-set k.owners a.page (Held (id_of p) a.words))) (λ f. took_bare k p)

pub took_pages : (c : ℕ) (k : Kept) (p : List ℕ) → k.count ≢ 0 → TookPages k (pages_took (layout c) k p) p
took_pages c k p some =
    rw (is_more k.count some)
    (at_cond (λ j. TookPages k j p) (kind_of p == 11) _ _ (λ t. took_back k p (first_page (is_lent (id_of p)) 0 k.owners)) (λ f. took_held k p ((layout c).lends p) (λ a e. (loans.fits c p a e).2)))

-- a page call changes neither the number of pages, nor the items that were sent, nor the owners
pub record SamePages (k k' : Kept) : Type 0 where
  pub count : k'.count ≡ k.count
  pub sent : k'.sent ≡ k.sent
  pub owners : k'.owners ≡ k.owners

same_fed : (c : PageCall) (k : Kept) (p : List ℕ) (v : ℕ) → SamePages k (page_fed c k p v)
same_fed c k p v = grind arith

same_afters : (s : EndState) (c : PageCall) (vs : List ℕ) → SamePages s.pages (page_afters s c vs).pages
same_afters s c [] = record { count = refl; sent = refl; owners = refl }
same_afters s c (v ∷ vs) =
    let e : EndState = page_afters s c vs in
    let a = same_afters s c vs in
    let b = same_fed e.pages.call e.pages (newest e.got) v in
    record { count = b.count ∙ a.count; sent = b.sent ∙ a.sent; owners = b.owners ∙ a.owners }

same_ran : (s t : EndState) (c : PageCall) (told told' : Option Told) (tale tale' : Tale) → RanPages s t c told told' tale tale' → SamePages s.pages t.pages
same_ran s t c told told' tale tale' ran = subst (λ (x : EndState). SamePages s.pages x.pages) (sym ran.state) (same_afters s c ran.values)

ran_tells : (s t : EndState) (c : PageCall) (told told' : Option Told) (tale tale' : Tale) → RanPages s t c told told' tale tale' → is_some told' ≡ is_some told
ran_tells s t c (Some u) told' tale tale' ran = ap is_some (ran.tells u refl)
ran_tells s t c None told' tale tale' ran = ap is_some (ran.silent refl)

pub stores_tell : (s t : EndState) (q : ℕ) (ws : List ℕ) (told told' : Option Told) (tale tale' : Tale) → RanStores s t q ws told told' tale tale' → is_some told' ≡ is_some told
stores_tell s t q ws (Some u) told' tale tale' ran = ap is_some (ran.tells u refl)
stores_tell s t q ws None told' tale tale' ran = ap is_some (ran.silent refl)

pub newest_more : (ps : List (List ℕ)) (p : List ℕ) → newest (ps ++ p ∷ []) ≡ p
newest_more [] p = refl
newest_more (q ∷ []) p = refl
newest_more (q ∷ r ∷ ps) p = newest_tail q r (ps ++ p ∷ []) ∙ newest_more (r ∷ ps) p

-- A packet was taken, with these page words, and nothing is due any more
pub record TakenPages (k k' : Kept) (p ws : List ℕ) : Type 0 where
  pub count : k'.count ≡ k.count
  pub sent : k'.sent ≡ k.sent
  pub held : AreFew k.owners → AreFew k'.owners
  pub listed : length k'.owners ≡ length k.owners
  pub clear : IsClear k'
  pub few : length ws ≤ 512
  pub none : k.count ≡ 0 → (ws ≡ []) × (k'.got ≡ k.got)
  pub some : k.count ≢ 0 → k'.got ≡ k.got ++ item_of p ws ∷ []

-- and whether the seat tells its end's state stays so; at most the words of a page were taken of the room, and a place for them
pub record TakenWhole {S : Type 0} (told : S → Option Told) (same : S → S → Type 0) (k : Kept) (p : List ℕ) (mid new : Seen S) : Type 0 where
  pub words : List ℕ
  pub pages : TakenPages k new.state.pages p words
  pub owners : new.state.pages.owners ≡ mid.state.pages.owners
  pub items : new.state.pages.sent ≡ mid.state.pages.sent
  pub tells : is_some (told new.seat) ≡ is_some (told mid.seat)
  pub packets_room : mid.spare_got.packets ≤ new.spare_got.packets + page_places k.count 1
  pub words_room : mid.spare_got.words ≤ new.spare_got.words + page_words k.count 1
  pub machine : new.state.machine ≡ mid.state.machine
  pub list_sent : new.state.sent ≡ mid.state.sent
  pub list_got : new.state.got ≡ mid.state.got
  pub past : new.state.past ≡ mid.state.past
  pub spare_sent : new.spare_sent ≡ mid.spare_sent
  pub same_seat : same mid.seat new.seat

module _ {S : Type 0} (told : S → Option Told) (tale : S → Tale) (same : S → S → Type 0) (again : (s : S) → same s s) (k : Kept) (mid new : Seen S) (p : List ℕ) (got : List (List ℕ)) (list : mid.state.got ≡ got ++ p ∷ []) where
  -- nothing was done
  stays : (ws : List ℕ) → TakenPages k mid.state.pages p ws → new ≡ mid → TakenWhole told same k p mid new
  stays ws pages e =
      subst (TakenWhole told same k p mid) (sym e) (record {
        words = ws;
        pages = pages;
        owners = refl;
        items = refl;
        tells = refl;
        packets_room = omega arith;
        words_room = omega arith;
        machine = refl;
        list_sent = refl;
        list_got = refl;
        past = refl;
        spare_sent = refl;
        same_seat = again mid.seat;
      })

  -- in a channel without data pages
  without : k.count ≡ 0 → mid.state.pages ≡ k → new ≡ mid → TakenWhole told same k p mid new
  without none pages e =
      stays [] (subst (λ x. TakenPages k x p []) (sym pages) (record { count = refl; sent = refl; held = λ h. h; listed = refl; clear = λ some. absurd (some none); few = omega arith; none = λ _. (refl, refl); some = λ some. absurd (some none) })) e

  -- and in one with some
  with_some : k.count ≢ 0 → k.due ≡ Clear → TookPages k mid.state.pages p → Loads S told tale same mid new → TakenWhole told same k p mid new
  with_some some clear took loads = by took.items
    where
      by : ((mid.state.pages.due ≡ k.due) × (mid.state.pages.got ≡ k.got ++ item_of p [] ∷ [])) ⊎ ((q : ℕ) × (n : ℕ) × (mid.state.pages.due ≡ DueLoads q n 0) × (mid.state.pages.got ≡ k.got)) → TakenWhole told same k p mid new
      by (inl bare) =
          stays [] (record { count = took.count; sent = took.sent; held = took.held; listed = took.listed; clear = λ _. bare.0 ∙ clear; few = omega arith; none = λ z. absurd (some z); some = λ _. bare.1 }) (loads.none (bare.0 ∙ clear))
      by (inr due) =
          let q : ℕ = due.0 in
          let n : ℕ = due.1 in
          let all = loads.all q n 0 due.2 in
          let run = all.2 in
          let same_ws = same_ran mid.state new.state (LoadWords q n 0) (told mid.seat) (told new.seat) (tale mid.seat) (tale new.seat) run.ran in
          let ws : List ℕ = last_words new.state.pages.got in
          let last = newest_more got p in
          let is : newest mid.state.got ≡ p = ap newest list ∙ last in
          record {
            words = ws;
            pages = record {
              count = same_ws.count ∙ took.count;
              sent = same_ws.sent ∙ took.sent;
              held = λ h. subst AreFew (sym same_ws.owners) (took.held h);
              listed = ap length same_ws.owners ∙ took.listed;
              clear = λ _. run.clear;
              few = omega (arith, run.long, all.1);
              none = λ z. absurd (some z);
              some = λ _. loads.items (λ c. cc (c, due.2)) ∙ (λ j. due.3 j ++ item_of (is j) ws ∷ []);
            };
            owners = same_ws.owners;
            items = same_ws.sent;
            tells = ran_tells mid.state new.state (LoadWords q n 0) (told mid.seat) (told new.seat) (tale mid.seat) (tale new.seat) run.ran;
            packets_room = omega (arith, run.room.0, places_some k.count 1 some);
            words_room = omega (arith, run.room.1, all.1, words_some k.count 1 some);
            machine = loads.kept.machine;
            list_sent = loads.kept.sent;
            list_got = loads.kept.got;
            past = loads.kept.past;
            spare_sent = loads.kept.spare_sent;
            same_seat = loads.same_seat;
          }

  pub taken_whole : IsClear k → mid.state.pages ≡ pages_took (layout k.count) k (newest mid.state.got) → (mid.state.pages.count ≢ 0 → Loads S told tale same mid new) → (mid.state.pages.count ≡ 0 → new ≡ mid) → TakenWhole told same k p mid new
  taken_whole clear pages loads none =
      let is : newest mid.state.got ≡ p = ap newest list ∙ newest_more got p in
      let took : mid.state.pages ≡ pages_took (layout k.count) k p = pages ∙ ap (pages_took (layout k.count) k) is in
      by_count k.count
      (λ z. let same_k : mid.state.pages ≡ k = took ∙ first_of (k.count == 0) k _ (is_zero k.count z) in without z same_k (none (ap (λ x. x.count) same_k ∙ z)))
      (λ some. let t : TookPages k mid.state.pages p = subst (λ x. TookPages k x p) (sym took) (took_pages k.count k p some) in with_some some (clear some) t (loads (λ z. some (sym t.count ∙ z))))

-- the words that were laid for a packet change the copy alone
pub laid_is : (k : Kept) (o : Option Loan) (ws : List ℕ) → laid_at k o ws ≡ record { count = k.count; sent = k.sent; got = k.got; owners = k.owners; copy = (laid_at k o ws).copy; due = k.due; call = k.call }
laid_is k None ws = refl
laid_is k (Some a) ws = stored_is k a.page 0 ws

pub laid_none : (k : Kept) (p : List ℕ) → laid k p [] ≡ k
laid_none k p = by (part_in k.owners p)
  where
    by : (o : Option Loan) → laid_at k o [] ≡ k
    by None = refl
    by (Some a) = refl

-- at most a page goes along with a packet
pub along_few : (k : Kept) (p : List ℕ) → AreFew k.owners → along k p ≤ page_words k.count 1
along_few k p held =
    by_count k.count (λ z. omega (arith, none_along k p z))
    (λ some.
    let s = sent_pages k.count k p some in
    omega (arith, other_of (k.count == 0) 0 (length (last_words (pages_sent (layout k.count) k p).sent)) (is_more k.count some), s.few held, words_some k.count 1 some))

-- the page words of the items, with one more
pub few_more : (is : List Item) (p ws : List ℕ) → ((i : ℕ) → length (words_at is i) ≤ 512) → length ws ≤ 512 → (i : ℕ) → length (words_at (is ++ item_of p ws ∷ []) i) ≤ 512
unfolding words_at
few_more [] p ws h le zero = le
few_more [] p ws h le (suc i) = omega arith
few_more (j ∷ is) p ws h le zero = h zero
few_more (j ∷ is) p ws h le (suc i) = few_more is p ws (λ n. h (suc n)) le i

pub no_words : (i : ℕ) → words_at [] i ≡ []
unfolding words_at
no_words i = refl

-- the page words that a list has for a packet
pub lent_at : (ps ws : List (List ℕ)) (i : ℕ) → i < length ps → slice_index_or ws i [] ≡ words_at (items_of ps ws) i
unfolding words_at
lent_at [] ws i h = absurd (omega (arith, h))
lent_at (p ∷ ps) [] i h = refl
lent_at (p ∷ ps) (w ∷ ws) zero h = refl
lent_at (p ∷ ps) (w ∷ ws) (suc i) h = lent_at ps ws i (omega (arith, h))

pub nil_by : (xs : List ℕ) → length xs ≡ 0 → xs ≡ []
nil_by [] e = refl
nil_by (x ∷ xs) e = absurd (omega (arith, e))

pub take_nil : (ws xs : List ℕ) → ws ≡ [] → take (length ws) xs ≡ ws
take_nil [] xs e = refl
take_nil (w ∷ ws) xs e = absurd (cc)
