-- What each move of an end makes of its pages under their ids.
use Rattle.std.proofs.Common.{◌≡◌, ℕ, ◌+◌, ◌<◌, ◌≤◌, inl, Bool, true, false, eqb, ltb, List, [], ◌∷◌, ◌++◌, length, get_or, set, Option, Some, None, refl, sym, ap, ◌∙◌, subst, arith, ⊎_elim}
use Rattle.std.proofs.lemmas.Bool.Decides.{nat_tests}
use Rattle.pkt_desc.specs.Packets.{kind_of, id_of}
use Rattle.io_edge.specs.declared.side.Side.{Side}
use Rattle.io_edge.specs.declared.side.Side.TheVariants.{Guest, Host}
use Rattle.page_kept.specs.declared.due.Due.{Due}
use Rattle.page_kept.specs.declared.due.Due.TheVariants.{Clear, Loads}
use Rattle.page_kept.specs.declared.item.Item.{Item}
use Rattle.page_kept.specs.declared.kept.Kept.{Kept}
use Rattle.page_kept.specs.declared.owner.Owner.{Owner}
use Rattle.page_kept.specs.declared.owner.Owner.TheVariants.{Has, Lent, Held, Away}
use Rattle.page_kept.specs.Items.{item_of, packets, values}
use Rattle.page_kept.specs.Layouts.{Layout, Loan, layout}
use Rattle.page_kept.specs.Kept.{first_owner, copy_in, is_lent, is_held, lent_words, first_page, gives_back, lends_out, pages_sent, has_back, may_hold, holds_now, pages_took}
use Rattle.page_kept.specs.Stepped.{page_stored, page_loaded, page_loaded_at}
use Rattle.page_kept.specs.Counts.{bit, count, is_ask, is_done}
use Rattle.page_kept.specs.Keepers.{Keeper, keeper, asked, back, MaySend}
use Rattle.ring_loan_rule.specs.Moves.{set_owner, sent_item, took_item}
use Rattle.ring_loan_rule.specs.Laws.{new_keeper}
use Rattle.ring_loan_rule.proofs.Counts.{by_test, packets_append, count_one}
use Rattle.ring_loan_rule.proofs.Frame.{is_same}
use Rattle.ring_loan_rule.proofs.Flows.{done_no_ask, else_ask}
use Rattle.ring_loan_rule.proofs.Keeping.{first_none, first_at, first_free, held_under, lent_under, owners_set, get_any}
use Rattle.page_home_laws.specs.Home.{first_of, IsListed, LendsItsOwn, opened, closed, HomeKept}

-- What an end keeps, by the owners of its pages and the counts of its ids
module _ (s : Side) (c : ℕ) (is_open : ℕ → Bool) (x : Keeper) (h : HomeKept s c is_open x) where
  asked_sent : (t : ℕ) (i : Item) (f : ℕ → Owner) → asked t (sent_item i f x) ≡ asked t x + bit (is_ask t i.packet)
  asked_sent t i f = ap (count (is_ask t)) (packets_append x.sent (i ∷ [])) ∙ count_one (is_ask t) (packets x.sent) i.packet

  back_took : (t : ℕ) (p : List ℕ) (g : List Item) (f : ℕ → Owner) (d : Due) → back t (took_item p g f d x) ≡ back t x + bit (is_done t p)
  back_took t p g f d = count_one (is_done t) x.took p

  asks_bare : (p ws : List ℕ) → eqb (kind_of p) 11 ≡ false → is_open (id_of p) ≡ false → HomeKept s c (opened is_open (id_of p)) (sent_item (item_of p ws) x.owner x)
  asks_bare p ws ask free = record {
    page = λ t q a b e w. grind (arith, nat_tests, h.page t q a b e w);
    lent = λ q t n e. grind (arith, nat_tests, h.lent q t n e);
    completed = λ t a. grind (arith, nat_tests, h.completed t a, asked_sent t (item_of p ws) x.owner, ask, free);
  }

  asks_lent : (p ws : List ℕ) (a : Loan) → eqb (kind_of p) 11 ≡ false → is_open (id_of p) ≡ false → a.page + 1 ≡ first_of s + id_of p → HomeKept s c (opened is_open (id_of p)) (sent_item (item_of p ws) (set_owner a.page (Lent (id_of p) a.words) x.owner) x)
  asks_lent p ws a ask free own = record {
    page = λ t q b d e w. grind (arith, nat_tests, h.page t q b d e w, own);
    lent = λ q t n e. grind (arith, nat_tests, h.lent q t n, own);
    completed = λ t b. grind (arith, nat_tests, h.completed t b, asked_sent t (item_of p ws) (set_owner a.page (Lent (id_of p) a.words) x.owner), ask, free);
  }

  sends_bare : (p ws : List ℕ) → ((t : ℕ) → 1 ≤ t → is_ask t p ≡ false) → HomeKept s c is_open (sent_item (item_of p ws) x.owner x)
  sends_bare p ws none = record { page = h.page; lent = h.lent; completed = λ t a. omega (arith, h.completed t a, asked_sent t (item_of p ws) x.owner, ap bit (none t a)) }

  gives_page : (p ws : List ℕ) (q t n : ℕ) → ((t : ℕ) → 1 ≤ t → is_ask t p ≡ false) → x.owner q ≡ Held t n → HomeKept s c is_open (sent_item (item_of p ws) (set_owner q Away x.owner) x)
  gives_page p ws q t n none held = record {
    page = λ u r a b e w. grind (arith, nat_tests, h.page u r a b e w, held);
    lent = λ r u m e. grind (arith, nat_tests, h.lent r u m);
    completed = λ u a. omega (arith, h.completed u a, asked_sent u (item_of p ws) (set_owner q Away x.owner), ap bit (none u a));
  }

  ends_bare : (p : List ℕ) (g : List Item) (d : Due) → eqb (kind_of p) 11 ≡ true → ((q : ℕ) → is_lent (id_of p) (x.owner q) ≡ false) → HomeKept s c (closed is_open (id_of p)) (took_item p g x.owner d x)
  ends_bare p g d done none = record {
    page = λ t q a b e w. grind (arith, nat_tests, h.page t q a b e w, none q);
    lent = λ q t n e. grind (arith, nat_tests, h.lent q t n e, none q, e);
    completed = λ t a. grind (arith, nat_tests, h.completed t a, back_took t p g x.owner d, done);
  }

  ends_lent : (p : List ℕ) (g : List Item) (d : Due) (r n : ℕ) → eqb (kind_of p) 11 ≡ true → x.owner r ≡ Lent (id_of p) n → HomeKept s c (closed is_open (id_of p)) (took_item p g (set_owner r Has x.owner) d x)
  ends_lent p g d r n done mine = record {
    page = λ t q a b e w. grind (arith, nat_tests, h.page t q a b e w, h.lent r (id_of p) n mine);
    lent = λ q t m e. grind (arith, nat_tests, h.lent q t m, h.lent r (id_of p) n mine, e);
    completed = λ t a. grind (arith, nat_tests, h.completed t a, back_took t p g (set_owner r Has x.owner) d, done);
  }

  takes_bare : (p : List ℕ) (g : List Item) (d : Due) → HomeKept s c is_open (took_item p g x.owner d x)
  takes_bare p g d = record { page = h.page; lent = h.lent; completed = λ t a. omega (arith, h.completed t a, back_took t p g x.owner d) }

  holds_page : (p : List ℕ) (g : List Item) (d : Due) (q t n : ℕ) → may_hold t (x.owner q) ≡ true → HomeKept s c is_open (took_item p g (set_owner q (Held t n) x.owner) d x)
  holds_page p g d q t n may = record {
    page = λ u r a b e w. grind (arith, nat_tests, h.page u r a b e w, may);
    lent = λ r u m e. grind (arith, nat_tests, h.lent r u m);
    completed = λ u a. omega (arith, h.completed u a, back_took u p g (set_owner q (Held t n) x.owner) d);
  }

module _ (l : Layout) (s : Side) (is_open : ℕ → Bool) (took : List (List ℕ)) (k : Kept) (fit : IsListed l k) (h : HomeKept s k.count is_open (keeper l s took k)) where
  abbrev x : Keeper
  x = keeper l s took k

  -- with another list of owners
  with_owner : (P : (ℕ → Owner) → Type 0) (q : ℕ) (w : Owner) → q < length k.owners → P (set_owner q w x.owner) → P (λ (r : ℕ). get_or (set k.owners q w) r (first_owner s (l.home r)))
  with_owner P q w e = subst P (λ j r. sym (owners_set l s k.owners q w e r) j)

  within : (a : Loan) (p : List ℕ) → l.lends p ≡ Some a → a.page < length k.owners
  within a p e = omega (arith, fit.inside p a e, fit.listed)

  asked_of : (p : List ℕ) → eqb (kind_of p) 11 ≡ false → LendsItsOwn l s p → is_open (id_of p) ≡ false → (named : Option Loan) → l.lends p ≡ named → HomeKept s k.count (opened is_open (id_of p)) (keeper l s took (lends_out k p named))
  asked_of p ask its free None e = asks_bare s k.count is_open x h p [] ask free
  asked_of p ask its free (Some a) e =
      let ws = values a.words (copy_in k a.page) in
      with_owner (λ f. HomeKept s k.count (opened is_open (id_of p)) (sent_item (item_of p ws) f x)) a.page (Lent (id_of p) a.words) (within a p e) (asks_lent s k.count is_open x h p ws a ask free (its a e).2)

  pub keeps_ask : (p : List ℕ) → eqb (kind_of p) 11 ≡ false → is_open (id_of p) ≡ false → LendsItsOwn l s p → HomeKept s k.count (opened is_open (id_of p)) (keeper l s took (pages_sent l k p))
  keeps_ask p ask free its = rw (fit.pages, ask) (asked_of p ask its free (l.lends p) refl)

  pub keeps_said : (p : List ℕ) → eqb (kind_of p) 11 ≡ false → id_of p ≡ 0 → l.lends p ≡ None → HomeKept s k.count is_open (keeper l s took (pages_sent l k p))
  keeps_said p ask id bare = rw (fit.pages, ask, bare) (sends_bare s k.count is_open x h p [] (λ t some. else_ask t p (λ e. omega (arith, some, e, id))))

  gave : (p : List ℕ) → eqb (kind_of p) 11 ≡ true → (found : Option ℕ) → first_page (is_held (id_of p)) 0 k.owners ≡ found → HomeKept s k.count is_open (keeper l s took (gives_back k p found))
  gave p done None e = sends_bare s k.count is_open x h p [] (λ t some. done_no_ask t p done)
  gave p done (Some q) e =
      let at = first_at (is_held (id_of p)) q k.owners e in
      let n = lent_words (get_or k.owners q Away) in
      let ws = values n (copy_in k q) in
      with_owner (λ f. HomeKept s k.count is_open (sent_item (item_of p ws) f x)) q Away at.0
      (gives_page s k.count is_open x h p ws q (id_of p) n (λ t some. done_no_ask t p done) (get_any k.owners q _ Away at.0 ∙ held_under (id_of p) (get_or k.owners q Away) (at.1 Away)))

  pub keeps_given : (p : List ℕ) → eqb (kind_of p) 11 ≡ true → HomeKept s k.count is_open (keeper l s took (pages_sent l k p))
  keeps_given p done = rw (fit.pages, done) (gave p done (first_page (is_held (id_of p)) 0 k.owners) refl)

  brought : (p : List ℕ) → eqb (kind_of p) 11 ≡ true → (found : Option ℕ) → first_page (is_lent (id_of p)) 0 k.owners ≡ found → HomeKept s k.count (closed is_open (id_of p)) (keeper l s (took ++ p ∷ []) (has_back k p found))
  brought p done None e =
      ends_bare s k.count is_open x h p (k.got ++ item_of p [] ∷ []) k.due done (λ q. first_none (is_lent (id_of p)) 0 k.owners e q (first_owner s (l.home q)) (first_free (id_of p) s (l.home q)).1)
  brought p done (Some q) e =
      let at = first_at (is_lent (id_of p)) q k.owners e in
      let n = lent_words (get_or k.owners q Away) in
      with_owner (λ f. HomeKept s k.count (closed is_open (id_of p)) (took_item p k.got f (Loads q n 0) x)) q Has at.0
      (ends_lent s k.count is_open x h p k.got (Loads q n 0) q n done (get_any k.owners q _ Away at.0 ∙ lent_under (id_of p) (get_or k.owners q Away) (at.1 Away)))

  pub keeps_back : (p : List ℕ) → eqb (kind_of p) 11 ≡ true → HomeKept s k.count (closed is_open (id_of p)) (keeper l s (took ++ p ∷ []) (pages_took l k p))
  keeps_back p done = rw (fit.pages, done) (brought p done (first_page (is_lent (id_of p)) 0 k.owners) refl)

  held_now : (p : List ℕ) (named : Option Loan) → l.lends p ≡ named → HomeKept s k.count is_open (keeper l s (took ++ p ∷ []) (holds_now k p named))
  held_now p None e = takes_bare s k.count is_open x h p (k.got ++ item_of p [] ∷ []) k.due
  held_now p (Some a) e =
      by_test (may_hold (id_of p) (get_or k.owners a.page Has))
      (λ may. rw may (with_owner (λ f. HomeKept s k.count is_open (took_item p k.got f (Loads a.page a.words 0) x)) a.page (Held (id_of p) a.words) (within a p e)
      (holds_page s k.count is_open x h p k.got (Loads a.page a.words 0) a.page (id_of p) a.words (ap (may_hold (id_of p)) (get_any k.owners a.page _ Has (within a p e)) ∙ may))))
      (λ no. rw no (takes_bare s k.count is_open x h p (k.got ++ item_of p [] ∷ []) k.due))

  pub keeps_taken : (p : List ℕ) → eqb (kind_of p) 11 ≡ false → HomeKept s k.count is_open (keeper l s (took ++ p ∷ []) (pages_took l k p))
  keeps_taken p ask = rw (fit.pages, ask) (held_now p (l.lends p) refl)

  pub keeps_stored : (q w v : ℕ) → HomeKept s k.count is_open (keeper l s took (page_stored k q w v))
  keeps_stored q w v = record { page = h.page; lent = h.lent; completed = h.completed }

  loaded_at : (d : Due) (p : List ℕ) (v : ℕ) → HomeKept s k.count is_open (keeper l s took (page_loaded_at d k p v))
  loaded_at Clear p v = h
  loaded_at (Loads q n j) p v =
      by_test (ltb (j + 1) n) (λ e. rw e (record { page = h.page; lent = h.lent; completed = h.completed }))
      (λ e. rw e (record { page = h.page; lent = h.lent; completed = h.completed }))

  pub keeps_loaded : (p : List ℕ) (v : ℕ) → HomeKept s k.count is_open (keeper l s took (page_loaded k p v))
  keeps_loaded p v = loaded_at k.due p v

-- an end of a new channel has its pages
home_is : (s : Side) (c t q : ℕ) → 1 ≤ t → t ≤ 64 → q + 1 ≡ first_of s + t → first_owner s ((layout c).home q) ≡ Has
home_is Guest c t q a b e = grind (arith, nat_tests)
home_is Host c t q a b e = grind (arith, nat_tests)

pub new_has : (c : ℕ) (s : Side) → HomeKept s c (λ t. false) (new_keeper (layout c) s)
new_has c s = record {
  page = λ t q a b e w. inl (home_is s c t q a b e);
  lent = λ q t n e. cc (e, (first_free t s ((layout c).home q)).1, is_same t t refl);
  completed = λ t some. omega arith;
}

-- an id that isn't open may lend its page
pub may_lend : (l : Layout) (s : Side) (c : ℕ) (is_open : ℕ → Bool) (x : Keeper) (p : List ℕ) → HomeKept s c is_open x → x.due ≡ Clear → eqb (kind_of p) 11 ≡ false → is_open (id_of p) ≡ false → LendsItsOwn l s p → ((a : Loan) → l.lends p ≡ Some a → a.page < c) → MaySend l x p
may_lend l s c is_open x p h clear ask free own inside = record {
  clear = clear;
  has = λ a _ e. ⊎_elim (λ z. z) (λ z. cc (z.0, free)) (h.page (id_of p) a.page (own a e).0 (own a e).1 (own a e).2 (inside a e));
  settled = λ a _ e. omega (arith, h.completed (id_of p) (own a e).0, ap bit free);
  answers = λ done. cc (done, ask);
}
