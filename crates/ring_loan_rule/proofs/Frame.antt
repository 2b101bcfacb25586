-- What a page doesn't see of an end's step, and where a page is by what an end has to do with it.
use Rattle.std.proofs.Common.{◌≡◌, ◌≢◌, ℕ, ◌≤◌, Bool, true, false, eqb, List, ◌++◌, [], refl, sym, ap, ◌∙◌, arith}
use Rattle.std.proofs.lemmas.Bool.{eqb-true}
use Rattle.std.proofs.lemmas.Bool.Decides.{nat_tests}
use Rattle.std.proofs.lemmas.List.{append-nil}
use Rattle.page_kept.specs.declared.item.Item.{Item}
use Rattle.page_kept.specs.declared.owner.Owner.{Owner}
use Rattle.page_kept.specs.declared.owner.Owner.TheVariants.{Has, Lent, Held, Away}
use Rattle.page_kept.specs.Items.{packets}
use Rattle.page_kept.specs.Layouts.{Loan, Layout}
use Rattle.page_kept.specs.Counts.{count, is_ask, is_done}
use Rattle.page_kept.specs.Keepers.{Keeper, taken, ended, back}
use Rattle.ring_loan_rule.specs.Pages.{covers, Where, Home, Out, There, Back, IsLent, AtHome, IsOut, IsThere, IsBack, PageAt}
use Rattle.ring_loan_rule.specs.Moves.{set_owner}
use Rattle.ring_loan_rule.proofs.Counts.{by_test, packets_append, count_more, nth_more, front_same}

-- a page is another one, or not
pub by_page : {P : Type 0} (r q : ℕ) → (r ≡ q → P) → (r ≢ q → P) → P
by_page r q same other = by_test (eqb r q) (λ e. same (eqb-true r q e)) (λ e. other (λ i. grind (arith, nat_tests, e, i)))

pub is_same : (r q : ℕ) → r ≡ q → eqb r q ≡ true
is_same r q e = grind (arith, nat_tests, e)

pub is_other : (r q : ℕ) → r ≢ q → eqb r q ≡ false
is_other r q e = grind (arith, nat_tests, e)

pub owner_here : (q : ℕ) (o : Owner) (f : ℕ → Owner) → set_owner q o f q ≡ o
owner_here q o f = grind (arith, nat_tests)

pub owner_else : (q : ℕ) (o : Owner) (f : ℕ → Owner) (r : ℕ) → r ≢ q → set_owner q o f r ≡ f r
owner_else q o f r e = grind (arith, nat_tests)

-- a page with the place where it is
abbrev pub At : Layout → (ℕ → ℕ → ℕ) → Keeper → Keeper → ℕ → Type 0
At l W x y q = (at : Where) × PageAt at l W x y q

module _ (l : Layout) (W : ℕ → ℕ → ℕ) (x y : Keeper) (q : ℕ) where
  -- its home end has it or has lent it
  pub by_mine : {P : Type 0} → At l W x y q → (AtHome W x y q → P) → ((t n : ℕ) → IsLent l x q t n → P) → P
  by_mine (Home, p) a b = a p
  by_mine (Out t n, p) a b = b t n p.lent
  by_mine (There t n, p) a b = b t n p.lent
  by_mine (Back t n, p) a b = b t n p.lent

  -- its peer holds it or doesn't
  pub by_theirs : {P : Type 0} → At l W x y q → (y.owner q ≡ Away → P) → ((t n : ℕ) → IsThere l W x y q t n → P) → P
  by_theirs (Home, p) a b = a p.theirs
  by_theirs (Out t n, p) a b = a p.theirs
  by_theirs (There t n, p) a b = b t n p
  by_theirs (Back t n, p) a b = a p.theirs

  -- where a page is that its home end has lent
  pub by_lent : {P : Type 0} (t n : ℕ) → x.owner q ≡ Lent t n → At l W x y q → (IsOut l W x y q t n → P) → (IsThere l W x y q t n → P) → (IsBack l W x y q t n → P) → P
  by_lent t n e (Home, p) a b c = cc (e, p.mine)
  by_lent t n e (Out u m, p) a b c = let f : t ≡ u = cc (e, p.lent.mine) in let g : n ≡ m = cc (e, p.lent.mine) in a (rw (f, g) p)
  by_lent t n e (There u m, p) a b c = let f : t ≡ u = cc (e, p.lent.mine) in let g : n ≡ m = cc (e, p.lent.mine) in b (rw (f, g) p)
  by_lent t n e (Back u m, p) a b c = let f : t ≡ u = cc (e, p.lent.mine) in let g : n ≡ m = cc (e, p.lent.mine) in c (rw (f, g) p)

  -- a page that its home end has is at home, and one that the peer holds is there
  pub home_of : At l W x y q → x.owner q ≡ Has → AtHome W x y q
  home_of p h = by_mine p (λ a. a) (λ t n i. cc (h, i.mine))

  pub there_of : (t n : ℕ) → At l W x y q → y.owner q ≡ Held t n → IsThere l W x y q t n
  there_of t n p h = by_theirs p (λ e. cc (e, h)) (λ u m i. let f : t ≡ u = cc (h, i.theirs) in let g : n ≡ m = cc (h, i.theirs) in rw (f, g) i)

-- at most one page is lent under an id
pub one_lent : (l : Layout) (x : Keeper) (q r t n m : ℕ) → IsLent l x q t n → IsLent l x r t m → q ≡ r
one_lent l x q r t n m a b =
    let i : a.item ≡ b.item = cc (a.item_is, b.item_is) in
    let e : record { page = q; words = n } ≡ record { page = r; words = m } = cc (a.names, b.names, i) in
    ap (λ (k : Loan). k.page) e

-- what an end sends and takes in a step
pub record Onward (x x' : Keeper) : Type 0 where
  pub items : List Item
  pub sent : x'.sent ≡ x.sent ++ items
  pub packs : List (List ℕ)
  pub took : x'.took ≡ x.took ++ packs

pub stays : (x : Keeper) → Onward x x
stays x = record { items = []; sent = sym (append-nil x.sent); packs = []; took = sym (append-nil x.took) }

pub took_more : (f : List ℕ → Bool) (x x' : Keeper) → Onward x x' → count f x.took ≤ count f x'.took
took_more f x x' g = count_more f x.took g.packs x'.took g.took

sent_more : (f : List ℕ → Bool) (x x' : Keeper) → Onward x x' → count f (packets x.sent) ≤ count f (packets x'.sent)
sent_more f x x' g = count_more f (packets x.sent) (packets g.items) (packets x'.sent) (ap packets g.sent ∙ packets_append x.sent g.items)

-- what a page sees of an end's step
pub record Near (x x' : Keeper) (q : ℕ) : Type 0 where
  pub owner : x'.owner q ≡ x.owner q
  pub copy : (w : ℕ) → x'.copy q w ≡ x.copy q w
  pub due : (w : ℕ) → covers x'.due q w ≡ covers x.due q w

pub alike : (x : Keeper) (q : ℕ) → Near x x q
alike x q = record { owner = refl; copy = λ w. refl; due = λ w. refl }

-- no packet of its id moves it to another place
pub record Calm (l : Layout) (W : ℕ → ℕ → ℕ) (x y x' y' : Keeper) (q : ℕ) : Type 0 where
  pub lent : (t n : ℕ) → IsLent l x q t n → back t x' ≡ back t x
  pub out : (t n : ℕ) → IsOut l W x y q t n → taken t y' ≡ taken t y
  pub there : (t n : ℕ) → IsThere l W x y q t n → ended t y' ≡ ended t y

module _ (l : Layout) (W V : ℕ → ℕ → ℕ) (x y x' y' : Keeper) (q : ℕ) (words : (w : ℕ) → V q w ≡ W q w) (gx : Onward x x') (gy : Onward y y') (nx : Near x x' q) (ny : Near y y' q) (c : Calm l W x y x' y' q) where
  lent : (t n : ℕ) → IsLent l x q t n → IsLent l x' q t n
  lent t n i = record {
    mine = nx.owner ∙ i.mine;
    item = i.item;
    item_is = cc (c.lent t n i, gx.sent, nth_more (is_ask t) x.sent gx.items (back t x) i.item i.item_is);
    names = i.names;
    words = i.words ∙ front_same n _ _ (λ w h. sym (nx.copy w));
  }

  pub page_kept : At l W x y q → At l V x' y' q
  page_kept (Home, p) = (Home, record { mine = nx.owner ∙ p.mine; theirs = ny.owner ∙ p.theirs; words = λ w. cc (words w, p.words w, nx.due w, ny.copy w, nx.copy w) })
  page_kept (Out t n, p) = (Out t n, record { lent = lent t n p.lent; theirs = ny.owner ∙ p.theirs; untaken = cc (c.out t n p, p.untaken, c.lent t n p.lent); words = λ w. cc (words w, p.words w, nx.copy w) })
  page_kept (There t n, p) = (
    There t n,
    record {
      lent = lent t n p.lent;
      theirs = ny.owner ∙ p.theirs;
      was_taken = omega (arith, p.was_taken, c.lent t n p.lent, took_more (is_ask t) y y' gy);
      unended = cc (c.there t n p, p.unended, c.lent t n p.lent);
      inside = λ w h. cc (words w, p.inside w h, ny.due w, nx.copy w, ny.copy w);
      outside = λ w h. cc (words w, p.outside w h, nx.copy w);
    },
  )
  page_kept (Back t n, p) = (
    Back t n,
    record {
      lent = lent t n p.lent;
      theirs = ny.owner ∙ p.theirs;
      was_ended = omega (arith, p.was_ended, c.lent t n p.lent, sent_more (is_done t) y y' gy);
      item = p.item;
      item_is = cc (c.lent t n p.lent, gy.sent, nth_more (is_done t) y.sent gy.items (back t x) p.item p.item_is);
      item_words = p.item_words ∙ front_same n _ _ (λ w h. sym (ny.copy w));
      inside = λ w h. cc (words w, p.inside w h, ny.copy w);
      outside = λ w h. cc (words w, p.outside w h, nx.copy w);
    },
  )
