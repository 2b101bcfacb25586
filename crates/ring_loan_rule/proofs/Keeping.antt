-- A send and a take of an end with data pages, as its state has them, keep the rule of pages.
use Rattle.std.proofs.Common.{◌≡◌, ℕ, zero, suc, ◌+◌, ◌<◌, Bool, true, false, eqb, List, [], ◌∷◌, ◌++◌, length, get_or, set, Option, Some, None, refl, sym, ap, ◌∙◌, subst, arith, ⊎_elim}
use Rattle.std.proofs.lemmas.Bool.{eqb-true}
use Rattle.std.proofs.lemmas.Bool.Decides.{nat_tests}
use Rattle.std.proofs.lemmas.List.{get_or-set_same, get_or-set_other}
use Rattle.pkt_desc.specs.Packets.{kind_of, id_of}
use Rattle.io_edge.specs.declared.side.Side.{Side}
use Rattle.io_edge.specs.declared.side.Side.TheVariants.{Guest, Host}
use Rattle.page_kept.specs.declared.due.Due.TheVariants.{Clear, Loads}
use Rattle.page_kept.specs.declared.item.Item.{Item}
use Rattle.page_kept.specs.declared.kept.Kept.{Kept}
use Rattle.page_kept.specs.declared.owner.Owner.{Owner}
use Rattle.page_kept.specs.declared.owner.Owner.TheVariants.{Has, Lent, Held, Away}
use Rattle.page_kept.specs.Items.{values, item_of}
use Rattle.page_kept.specs.Layouts.{other_end, Loan, Layout}
use Rattle.page_kept.specs.Kept.{first_owner, copy_in, is_lent, is_held, lent_words, first_page, gives_back, lends_out, pages_sent, has_back, holds_now, pages_took}
use Rattle.page_kept.specs.Keepers.{Keeper, keeper, MaySend}
use Rattle.ring_loan_rule.specs.Pages.{PagesOwned}
use Rattle.ring_loan_rule.specs.Moves.{set_owner, sent_item, took_item}
use Rattle.ring_loan_rule.specs.Laws.{Next, Lawful}
use Rattle.ring_loan_rule.proofs.Counts.{by_test, yes_is, no_is}
use Rattle.ring_loan_rule.proofs.Frame.{is_same, by_mine, by_theirs}
use Rattle.ring_loan_rule.proofs.Sends.{send_ask, send_done, send_lent, send_back}
use Rattle.ring_loan_rule.proofs.Takes.{take_ask, take_done, is_out, take_lent, take_back}
use Rattle.ring_loan_rule.proofs.Words.{side_of}

-- the first page that passes
pub first_none : (f : Owner → Bool) (q : ℕ) (os : List Owner) → first_page f q os ≡ None → (j : ℕ) (d : Owner) → f d ≡ false → f (get_or os j d) ≡ false
first_none f q [] e j d h = h
first_none f q (o ∷ os) e zero d h = by_test (f o) (λ t. cc (e, yes_is (f o) (Some q) (first_page f (suc q) os) t)) (λ t. t)
first_none f q (o ∷ os) e (suc j) d h = by_test (f o) (λ t. cc (e, yes_is (f o) (Some q) (first_page f (suc q) os) t)) (λ t. first_none f (suc q) os (sym (no_is (f o) _ _ t) ∙ e) j d h)

pub record IsFirst (f : Owner → Bool) (q : ℕ) (os : List Owner) (r : ℕ) : Type 0 where
  pub place : ℕ
  pub is : r ≡ q + place
  pub within : place < length os
  pub passes : (d : Owner) → f (get_or os place d) ≡ true

pub first_some : (f : Owner → Bool) (q : ℕ) (os : List Owner) (r : ℕ) → first_page f q os ≡ Some r → IsFirst f q os r
first_some f q [] r e = cc
first_some f q (o ∷ os) r e =
    by_test (f o)
    (λ t. let same : q ≡ r = cc (e, yes_is (f o) (Some q) (first_page f (suc q) os) t) in record { place = 0; is = omega (arith, same); within = omega arith; passes = λ d. t })
    (λ t. let i = first_some f (suc q) os r (sym (no_is (f o) _ _ t) ∙ e) in record { place = suc i.place; is = omega (arith, i.is); within = omega (arith, i.within); passes = λ d. i.passes d })

pub first_at : (f : Owner → Bool) (q : ℕ) (os : List Owner) → first_page f 0 os ≡ Some q → (q < length os) × ((d : Owner) → f (get_or os q d) ≡ true)
first_at f q os e = let i = first_some f 0 os q e in let same : q ≡ i.place = omega (arith, i.is) in rw same (i.within, i.passes)

pub held_under : (t : ℕ) (o : Owner) → is_held t o ≡ true → o ≡ Held t (lent_words o)
held_under t (Held u n) e = ap (λ (k : ℕ). Held k n) (eqb-true u t e)
held_under t _ e = cc

pub lent_under : (t : ℕ) (o : Owner) → is_lent t o ≡ true → o ≡ Lent t (lent_words o)
lent_under t (Lent u n) e = ap (λ (k : ℕ). Lent k n) (eqb-true u t e)
lent_under t _ e = cc

pub first_free : (t : ℕ) (x s : Side) → (is_held t (first_owner x s) ≡ false) × (is_lent t (first_owner x s) ≡ false)
first_free t Guest Guest = (refl, refl)
first_free t Guest Host = (refl, refl)
first_free t Host Guest = (refl, refl)
first_free t Host Host = (refl, refl)

-- another owner at a place of the list
pub owners_set : (l : Layout) (x : Side) (os : List Owner) (q : ℕ) (o : Owner) → q < length os → (r : ℕ) → get_or (set os q o) r (first_owner x (l.home r)) ≡ set_owner q o (λ (u : ℕ). get_or os u (first_owner x (l.home u))) r
owners_set l x os q o h r = grind (arith, nat_tests, get_or-set_same, get_or-set_other)

pub get_any : (os : List Owner) (i : ℕ) (a b : Owner) → i < length os → get_or os i a ≡ get_or os i b
get_any [] i a b h = absurd (omega (arith, h))
get_any (o ∷ os) zero a b h = refl
get_any (o ∷ os) (suc i) a b h = get_any os i a b (omega (arith, h))

module _ (l : Layout) (s : Side) (W : ℕ → ℕ → ℕ) (x y : Keeper) (o : PagesOwned l s W x y) where
  -- a page that x holds has its home at the peer, and one that it has or has lent at x
  pub held_home : (q t n : ℕ) → x.owner q ≡ Held t n → l.home q ≡ other_end s
  held_home q t n e = ⊎_elim (λ (h : l.home q ≡ s). by_mine l W x y q (o.mine.page q h) (λ p. cc (e, p.mine)) (λ u m p. cc (e, p.mine))) (λ h. h) (side_of (l.home q) s)

  pub lent_home : (q t n : ℕ) → x.owner q ≡ Lent t n → l.home q ≡ s
  lent_home q t n e = ⊎_elim (λ h. h) (λ (h : l.home q ≡ other_end s). by_theirs l W y x q (o.theirs.page q h) (λ a. cc (e, a)) (λ u m p. cc (e, p.theirs))) (side_of (l.home q) s)

  pub has_home : (q : ℕ) → x.owner q ≡ Has → l.home q ≡ s
  has_home q e = ⊎_elim (λ h. h) (λ (h : l.home q ≡ other_end s). by_theirs l W y x q (o.theirs.page q h) (λ a. cc (e, a)) (λ u m p. cc (e, p.theirs))) (side_of (l.home q) s)

  -- some words of a lent page are lent
  lent_positive : ((q : List ℕ) (a : Loan) → l.lends q ≡ Some a → 0 < a.words) → (q t n : ℕ) → x.owner q ≡ Lent t n → 0 < n
  lent_positive some q t n e =
      by_mine l W x y q (o.mine.page q (lent_home q t n e)) (λ p. cc (e, p.mine))
      (λ u m p. let same : n ≡ m = cc (e, p.mine) in rw same (some p.item.packet record { page = q; words = m } p.names))

module _ (l : Layout) (s : Side) (W : ℕ → ℕ → ℕ) (took : List (List ℕ)) (k : Kept) (y : Keeper) (fit : Lawful l k) (o : PagesOwned l s W (keeper l s took k) y) where
  abbrev x : Keeper
  x = keeper l s took k

  abbrev Owned : Keeper → Type 0
  Owned z = PagesOwned l s W z y

  -- with another list of owners
  owners_are : (q : ℕ) (w : Owner) → q < length k.owners → (λ (r : ℕ). get_or (set k.owners q w) r (first_owner s (l.home r))) ≡ set_owner q w x.owner
  owners_are q w h = (λ j r. owners_set l s k.owners q w h r j)

  within : (p : List ℕ) (a : Loan) → l.lends p ≡ Some a → a.page < length k.owners
  within p a e = omega (arith, (fit.inside p a e).0, fit.listed)

  gave : (p : List ℕ) → MaySend l x p → eqb (kind_of p) 11 ≡ true → (found : Option ℕ) → first_page (is_held (id_of p)) 0 k.owners ≡ found → Owned (keeper l s took (gives_back k p found))
  gave p may done None e =
      send_done l s W x y o may.clear p done (may.answers done)
      (λ q n h. cc (h, is_same (id_of p) (id_of p) refl, first_none (is_held (id_of p)) 0 k.owners e q (first_owner s (l.home q)) (first_free (id_of p) s (l.home q)).0))
  gave p may done (Some q) e =
      let at = first_at (is_held (id_of p)) q k.owners e in
      let n : ℕ = lent_words (get_or k.owners q Away) in
      let held : x.owner q ≡ Held (id_of p) n = get_any k.owners q _ Away at.0 ∙ held_under (id_of p) (get_or k.owners q Away) (at.1 Away) in
      subst (λ (f : ℕ → Owner). Owned (sent_item (item_of p (values n (copy_in k q))) f x)) (sym (owners_are q Away at.0))
      (send_back l s W x y o may.clear p q n done (held_home l s W x y o q (id_of p) n held) held)

  lent : (p : List ℕ) → MaySend l x p → eqb (kind_of p) 11 ≡ false → (named : Option Loan) → l.lends p ≡ named → Owned (keeper l s took (lends_out k p named))
  lent p may ask None e = send_ask l s W x y o may.clear p ask e
  lent p may ask (Some a) e =
      subst (λ (f : ℕ → Owner). Owned (sent_item (item_of p (values a.words (copy_in k a.page))) f x)) (sym (owners_are a.page (Lent (id_of p) a.words) (within p a e)))
      (send_lent l s W x y o may.clear p a ask e (has_home l s W x y o a.page (may.has a ask e)) (may.has a ask e) (may.settled a ask e))

  -- the store of the write index
  pub keeps_sent : (p : List ℕ) → MaySend l x p → Owned (keeper l s took (pages_sent l k p))
  keeps_sent p may =
      by_test (eqb (kind_of p) 11) (λ e. rw (fit.pages, e) (gave p may e (first_page (is_held (id_of p)) 0 k.owners) refl))
      (λ e. rw (fit.pages, e) (lent p may e (l.lends p) refl))

  -- the last load of a take
  module _ (clear : k.due ≡ Clear) (i : Item) (more : List Item) (nx : Next y x i more) where
    abbrev p : List ℕ
    p = i.packet

    abbrev took' : List (List ℕ)
    took' = took ++ p ∷ []

    brought : eqb (kind_of p) 11 ≡ true → (found : Option ℕ) → first_page (is_lent (id_of p)) 0 k.owners ≡ found → Owned (keeper l s took' (has_back k p found))
    brought done None e =
        take_done l s W x y o clear i more nx done
        (λ q n h. cc (h, is_same (id_of p) (id_of p) refl, first_none (is_lent (id_of p)) 0 k.owners e q (first_owner s (l.home q)) (first_free (id_of p) s (l.home q)).1))
    brought done (Some q) e =
        let at = first_at (is_lent (id_of p)) q k.owners e in
        let n : ℕ = lent_words (get_or k.owners q Away) in
        let lent_q : x.owner q ≡ Lent (id_of p) n = get_any k.owners q _ Away at.0 ∙ lent_under (id_of p) (get_or k.owners q Away) (at.1 Away) in
        subst (λ (f : ℕ → Owner). Owned (took_item p k.got f (Loads q n 0) x)) (sym (owners_are q Has at.0))
        (take_back l s W x y o clear i more nx done q n (lent_home l s W x y o q (id_of p) n lent_q) lent_q (lent_positive l s W x y o (λ q a e. (fit.inside q a e).1) q (id_of p) n lent_q))

    lent_now : eqb (kind_of p) 11 ≡ false → (named : Option Loan) → l.lends p ≡ named → Owned (keeper l s took' (holds_now k p named))
    lent_now ask None e = take_ask l s W x y o clear i more nx ask e
    lent_now ask (Some a) e =
        let some : 0 < a.words = (fit.inside p a e).1 in
        let away : get_or k.owners a.page Has ≡ Away = get_any k.owners a.page _ _ (within p a e) ∙ (is_out l s W x y o clear i more nx ask a e some).theirs in
        rw away (subst (λ (f : ℕ → Owner). Owned (took_item p k.got f (Loads a.page a.words 0) x)) (sym (owners_are a.page (Held (id_of p) a.words) (within p a e))) (take_lent l s W x y o clear i more nx ask a e some))

    pub keeps_took : Owned (keeper l s took' (pages_took l k p))
    keeps_took = by_test (eqb (kind_of p) 11) (λ e. rw (fit.pages, e) (brought e (first_page (is_lent (id_of p)) 0 k.owners) refl)) (λ e. rw (fit.pages, e) (lent_now e (l.lends p) refl))
