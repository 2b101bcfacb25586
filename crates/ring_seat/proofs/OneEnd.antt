-- What the rule of the pages tells of one end by itself.
use Rattle.std.proofs.Common.{◌≡◌, ℕ, zero, suc, List, [], ◌∷◌, ◌++◌, get_or, sym, ap, ◌∙◌, subst, arith}
use Rattle.io_edge.specs.declared.side.Side.{Side}
use Rattle.io_edge.specs.declared.side.Side.TheVariants.{Guest, Host}
use Rattle.page_kept.specs.Counts.{count, is_done}
use Rattle.page_kept.specs.Kept.{first_owner}
use Rattle.page_kept.specs.Items.{packets}
use Rattle.page_kept.specs.Layouts.{other_end, Layout, layout}
use Rattle.page_kept.specs.declared.due.Due.TheVariants.{Clear}
use Rattle.page_kept.specs.declared.owner.Owner.{Owner}
use Rattle.page_kept.specs.declared.owner.Owner.TheVariants.{Held, Away}
use Rattle.ring_loan_rule.specs.Laws.{HoldsOpen}
use Rattle.ring_loan_rule.proofs.Holding.{holds_open}
use Rattle.ring_loan_rule.proofs.Reading.{turned}
use Rattle.page_table.specs.Table.{first_owners}
use Rattle.ring_machine.specs.declared.state.EndState.{EndState}
use Rattle.ring_core.specs.declared.told.Told.{Told}
use Rattle.ring_seat.specs.Lawful.{IsLawful, Lawfully}
use Rattle.ring_seat.specs.PageRule.{PagesPart, keeper_of}
use Rattle.ring_seat.specs.Whole.{new_paged}
use Rattle.ring_seat.proofs.Known.{Known}

-- a page that is held stands in the list, whatever the others are
held_any : (os : List Owner) (q t n : ℕ) (d : Owner) → ((d ≡ Held t n) → ⊥) → get_or os q d ≡ Held t n → (e : Owner) → get_or os q e ≡ Held t n
held_any [] q t n d never h e = absurd (never h)
held_any (o ∷ os) zero t n d never h e = h
held_any (o ∷ os) (suc q) t n d never h e = held_any os q t n d never h e

first_not : (x s : Side) (t n : ℕ) → first_owner x s ≡ Held t n → ⊥
first_not Guest Guest t n e = cc
first_not Guest Host t n e = cc
first_not Host Guest t n e = cc
first_not Host Host t n e = cc

away_not : (t n : ℕ) → Away ≡ Held t n → ⊥
away_not t n e = cc

lawful_at : (n : ℕ) (x : Side) (ws : List ℕ) (e p : EndState) → PagesPart n e.pages.count ws x e p → e.pages.due ≡ Clear → IsLawful e
lawful_at n x ws e p part clear = record {
  held = λ t k i a got lends few.
      let done : count (is_done t) (packets e.pages.sent) ≡ count (is_done t) e.sent = ap (count (is_done t)) part.mine.sent in
      let h = open_held.held t k i a got lends (omega (arith, done, few)) in
      (held_any e.pages.owners a.page t a.words (first_owner x (l.home a.page)) (first_not x (l.home a.page) t a.words) h.0 Away, h.1);
  bare = open_held.bare;
  one = λ t q r m k a b.
      open_held.one t q r m k (held_any e.pages.owners q t m Away (away_not t m) a (first_owner x (l.home q))) (held_any e.pages.owners r t k Away (away_not t k) b (first_owner x (l.home r)));
}
  where
    l : Layout
    l = layout e.pages.count

    open_held : HoldsOpen (layout e.pages.count) (keeper_of e.pages.count x e)
    open_held = holds_open (layout e.pages.count) (other_end x) _ _ _ (turned (layout e.pages.count) x _ _ _ part.owned) clear

pub lawful_of : (n c : ℕ) (x : Side) (ws : List ℕ) (u p : Told) → Known n c x ws u p → Lawfully u.state
lawful_of n c x ws u p k = λ some clear.
    lawful_at n x ws u.state p.state (subst (λ (d : ℕ). PagesPart n d ws x u.state p.state) (sym k.count) (k.pages (λ e. some (k.count ∙ e)))) clear

-- a new end holds nothing
none_held : (x : Side) (c q t n : ℕ) → get_or (first_owners x c) q Away ≡ Held t n → ⊥
none_held x zero q t n e = away_not t n e
none_held x (suc c) q t n e = last (first_owners x c) q (none_held x c) e
  where
    last : (os : List Owner) (q : ℕ) → ((r t n : ℕ) → get_or os r Away ≡ Held t n → ⊥) → get_or (os ++ first_owner x ((layout 0).home c) ∷ []) q Away ≡ Held t n → ⊥
    last [] zero none h = first_not x ((layout 0).home c) t n h
    last [] (suc r) none h = away_not t n h
    last (o ∷ os) zero none h = none 0 t n h
    last (o ∷ os) (suc r) none h = last os r (λ j. none (suc j)) h

pub new_lawful : (n c : ℕ) (x : Side) → Lawfully (new_paged n c x)
new_lawful n c x = λ some clear. record {
  held = λ t k i a got lends few. absurd (cc);
  bare = λ t k i got lends. absurd (cc);
  one = λ t q r m k a b. absurd (none_held x c q t m a);
}
