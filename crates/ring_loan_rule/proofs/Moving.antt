-- A move of an end keeps the rule, if each page is where it may be afterwards, and each item that it sent is as it should be.
use Rattle.std.proofs.Common.{◌≡◌, ◌⊎◌, ℕ, ◌≤◌, [], Some, None, refl, sym, ◌∙◌, arith, inl, inr, ⊎_elim}
use Rattle.io_edge.specs.declared.side.Side.{Side}
use Rattle.page_kept.specs.declared.due.Due.TheVariants.{Loads}
use Rattle.page_kept.specs.declared.item.Item.{Item}
use Rattle.page_kept.specs.declared.owner.Owner.TheVariants.{Has, Lent, Held}
use Rattle.page_kept.specs.Layouts.{other_end, Loan, Layout}
use Rattle.page_kept.specs.Counts.{nth, is_ask, is_done}
use Rattle.page_kept.specs.Keepers.{Keeper, taken, ended, back}
use Rattle.ring_loan_rule.specs.Pages.{Flow, IsLent, IsOut, IsThere, IsOpen, Brings, PagesOwned}
use Rattle.ring_loan_rule.proofs.Frame.{At, Onward, stays, took_more, Near, alike, page_kept}
use Rattle.ring_loan_rule.proofs.Flows.{Like, flow_kept}

-- what the rule asks of an item that is sent: as a request, and as a completion
pub record AskOk (l : Layout) (s : Side) (x : Keeper) (t k : ℕ) (i : Item) : Type 0 where
  pub opens : (a : Loan) → l.lends i.packet ≡ Some a → IsOpen l s x t k a
  pub bare : l.lends i.packet ≡ None → i.words ≡ []

abbrev pub DoneOk : Layout → Side → Keeper → ℕ → ℕ → Item → Type 0
DoneOk l s x t k i = (i.words ≡ []) ⊎ Brings l s x t k

-- x becomes z, and the words of the pages V, which were W
pub record Moved (l : Layout) (s : Side) (W V : ℕ → ℕ → ℕ) (x y z : Keeper) : Type 0 where
  pub on : Onward x z
  pub like : (q n k : ℕ) → y.due ≡ Loads q n k → Like W V x y z y q
  pub inn : Flow V y z
  pub mine : (q : ℕ) → l.home q ≡ s → At l V z y q
  pub theirs : (q : ℕ) → l.home q ≡ other_end s → At l V y z q
  pub lent : (q t n : ℕ) → l.home q ≡ s → x.owner q ≡ Lent t n → back t z ≡ back t x → z.owner q ≡ Lent t n
  pub asks : (t k : ℕ) (i : Item) → nth (is_ask t) k z.sent ≡ Some i → (nth (is_ask t) k x.sent ≡ Some i) ⊎ AskOk l s z t k i
  pub dones : (t k : ℕ) (i : Item) → nth (is_done t) k z.sent ≡ Some i → (nth (is_done t) k x.sent ≡ Some i) ⊎ DoneOk l (other_end s) y t k i
  pub due_mine : (q n k : ℕ) → z.due ≡ Loads q n k → l.home q ≡ s → z.owner q ≡ Has
  pub due_theirs : (q n k : ℕ) → z.due ≡ Loads q n k → l.home q ≡ other_end s → (t : ℕ) × (z.owner q ≡ Held t n)
  pub owed : (t : ℕ) → ended t z ≤ taken t z

module _ (l : Layout) (s : Side) (W V : ℕ → ℕ → ℕ) (x y z : Keeper) (o : PagesOwned l s W x y) where
  -- a page of x that the move doesn't change, and one of its peer
  module _ (q : ℕ) (words : (w : ℕ) → V q w ≡ W q w) (on : Onward x z) (near : Near x z q) where
    pub mine_kept : l.home q ≡ s → ((t n : ℕ) → IsLent l x q t n → back t z ≡ back t x) → At l V z y q
    mine_kept h lent = page_kept l W V x y z y q words on (stays y) near (alike y q) (record { lent = lent; out = λ t n p. refl; there = λ t n p. refl }) (o.mine.page q h)

    pub theirs_kept : l.home q ≡ other_end s → ((t n : ℕ) → IsOut l W y x q t n → taken t z ≡ taken t x) → ((t n : ℕ) → IsThere l W y x q t n → ended t z ≡ ended t x) → At l V y z q
    theirs_kept h out there = page_kept l W V y x y z q words (stays y) on (alike y q) near (record { lent = λ t n p. refl; out = out; there = there }) (o.theirs.page q h)

  pub moved : Moved l s W V x y z → PagesOwned l s V z y
  moved m = record {
    out = flow_kept W V x y z y m.on refl refl refl m.like o.out;
    inn = m.inn;
    mine = record {
      page = m.mine;
      opens = λ t k i a h la b. ⊎_elim (λ old. let r = o.mine.opens t k i a old la (before t k b) in let same = settled t k b r.oldest in record { oldest = r.oldest ∙ sym same; mine = m.lent a.page t a.words r.home r.mine same; home = r.home })
          (λ new. new.opens a la)
          (m.asks t k i h);
      bare = λ t k i h la. ⊎_elim (λ old. o.mine.bare t k i old la) (λ new. new.bare la) (m.asks t k i h);
      brings = λ t k i h b. ⊎_elim inl (λ r. let same = settled t k b r.next in inr (record { next = r.next ∙ sym same; page = r.page; words = r.words; mine = m.lent r.page t r.words r.home r.mine same; home = r.home })) (o.mine.brings t k i h (before t k b));
      due_mine = m.due_mine;
      due_theirs = o.mine.due_theirs;
    };
    theirs = record {
      page = m.theirs;
      opens = o.theirs.opens;
      bare = o.theirs.bare;
      brings = λ t k i h b. ⊎_elim (λ old. o.theirs.brings t k i old b) (λ new. new) (m.dones t k i h);
      due_mine = o.theirs.due_mine;
      due_theirs = m.due_theirs;
    };
    owed = m.owed;
    peer_owed = o.peer_owed;
  }
    where
      before : (t k : ℕ) → back t z ≤ k → back t x ≤ k
      before t k b = omega (arith, b, took_more (is_done t) x z m.on)

      settled : (t k : ℕ) → back t z ≤ k → k ≡ back t x → back t z ≡ back t x
      settled t k b e = omega (arith, b, e, took_more (is_done t) x z m.on)
