-- What one end that has nothing to load knows of its peer's requests by itself.
use Rattle.std.proofs.Common.{◌≡◌, ℕ, zero, suc, ◌<◌, ◌≤◌, [], ◌∷◌, length, length-append, Some, refl, ap, ◌∙◌, subst, arith, ⊎_elim}
use Rattle.io_edge.specs.declared.side.Side.{Side}
use Rattle.page_kept.specs.declared.due.Due.{Due}
use Rattle.page_kept.specs.declared.due.Due.TheVariants.{Clear}
use Rattle.page_kept.specs.declared.item.Item.{Item}
use Rattle.page_kept.specs.declared.owner.Owner.TheVariants.{Held}
use Rattle.page_kept.specs.Items.{packets, values}
use Rattle.page_kept.specs.Layouts.{other_end, Loan, Layout}
use Rattle.page_kept.specs.Counts.{count, nth, is_ask}
use Rattle.page_kept.specs.Keepers.{Keeper, taken, ended}
use Rattle.ring_loan_rule.specs.Pages.{Took_by, IsLent, IsOpen, PagesOwned}
use Rattle.ring_loan_rule.specs.Laws.{HoldsOpen}
use Rattle.ring_loan_rule.proofs.Counts.{nth_more, nth_below}
use Rattle.ring_loan_rule.proofs.Frame.{by_mine, by_lent, there_of, one_lent}
use Rattle.ring_loan_rule.proofs.Flows.{chain}
use Rattle.ring_loan_rule.proofs.Words.{side_of}

values_length : (n : ℕ) (f : ℕ → ℕ) → length (values n f) ≡ n
values_length zero f = refl
values_length (suc n) f = omega (arith, length-append (values n f) (f n ∷ []), values_length n f)

module _ (l : Layout) (s : Side) (W : ℕ → ℕ → ℕ) (x y : Keeper) (o : PagesOwned l s W x y) (clear : y.due ≡ Clear) where
  -- a request that was got was sent, and in its turn
  was_sent : (t k : ℕ) (i : Item) → nth (is_ask t) k y.got ≡ Some i → nth (is_ask t) k x.sent ≡ Some i
  was_sent t k i e = ap (nth (is_ask t) k) o.out.front_is ∙ nth_more (is_ask t) y.got o.out.rest k i e

  was_taken : (t k : ℕ) (i : Item) → nth (is_ask t) k y.got ≡ Some i → k < taken t y
  was_taken t k i e =
      let took_is : y.took ≡ packets y.got = subst (λ (d : Due). Took_by d W x y o.out.rest) clear o.out.took in
      omega (arith, nth_below (is_ask t) y.got k i e, ap (count (is_ask t)) took_is)

  page_of : (t k : ℕ) (i : Item) (a : Loan) → nth (is_ask t) k y.got ≡ Some i → ended t y ≤ k → IsOpen l s x t k a → (y.owner a.page ≡ Held t a.words) × (length i.words ≡ a.words)
  page_of t k i a got open_yet op =
      by_lent l W x y a.page t a.words op.mine (o.mine.page a.page op.home) (λ p. absurd (omega (arith, was_taken t k i got, p.untaken, op.oldest)))
      (λ p. let same : p.lent.item ≡ i = cc (p.lent.item_is, was_sent t k i got, op.oldest) in (p.theirs, cc (same, p.lent.words, values_length a.words (x.copy a.page))))
      (λ p. absurd (omega (arith, p.was_ended, op.oldest, open_yet)))

  held_lent : (q t n : ℕ) → y.owner q ≡ Held t n → IsLent l x q t n
  held_lent q t n e =
      ⊎_elim (λ (h : l.home q ≡ s). (there_of l W x y q t n (o.mine.page q h) e).lent)
      (λ (h : l.home q ≡ other_end s). by_mine l W y x q (o.theirs.page q h) (λ p. cc (e, p.mine)) (λ u m p. cc (e, p.mine))) (side_of (l.home q) s)

  pub holds_open : HoldsOpen l y
  holds_open = record {
    held = λ t k i a got lends open_yet. page_of t k i a got open_yet (o.mine.opens t k i a (was_sent t k i got) lends (omega (arith, (chain W x y o.out o.inn o.peer_owed t).done_taken, open_yet)));
    bare = λ t k i got none. o.mine.bare t k i (was_sent t k i got) none;
    one = λ t q r m n a b. one_lent l x q r t m n (held_lent q t m a) (held_lent r t n b);
  }
