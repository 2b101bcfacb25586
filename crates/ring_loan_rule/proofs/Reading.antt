-- What the rule of pages says; a new channel meets it; and it is the same from either side.
use Rattle.std.proofs.Common.{◌≡◌, ℕ, ◌≤◌, leb, List, [], ◌∷◌, ◌++◌, refl, sym, ap, ◌∙◌, subst, arith, length, length-append}
use Rattle.std.proofs.lemmas.List.{append-nil}
use Rattle.io_edge.specs.declared.side.Side.{Side}
use Rattle.io_edge.specs.declared.side.Side.TheVariants.{Guest, Host}
use Rattle.page_kept.specs.declared.due.Due.{Due}
use Rattle.page_kept.specs.declared.due.Due.TheVariants.{Clear}
use Rattle.page_kept.specs.declared.item.Item.{Item}
use Rattle.page_kept.specs.declared.owner.Owner.TheVariants.{Has, Away}
use Rattle.page_kept.specs.Items.{packets}
use Rattle.page_kept.specs.Layouts.{other_end, Loan, Layout}
use Rattle.page_kept.specs.Kept.{first_owner}
use Rattle.page_kept.specs.Keepers.{Keeper, back}
use Rattle.ring_loan_rule.specs.Pages.{Took_by, Home, IsOpen, HomeOk, PagesOwned}
use Rattle.ring_loan_rule.specs.Laws.{new_keeper, Lends, Says}
use Rattle.ring_loan_rule.proofs.Counts.{by_test, packets_append}
use Rattle.ring_loan_rule.proofs.Frame.{by_lent, home_of, there_of}
use Rattle.ring_loan_rule.proofs.Flows.{chain}
use Rattle.ring_loan_rule.proofs.Keeping.{held_home, lent_home, has_home}

home_new : (l : Layout) (s t : Side) (W : ℕ → ℕ → ℕ) → ((q w : ℕ) → W q w ≡ 0) → first_owner s s ≡ Has → first_owner t s ≡ Away → HomeOk l s W (new_keeper l s) (new_keeper l t)
home_new l s t W zero_words has away = record {
  page = λ q h. (Home, record { mine = ap (first_owner s) h ∙ has; theirs = ap (first_owner t) h ∙ away; words = λ w. zero_words q w });
  opens = λ t k i a h la b. cc;
  bare = λ t k i h la. cc;
  brings = λ t k i h b. cc;
  due_mine = λ q n k e h. cc;
  due_theirs = λ q n k e h. cc;
}

pub turned : (l : Layout) (s : Side) (W : ℕ → ℕ → ℕ) (x y : Keeper) → PagesOwned l s W x y → PagesOwned l (other_end s) W y x
turned l Guest W x y o = record { out = o.inn; inn = o.out; mine = o.theirs; theirs = o.mine; owed = o.peer_owed; peer_owed = o.owed }
turned l Host W x y o = record { out = o.inn; inn = o.out; mine = o.theirs; theirs = o.mine; owed = o.peer_owed; peer_owed = o.owed }

guest_owned : (l : Layout) (W : ℕ → ℕ → ℕ) → ((q w : ℕ) → W q w ≡ 0) → PagesOwned l Guest W (new_keeper l Guest) (new_keeper l Host)
guest_owned l W z = record {
  out = record { rest = []; front_is = refl; took = refl };
  inn = record { rest = []; front_is = refl; took = refl };
  mine = home_new l Guest Host W z refl refl;
  theirs = home_new l Host Guest W z refl refl;
  owed = λ t. omega arith;
  peer_owed = λ t. omega arith;
}

pub opens_owned : (l : Layout) (s : Side) (W : ℕ → ℕ → ℕ) → ((q w : ℕ) → W q w ≡ 0) → PagesOwned l s W (new_keeper l s) (new_keeper l (other_end s))
opens_owned l Guest W z = guest_owned l W z
opens_owned l Host W z = turned l Guest W _ _ (guest_owned l W z)

-- a front with as many packets is the whole
whole : (got rest all : List Item) → all ≡ got ++ rest → packets got ≡ packets all → got ≡ all
whole got [] all e same = cc (e, append-nil got)
whole got (i ∷ rest) all e same = absurd (omega (arith, ap length (ap packets e ∙ packets_append got (i ∷ rest)), length-append (packets got) (packets (i ∷ rest)), ap length same))

module _ (l : Layout) (s : Side) (W : ℕ → ℕ → ℕ) (x y : Keeper) (o : PagesOwned l s W x y) where
  opened : (t k : ℕ) (a : Loan) → Lends l x t k a → back t x ≤ k → IsOpen l s x t k a
  opened t k a z b = o.mine.opens t k z.0 a z.1 z.2 b

  took_is : y.due ≡ Clear → y.took ≡ packets y.got
  took_is c = subst (λ (d : Due). Took_by d W x y o.out.rest) c o.out.took

  pub says : Says l s W x y
  says = record {
    counts = chain W x y o.out o.inn o.peer_owed;
    peers_counts = chain W y x o.inn o.out o.owed;
    in_turn = λ t k a z. by_test (leb (back t x) k) (λ e. let b : back t x ≤ k = grind (arith, e) in omega (arith, (opened t k a z b).oldest)) (λ e. grind (arith, e));
    open_lent = λ t k a z b. (opened t k a z b).mine;
    one_open = λ t k u j a b z c y d same.
        let p = opened t k a z c in let r = opened u j b y d in
        let id : t ≡ u = cc (p.mine, r.mine, same) in
        (id, cc (p.oldest, r.oldest, id));
    words_had = λ q e c w. let at = home_of l W x y q (o.mine.page q (has_home l s W x y o q e)) e in cc (at.words w, c);
    words_held = λ q t n e c w i. let at = there_of l W y x q t n (o.theirs.page q (held_home l s W x y o q t n e)) e in cc (at.inside w i, c);
    words_kept = λ q t n e w h. by_lent l W x y q t n e (o.mine.page q (lent_home l s W x y o q t n e)) (λ p. p.words w) (λ p. p.outside w h) (λ p. p.outside w h);
    got = λ c. record { rest = o.out.rest; front_is = o.out.front_is; all = took_is c };
    got_all = λ c all. whole y.got o.out.rest x.sent o.out.front_is (sym (took_is c) ∙ all);
  }
