-- The counts of an id, and what the items of a ring keep.
use Rattle.std.proofs.Common.{◌≡◌, ◌≢◌, ℕ, ◌≤◌, ◌+◌, Bool, true, false, ◌&&◌, not, eqb, List, [], ◌∷◌, ◌++◌, Some, refl, sym, ap, ◌∙◌, subst, arith, append_assoc}
use Rattle.std.proofs.lemmas.Bool.Decides.{nat_tests}
use Rattle.pkt_desc.specs.Packets.{kind_of, id_of}
use Rattle.page_kept.specs.declared.due.Due.{Due}
use Rattle.page_kept.specs.declared.due.Due.TheVariants.{Clear, Loads}
use Rattle.page_kept.specs.declared.item.Item.{Item}
use Rattle.page_kept.specs.Items.{packets}
use Rattle.page_kept.specs.Counts.{bit, count, nth, is_ask, is_done}
use Rattle.page_kept.specs.Keepers.{Keeper, taken, ended}
use Rattle.ring_loan_rule.specs.Pages.{Took_by, Flow}
use Rattle.ring_loan_rule.specs.Laws.{InTurn, Next}
use Rattle.ring_loan_rule.proofs.Counts.{packets_append, count_append, count_one, nth_here, front_same}
use Rattle.ring_loan_rule.proofs.Frame.{Onward}

-- the tests of a packet
pub ask_no_done : (t : ℕ) (p : List ℕ) → eqb (kind_of p) 11 ≡ false → is_done t p ≡ false
ask_no_done t p e = ap (λ (b : Bool). b && eqb (id_of p) t) e

pub done_no_ask : (t : ℕ) (p : List ℕ) → eqb (kind_of p) 11 ≡ true → is_ask t p ≡ false
done_no_ask t p e = ap (λ (b : Bool). not b && eqb (id_of p) t) e

pub ask_is : (p : List ℕ) → eqb (kind_of p) 11 ≡ false → is_ask (id_of p) p ≡ true
ask_is p e = grind (arith, nat_tests)

pub done_is : (p : List ℕ) → eqb (kind_of p) 11 ≡ true → is_done (id_of p) p ≡ true
done_is p e = grind (arith, nat_tests)

pub ask_id : (t : ℕ) (p : List ℕ) → is_ask t p ≡ true → id_of p ≡ t
ask_id t p h = grind (arith, nat_tests)

pub done_id : (t : ℕ) (p : List ℕ) → is_done t p ≡ true → id_of p ≡ t
done_id t p h = grind (arith, nat_tests)

pub else_ask : (t : ℕ) (p : List ℕ) → t ≢ id_of p → is_ask t p ≡ false
else_ask t p ne = grind (arith, nat_tests)

pub else_done : (t : ℕ) (p : List ℕ) → t ≢ id_of p → is_done t p ≡ false
else_done t p ne = grind (arith, nat_tests)

-- how many of the packets that were sent pass a test: of those that were got, and of the rest
sent_count : (f : List ℕ → Bool) (xs ys zs : List Item) → xs ≡ ys ++ zs → count f (packets xs) ≡ count f (packets ys) + count f (packets zs)
sent_count f xs ys zs e = cc (e, packets_append ys zs, count_append f (packets ys) (packets zs))

took_count : (f : List ℕ → Bool) (d : Due) (W : ℕ → ℕ → ℕ) (x y : Keeper) (rest : List Item) → x.sent ≡ y.got ++ rest → Took_by d W x y rest → count f y.took ≤ count f (packets x.sent)
took_count f Clear W x y rest s t = omega (arith, sent_count f x.sent y.got rest s, ap (count f) t)
took_count f (Loads q n k) W x y rest s t =
    omega (arith, sent_count f x.sent y.got rest s, ap (λ (l : List Item). count f (packets l)) t.rest_is, ap (count f) t.took, count_one f (packets y.got) t.item.packet)

pub chain : (W : ℕ → ℕ → ℕ) (x y : Keeper) → Flow W x y → Flow W y x → ((t : ℕ) → ended t y ≤ taken t y) → (t : ℕ) → InTurn t x y
chain W x y out inn owed t = record {
  done_taken = took_count (is_done t) x.due W y x inn.rest inn.front_is inn.took;
  done_sent = owed t;
  ask_taken = took_count (is_ask t) y.due W x y out.rest out.front_is out.took;
}

module _ (x y : Keeper) (i : Item) (more : List Item) (n : Next x y i more) (f : List ℕ → Bool) where
  pub next_nth : f i.packet ≡ true → nth f (count f y.took) x.sent ≡ Some i
  next_nth e = ap (nth f (count f y.took)) n.sent ∙ nth_here f y.got more i (count f y.took) e (ap (count f) n.took)

  pub next_count : count f y.took + bit (f i.packet) ≤ count f (packets x.sent)
  next_count = omega (arith, sent_count f x.sent y.got (i ∷ more) n.sent, ap (count f) n.took)

-- a packet that y takes next is that of the next item
pub next_of : (W : ℕ → ℕ → ℕ) (x y : Keeper) → Flow W x y → y.due ≡ Clear → (p : List ℕ) (more : List (List ℕ)) → packets x.sent ≡ (y.took ++ p ∷ []) ++ more
    → (i : Item) × (later : List Item) × Next x y i later × (i.packet ≡ p)
next_of W x y f d p more is = found f.rest f.front_is (cancel y.took _ _ (cc (ap packets f.front_is, packets_append y.got f.rest, took, is, append_assoc y.took (p ∷ []) more)))
  where
    took : y.took ≡ packets y.got
    took = subst (λ (e : Due). Took_by e W x y f.rest) d f.took

    cancel : (a b c : List (List ℕ)) → a ++ b ≡ a ++ c → b ≡ c
    cancel [] b c e = e
    cancel (x ∷ a) b c e = cancel a b c (cc)

    found : (rest : List Item) → x.sent ≡ y.got ++ rest → packets rest ≡ p ∷ more → (i : Item) × (later : List Item) × Next x y i later × (i.packet ≡ p)
    found [] s e = cc
    found (i ∷ later) s e = (i, later, record { sent = s; took = took }, cc)

-- what a due item sees of a step: the words of its page, and both copies of them
abbrev pub Like : (ℕ → ℕ → ℕ) → (ℕ → ℕ → ℕ) → Keeper → Keeper → Keeper → Keeper → ℕ → Type 0
Like W V x y x' y' q = (w : ℕ) → (V q w ≡ W q w) × (x'.copy q w ≡ x.copy q w) × (y'.copy q w ≡ y.copy q w)

took_kept : (d : Due) (W V : ℕ → ℕ → ℕ) (x y x' y' : Keeper) (rest more : List Item) → y'.took ≡ y.took → y'.got ≡ y.got → ((q n k : ℕ) → d ≡ Loads q n k → Like W V x y x' y' q)
    → Took_by d W x y rest → Took_by d V x' y' (rest ++ more)
took_kept Clear W V x y x' y' rest more a b like t = cc (a, b, t)
took_kept (Loads q n k) W V x y x' y' rest more a b like t =
    let s : Like W V x y x' y' q = like q n k refl in
    record {
      item = t.item;
      more = t.more ++ more;
      rest_is = ap (λ (l : List Item). l ++ more) t.rest_is;
      took = cc (a, b, t.took);
      left = t.left;
      words = t.words ∙ front_same n _ _ (λ w h. sym (s w).1);
      page = λ w h. cc ((s w).0, t.page w h, (s w).1);
      loaded = λ w h. cc ((s w).2, t.loaded w h, (s w).1);
    }

pub flow_kept : (W V : ℕ → ℕ → ℕ) (x y x' y' : Keeper) (g : Onward x x') → y'.took ≡ y.took → y'.got ≡ y.got → y'.due ≡ y.due → ((q n k : ℕ) → y.due ≡ Loads q n k → Like W V x y x' y' q) → Flow W x y
    → Flow V x' y'
flow_kept W V x y x' y' g a b d like f = record {
  rest = f.rest ++ g.items;
  front_is = cc (g.sent, f.front_is, append_assoc y.got f.rest g.items, b);
  took = subst (λ (e : Due). Took_by e V x' y' (f.rest ++ g.items)) (sym d) (took_kept y.due W V x y x' y' f.rest g.items a b like f.took);
}
