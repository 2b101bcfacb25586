-- What an end's table and its lists tell of what a store, and a send, ask.
use Rattle.std.proofs.Common.{◌≡◌, ◌≢◌, ℕ, ◌<◌, ◌≤◌, ◌==◌, Bool, true, false, cond, List, [], ◌∷◌, length, get_or, set, Option, Some, None, refl, sym, ap, ◌∙◌, subst, arith}
use Rattle.std.proofs.lemmas.Bool.Decides.{nat_tests}
use Rattle.std.proofs.lemmas.List.{get_or_default}
use Rattle.std.specs.Prelude.{IsTrue, ◌↔◌, slice_index_or}
use Rattle.io_edge.specs.declared.side.Side.{Side}
use Rattle.page_kept.proofs.Loans.{fits}
use Rattle.page_kept.specs.Counts.{count, is_done, is_ask}
use Rattle.page_kept.specs.Items.{item_of, packets, values}
use Rattle.page_kept.specs.Keepers.{CanStore, MayStore}
use Rattle.page_kept.specs.Kept.{owner_in, lent_words, first_page, is_held, copy_in, with_sent, gives_back, lends_out, pages_sent}
use Rattle.page_kept.specs.Layouts.{Loan, layout}
use Rattle.page_kept.specs.declared.due.Due.TheVariants.{Clear}
use Rattle.page_kept.specs.declared.kept.Kept.{Kept}
use Rattle.page_kept.specs.declared.owner.Owner.{Owner}
use Rattle.page_kept.specs.declared.owner.Owner.TheVariants.{Away, Has, Held, Lent}
use Rattle.page_table.specs.Table.{Fits, named_in}
use Rattle.pkt_desc.specs.Packets.{kind_of, id_of}
use Rattle.ring_machine.specs.States.{MayLend}
use Rattle.ring_machine.specs.declared.state.EndState.{EndState}
use Rattle.ring_machine.proofs.Sound.{at_cond}
use Rattle.ring_core.specs.Lending.{Answers, Asks}
use Rattle.ring_core.specs.Pages.{items_of, along, last_words}
use Rattle.ring_core.proofs.Paging.{by_test, first_of, other_of, last_more, values_long}
use Rattle.page_table.specs.Ids.{AreCounted, Counts, balance_of}

owner_is : (x : Side) (k : Kept) (q : ℕ) → q < length k.owners → owner_in (layout k.count) x k q ≡ get_or k.owners q Away
owner_is x k q h = get_or_default k.owners q _ Away h

pub store_may : (x : Side) (k : Kept) (q w : ℕ) → length k.owners ≡ k.count → k.due ≡ Clear → q < length k.owners → w < 512 → CanStore (get_or k.owners q Away) w → MayStore (layout k.count) x k q w
store_may x k q w long clear a b can = record { clear = clear; page = omega (arith, a, long); word = b; owns = subst (λ (o : Owner). CanStore o w) (sym (owner_is x k q a)) can }

pub packets_of : (ps ws : List (List ℕ)) → length ps ≡ length ws → packets (items_of ps ws) ≡ ps
packets_of [] ws e = refl
packets_of (p ∷ ps) [] e = absurd (omega (arith, e))
packets_of (p ∷ ps) (w ∷ ws) e = ap (λ (qs : List (List ℕ)). p ∷ qs) (packets_of ps ws (omega (arith, e)))

apart : (b : Bool) → b ≡ true → b ≡ false → ⊥
apart b t f = cc

-- an end of a channel with pages whose lists are these
module _ (s : EndState) (p : List ℕ) (long : length s.pages.owners ≡ s.pages.count) (sent : packets s.pages.sent ≡ s.sent) where
  named : (layout s.pages.count).lends p ≡ named_in s.pages.owners p
  named = ap (λ (c : ℕ). (layout c).lends p) (sym long)

  inside : (a : Loan) → named_in s.pages.owners p ≡ Some a → a.page < length s.pages.owners
  inside a e = (fits (length s.pages.owners) p a e).0

  pub lend_answer : s.pages.due ≡ Clear → (kind_of p == 11) ≡ true → Answers s.sent s.got p → MayLend s p
  lend_answer clear kind h = λ some. record {
    clear = clear;
    has = λ a k. absurd (apart (kind_of p == 11) kind k);
    settled = λ a k. absurd (apart (kind_of p == 11) kind k);
    answers = λ k. subst (λ (ps : List (List ℕ)). count (is_done (id_of p)) ps < count (is_ask (id_of p)) s.got) (sym sent) h;
  }

  pub lend_ask : s.pages.due ≡ Clear → (kind_of p == 11) ≡ false → Asks s.pages.owners s.sent s.got p → MayLend s p
  lend_ask clear kind asks = λ some. record {
    clear = clear;
    has = λ a k e. owner_is s.machine.side s.pages a.page (inside a (sym named ∙ e)) ∙ (asks a (sym named ∙ e)).0;
    settled = λ a k e. subst (λ (ps : List (List ℕ)). count (is_ask (id_of p)) ps ≤ count (is_done (id_of p)) s.got) (sym sent) (asks a (sym named ∙ e)).1;
    answers = λ k. absurd (apart (kind_of p == 11) k kind);
  }

  pub answer_lend : s.pages.count ≢ 0 → (kind_of p == 11) ≡ true → MayLend s p → Answers s.sent s.got p
  answer_lend some kind m = subst (λ (ps : List (List ℕ)). count (is_done (id_of p)) ps < count (is_ask (id_of p)) s.got) sent ((m some).answers kind)

  pub ask_lend : s.pages.count ≢ 0 → (kind_of p == 11) ≡ false → MayLend s p → Asks s.pages.owners s.sent s.got p
  ask_lend some kind m = λ a e. (
    sym (owner_is s.machine.side s.pages a.page (inside a e)) ∙ (m some).has a kind (named ∙ e),
    subst (λ (ps : List (List ℕ)). count (is_ask (id_of p)) ps ≤ count (is_done (id_of p)) s.got) sent ((m some).settled a kind (named ∙ e)),
  )

  same : (kind_of p == 11) ≡ true → kind_of p ≡ 11
  same e = grind (arith, nat_tests, e)

  differ : (kind_of p == 11) ≡ false → kind_of p ≢ 11
  differ e = grind (arith, nat_tests, e)

  -- the guard's answer is whether the packet may be sent
  module _ (r : Bool) (answers : kind_of p ≡ 11 → (IsTrue r ↔ Answers s.sent s.got p)) (asks : kind_of p ≢ 11 → (IsTrue r ↔ Asks s.pages.owners s.sent s.got p)) where
    pub guard_may : s.pages.due ≡ Clear → IsTrue r → MayLend s p
    guard_may clear t = by_test (kind_of p == 11) (λ e. lend_answer clear e ((answers (same e)).0 t)) (λ e. lend_ask clear e ((asks (differ e)).0 t))

    pub guard_whole : s.pages.count ≢ 0 → MayLend s p → IsTrue r
    guard_whole some m = by_test (kind_of p == 11) (λ e. (answers (same e)).1 (answer_lend some e m)) (λ e. (asks (differ e)).1 (ask_lend some e m))

-- at most 512 page words go along with a packet
lent_few : (o : Owner) → Fits o → lent_words o ≤ 512
lent_few (Lent t n) f = omega (arith, f.1)
lent_few (Held t n) f = omega (arith, f.1)
lent_few _ f = omega arith

few_by : (k : Kept) (p ws : List ℕ) (os : List Owner) → length ws ≤ 512 → length (last_words (with_sent k p ws os).sent) ≤ 512
few_by k p ws os h = let e = ap length (last_more k.sent (item_of p ws)) in omega (arith, e, h)

few_given : (k : Kept) (p : List ℕ) (o : Option ℕ) → ((q : ℕ) → Fits (get_or k.owners q Away)) → length (last_words (gives_back k p o).sent) ≤ 512
few_given k p None fit = few_by k p [] k.owners (omega arith)
few_given k p (Some q) fit =
    let n : ℕ = lent_words (get_or k.owners q Away) in
    let few : n ≤ 512 = lent_few (get_or k.owners q Away) (fit q) in
    let long : length (values n (copy_in k q)) ≡ n = values_long n (copy_in k q) in
    few_by k p (values n (copy_in k q)) (set k.owners q Away) (omega (arith, long, few))

few_lent : (k : Kept) (p : List ℕ) (o : Option Loan) → ((a : Loan) → o ≡ Some a → a.words ≤ 512) → length (last_words (lends_out k p o).sent) ≤ 512
few_lent k p None h = few_by k p [] k.owners (omega arith)
few_lent k p (Some a) h =
    let few : a.words ≤ 512 = h a refl in
    let long : length (values a.words (copy_in k a.page)) ≡ a.words = values_long a.words (copy_in k a.page) in
    few_by k p (values a.words (copy_in k a.page)) (set k.owners a.page (Lent (id_of p) a.words)) (omega (arith, long, few))

pub along_few : (k : Kept) (p : List ℕ) → ((q : ℕ) → Fits (get_or k.owners q Away)) → along k p ≤ 512
along_few k p fit =
    by_test (k.count == 0)
    (λ e. (let z : along k p ≡ 0 = first_of (k.count == 0) 0 _ e in omega (arith, z)))
    (λ e.
    let z : along k p ≡ length (last_words (pages_sent (layout k.count) k p).sent) = other_of (k.count == 0) 0 _ e in
    let y : pages_sent (layout k.count) k p ≡ cond (kind_of p == 11) (gives_back k p (first_page (is_held (id_of p)) 0 k.owners)) (lends_out k p ((layout k.count).lends p)) = other_of (k.count == 0) k _ e in
    let x : length (last_words (cond (kind_of p == 11) (gives_back k p (first_page (is_held (id_of p)) 0 k.owners)) (lends_out k p ((layout k.count).lends p))).sent) ≤ 512 =
    at_cond (λ (j : Kept). length (last_words j.sent) ≤ 512) (kind_of p == 11) (gives_back k p (first_page (is_held (id_of p)) 0 k.owners)) (lends_out k p ((layout k.count).lends p))
    (λ _. few_given k p (first_page (is_held (id_of p)) 0 k.owners) fit) (λ _. few_lent k p ((layout k.count).lends p) (λ a h. (fits k.count p a h).2)) in
    subst (λ (n : ℕ). n ≤ 512) (sym z) (subst (λ (j : Kept). length (last_words j.sent) ≤ 512) (sym y) x))

-- a packet that is to be sent
module _ (c : Counts) (xs ys : List (List ℕ)) (counted : AreCounted c xs ys) (p : List ℕ) (r : Bool) where
  pub answers_is : (IsTrue r ↔ (0 < (balance_of c.took (id_of p)).unanswered)) → (IsTrue r ↔ Answers xs ys p)
  answers_is e =
      let n = (counted.1 (id_of p)).0 in
      (λ h. (let z = e.0 h in omega (arith, z, n)), λ h. e.1 (omega (arith, h, n)))

  pub asks_is : (os : List Owner) → (IsTrue r ↔ ((a : Loan) → named_in os p ≡ Some a → (slice_index_or os a.page Away ≡ Has) × ((balance_of c.sent (id_of p)).unanswered ≡ 0))) → (IsTrue r ↔ Asks os xs ys p)
  asks_is os e =
      let n = (counted.0 (id_of p)).0 in
      (λ h. λ a is. (let z = e.0 h a is in (z.0, omega (arith, z.1, n))), λ h. e.1 (λ a is. (let z = h a is in (z.0, omega (arith, z.1, n)))))
