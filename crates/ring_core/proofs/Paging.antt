-- Items, and what a send and a take make of the pages.
use Rattle.std.proofs.Common.{◌≡◌, ℕ, zero, suc, ◌<◌, ◌==◌, Bool, true, false, cond, List, [], ◌∷◌, ◌++◌, length, Option, Some, None, refl, sym, ap, ◌∙◌, arith, length-append, ◌-◌, ◌≤◌}
use Rattle.std.specs.Prelude.{slice_get, slice_index_or}
use Rattle.std.proofs.lemmas.Bool.Decides.{nat_tests}
use Rattle.page_kept.specs.declared.item.Item.{Item}
use Rattle.page_kept.specs.Items.{item_of, values}
use Rattle.page_kept.specs.Kept.{pages_sent, pages_took, with_sent}
use Rattle.page_kept.specs.Layouts.{layout}
use Rattle.page_kept.specs.declared.due.Due.{Due}
use Rattle.page_kept.specs.declared.due.Due.TheVariants.{Loads}
use Rattle.page_kept.specs.declared.kept.Kept.{Kept}
use Rattle.page_kept.specs.declared.owner.Owner.{Owner}
use Rattle.page_table.specs.declared.loan.Loan.{Loan as Part}
use Rattle.page_table.specs.Table.{sent_by, word_of}
use Rattle.ring_machine.specs.declared.page_core.PageCore.{PageCore}
use Rattle.ring_machine.specs.declared.machine.Stage.{Stage}
use Rattle.ring_machine.specs.PageCalls.{PagesFit, is_call_of, load_of, newest}
use Rattle.ring_machine.proofs.Fitting.{inside_load}
use Rattle.ring_core.specs.Pages.{items_of, last_words, along, part_words, part_len}

-- one packet more, with its page words
pub items_more : (ps ws : List (List ℕ)) (p w : List ℕ) → length ps ≡ length ws → items_of (ps ++ p ∷ []) (ws ++ w ∷ []) ≡ items_of ps ws ++ item_of p w ∷ []
items_more [] [] p w e = refl
items_more [] (v ∷ vs) p w e = absurd (omega (arith, e))
items_more (q ∷ ps) [] p w e = absurd (omega (arith, e))
items_more (q ∷ ps) (v ∷ vs) p w e = ap (λ (is : List Item). item_of q v ∷ is) (items_more ps vs p w (omega (arith, e)))

-- one packet more, whose page words come later
pub items_wait : (ps ws qs : List (List ℕ)) → length ps ≡ length ws → items_of (ps ++ qs) ws ≡ items_of ps ws
items_wait [] [] [] e = refl
items_wait [] [] (q ∷ qs) e = refl
items_wait [] (v ∷ vs) qs e = absurd (omega (arith, e))
items_wait (q ∷ ps) [] qs e = absurd (omega (arith, e))
items_wait (q ∷ ps) (v ∷ vs) qs e = ap (λ (is : List Item). item_of q v ∷ is) (items_wait ps vs qs (omega (arith, e)))

pub items_none : (ps : List (List ℕ)) → items_of ps [] ≡ []
items_none [] = refl
items_none (p ∷ ps) = refl

pub last_more : (is : List Item) (i : Item) → last_words (is ++ i ∷ []) ≡ i.words
last_more [] i = refl
last_more (j ∷ []) i = refl
last_more (j ∷ k ∷ is) i = last_more (k ∷ is) i

pub values_long : (n : ℕ) (f : ℕ → ℕ) → length (values n f) ≡ n
values_long zero f = refl
values_long (suc n) f = omega (arith, values_long n f, length-append (values n f) (f n ∷ []))

pub part_long : (copy : List ℕ) (o : Option Part) → length (part_words copy o) ≡ part_len o
part_long copy None = refl
part_long copy (Some a) = values_long a.words (word_of copy a.page)

pub sent_is : (k : Kept) (p : List ℕ) (os : List Owner) (o : Option Part) → sent_by k p os o ≡ with_sent k p (part_words k.copy o) os
sent_is k p os None = refl
sent_is k p os (Some a) = refl

pub first_of : {A : Type 0} (b : Bool) (x y : A) → b ≡ true → cond b x y ≡ x
first_of true x y h = refl
first_of false x y h = absurd (cc)

pub other_of : {A : Type 0} (b : Bool) (x y : A) → b ≡ false → cond b x y ≡ y
other_of true x y h = absurd (cc)
other_of false x y h = refl

pub by_test : {P : Type 0} (b : Bool) → (b ≡ true → P) → (b ≡ false → P) → P
by_test true t f = t refl
by_test false t f = f refl

is_none : (n : ℕ) → n ≡ 0 → (n == 0) ≡ true
is_none n e = grind (arith, nat_tests, e)

-- a channel without pages keeps none, and nothing goes along
pub none_sent : (j : Kept) (p : List ℕ) → j.count ≡ 0 → pages_sent (layout j.count) j p ≡ j
none_sent j p e = first_of (j.count == 0) j _ (is_none j.count e)

pub none_took : (j : Kept) (p : List ℕ) → j.count ≡ 0 → pages_took (layout j.count) j p ≡ j
none_took j p e = first_of (j.count == 0) j _ (is_none j.count e)

pub none_along : (j : Kept) (p : List ℕ) → j.count ≡ 0 → along j p ≡ 0
none_along j p e = first_of (j.count == 0) 0 _ (is_none j.count e)

pub newest_tail : (q r : List ℕ) (ps : List (List ℕ)) → newest (q ∷ r ∷ ps) ≡ newest (r ∷ ps)
newest_tail q r ps =
    let two : suc (suc (length ps)) - 1 ≡ suc (length ps) = omega arith in
    let one : suc (length ps) - 1 ≡ length ps = omega arith in
    ap (λ (i : ℕ). slice_index_or (q ∷ r ∷ ps) i []) two ∙ sym (ap (λ (i : ℕ). slice_index_or (r ∷ ps) i []) one)

pub newest_more : (ps : List (List ℕ)) (p : List ℕ) → newest (ps ++ p ∷ []) ≡ p
newest_more [] p = refl
newest_more (q ∷ []) p = refl
newest_more (q ∷ r ∷ ps) p = newest_tail q r (ps ++ p ∷ []) ∙ newest_more (r ∷ ps) p

-- what is due is in the channel
pub due_inside : (k : PageCore) (st : Stage) (q n : ℕ) → PagesFit k st → k.due ≡ Loads q n 0 → (q < k.count) × (0 < n) × (n ≤ 512)
due_inside k st q n f due = inside_load k.count q n 0 (ap (λ (d : Due). is_call_of k.count (load_of d)) (sym due) ∙ f.due)

-- the words that stand last are those of the last item
pub last_kept : (ps ws : List (List ℕ)) (w : List ℕ) → length ws ≤ length ps → slice_get ws (length ws - 1) ≡ Some w → last_words (items_of ps ws) ≡ w
last_kept ps [] w le e = absurd (cc)
last_kept [] (v ∷ vs) w le e = absurd (omega (arith, le))
last_kept (p ∷ ps) (v ∷ []) w le e = by_rest ps
  where
    same : v ≡ w
    same = cc

    by_rest : (qs : List (List ℕ)) → last_words (items_of (p ∷ qs) (v ∷ [])) ≡ w
    by_rest [] = same
    by_rest (q ∷ qs) = same
last_kept (p ∷ []) (v ∷ u ∷ vs) w le e = absurd (omega (arith, le))
last_kept (p ∷ q ∷ ps) (v ∷ u ∷ vs) w le e =
    let two : suc (suc (length vs)) - 1 ≡ suc (length vs) = omega arith in
    let one : suc (length vs) - 1 ≡ length vs = omega arith in
    let earlier : slice_get (u ∷ vs) (length vs) ≡ Some w = ap (λ (i : ℕ). slice_get (v ∷ u ∷ vs) i) (sym two) ∙ e in
    last_kept (q ∷ ps) (u ∷ vs) w (omega (arith, le)) (ap (λ (i : ℕ). slice_get (u ∷ vs) i) one ∙ earlier)

-- there are as many items as both lists have
pub items_long : (ps ws : List (List ℕ)) → length ws ≤ length ps → length (items_of ps ws) ≡ length ws
items_long [] [] le = refl
items_long [] (w ∷ ws) le = absurd (omega (arith, le))
items_long (p ∷ ps) [] le = refl
items_long (p ∷ ps) (w ∷ ws) le = ap suc (items_long ps ws (omega (arith, le)))
