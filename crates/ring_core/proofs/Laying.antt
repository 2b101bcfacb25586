-- Page words that an end stores one after another.
use Rattle.std.proofs.Common.{◌≡◌, ◌≢◌, ℕ, zero, suc, ◌+◌, ◌*◌, ◌<◌, ◌≤◌, ◌==◌, true, false, cond, leb, ltb, take, List, [], ◌∷◌, ◌++◌, length, get_or, set, Option, Some, None, refl, sym, ap, ◌∙◌, subst, arith, length-append, length-set, append_assoc, drop}
use Rattle.std.specs.Prelude.{IfSome, slice_set}
use Rattle.std.proofs.lemmas.Bool.Decides.{nat_tests}
use Rattle.std.proofs.lemmas.List.{get_or-set_same, get_or-set_other, length-take-le, take-append-le}
use Rattle.std.proofs.Math.Seq.{take-length, take-suc}
use Rattle.page_kept.specs.declared.kept.Kept.{Kept}
use Rattle.page_kept.specs.declared.owner.Owner.{Owner}
use Rattle.page_kept.specs.declared.owner.Owner.TheVariants.{Lent, Held, Away}
use Rattle.page_kept.specs.declared.page_call.PageCall.TheVariants.{StoreWord, Off}
use Rattle.page_kept.specs.Items.{item_of, values}
use Rattle.page_kept.specs.Keepers.{CanStore, MayStore}
use Rattle.page_kept.specs.Kept.{copy_in, first_page, gives_back, is_held, lends_out, lent_words, pages_sent, with_sent}
use Rattle.page_kept.specs.Layouts.{Loan, layout}
use Rattle.page_kept.specs.Stepped.{page_stored}
use Rattle.page_table.specs.declared.loan.Loan.{Loan as Part}
use Rattle.page_table.specs.Table.{IsPart, loan_of, loans, held_part, part_in, Table}
use Rattle.pkt_desc.specs.Packets.{kind_of, id_of}
use Rattle.ring_machine.specs.declared.place.Op.TheVariants.{Store}
use Rattle.ring_machine.specs.declared.place.Place.TheVariants.{Page}
use Rattle.ring_machine.specs.declared.state.EndState.{EndState}
use Rattle.ring_machine.specs.PageCalls.{paged, with_pages, page_op, pages_fed, page_store_begun}
use Rattle.ring_machine.specs.States.{MayLend, resting_with}
use Rattle.ring_core.specs.declared.told.Told.{Told}
use Rattle.ring_core.specs.Laying.{laid_at, stored_all, memory_stored, RanStores}
use Rattle.ring_core.specs.PageRuns.{RanPages, page_run, told_paged}
use Rattle.ring_core.specs.Pages.{along, last_words, part_len, part_words, Paged, items_of, kept_of, resting_in}
use Rattle.ring_core.specs.Told.{Memory, Pair, memory_after, pair, Tale, HeardJust, answer_of, told_page}
use Rattle.ring_core.proofs.Lendable.{store_may}
use Rattle.ring_core.proofs.Paging.{by_test, first_of, last_more, none_along, other_of, part_long, values_long}
use Rattle.std.proofs.lemmas.List.Edits.{sets, sets-eq}
use Rattle.std.specs.List.{splice}
use Rattle.channel_trace.specs.declared.event.Event.{Event}
use Rattle.page_kept.specs.declared.page_call.PageCall.{PageCall}
use Rattle.ring_machine.specs.declared.machine.EndMachine.{EndMachine}
use Rattle.ring_machine.specs.declared.page_core.PageCore.{PageCore}
use Rattle.ring_machine.specs.declared.place.Op.{Op}
use Rattle.ring_core.proofs.Loading.{stored_one}

-- one word more
pub stored_more : (k : Kept) (q w n : ℕ) (xs : List ℕ) (v : ℕ) → n ≡ w + length xs → stored_all k q w (xs ++ v ∷ []) ≡ page_stored (stored_all k q w xs) q n v
stored_more k q w n [] v e = ap (λ (j : ℕ). page_stored k q j v) (omega (arith, e))
stored_more k q w n (x ∷ xs) v e = stored_more (page_stored k q w x) q (w + 1) n xs v (omega (arith, e))

memory_more : (d q w n : ℕ) (xs : List ℕ) (v : ℕ) (m : Memory) → n ≡ w + length xs → memory_stored d q w (xs ++ v ∷ []) m ≡ memory_after d (Store (Page q n) v) (memory_stored d q w xs m)
memory_more d q w n [] v m e = ap (λ (j : ℕ). memory_after d (Store (Page q j) v) m) (omega (arith, e))
memory_more d q w n (x ∷ xs) v m e = memory_more d q (w + 1) n xs v (memory_after d (Store (Page q w) x) m) (omega (arith, e))

-- the copy alone changes
pub stored_is : (k : Kept) (q w : ℕ) (xs : List ℕ) → stored_all k q w xs ≡ record { count = k.count; sent = k.sent; got = k.got; owners = k.owners; copy = (stored_all k q w xs).copy; due = k.due; call = k.call }
stored_is k q w [] = refl
stored_is k q w (x ∷ xs) = stored_is (page_stored k q w x) q (w + 1) xs

-- the stores, one by one
module _ (s t t' : EndState) (q n v : ℕ) (xs : List ℕ) (told told' told'' : Option Told) (tale tale' tale'' : Tale) where
  pub stores_more : n ≡ length xs → RanStores s t q xs told told' tale tale' → RanPages t t' (StoreWord q n v) told' told'' tale' tale'' → t' ≡ with_pages t (page_stored t.pages q n v)
      → RanStores s t' q (xs ++ v ∷ []) told told'' tale tale''
  stores_more long it r e = record {
    values = r.values ++ it.values;
    state = e ∙ (ap (λ (x : EndState). with_pages x (page_stored x.pages q n v)) it.state ∙ ap (with_pages s) (sym (stored_more s.pages q 0 n xs v (omega (arith, long)))));
    each = omega (arith, length-append r.values it.values, r.each, it.each, length-append xs (v ∷ []));
    silent = λ h. r.silent (it.silent h);
    tells = λ u h.
        let steps : (u.steps + length xs) + length r.values ≡ u.steps + length (xs ++ v ∷ []) = omega (arith, r.each, length-append xs (v ∷ [])) in
        r.tells (told_paged (length xs) t u) (it.tells u h) ∙ ap (λ (j : ℕ). Some (record { state = t'; steps = j; raised = u.raised; woke = u.woke })) steps;
    runs = λ m h.
        let old : Memory = memory_stored s.machine.cells q 0 xs m in
        let go = r.runs old (it.runs m h) in
        let one : page_run 1 (pair (paged t (StoreWord q n v)) old) ≡ pair t' go.0 = ap (λ (j : ℕ). page_run j (pair (paged t (StoreWord q n v)) old)) (sym r.each) ∙ go.2 in
        let is : memory_after t.machine.cells (Store (Page q n) v) old ≡ go.0 = ap (λ (x : Pair). x.memory) one in
        go.1
        ∙ ap Some (sym is ∙ (ap (λ (x : EndState). memory_after x.machine.cells (Store (Page q n) v) old) it.state ∙ sym (memory_more s.machine.cells q 0 n xs v m (omega (arith, long)))));
    hears = λ vs h. r.hears (it.values ++ vs) (it.hears vs h) ∙ ap Some (sym (append_assoc r.values it.values vs));
  }

-- what the seat tells is where the stores are
pub stores_told : (s t : EndState) (q : ℕ) (xs : List ℕ) (told told' : Option Told) (tale tale' : Tale) → RanStores s t q xs told told' tale tale' → (u : Told) → told' ≡ Some u → u.state ≡ t
stores_told s t q xs None told' tale tale' it u e = absurd (let z : None ≡ Some u = sym (it.silent refl) ∙ e in cc)
stores_told s t q xs (Some a) told' tale tale' it u e =
    let same : told_paged (length xs) t a ≡ u = (let z : Some (told_paged (length xs) t a) ≡ Some u = sym (it.tells a refl) ∙ e in cc) in
    ap (λ (x : Told). x.state) (sym same)

same_loan : (a b : Loan) → Some a ≡ Some b → a ≡ b
same_loan a b e = cc

-- a packet that is sent takes the words of its part along
back_into : (k : Kept) (p : List ℕ) (at : Option ℕ) (o : Option Part) → loans o ≡ held_part k.owners at → gives_back k p at ≡ with_sent k p (part_words k.copy o) (gives_back k p at).owners
back_into k p None None e = refl
back_into k p None (Some a) e = absurd (cc)
back_into k p (Some q) None e = absurd (cc)
back_into k p (Some q) (Some a) e =
    let same : loan_of a ≡ record { page = q; words = lent_words (get_or k.owners q Away) } = same_loan _ _ e in
    ap (λ (l : Loan). with_sent k p (values l.words (copy_in k l.page)) (set k.owners q Away)) (sym same)

ask_into : (k : Kept) (p : List ℕ) (at : Option Loan) (o : Option Part) → loans o ≡ at → lends_out k p at ≡ with_sent k p (part_words k.copy o) (lends_out k p at).owners
ask_into k p None None e = refl
ask_into k p None (Some a) e = absurd (cc)
ask_into k p (Some l) None e = absurd (cc)
ask_into k p (Some l) (Some a) e =
    let same : loan_of a ≡ l = same_loan _ _ e in
    ap (λ (x : Loan). with_sent k p (values x.words (copy_in k x.page)) (set k.owners l.page (Lent (id_of p) l.words))) (sym same)

no_test : (n : ℕ) → n ≢ 0 → (n == 0) ≡ false
no_test n h = grind (arith, nat_tests, h)

pub sent_into : (k : Kept) (p : List ℕ) (o : Option Part) → length k.owners ≡ k.count → k.count ≢ 0 → loans o ≡ part_in k.owners p
    → pages_sent (layout k.count) k p ≡ with_sent k p (part_words k.copy o) (pages_sent (layout k.count) k p).owners
sent_into k p o long some e =
    let back : Kept = gives_back k p (first_page (is_held (id_of p)) 0 k.owners) in
    let ask : Kept = lends_out k p ((layout k.count).lends p) in
    let is : pages_sent (layout k.count) k p ≡ cond (kind_of p == 11) back ask = other_of (k.count == 0) k _ (no_test k.count some) in
    by_test (kind_of p == 11)
    (λ t. subst (λ (j : Kept). j ≡ with_sent k p (part_words k.copy o) j.owners) (sym (is ∙ first_of (kind_of p == 11) back ask t))
    (back_into k p (first_page (is_held (id_of p)) 0 k.owners) o (e ∙ first_of (kind_of p == 11) _ _ t)))
    (λ f. subst (λ (j : Kept). j ≡ with_sent k p (part_words k.copy o) j.owners) (sym (is ∙ other_of (kind_of p == 11) back ask f))
    (ask_into k p ((layout k.count).lends p) o (e ∙ (other_of (kind_of p == 11) _ _ f ∙ ap (λ (c : ℕ). (layout c).lends p) long))))

sent_words : (k : Kept) (p : List ℕ) (o : Option Part) → length k.owners ≡ k.count → k.count ≢ 0 → loans o ≡ part_in k.owners p → last_words (pages_sent (layout k.count) k p).sent ≡ part_words k.copy o
sent_words k p o long some e = ap (λ (j : Kept). last_words j.sent) (sent_into k p o long some e) ∙ last_more k.sent (item_of p (part_words k.copy o))

pub along_part : (k : Kept) (p : List ℕ) (o : Option Part) → length k.owners ≡ k.count → k.count ≢ 0 → loans o ≡ part_in k.owners p → along k p ≡ part_len o
along_part k p o long some e = other_of (k.count == 0) 0 _ (no_test k.count some) ∙ (ap length (sent_words k p o long some e) ∙ part_long k.copy o)

pub along_any : (k : Kept) (p : List ℕ) (o : Option Part) → length k.owners ≡ k.count → loans o ≡ part_in k.owners p → IfSome o (λ a. IsPart k.owners a) → along k p ≡ part_len o
along_any k p o long e is =
    by_test (k.count == 0)
    (λ t. let none : k.count ≡ 0 = grind (arith, nat_tests, t) in none_along k p none ∙ sym (empty o none is))
    (λ f. along_part k p o long (λ z. (let y : true ≡ false = sym (let w : (k.count == 0) ≡ true = grind (arith, nat_tests, z) in w) ∙ f in cc)) e)
  where
    empty : (o : Option Part) → k.count ≡ 0 → IfSome o (λ a. IsPart k.owners a) → part_len o ≡ 0
    empty None z is = refl
    empty (Some a) z is = absurd (omega (arith, long, z, is.0))

-- each word of the part that goes along with a packet that may be sent may be stored
pub may_lay : (s : EndState) (p : List ℕ) (a : Part) (w : ℕ) → length s.pages.owners ≡ s.pages.count → MayLend s p → loans (Some a) ≡ part_in s.pages.owners p → IsPart s.pages.owners a
    → (kind_of p ≡ 11 → get_or s.pages.owners a.page Away ≡ Held (id_of p) a.words) → w < a.words → MayStore (layout s.pages.count) s.machine.side s.pages a.page w
may_lay s p a w long may part is held less =
    let some : s.pages.count ≢ 0 = λ z. omega (arith, z, long, is.0) in
    let m = may some in
    by_test (kind_of p == 11)
    (λ t. let kind : kind_of p ≡ 11 = grind (arith, nat_tests, t) in
    store_may s.machine.side s.pages a.page w long m.clear is.0 (omega (arith, less, is.2)) (subst (λ (o : Owner). CanStore o w) (sym (held kind)) less))
    (λ f.
    let named : (layout s.pages.count).lends p ≡ Some (loan_of a) = ap (λ (c : ℕ). (layout c).lends p) (sym long) ∙ sym (part ∙ other_of (kind_of p == 11) _ _ f) in
    record { clear = m.clear; page = omega (arith, long, is.0); word = omega (arith, less, is.2); owns = subst (λ (o : Owner). CanStore o w) (sym (m.has (loan_of a) f named)) tt })

-- a page word that was stored, and another one
copy_here : (k : Kept) (q m v : ℕ) → m < 512 → 512 * q + m < length k.copy → copy_in (page_stored k q m v) q m ≡ v
copy_here k q m v small inside = first_of (ltb m 512) _ _ (let z : ltb m 512 ≡ true = grind (arith, nat_tests, small) in z) ∙ get_or-set_same k.copy (512 * q + m) v 0 inside

copy_else : (k : Kept) (q m v w : ℕ) → w < m → copy_in (page_stored k q m v) q w ≡ copy_in k q w
copy_else k q m v w h = ap (λ (n : ℕ). cond (ltb w 512) n 0) (get_or-set_other k.copy (512 * q + m) (512 * q + w) v 0 (λ e. omega (arith, e, h)))

copy_long : (k : Kept) (q w : ℕ) (xs : List ℕ) → length (stored_all k q w xs).copy ≡ length k.copy
copy_long k q w [] = refl
copy_long k q w (x ∷ xs) = copy_long (page_stored k q w x) q (w + 1) xs ∙ length-set k.copy (512 * q + w) x

front_same : (n : ℕ) (f g : ℕ → ℕ) → ((w : ℕ) → w < n → f w ≡ g w) → values n f ≡ values n g
front_same zero f g same = refl
front_same (suc n) f g same = (λ j. front_same n f g (λ w h. same w (omega (arith, h))) j ++ same n (omega arith) j ∷ [])

-- the words that were stored stand first
stored_front : (k : Kept) (q : ℕ) (xs : List ℕ) → length xs ≤ 512 → 512 * q + 512 ≤ length k.copy → (m : ℕ) → m ≤ length xs → values m (copy_in (stored_all k q 0 (take m xs)) q) ≡ take m xs
stored_front k q xs few inside zero h = refl
stored_front k q xs few inside (suc m) h =
    let v : ℕ = get_or xs m 0 in
    let one : take (suc m) xs ≡ take m xs ++ v ∷ [] = take-suc xs m 0 (omega (arith, h)) in
    let long : m ≡ length (take m xs) = sym (length-take-le m xs (omega (arith, h))) in
    let before : Kept = stored_all k q 0 (take m xs) in
    let is : stored_all k q 0 (take (suc m) xs) ≡ page_stored before q m v = ap (stored_all k q 0) one ∙ stored_more k q 0 m (take m xs) v (omega (arith, long)) in
    let size = copy_long k q 0 (take m xs) in
    let first : values m (copy_in (page_stored before q m v) q) ≡ take m xs =
    front_same m _ _ (λ w less. copy_else before q m v w less) ∙ stored_front k q xs few inside m (omega (arith, h)) in
    let last : copy_in (page_stored before q m v) q m ≡ v = copy_here before q m v (omega (arith, h, few)) (omega (arith, h, few, inside, size)) in
    ap (λ (j : Kept). values (suc m) (copy_in j q)) is ∙ ((λ i. first i ++ last i ∷ []) ∙ sym one)

stored_words : (k : Kept) (q : ℕ) (xs : List ℕ) → length xs ≤ 512 → 512 * q + 512 ≤ length k.copy → values (length xs) (copy_in (stored_all k q 0 xs) q) ≡ xs
stored_words k q xs few inside =
    ap (λ (l : List ℕ). values (length xs) (copy_in (stored_all k q 0 l) q)) (sym (take-length xs)) ∙ (stored_front k q xs few inside (length xs) (omega arith) ∙ take-length xs)

take_values : (n m : ℕ) (f : ℕ → ℕ) → m ≤ n → take m (values n f) ≡ values m f
take_values zero zero f h = refl
take_values zero (suc m) f h = absurd (omega (arith, h))
take_values (suc n) m f h =
    by_test (leb m n)
    (λ t. let le : m ≤ n = grind (arith, nat_tests, t) in
    take-append-le m (values n f) (f n ∷ []) (let z = values_long n f in omega (arith, z, le)) ∙ take_values n m f le)
    (λ t. let all : m ≡ suc n = (let z : n < m = grind (arith, nat_tests, t) in omega (arith, z, h)) in
    let long = values_long (suc n) f in
    ap (λ (j : ℕ). take j (values (suc n) f)) (all ∙ sym long) ∙ (take-length (values (suc n) f) ∙ ap (λ (j : ℕ). values j f) (sym all)))

-- the copy alone changes by what is laid
pub laid_is : (k : Kept) (at : Option Loan) (words : List ℕ) → laid_at k at words ≡ record { count = k.count; sent = k.sent; got = k.got; owners = k.owners; copy = (laid_at k at words).copy; due = k.due; call = k.call }
laid_is k None words = refl
laid_is k (Some a) words = stored_is k a.page 0 words

pub no_words : (xs : List ℕ) → length xs ≤ 0 → xs ≡ []
no_words [] h = refl
no_words (x ∷ xs) h = absurd (omega (arith, h))

-- An end, and the words that it lays for a packet: the packet may be sent as before, as many words go along, and these stand first
module _ (s : EndState) (p words : List ℕ) (o : Option Part) (long : length s.pages.owners ≡ s.pages.count) (part : loans o ≡ part_in s.pages.owners p) (is : IfSome o (λ a. IsPart s.pages.owners a))
    (copied : length s.pages.copy ≡ 512 * length s.pages.owners) (fits : length words ≤ along s.pages p) where
  pub lends_on : MayLend s p → MayLend (with_pages s (laid_at s.pages (loans o) words)) p
  lends_on may = subst (λ (k : Kept). MayLend (with_pages s k) p) (sym (laid_is s.pages (loans o) words)) (λ some. (let m = may some in record { clear = m.clear; has = m.has; settled = m.settled; answers = m.answers }))

  pub along_on : along (laid_at s.pages (loans o) words) p ≡ along s.pages p
  along_on =
      ap (λ (k : Kept). along k p) (laid_is s.pages (loans o) words)
      ∙ (along_any (record { count = s.pages.count; sent = s.pages.sent; got = s.pages.got; owners = s.pages.owners; copy = (laid_at s.pages (loans o) words).copy; due = s.pages.due; call = s.pages.call }) p o long part is
      ∙ sym (along_any s.pages p o long part is))

  words_at : (o : Option Part) → IfSome o (λ a. IsPart s.pages.owners a) → length words ≤ part_len o → take (length words) (part_words (laid_at s.pages (loans o) words).copy o) ≡ words
  words_at None is few = ap (λ (xs : List ℕ). take (length xs) []) (no_words words few) ∙ sym (no_words words few)
  words_at (Some a) is few =
      take_values a.words (length words) _ few ∙ stored_words s.pages a.page words (omega (arith, few, is.2)) (omega (arith, copied, is.0))

  pub words_on : (laid_at s.pages (loans o) words).count ≢ 0 → take (length words) (last_words (pages_sent (layout (laid_at s.pages (loans o) words).count) (laid_at s.pages (loans o) words) p).sent) ≡ words
  words_on some =
      let k : Kept = record { count = s.pages.count; sent = s.pages.sent; got = s.pages.got; owners = s.pages.owners; copy = (laid_at s.pages (loans o) words).copy; due = s.pages.due; call = s.pages.call } in
      ap (λ (j : Kept). take (length words) (last_words (pages_sent (layout j.count) j p).sent)) (laid_is s.pages (loans o) words)
      ∙ (ap (take (length words)) (sent_words k p o long (λ e. some (ap (λ (j : Kept). j.count) (laid_is s.pages (loans o) words) ∙ e)) part)
      ∙ words_at o is (let e = along_any s.pages p o long part is in omega (arith, e, fits)))

-- the copy after these stores: one part of it is other words
sets_copy : (k : Kept) (q w i : ℕ) (xs : List ℕ) → i ≡ 512 * q + w → (stored_all k q w xs).copy ≡ sets k.copy i xs
sets_copy k q w i [] e = refl
sets_copy k q w i (x ∷ xs) e = sets_copy (page_stored k q w x) q (w + 1) (suc i) xs (omega (arith, e)) ∙ ap (λ (j : ℕ). sets (set k.copy j x) (suc i) xs) (sym e)

pub stored_copy : (k : Kept) (q : ℕ) (xs : List ℕ) → 512 * q + length xs ≤ length k.copy → (stored_all k q 0 xs).copy ≡ splice k.copy (512 * q) (512 * q + length xs) xs
stored_copy k q xs h = sets_copy k q 0 (512 * q) xs (omega arith) ∙ (sets-eq xs k.copy (512 * q) h ∙ append_assoc (take (512 * q) k.copy) xs (drop (512 * q + length xs) k.copy))

pub fed_same : (k : PageCore) (q w v : ℕ) → k.call ≡ Off → pages_fed (page_store_begun k q w v) ≡ k
fed_same k q w v off = ap (λ (c : PageCall). record { count = k.count; call = c; due = k.due }) (sym off)

module _ (m : EndMachine) (k : PageCore) (sent got : Paged) (past : List (Event (List ℕ))) (t : Table) (q : ℕ) where
  -- the pages of the end, once these words are stored
  abbrev pub stored_in : List ℕ → Table
  stored_in ws = record t { copy = (stored_all (kept_of k sent got t) q 0 ws).copy }

  pub kept_stored : (ws : List ℕ) → kept_of k sent got (stored_in ws) ≡ stored_all (kept_of k sent got t) q 0 ws
  kept_stored ws = sym (stored_is (kept_of k sent got t) q 0 ws)

  -- one word more is stored
  pub some_more : (ws : List ℕ) (n x v : ℕ) (told told' told'' : Option Told) (tale tale' tale'' : Tale) → n ≡ length ws → k.call ≡ Off
      → RanStores (resting_in m k sent got past t) (resting_in m k sent got past (stored_in ws)) q ws told told' tale tale'
      → (told' ≡ None → told'' ≡ None)
      → ((u : Told) → told' ≡ Some u → told'' ≡ Some (told_page u (StoreWord q n x) v))
      → ((y : Memory) (op : Op) → tale'.memory ≡ Some y → page_op (StoreWord q n x) ≡ Some op → (tale''.memory ≡ Some (memory_after m.cells op y)) × (v ≡ answer_of m.cells op y))
      → HeardJust tale' tale'' (v ∷ []) → RanStores (resting_in m k sent got past t) (resting_in m k sent got past (stored_in (ws ++ x ∷ []))) q (ws ++ x ∷ []) told told'' tale tale''
  some_more ws n x v told told' told'' tale tale' tale'' long off it quiet tells runs hears =
      let now = resting_in m k sent got past (stored_in ws) in
      let new = resting_in m k sent got past (stored_in (ws ++ x ∷ [])) in
      let copy : (stored_in (ws ++ x ∷ [])).copy ≡ slice_set (stored_in ws).copy (512 * q + n) x = ap (λ (j : Kept). j.copy) (stored_more (kept_of k sent got t) q 0 n ws x (omega (arith, long))) in
      let one = stored_one m k sent got past (stored_in ws) q 0 n x v told' told'' tale' tale'' (stored_in (ws ++ x ∷ [])) m k sent got past (stores_told _ _ _ _ _ _ _ _ it) quiet tells runs hears refl refl refl refl (sym (fed_same k q n x off)) refl copy in
      let state : new ≡ with_pages now (page_stored now.pages q n x) =
      (λ i. resting_with m sent.list got.list past (record { count = k.count; sent = items_of sent.list sent.lent; got = items_of got.list got.lent; owners = t.owners; copy = copy i; due = k.due; call = k.call })) in
      stores_more _ now new q n x ws _ _ _ _ _ _ long it one state
