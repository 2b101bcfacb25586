-- The lists of an end that keeps its packets, as the calls of the lean end that it holds go.
use Rattle.std.proofs.Common.{◌≡◌, ◌≢◌, ℕ, zero, suc, ◌+◌, ◌<◌, ◌≤◌, ◌==◌, not, Bool, true, false, cond, is_ok, get_or, List, [], ◌∷◌, ◌++◌, length, Option, Some, None, Result, Ok, Err, refl, sym, ap, ◌∙◌, subst, arith, length-append}
use Rattle.std.proofs.lemmas.Bool.Decides.{nat_tests}
use Rattle.page_kept.specs.declared.due.Due.{Due}
use Rattle.page_kept.specs.declared.due.Due.TheVariants.{Clear, Loads}
use Rattle.page_kept.specs.declared.item.Item.{Item}
use Rattle.page_kept.specs.declared.kept.Kept.{Kept}
use Rattle.page_kept.specs.declared.owner.Owner.{Owner}
use Rattle.page_kept.specs.declared.owner.Owner.TheVariants.{Has}
use Rattle.page_kept.specs.Items.{item_of, packets}
use Rattle.page_kept.specs.Kept.{first_page, has_back, holds_now, is_lent, may_hold, pages_sent, pages_took, with_due, with_took}
use Rattle.page_kept.specs.Layouts.{Loan, layout}
use Rattle.page_table.specs.declared.loan.Loan.{Loan as Part}
use Rattle.page_table.specs.Table.{loans, part_in}
use Rattle.pkt_desc.specs.Packets.{kind_of, id_of}
use Rattle.ring_machine.specs.declared.last.SendRefusal.{SendRefusal}
use Rattle.ring_machine.specs.declared.last.Signalled.{Signalled}
use Rattle.ring_machine.specs.declared.last.TakeRefusal.{TakeRefusal}
use Rattle.ring_machine.specs.Endings.{refused, send_answer}
use Rattle.ring_machine.specs.declared.machine.EndMachine.{EndMachine}
use Rattle.ring_machine.specs.declared.machine.Ending.{Ending}
use Rattle.ring_machine.specs.PageCalls.{newest}
use Rattle.ring_machine.specs.Steps.{is_sent}
use Rattle.ring_machine.specs.declared.state.EndState.{EndState}
use Rattle.ring_machine.specs.States.{resting_with}
use Rattle.io_edge.specs.declared.side.Side.{Side}
use Rattle.ring_machine.specs.declared.machine.Ending.TheVariants.{Fresh}
use Rattle.ring_machine.proofs.Sound.{at_cond}
use Rattle.ring_core.specs.Driven.{Lean, got_by_answer, pages_by_send, pages_by_take, sent_by_answer}
use Rattle.ring_core.specs.Keeping.{IsList, Keeps}
use Rattle.ring_core.specs.Pages.{first_kept, items_of, owed, part_words}
use Rattle.ring_core.specs.Seen.{Listed}
use Rattle.ring_core.proofs.Laying.{sent_into}
use Rattle.ring_core.proofs.Lendable.{packets_of}
use Rattle.ring_core.proofs.Loading.{items_last}
use Rattle.ring_core.proofs.Paging.{items_more, items_none, items_wait, newest_more, none_sent, none_took}

by_count : {P : Type 0} (c : ℕ) → (c ≡ 0 → P) → (c ≢ 0 → P) → P
by_count zero f g = f refl
by_count (suc n) f g = g (λ e. omega (arith, e))

pub by_due : {P : Type 0} (d : Due) → (d ≡ Clear → P) → (d ≢ Clear → P) → P
by_due Clear f g = f refl
by_due (Loads q n j) f g = g (λ e. let z : Loads q n j ≡ Clear = e in cc)

-- what a send makes of the pages, where these words go along
record SentInto (k : Kept) (p w : List ℕ) (j : Kept) : Type 0 where
  count : j.count ≡ k.count
  got : j.got ≡ k.got
  due : j.due ≡ k.due
  copy : j.copy ≡ k.copy
  bare : k.count ≡ 0 → j.sent ≡ k.sent
  sent : k.count ≢ 0 → j.sent ≡ k.sent ++ item_of p w ∷ []

sends_into : (k : Kept) (p : List ℕ) (o : Option Part) → length k.owners ≡ k.count → (k.count ≢ 0 → loans o ≡ part_in k.owners p) → SentInto k p (part_words k.copy o) (pages_sent (layout k.count) k p)
sends_into k p o long part =
    by_count k.count
    (λ z. subst (λ (j : Kept). SentInto k p (part_words k.copy o) j) (sym (none_sent k p z)) (record { count = refl; got = refl; due = refl; copy = refl; bare = λ _. refl; sent = λ n. absurd (n z) }))
    (λ n. subst (λ (j : Kept). SentInto k p (part_words k.copy o) j) (sym (sent_into k p o long n (part n))) (record { count = refl; got = refl; due = refl; copy = refl; bare = λ z. absurd (n z); sent = λ _. refl }))

-- what a take makes of them: the packet has no page words, or waits for them
record TookInto (k : Kept) (w : List ℕ) (j : Kept) : Type 0 where
  count : j.count ≡ k.count
  sent : j.sent ≡ k.sent
  whole : j.due ≡ Clear → j.got ≡ k.got ++ item_of w [] ∷ []
  waits : j.due ≢ Clear → (j.got ≡ k.got) × (owed j.due ≡ 1)

took_none : (k : Kept) (w : List ℕ) → k.due ≡ Clear → TookInto k w (with_took k w)
took_none k w clear = record { count = refl; sent = refl; whole = λ _. refl; waits = λ n. absurd (n clear) }

took_due : (k : Kept) (w : List ℕ) (os : List Owner) (q n : ℕ) → TookInto k w (with_due k os q n)
took_due k w os q n = record { count = refl; sent = refl; whole = λ e. absurd (let z : Loads q n 0 ≡ Clear = e in cc); waits = λ _. (refl, refl) }

took_back : (k : Kept) (w : List ℕ) (o : Option ℕ) → k.due ≡ Clear → TookInto k w (has_back k w o)
took_back k w None clear = took_none k w clear
took_back k w (Some q) clear = took_due k w _ q _

took_held : (k : Kept) (w : List ℕ) (o : Option Loan) → k.due ≡ Clear → TookInto k w (holds_now k w o)
took_held k w None clear = took_none k w clear
took_held k w (Some a) clear = at_cond (λ (j : Kept). TookInto k w j) (may_hold (id_of w) (get_or k.owners a.page Has)) _ _ (λ _. took_due k w _ a.page a.words) (λ _. took_none k w clear)

took_into : (k : Kept) (w : List ℕ) → k.count ≢ 0 → k.due ≡ Clear → TookInto k w (pages_took (layout k.count) k w)
took_into k w some clear =
    at_cond (λ (j : Kept). TookInto k w j) (k.count == 0) _ _ (λ t. absurd (some (let z : k.count ≡ 0 = grind (arith, nat_tests, t) in z)))
    (λ _. at_cond (λ (j : Kept). TookInto k w j) (kind_of w == 11) _ _ (λ _. took_back k w (first_page (is_lent (id_of w)) 0 k.owners) clear) (λ _. took_held k w ((layout k.count).lends w) clear))

-- one list, where a packet comes, or its words do
pub new_list : (c : ℕ) (l : Listed) → l.list ≡ [] → l.lent ≡ [] → l.paged ≡ not (c == 0) → IsList c [] [] 0 l
new_list c l list lent paged = record {
  list = list;
  items = (λ i. items_of (list i) (lent i));
  paged = paged;
  bare = λ _. lent;
  all = λ _. omega (arith, ap length list, ap length lent);
  place = λ _ h. absurd (omega (arith, h));
}

pub list_as : {c c' : ℕ} {ps ps' : List (List ℕ)} {is is' : List Item} {n n' : ℕ} {l : Listed} → IsList c ps is n l → c' ≡ c → ps' ≡ ps → is' ≡ is → n' ≡ n → IsList c' ps' is' n' l
list_as {c} {c'} {ps} {ps'} {is} {is'} {n} {n'} {l} it a b d e = subst (λ (z : ℕ × List (List ℕ) × List Item × ℕ). IsList z.0 z.1 z.2 z.3 l) (λ i. (sym a i, sym b i, sym d i, sym e i)) it

module _ {c : ℕ} {ps : List (List ℕ)} {is : List Item} {l l' : Listed} (p : List ℕ) where
  list_bare : {n : ℕ} (m : ℕ) → IsList c ps is n l → c ≡ 0 → l'.list ≡ l.list ++ p ∷ [] → l'.lent ≡ l.lent → l'.paged ≡ l.paged → IsList c (ps ++ p ∷ []) is m l'
  list_bare m it none list lent paged = record {
    list = list ∙ ap (λ (xs : List (List ℕ)). xs ++ p ∷ []) it.list;
    items = ap (items_of l'.list) (lent ∙ it.bare none) ∙ (items_none l'.list ∙ (sym (ap (items_of l.list) (it.bare none) ∙ items_none l.list) ∙ it.items));
    paged = paged ∙ it.paged;
    bare = λ z. lent ∙ it.bare z;
    all = λ some. absurd (some none);
    place = λ some. absurd (some none);
  }

  list_more : (w : List ℕ) → IsList c ps is 0 l → c ≢ 0 → l'.list ≡ l.list ++ p ∷ [] → l'.lent ≡ l.lent ++ w ∷ [] → l'.paged ≡ l.paged → IsList c (ps ++ p ∷ []) (is ++ item_of p w ∷ []) 0 l'
  list_more w it some list lent paged = record {
    list = list ∙ ap (λ (xs : List (List ℕ)). xs ++ p ∷ []) it.list;
    items = (λ i. items_of (list i) (lent i)) ∙ (items_more l.list l.lent p w (omega (arith, it.all some)) ∙ ap (λ (js : List Item). js ++ item_of p w ∷ []) it.items);
    paged = paged ∙ it.paged;
    bare = λ z. absurd (some z);
    all = λ _. omega (arith, ap length list, ap length lent, length-append l.list (p ∷ []), length-append l.lent (w ∷ []), it.all some);
    place = λ _ h. absurd (omega (arith, h));
  }

  list_waits : IsList c ps is 0 l → c ≢ 0 → l'.list ≡ l.list ++ p ∷ [] → l'.lent ≡ l.lent → l'.paged ≡ l.paged → 0 < l'.lent_room.packets → IsList c (ps ++ p ∷ []) is 1 l'
  list_waits it some list lent paged place = record {
    list = list ∙ ap (λ (xs : List (List ℕ)). xs ++ p ∷ []) it.list;
    items = (λ i. items_of (list i) (lent i)) ∙ (items_wait l.list l.lent (p ∷ []) (omega (arith, it.all some)) ∙ it.items);
    paged = paged ∙ it.paged;
    bare = λ z. absurd (some z);
    all = λ _. omega (arith, ap length list, ap length lent, length-append l.list (p ∷ []), it.all some);
    place = λ _ _. place;
  }

  list_loaded : IsList c ps is 1 l → c ≢ 0 → l'.list ≡ l.list → l'.lent ≡ l.lent ++ p ∷ [] → l'.paged ≡ l.paged → IsList c ps (is ++ item_of (newest ps) p ∷ []) 0 l'
  list_loaded it some list lent paged = record {
    list = list ∙ it.list;
    items = (λ i. items_of (list i) (lent i)) ∙ (items_last l.list l.lent p (it.all some) ∙ (λ i. it.items i ++ item_of (newest (it.list i)) p ∷ []));
    paged = paged ∙ it.paged;
    bare = λ z. absurd (some z);
    all = λ _. omega (arith, ap length list, ap length lent, length-append l.lent (p ∷ []), it.all some);
    place = λ _ h. absurd (omega (arith, h));
  }

-- in a channel with pages the items of a list that owes nothing are those of its packets
pub list_items : {c : ℕ} {ps : List (List ℕ)} {is : List Item} {l : Listed} → IsList c ps is 0 l → c ≢ 0 → packets is ≡ ps
list_items {c} {ps} {is} {l} it some = ap packets (sym it.items) ∙ (packets_of l.list l.lent (omega (arith, it.all some)) ∙ it.list)

pub list_none : {c : ℕ} {ps : List (List ℕ)} {is : List Item} {n : ℕ} {l : Listed} → IsList c ps is n l → c ≡ 0 → is ≡ []
list_none {c} {ps} {is} {n} {l} it none = sym it.items ∙ (ap (items_of l.list) (it.bare none) ∙ items_none l.list)

-- there are no more page words than packets
pub list_lent : {c : ℕ} {ps : List (List ℕ)} {is : List Item} {n : ℕ} {l : Listed} → IsList c ps is n l → length l.lent ≤ length l.list
list_lent {c} {ps} {is} {n} {l} it = by_count c (λ z. omega (arith, ap length (it.bare z))) (λ some. omega (arith, it.all some))

-- what an answer tells of how its call ended
pub ok_sent : (how : Ending) (m : EndMachine) → is_ok (send_answer how m) ≡ is_sent how
ok_sent Fresh m = refl
ok_sent _ m = refl

pub ok_is : {T E : Type 0} (r : Result T E) (b : Bool) (x : E) → refused r ≡ cond b None (Some x) → is_ok r ≡ b
ok_is (Ok y) true x e = refl
ok_is (Ok y) false x e = absurd (cc)
ok_is (Err y) true x e = absurd (cc)
ok_is (Err y) false x e = refl

pub pages_taken : (b : Bool) (r : Option TakeRefusal) (x : TakeRefusal) (w : List ℕ) (k : Kept) (got got' : List (List ℕ)) → r ≡ cond b None (Some x) → got' ≡ got_by_answer r w got
    → pages_by_take r w k ≡ cond b (pages_took (layout k.count) k (newest got')) k
pages_taken true r x w k got got' e is =
    ap (λ (q : Option TakeRefusal). pages_by_take q w k) e
    ∙ ap (λ (p : List ℕ). pages_took (layout k.count) k p) (sym (ap newest (is ∙ ap (λ (q : Option TakeRefusal). got_by_answer q w got) e) ∙ newest_more got w))
pages_taken false r x w k got got' e is = ap (λ (q : Option TakeRefusal). pages_by_take q w k) e

-- what a send, or a take, adds to its list
pub record Adds (c : ℕ) (went : Bool) (p : List ℕ) (old new : Listed) : Type 0 where
  pub kept : went ≡ false → new ≡ old
  pub list : went ≡ true → new.list ≡ old.list ++ p ∷ []
  pub bare : went ≡ true → c ≡ 0 → new.lent ≡ old.lent
  pub paged : new.paged ≡ old.paged
  pub places : went ≡ true → c ≢ 0 → new.places + 1 ≡ old.places

module _ {S : Type 0} {pages_of : S → ℕ} where
  -- the lists stay, and so do the pages but for their words
  pub keeps_on : {e e' : Lean S} {s g : Listed} (copy : List ℕ) → Keeps pages_of e s g → e'.driven.state.sent ≡ e.driven.state.sent → e'.driven.state.got ≡ e.driven.state.got
      → e'.driven.state.pages ≡ record { count = e.driven.state.pages.count; sent = e.driven.state.pages.sent; got = e.driven.state.pages.got; owners = e.driven.state.pages.owners; copy = copy; due = e.driven.state.pages.due; call = e.driven.state.pages.call }
      → e'.room ≡ e.room → pages_of e'.driven.seat ≡ pages_of e.driven.seat → Keeps pages_of e' s g
  keeps_on {e} {e'} {s} {g} copy it sent got pages room seat =
      let count : e'.driven.state.pages.count ≡ e.driven.state.pages.count = ap (λ (k : Kept). k.count) pages in
      record {
        sent = list_as it.sent count sent (ap (λ (k : Kept). k.sent) pages) refl;
        got = list_as it.got count got (ap (λ (k : Kept). k.got) pages) (ap (λ (k : Kept). owed k.due) pages);
        places = λ some. (let z = it.places (λ y. some (count ∙ y)) in omega (arith, z, room));
        pages = seat ∙ (it.pages ∙ sym count);
      }

  -- a packet was sent, or refused
  pub keeps_sent : {e e' : Lean S} {s s' g : Listed} (r : Result Signalled SendRefusal) (went : Bool) (p : List ℕ) (o : Option Part) → Keeps pages_of e s g → went ≡ is_ok r
      → length e.driven.state.pages.owners ≡ e.driven.state.pages.count → (e.driven.state.pages.count ≢ 0 → loans o ≡ part_in e.driven.state.pages.owners p)
      → e'.driven.state.sent ≡ sent_by_answer r p e.driven.state.sent → e'.driven.state.got ≡ e.driven.state.got → e'.driven.state.pages ≡ pages_by_send r p e.driven.state.pages
      → Adds e.driven.state.pages.count went p s s' → (went ≡ true → e.driven.state.pages.count ≢ 0 → s'.lent ≡ s.lent ++ part_words e'.driven.state.pages.copy o ∷ [])
      → (went ≡ false → e'.room ≡ e.room) → e.room ≤ e'.room + 1 → pages_of e'.driven.seat ≡ pages_of e.driven.seat → Keeps pages_of e' s' g
  keeps_sent {e} {e'} {s} {s'} {g} (Err x) went p o it is long part sent got pages adds lent same room seat =
      subst (λ (l : Listed). Keeps pages_of e' l g) (sym (adds.kept is)) (keeps_on e.driven.state.pages.copy it sent got pages (same is) seat)
  keeps_sent {e} {e'} {s} {s'} {g} (Ok x) went p o it is long part sent got pages adds lent same room seat =
      let k : Kept = e.driven.state.pages in
      let j : Kept = e'.driven.state.pages in
      let w : List ℕ = part_words k.copy o in
      let into : SentInto k p w j = subst (λ (y : Kept). SentInto k p w y) (sym pages) (sends_into k p o long part) in
      record {
        sent = by_count k.count
            (λ z. list_as (list_bare p 0 it.sent z (adds.list is) (adds.bare is z) adds.paged) into.count sent (into.bare z) refl)
            (λ n. list_as (list_more p w it.sent n (adds.list is) (lent is n ∙ ap (λ (ws : List ℕ). s.lent ++ part_words ws o ∷ []) into.copy) adds.paged) into.count sent (into.sent n) refl);
        got = list_as it.got into.count got into.got (ap owed into.due);
        places = λ some. (let n : e.driven.state.pages.count ≢ 0 = λ y. some (into.count ∙ y) in let z = it.places n in let y = adds.places is n in omega (arith, z, y, room));
        pages = seat ∙ (it.pages ∙ sym into.count);
      }

  -- a packet was taken, or refused
  pub keeps_took : {T : Type 0} {e e' : Lean S} {s g g' : Listed} (r : Result T TakeRefusal) (went : Bool) → Keeps pages_of e s g → went ≡ is_ok r → (e.driven.state.pages.count ≢ 0 → e.driven.state.pages.due ≡ Clear)
      → e'.driven.state.sent ≡ e.driven.state.sent → e'.driven.state.got ≡ got_by_answer (refused r) e'.driven.taken e.driven.state.got → e'.driven.state.pages ≡ pages_by_take (refused r) e'.driven.taken e.driven.state.pages
      → Adds e.driven.state.pages.count went e'.driven.taken g g'
      → (went ≡ true → e.driven.state.pages.count ≢ 0 → e'.driven.state.pages.due ≡ Clear → g'.lent ≡ g.lent ++ [] ∷ [])
      → (went ≡ true → e.driven.state.pages.count ≢ 0 → e'.driven.state.pages.due ≢ Clear → (g'.lent ≡ g.lent) × (0 < g'.lent_room.packets))
      → (went ≡ false → e'.room ≡ e.room) → e.room ≤ e'.room + 1 → pages_of e'.driven.seat ≡ pages_of e.driven.seat → Keeps pages_of e' s g'
  keeps_took {T} {e} {e'} {s} {g} {g'} (Err x) went it is clear sent got pages adds whole waits same room seat =
      subst (λ (l : Listed). Keeps pages_of e' s l) (sym (adds.kept is)) (keeps_on e.driven.state.pages.copy it sent got pages (same is) seat)
  keeps_took {T} {e} {e'} {s} {g} {g'} (Ok x) went it is clear sent got pages adds whole waits same room seat =
      let k : Kept = e.driven.state.pages in
      let j : Kept = e'.driven.state.pages in
      let w : List ℕ = e'.driven.taken in
      let none : k.count ≡ 0 → j ≡ k = λ z. pages ∙ none_took k w z in
      let into : k.count ≢ 0 → TookInto k w j = λ n. subst (λ (y : Kept). TookInto k w y) (sym pages) (took_into k w n (clear n)) in
      let count : j.count ≡ k.count = by_count k.count (λ z. ap (λ (y : Kept). y.count) (none z)) (λ n. (into n).count) in
      record {
        sent = list_as it.sent count sent (by_count k.count (λ z. ap (λ (y : Kept). y.sent) (none z)) (λ n. (into n).sent)) refl;
        got = by_count k.count
            (λ z. list_as (list_bare w (owed j.due) it.got z (adds.list is) (adds.bare is z) adds.paged) count got (ap (λ (y : Kept). y.got) (none z)) refl)
            (λ n.
            let old = list_as it.got refl refl refl (ap owed (sym (clear n))) in
            by_due j.due
            (λ d. list_as (list_more w [] old n (adds.list is) (whole is n d) adds.paged) count got ((into n).whole d) (ap owed d))
            (λ d. list_as (list_waits w old n (adds.list is) (waits is n d).0 adds.paged (waits is n d).1) count got ((into n).waits d).0 ((into n).waits d).1));
        places = λ some. (let n : e.driven.state.pages.count ≢ 0 = λ y. some (count ∙ y) in let z = it.places n in let y = adds.places is n in omega (arith, z, y, room));
        pages = seat ∙ (it.pages ∙ sym count);
      }

  -- the words that were due are loaded
  pub keeps_loaded : {e e' : Lean S} {s g g' : Listed} (w : List ℕ) → Keeps pages_of e s g → e.driven.state.pages.count ≢ 0 → owed e.driven.state.pages.due ≡ 1 → e'.driven.state.pages.due ≡ Clear
      → e'.driven.state.sent ≡ e.driven.state.sent → e'.driven.state.got ≡ e.driven.state.got → e'.driven.state.pages.count ≡ e.driven.state.pages.count → e'.driven.state.pages.sent ≡ e.driven.state.pages.sent
      → e'.driven.state.pages.got ≡ e.driven.state.pages.got ++ item_of (newest e.driven.state.got) w ∷ [] → (g'.list ≡ g.list) × (g'.paged ≡ g.paged) × (g'.places ≡ g.places) → g'.lent ≡ g.lent ++ w ∷ []
      → e'.room ≡ e.room → pages_of e'.driven.seat ≡ pages_of e.driven.seat → Keeps pages_of e' s g'
  keeps_loaded w it some due clear sent got count items came same lent room seat = record {
    sent = list_as it.sent count sent items refl;
    got = list_as (list_loaded w (list_as it.got refl refl refl (sym due)) some same.0 lent same.1) count got came (ap owed clear);
    places = λ n. (let z = it.places some in omega (arith, z, same.2, room));
    pages = seat ∙ (it.pages ∙ sym count);
  }

  -- a new end
  pub keeps_new : {e : Lean S} {s g : Listed} (x : Side) (m : EndMachine) (c : ℕ) → e.driven.state ≡ resting_with m [] [] [] (first_kept x c) → (s.list ≡ []) × (s.lent ≡ []) → (g.list ≡ []) × (g.lent ≡ [])
      → (s.paged ≡ not (c == 0)) × (s.places ≡ 0) → (g.paged ≡ not (c == 0)) × (g.places ≡ 0) → pages_of e.driven.seat ≡ c → Keeps pages_of e s g
  keeps_new {e} {s} {g} x m c is a b p q seat =
      let count : e.driven.state.pages.count ≡ c = ap (λ (z : EndState). z.pages.count) is in
      record {
        sent = list_as (new_list c s a.0 a.1 p.0) count (ap (λ (z : EndState). z.sent) is) (ap (λ (z : EndState). z.pages.sent) is) refl;
        got = list_as (new_list c g b.0 b.1 q.0) count (ap (λ (z : EndState). z.got) is) (ap (λ (z : EndState). z.pages.got) is) (ap (λ (z : EndState). owed z.pages.due) is);
        places = λ _. omega (arith, p.1, q.1);
        pages = seat ∙ sym count;
      }
