-- What a send and a take leave of an end's pages.
use Rattle.std.proofs.Common.{rules, ◌≡◌, ℕ, ◌+◌, false, eqb, ltb, List, [], ◌∷◌, ◌++◌, length, Option, Some, None}
use Rattle.page_kept.specs.Items.{packets}
use Rattle.page_kept.specs.Kept.{first_page, is_held, is_lent, gives_back, lends_out, pages_sent, has_back, holds_now, pages_took}
use Rattle.page_kept.specs.Layouts.{Layout, Loan, layout}
use Rattle.page_kept.specs.declared.kept.Kept.{Kept}
use Rattle.pkt_desc.specs.Packets.{kind_of, id_of}
use Rattle.ring_loan_rule.proofs.Counts.{packets_append}
use Rattle.ring_machine.proofs.Sound.{at_cond}
use Rattle.ring_machine.specs.declared.machine.EndMachine.{EndMachine}
use Rattle.ring_machine.specs.declared.machine.Stage.{Stage}
use Rattle.ring_machine.specs.declared.machine.Stage.TheVariants.{SendWrite, TakeCell}
use Rattle.ring_machine.specs.States.{pages_after, sent_after}

-- the lists are as long as before, the page call is the same one, and in a channel with pages the items are these packets
pub record Left (k j : Kept) (ps : List (List ℕ)) : Type 0 where
  pub count : j.count ≡ k.count
  pub listed : length j.owners ≡ length k.owners
  pub copied : length j.copy ≡ length k.copy
  pub call : j.call ≡ k.call
  pub sent : eqb k.count 0 ≡ false → packets j.sent ≡ ps

gives : (k : Kept) (p : List ℕ) (o : Option ℕ) → Left k (gives_back k p o) (packets k.sent ++ p ∷ [])
gives k p None = search (rules, packets_append)
gives k p (Some q) = search (rules, packets_append)

lends : (k : Kept) (p : List ℕ) (o : Option Loan) → Left k (lends_out k p o) (packets k.sent ++ p ∷ [])
lends k p None = search (rules, packets_append)
lends k p (Some a) = search (rules, packets_append)

sends : (l : Layout) (k : Kept) (p : List ℕ) → Left k (pages_sent l k p) (packets k.sent ++ p ∷ [])
sends l k p =
    at_cond (λ (j : Kept). Left k j (packets k.sent ++ p ∷ [])) (eqb k.count 0) _ _ (λ none. search rules)
    (λ some. at_cond (λ (j : Kept). Left k j (packets k.sent ++ p ∷ [])) (eqb (kind_of p) 11) _ _ (λ _. gives k p (first_page (is_held (id_of p)) 0 k.owners)) (λ _. lends k p (l.lends p)))

has : (k : Kept) (p : List ℕ) (o : Option ℕ) → Left k (has_back k p o) (packets k.sent)
has k p None = search rules
has k p (Some q) = search rules

holds : (k : Kept) (p : List ℕ) (o : Option Loan) → Left k (holds_now k p o) (packets k.sent)
holds k p None = search rules
holds k p (Some a) = search rules

takes : (l : Layout) (k : Kept) (p : List ℕ) → Left k (pages_took l k p) (packets k.sent)
takes l k p =
    at_cond (λ (j : Kept). Left k j (packets k.sent)) (eqb k.count 0) _ _ (λ none. search rules)
    (λ some. at_cond (λ (j : Kept). Left k j (packets k.sent)) (eqb (kind_of p) 11) _ _ (λ _. has k p (first_page (is_lent (id_of p)) 0 k.owners)) (λ _. holds k p (l.lends p)))

-- what a step of the rings leaves
pub stepped_pages : (st : Stage) (m : EndMachine) (k : Kept) (p xs : List ℕ) (v : ℕ) → Left k (pages_after st m k p xs v) (sent_after st (packets k.sent) p)
stepped_pages SendWrite m k p xs v = sends (layout k.count) k p
stepped_pages TakeCell m k p xs v = at_cond (λ (j : Kept). Left k j (packets k.sent)) (ltb (m.done + 1) m.len) _ _ (λ _. search rules) (λ _. takes (layout k.count) k (xs ++ v ∷ []))
stepped_pages _ m k p xs v = search rules
