-- One entry more.
use Rattle.std.proofs.Common.{◌≡◌, ◌≢◌, ℕ, ◌+◌, ◌<◌, eqb, Bool, true, false, cond, List, [], ◌∷◌, ◌++◌, length, refl, ap, ◌∙◌, arith, ne_eqb, eq-eqb}
use Rattle.hist_lock.specs.declared.history.Entry.{Entry}
use Rattle.hist_lock.specs.Seat.{Call}
use Rattle.hist_lock.specs.Legal.{IsLegal, state_after}
use Rattle.hist_lock.specs.Calls.{call, calls_from}
use Rattle.hist_lock.specs.Rule.{Each}

module _ {S Q A : Type 0} where
  pub state_push : (after : S → Q → S) (s : S) (es : List (Entry S Q A)) (e : Entry S Q A) → state_after after s (es ++ e ∷ []) ≡ after (state_after after s es) e.request
  state_push after s [] e = refl
  state_push after s (d ∷ es) e = state_push after (after s d.request) es e

  pub legal_push : (after : S → Q → S) (reply_to : S → Q → A) (s : S) (es : List (Entry S Q A)) (e : Entry S Q A)
      → IsLegal after reply_to s es → e.reply ≡ reply_to (state_after after s es) e.request → IsLegal after reply_to s (es ++ e ∷ [])
  legal_push after reply_to s [] e legal is = (is, tt)
  legal_push after reply_to s (d ∷ es) e legal is = (legal.0, legal_push after reply_to (after s d.request) es e legal.1 is)

  -- a call before others, where it is the seat's
  abbrev added : Bool → ℕ → Entry S Q A → List (Call Q A) → List (Call Q A)
  added own n e cs = cond own (call n e ∷ cs) cs

  -- the entry is another seat's
  pub calls_other : (seat n : ℕ) (es : List (Entry S Q A)) (e : Entry S Q A) → e.seat ≢ seat → calls_from seat n (es ++ e ∷ []) ≡ calls_from seat n es
  calls_other seat n [] e ne = ap (λ b. added b n e []) (ne_eqb e.seat seat ne)
  calls_other seat n (d ∷ es) e ne = ap (added (eqb d.seat seat) n d) (calls_other seat (n + 1) es e ne)

  added_front : (b : Bool) (n : ℕ) (d : Entry S Q A) (cs more : List (Call Q A)) → added b n d (cs ++ more) ≡ added b n d cs ++ more
  added_front true n d cs more = refl
  added_front false n d cs more = refl

  -- the entry is the seat's
  pub calls_own : (seat n m : ℕ) (es : List (Entry S Q A)) (e : Entry S Q A) → e.seat ≡ seat → n + length es ≡ m → calls_from seat n (es ++ e ∷ []) ≡ calls_from seat n es ++ call m e ∷ []
  calls_own seat n m [] e is at = let same : n ≡ m = omega arith in ap (λ b. added b n e []) (eq-eqb e.seat seat is) ∙ ap (λ k. call k e ∷ []) same
  calls_own seat n m (d ∷ es) e is at = ap (added (eqb d.seat seat) n d) (calls_own seat (n + 1) m es e is (omega arith)) ∙ added_front (eqb d.seat seat) n d (calls_from seat (n + 1) es) (call m e ∷ [])

  pub snoc_same : (xs : List (Entry S Q A)) (a b : Entry S Q A) → xs ++ a ∷ [] ≡ xs ++ b ∷ [] → a ≡ b
  snoc_same [] a b e = cc
  snoc_same (x ∷ xs) a b e = snoc_same xs a b (cc)

  earlier_added : (b : Bool) (n m : ℕ) (e : Entry S Q A) (cs : List (Call Q A)) → n < m → Each (λ (c : Call Q A). c.serial < m) cs → Each (λ (c : Call Q A). c.serial < m) (added b n e cs)
  earlier_added true n m e cs lt h = (lt, h)
  earlier_added false n m e cs lt h = h

  -- the calls have places among the entries
  pub calls_earlier : (seat n m : ℕ) (es : List (Entry S Q A)) → n + length es ≡ m → Each (λ (c : Call Q A). c.serial < m) (calls_from seat n es)
  calls_earlier seat n m [] is = tt
  calls_earlier seat n m (e ∷ es) is = earlier_added (eqb e.seat seat) n m e (calls_from seat (n + 1) es) (omega arith) (calls_earlier seat (n + 1) m es (omega arith))

-- a machine of this setup after entries
pub first_after : {S Q A : Type 0} (first : S → S) (after : S → Q → S) → ((s : S) (q : Q) → first (after s q) ≡ first s) → (s : S) (es : List (Entry S Q A)) → first (state_after after s es) ≡ first s
first_after first after keeps s [] = refl
first_after first after keeps s (e ∷ es) = first_after first after keeps (after s e.request) es ∙ keeps s e.request
