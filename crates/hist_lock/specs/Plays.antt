-- What each step on the lock's table tells: of the step, the seat before, the number found and the seat after.
use Rattle.std.specs.Prelude.{◌≡◌, ◌≢◌, ℕ, suc, ◌+◌, ◌-◌, ◌^◌, ◌<◌, List, [], ◌∷◌, ◌++◌, length, Option, Some, None, IfSome}
use Rattle.atomic_table.specs.Table.{Me, Step}
use Rattle.hist_lock.specs.declared.history.Entry.{Entry}
use Rattle.hist_lock.specs.declared.view.Terms.{Terms}
use Rattle.hist_lock.specs.declared.view.Line.{Line}
use Rattle.hist_lock.specs.declared.view.Stage.{Stage}
use Rattle.hist_lock.specs.declared.view.Stage.TheVariants.{Idle, Waits, Turn, Holds, Gave, Ended}
use Rattle.hist_lock.specs.declared.view.View.{View}
use Rattle.hist_lock.specs.declared.view.Kept.{Kept}
use Rattle.hist_lock.specs.Legal.{IsLegal}
use Rattle.hist_lock.specs.Calls.{call, calls_from}
use Rattle.hist_lock.specs.Rule.{Each, limit, line, Fits}

abbrev pub Sat : Type 0 → Type 0 → Type 0 → Type 0
Sat S Q A = Me (Option (Kept S Q A)) (View S Q A)

abbrev pub Told : Type 0 → Type 0 → Type 0 → Type 1
Told S Q A = Step (Option (Kept S Q A)) → Sat S Q A → ℕ → Sat S Q A → Type 0

module _ {S Q A : Type 0} where
  -- one of the calls left is begun
  abbrev pub begun : List (Line S Q A) → List (Line S Q A)
  begun [] = []
  begun (l ∷ ls) = line l.number (l.left - 1) l.calls ∷ ls

  -- the call that gave its entry is made
  abbrev pub made : Stage S Q A → List (Line S Q A) → List (Line S Q A)
  made (Gave k e) (l ∷ ls) = line l.number l.left (l.calls ++ call k e ∷ []) ∷ ls
  made _ ls = ls

  abbrev pub ticket_of : Stage S Q A → ℕ
  ticket_of (Waits k) = k
  ticket_of (Turn k) = k
  ticket_of (Holds k xs) = k
  ticket_of (Gave k e) = k
  ticket_of _ = 0

  abbrev pub log_of : Stage S Q A → List (Entry S Q A)
  log_of (Holds k xs) = xs
  log_of _ = []

  abbrev pub staged : View S Q A → Stage S Q A → View S Q A
  staged v stage = record { terms = v.terms; lines = v.lines; stage = stage }

  abbrev pub drawn : Told S Q A
  drawn st m r n = (n ≡ (record { terms = m.0.terms; lines = begun m.0.lines; stage = Waits r }, m.1)) × (r < 2 ^ 32)

  abbrev pub looked : Told S Q A
  looked st m r n = (r < 2 ^ 32) × (r ≡ ticket_of m.0.stage → n ≡ (staged m.0 (Turn r), m.1)) × (r ≢ ticket_of m.0.stage → n ≡ m)

  -- the state and its history were taken, in which the calls of these seats are theirs
  pub record Took (after : S → Q → S) (reply_to : S → Q → A) (t : Terms S Q A) (since : List (Entry S Q A)) (k : Kept S Q A) (lines : List (Line S Q A)) : Type 0 where
    pub fits : Fits after t (t.past ++ since) k
    pub legal : IsLegal after reply_to t.start (t.past ++ since)
    pub numbered : Each (λ (e : Entry S Q A). e.seat < length t.quotas) since
    pub made : Each (λ (l : Line S Q A). l.calls ≡ calls_from l.number (length t.past) since) lines

  -- it is the turn of this ticket
  pub record IsTurn (t : Terms S Q A) (since : List (Entry S Q A)) (ticket : ℕ) : Type 0 where
    pub count : length t.past + length since ≡ ticket
    pub below : ticket < limit t

  abbrev pub took : (S → Q → S) → (S → Q → A) → Told S Q A
  took after reply_to st m r n = IfSome m.0.terms (λ t. (since : List (Entry S Q A)) × (k : Kept S Q A) × Took after reply_to t since k m.0.lines × IsTurn t since (ticket_of m.0.stage)
      × (n ≡ (staged m.0 (Holds (ticket_of m.0.stage) (t.past ++ since)), (0, Some k) ∷ m.1)))

  abbrev pub gave : Told S Q A
  gave st m r n = (k : Kept S Q A) (e : Entry S Q A) → m.1 ≡ (0, Some k) ∷ [] → k.entries.items ≡ log_of m.0.stage ++ e ∷ [] → n ≡ (staged m.0 (Gave (ticket_of m.0.stage) e), [])

  abbrev pub served : Told S Q A
  served st m r n = n ≡ (record { terms = m.0.terms; lines = made m.0.stage m.0.lines; stage = Idle }, m.1)

  abbrev pub ended : (S → Q → S) → (S → Q → A) → Told S Q A
  ended after reply_to st m r n = IfSome m.0.terms (λ t. (since : List (Entry S Q A)) × (k : Kept S Q A) × Took after reply_to t since k m.0.lines
      × (n ≡ (staged m.0 (Ended (t.past ++ since)), (0, Some k) ∷ m.1)))

  -- the first seat is cut off
  abbrev pub rest_lines : List (Line S Q A) → List (Line S Q A)
  rest_lines [] = []
  rest_lines (l ∷ ls) = ls

  abbrev pub first_line : List (Line S Q A) → List (Line S Q A)
  first_line [] = []
  first_line (l ∷ ls) = l ∷ []

  abbrev pub others : View S Q A → View S Q A
  others v = record { terms = v.terms; lines = rest_lines v.lines; stage = Idle }

  abbrev pub one_off : View S Q A → View S Q A
  one_off v = record { terms = v.terms; lines = first_line v.lines; stage = Idle }

  -- the seats of the second view before those of the first
  abbrev pub joined : View S Q A → View S Q A → View S Q A
  joined v w = record { terms = v.terms; lines = w.lines ++ v.lines; stage = Idle }

  abbrev pub spent : View S Q A
  spent = record { terms = None; lines = []; stage = Idle }

  -- the seats at the start, numbered from n on
  abbrev pub lines_from : ℕ → List ℕ → List (Line S Q A)
  lines_from n [] = []
  lines_from n (q ∷ qs) = line n q [] ∷ lines_from (suc n) qs
