-- The steps of one call, one after another.
use Rattle.std.proofs.Common.{◌≡◌, ℕ, ◌+◌, ◌-◌, ◌<◌, List, [], ◌∷◌, ◌++◌, length, sym, ap, ◌∙◌, subst, arith, None}
use Rattle.std.specs.Prelude.{All, vec_capacity}
use Rattle.hist_lock.specs.declared.history.Entry.{Entry}
use Rattle.hist_lock.specs.Seat.{Call}
use Rattle.hist_lock.specs.declared.view.Terms.{Terms}
use Rattle.hist_lock.specs.declared.view.Line.{Line}
use Rattle.hist_lock.specs.declared.view.Stage.TheVariants.{Idle, Waits, Turn, Holds, Gave}
use Rattle.hist_lock.specs.declared.view.Kept.{Kept}
use Rattle.hist_lock.specs.Calls.{call, calls_from}
use Rattle.hist_lock.specs.Rule.{Each, view, line, Fits}
use Rattle.hist_lock.specs.Plays.{Sat, begun, made, staged, log_of, ticket_of}
use Rattle.hist_lock.specs.Sitting.{calls_in}
use Rattle.hist_lock.proofs.Histories.{state_push, calls_earlier}
use Rattle.hist_lock.proofs.Totals.{each_all}

module _ {S Q A : Type 0} (t : Terms S Q A) (number left : ℕ) (calls : List (Call Q A)) where
  abbrev pub waiting : ℕ → Sat S Q A
  waiting k = (view t (line number (left - 1) calls ∷ []) (Waits k), [])

  abbrev pub turning : ℕ → Sat S Q A
  turning k = (view t (line number (left - 1) calls ∷ []) (Turn k), [])

  abbrev pub holding : ℕ → List (Entry S Q A) → Sat S Q A
  holding k log = (view t (line number (left - 1) calls ∷ []) (Holds k log), (0, None) ∷ [])

  abbrev pub giving : ℕ → Entry S Q A → Sat S Q A
  giving k e = (view t (line number (left - 1) calls ∷ []) (Gave k e), [])

  abbrev pub sitting : ℕ → Entry S Q A → Sat S Q A
  sitting k e = (view t (line number (left - 1) (calls ++ call k e ∷ []) ∷ []) Idle, [])

  pub waits : (k : ℕ) (m n : Sat S Q A) → m ≡ (view t (line number left calls ∷ []) Idle, []) → n ≡ (record { terms = m.0.terms; lines = begun m.0.lines; stage = Waits k }, m.1) → n ≡ waiting k
  waits k m n is told = told ∙ ap (λ (x : Sat S Q A). (record { terms = x.0.terms; lines = begun x.0.lines; stage = Waits k }, x.1)) is

  pub turns : (k : ℕ) (m n : Sat S Q A) → m ≡ waiting k → n ≡ (staged m.0 (Turn k), m.1) → n ≡ turning k
  turns k m n is told = told ∙ ap (λ (x : Sat S Q A). (staged x.0 (Turn k), x.1)) is

  pub holds : (k : ℕ) (log : List (Entry S Q A)) (m n : Sat S Q A) → m ≡ turning k → n ≡ (staged m.0 (Holds k log), (0, None) ∷ []) → n ≡ holding k log
  holds k log m n is told = told ∙ ap (λ (x : Sat S Q A). (staged x.0 (Holds k log), (0, None) ∷ [])) is

  pub gives : (k : ℕ) (log : List (Entry S Q A)) (e : Entry S Q A) (kept : Kept S Q A) (m n : Sat S Q A) → m ≡ holding k log → kept.entries.items ≡ log ++ e ∷ []
      → ((d : Entry S Q A) → kept.entries.items ≡ log_of m.0.stage ++ d ∷ [] → n ≡ (staged m.0 (Gave (ticket_of m.0.stage) d), [])) → n ≡ giving k e
  gives k log e kept m n is more told = told e (more ∙ ap (λ (x : Sat S Q A). log_of x.0.stage ++ e ∷ []) (sym is)) ∙ ap (λ (x : Sat S Q A). (staged x.0 (Gave (ticket_of x.0.stage) e), [])) is

  pub sits : (k : ℕ) (e : Entry S Q A) (m n : Sat S Q A) → m ≡ giving k e → n ≡ (record { terms = m.0.terms; lines = made m.0.stage m.0.lines; stage = Idle }, m.1) → n ≡ sitting k e
  sits k e m n is told = told ∙ ap (λ (x : Sat S Q A). (record { terms = x.0.terms; lines = made x.0.stage x.0.lines; stage = Idle }, x.1)) is

  -- between its calls again
  pub rests : (k : ℕ) (e : Entry S Q A) (m : Sat S Q A) → m ≡ sitting k e → m ≡ (view t (line number (left - 1) (calls_in m.0.lines) ∷ []) Idle, [])
  rests k e m is = is ∙ ap (λ (cs : List (Call Q A)). (view t (line number (left - 1) cs ∷ []) Idle, [])) (sym (ap (λ (x : Sat S Q A). calls_in x.0.lines) is))

  -- the seat's calls so far have lower places
  pub earlier : (k : ℕ) (since : List (Entry S Q A)) (m : Sat S Q A) → m ≡ turning k → Each (λ (l : Line S Q A). l.calls ≡ calls_from l.number (length t.past) since) m.0.lines → length t.past + length since ≡ k
      → All (λ (c : Call Q A). c.serial < k) calls
  earlier k since m is made count =
      let own = (subst (λ (x : Sat S Q A). Each (λ (l : Line S Q A). l.calls ≡ calls_from l.number (length t.past) since) x.0.lines) is made).0 in
      each_all (λ (c : Call Q A). c.serial < k) calls (subst (Each (λ (c : Call Q A). c.serial < k)) (sym own) (calls_earlier number (length t.past) k since count))

  -- what lies in the slot after an entry more
  pub fits_push : (after : S → Q → S) (log : List (Entry S Q A)) (old new : Kept S Q A) (e : Entry S Q A) → Fits after t log old → new.entries.items ≡ old.entries.items ++ e ∷ [] → new.state ≡ after old.state e.request
      → vec_capacity new.entries ≡ vec_capacity old.entries → Fits after t (log ++ e ∷ []) new
  fits_push after log old new e fits more state cap = let room = fits.room in record {
    entries = more ∙ ap (λ es. es ++ e ∷ []) fits.entries;
    state = state ∙ ap (λ s. after s e.request) fits.state ∙ sym (state_push after t.start log e);
    room = omega arith;
  }
