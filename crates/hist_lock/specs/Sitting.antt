-- What a seat at the lock's table has between its calls, and in them.
use Rattle.std.specs.Prelude.{◌≡◌, ℕ, ◌<◌, List, [], ◌∷◌, ◌++◌, length, Option, None}
use mathlib.Core.Option.{some}
use lib.ListN.{get_elem?}
use Rattle.atomic_table.specs.Seated.{TableId}
use Rattle.hist_lock.specs.declared.history.Entry.{Entry}
use Rattle.hist_lock.specs.Seat.{Call}
use Rattle.hist_lock.specs.declared.view.Terms.{Terms}
use Rattle.hist_lock.specs.declared.view.Line.{Line}
use Rattle.hist_lock.specs.declared.view.Stage.{Stage}
use Rattle.hist_lock.specs.declared.view.Stage.TheVariants.{Idle, Holds}
use Rattle.hist_lock.specs.declared.view.View.{View}
use Rattle.hist_lock.specs.declared.view.Kept.{Kept}
use Rattle.hist_lock.specs.declared.view.Charter.{Charter}
use Rattle.hist_lock.specs.Legal.{state_after}
use Rattle.hist_lock.specs.Seat.{Lock, Seat}
use Rattle.hist_lock.specs.Rule.{view, line, Fits}
use Rattle.hist_lock.specs.Plays.{Sat, lines_from}

-- the seat is one of the lock's table
pub record IsAt (table seat : TableId) : Type 0 where
  pub same : seat ≡ table
  pub words : table.words ≡ 2
  pub slots : table.slots ≡ 1

module _ {S Q A : Type 0} where
  abbrev pub terms_of : (S → S) → Charter S Q A → Terms S Q A
  terms_of first key = record { quotas = key.quotas.value.items; start = first key.state.value; past = key.past.value.items }

  abbrev pub opened : Terms S Q A → View S Q A
  opened t = view t (lines_from 0 t.quotas) Idle

  abbrev pub lock_of : TableId → Terms S Q A → Lock S Q A
  lock_of name t = record { name = name; first = t.start; past = t.past; seats = length t.quotas }

  abbrev pub calls_in : List (Line S Q A) → List (Call Q A)
  calls_in [] = []
  calls_in (l ∷ ls) = l.calls

  -- the seats as a view has them
  abbrev pub lines_of : List (Seat S Q A) → List (Line S Q A)
  lines_of [] = []
  lines_of (s ∷ ss) = line s.number s.left s.calls ∷ lines_of ss

  -- one seat, at this stage of its call
  abbrev pub Sits : Terms S Q A → Stage S Q A → List (ℕ × Option (Kept S Q A)) → Sat S Q A → Type 0
  Sits t stage held me = (l : Line S Q A) × (me ≡ (view t (l ∷ []) stage, held))

  -- between its calls. The start is the first state of its own setup
  pub record IsSeated (first : S → S) (t : Terms S Q A) (table seat : TableId) (me : Sat S Q A) (number left : ℕ) : Type 0 where
    pub settled : first t.start ≡ t.start
    pub at : IsAt table seat
    pub idle : me ≡ (view t (line number left (calls_in me.0.lines) ∷ []) Idle, [])

  -- the seat has taken the slot at the ticket k, and this may lie in it when it gives the slot back
  pub record MayGive (after : S → Q → S) (reply_to : S → Q → A) (t : Terms S Q A) (kept : Kept S Q A) (me : Sat S Q A) : Type 0 where
    pub line : Line S Q A
    pub ticket : ℕ
    pub log : List (Entry S Q A)
    pub entry : Entry S Q A
    pub sits : me ≡ (view t (line ∷ []) (Holds ticket log), (0, None) ∷ [])
    pub seat : entry.seat ≡ line.number
    pub reply : entry.reply ≡ reply_to (state_after after t.start log) entry.request
    pub fits : Fits after t (log ++ entry ∷ []) kept

  -- the view has every seat, in order
  abbrev pub Covers : Terms S Q A → List (Line S Q A) → Type 0
  Covers t lines = (i : ℕ) → i < length t.quotas → (l : Line S Q A) × (get_elem? lines i ≡ some l) × (l.number ≡ i)
