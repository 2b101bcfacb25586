-- The rule of the lock's table. Word 0 is the next ticket, word 1 the one that is served, and the slot has the state and the history.
use Rattle.std.specs.Prelude.{◌≡◌, ℕ, ◌+◌, ◌^◌, ◌<◌, ◌≤◌, List, [], ◌∷◌, ◌++◌, length, sum, Option, Some, vec_capacity}
use mathlib.Core.Option.{some}
use lib.ListN.{get_elem?}
use Rattle.atomic_table.specs.Table.{State}
use Rattle.hist_lock.specs.declared.history.Entry.{Entry}
use Rattle.hist_lock.specs.Seat.{Call}
use Rattle.hist_lock.specs.declared.view.Terms.{Terms}
use Rattle.hist_lock.specs.declared.view.Line.{Line}
use Rattle.hist_lock.specs.declared.view.Stage.{Stage}
use Rattle.hist_lock.specs.declared.view.Stage.TheVariants.{Idle, Waits, Turn, Holds, Gave, Ended}
use Rattle.hist_lock.specs.declared.view.View.{View}
use Rattle.hist_lock.specs.declared.view.Kept.{Kept}
use Rattle.hist_lock.specs.Legal.{state_after, IsLegal}
use Rattle.hist_lock.specs.Calls.{calls_from}

-- where the slot is: at home, out with a view, or home again with the entry of a view that is still served
pub data Spot (E : Type 0) : Type 0 where
  free : Spot E
  out : ℕ → Spot E
  given : ℕ → E → Spot E

abbrev pub late : {E : Type 0} → Spot E → List E
late free = []
late (out j) = []
late (given j e) = e ∷ []

-- the ticket k is out, and stands in the view j
pub record HasTicket (ticket serving : ℕ) (holder : ℕ → ℕ) (j k : ℕ) : Type 0 where
  pub here : holder k ≡ j
  pub from : serving ≤ k
  pub below : k < ticket

-- the facts that all views agree on
pub record LockFacts (E : Type 0) : Type 0 where
  pub ticket : ℕ
  pub serving : ℕ
  -- the entries after the past ones, of calls that were served
  pub since : List E
  pub spot : Spot E
  -- the view of each seat, and of each ticket that is out
  pub owner : ℕ → ℕ
  pub holder : ℕ → ℕ

-- f of each, added up
abbrev pub total : {X : Type 0} → (X → ℕ) → List X → ℕ
total f [] = 0
total f (x ∷ xs) = f x + total f xs

-- P of each
abbrev pub Each : {X : Type 0} → (X → Type 0) → List X → Type 0
Each P [] = Unit {0}
Each P (x ∷ xs) = P x × Each P xs

module _ {S Q A : Type 0} where
  abbrev pub limit : Terms S Q A → ℕ
  limit t = length t.past + sum t.quotas

  abbrev pub view : Terms S Q A → List (Line S Q A) → Stage S Q A → View S Q A
  view t lines stage = record { terms = Some t; lines = lines; stage = stage }

  abbrev pub line : ℕ → ℕ → List (Call Q A) → Line S Q A
  line number left calls = record { number = number; left = left; calls = calls }

  -- the calls that a view may still begin
  abbrev pub lefts : View S Q A → ℕ
  lefts v = total (λ (l : Line S Q A). l.left) v.lines

  abbrev pub IsOut : Stage S Q A → Type 0
  IsOut (Holds k xs) = Unit {0}
  IsOut (Ended xs) = Unit {0}
  IsOut _ = ⊥

  abbrev pub HasGiven : Stage S Q A → Type 0
  HasGiven (Gave k e) = Unit {0}
  HasGiven _ = ⊥

  -- the ticket n stands in a view at this stage
  abbrev pub Carries : ℕ → Stage S Q A → Type 0
  Carries n (Waits k) = k ≡ n
  Carries n (Turn k) = k ≡ n
  Carries n (Holds k xs) = k ≡ n
  Carries n (Gave k e) = k ≡ n
  Carries n _ = ⊥

  -- and in the view j
  abbrev pub IsOutAt : List (View S Q A) → ℕ → ℕ → Type 0
  IsOutAt views j n = (v : View S Q A) × (get_elem? views j ≡ some v) × Carries n v.stage

  abbrev pub IsOne : List (Line S Q A) → Type 0
  IsOne lines = (l : Line S Q A) × (lines ≡ l ∷ [])

  -- what the slot has while it is at home, and what a seat takes out of it
  pub record Fits (after : S → Q → S) (t : Terms S Q A) (log : List (Entry S Q A)) (k : Kept S Q A) : Type 0 where
    pub entries : k.entries.items ≡ log
    pub state : k.state ≡ state_after after t.start log
    pub room : limit t ≤ vec_capacity k.entries

  abbrev pub IsHome : (S → Q → S) → Terms S Q A → List (Entry S Q A) → State (Option (Kept S Q A)) (View S Q A) → Type 0
  IsHome after t log s = (k : Kept S Q A) × (get_elem? s.homes 0 ≡ some (some (Some k))) × Fits after t log k

  abbrev pub Stands : (S → Q → S) → Terms S Q A → List (Entry S Q A) → Spot (Entry S Q A) → State (Option (Kept S Q A)) (View S Q A) → Type 0
  Stands after t log free s = IsHome after t log s
  Stands after t log (out j) s = (v : View S Q A) × (get_elem? s.views j ≡ some v) × IsOut v.stage
  Stands after t log (given j e) s = IsHome after t (log ++ e ∷ []) s × ((v : View S Q A) × (get_elem? s.views j ≡ some v) × HasGiven v.stage)

  -- the seat stands in the view j, and its calls are its entries
  pub record Owned (t : Terms S Q A) (since : List (Entry S Q A)) (owner : ℕ → ℕ) (j : ℕ) (l : Line S Q A) : Type 0 where
    pub here : owner l.number ≡ j
    pub below : l.number < length t.quotas
    pub made : l.calls ≡ calls_from l.number (length t.past) since

  abbrev pub IsServed : LockFacts (Entry S Q A) → ℕ → List (Line S Q A) → ℕ → Spot (Entry S Q A) → Type 0
  IsServed p j lines k spot = IsOne lines × HasTicket p.ticket p.serving p.holder j k × (k ≡ p.serving) × (p.spot ≡ spot)

  abbrev pub IsStaged : Terms S Q A → LockFacts (Entry S Q A) → ℕ → List (Line S Q A) → Stage S Q A → Type 0
  IsStaged t p j lines Idle = Unit {0}
  IsStaged t p j lines (Waits k) = IsOne lines × HasTicket p.ticket p.serving p.holder j k
  IsStaged t p j lines (Turn k) = IsServed p j lines k free
  IsStaged t p j lines (Holds k xs) = IsServed p j lines k (out j) × (xs ≡ t.past ++ p.since)
  IsStaged t p j lines (Gave k e) = IsServed p j lines k (given j e) × ((l : Line S Q A) × (lines ≡ l ∷ []) × (e.seat ≡ l.number))
  IsStaged t p j lines (Ended xs) = (p.spot ≡ out j) × ((i : ℕ) → i < length t.quotas → p.owner i ≡ j)

  -- what is so of each view
  pub record Knows (t : Terms S Q A) (p : LockFacts (Entry S Q A)) (j : ℕ) (v : View S Q A) : Type 0 where
    pub lines : Each (Owned t p.since p.owner j) v.lines
    pub stage : IsStaged t p j v.lines v.stage

  pub record Rule (after : S → Q → S) (reply_to : S → Q → A) (t : Terms S Q A) (s : State (Option (Kept S Q A)) (View S Q A)) : Type 0 where
    pub plan : LockFacts (Entry S Q A)
    pub some_seat : 0 < length t.quotas
    pub few : limit t < 2 ^ 32
    pub words : s.words ≡ plan.ticket ∷ plan.serving ∷ []
    pub order : plan.serving ≤ plan.ticket
    pub count : length t.past + length plan.since ≡ plan.serving
    pub room : plan.ticket + total lefts s.views ≡ limit t
    pub legal : IsLegal after reply_to t.start ((t.past ++ plan.since) ++ late plan.spot)
    pub numbered : Each (λ (e : Entry S Q A). e.seat < length t.quotas) (plan.since ++ late plan.spot)
    pub tickets : (k : ℕ) → plan.serving ≤ k → k < plan.ticket → IsOutAt s.views (plan.holder k) k
    pub stands : Stands after t (t.past ++ plan.since) plan.spot s
    pub knows : (j : ℕ) (v : View S Q A) → get_elem? s.views j ≡ some v → Knows t plan j v
