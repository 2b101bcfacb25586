-- Numbers that are given out.
use Rattle.std.specs.Prelude.{◌≡◌, ◌<◌, ◌^◌, ◌+◌, ◌%◌, ℕ, List, [], ◌∷◌, map, All}
use Rattle.hist_lock.specs.declared.history.Entry.{Entry}
use Rattle.hist_lock.specs.declared.view.Call.{Call}
use Rattle.hist_lock.specs.Calls.{calls_from}

-- the number behind so many from a first one on: behind the last one of 32 bits comes 0
abbrev pub behind : ℕ → ℕ → ℕ
behind first many = (first + many) % 2 ^ 32

-- each entry got its numbers right behind those of the one before
abbrev pub InTurn : {S : Type 0} → ℕ → List (Entry S ℕ ℕ) → Type 0
InTurn next [] = Unit {0}
InTurn next (e ∷ es) = (e.reply ≡ next) × InTurn (behind next e.request) es

-- what a seat asked, in order
abbrev pub asked : List (Call ℕ ℕ) → List ℕ
asked calls = map (λ c. c.request) calls

-- a history of two seats from the first number on: each seat asked just this, in this order, and all got their numbers in turn
pub record GivenTo {S : Type 0} (one other : List ℕ) (entries : List (Entry S ℕ ℕ)) : Type 0 where
  pub turns : InTurn 0 entries
  pub first : asked (calls_from 0 0 entries) ≡ one
  pub second : asked (calls_from 1 0 entries) ≡ other
  pub both : All (λ (e : Entry S ℕ ℕ). e.seat < 2) entries
