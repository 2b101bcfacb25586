-- How many requests of each id are open, one way.
use Rattle.std.specs.Prelude.{◌≡◌, ℕ, ◌+◌, ◌-◌, ◌^◌, ◌<◌, Bool, false, cond, ◌&&◌, ◌==◌, nat_eq, List, ◌∷◌, None, unwrap_or}
use Rattle.std.specs.Map.{lookup}
use Rattle.page_kept.specs.Counts.{count, is_ask, is_done}
use Rattle.page_table.specs.declared.balance.Balance.{Balance}
use Rattle.page_table.specs.declared.touched.Touched.{Touched}

-- as many requests as completions
abbrev pub even : Balance
even = record { unanswered = 0; unasked = 0 }

abbrev pub is_even : Balance → Bool
is_even b = (b.unanswered == 0) && (b.unasked == 0)

-- the balance of so many requests against so many completions
abbrev pub IsBalance : ℕ → ℕ → Balance → Type 0
IsBalance asks dones b = (b.unanswered ≡ asks - dones) × (b.unasked ≡ dones - asks)

-- what is kept of an id: an id that isn't kept is even
abbrev pub balance_of : List (ℕ × Balance) → ℕ → Balance
balance_of es t = unwrap_or (lookup (nat_eq t) es) even

-- of each id the requests among the first packets, which went one way, against the completions among the second ones, which came the other way
abbrev pub IsCounted : List (ℕ × Balance) → List (List ℕ) → List (List ℕ) → Type 0
IsCounted es asks dones = (t : ℕ) → IsBalance (count (is_ask t) asks) (count (is_done t) dones) (balance_of es t)

-- n more packets can be counted
abbrev pub IsWithin : List (ℕ × Balance) → ℕ → Type 0
IsWithin es n = (t : ℕ) → ((balance_of es t).unanswered + n < 2 ^ 64) × ((balance_of es t).unasked + n < 2 ^ 64)

-- what is kept of all ids, where the one that was touched last stands beside the others
abbrev pub entries_with : List (ℕ × Balance) → Touched → List (ℕ × Balance)
entries_with es l = cond (is_even l.balance) es ((l.tid, l.balance) ∷ es)

-- of n places that are free those that stay free once it goes to the others
abbrev pub free_beside : ℕ → Balance → ℕ
free_beside n b = n - cond (is_even b) 0 1

-- it stands beside them alone, there is a place for it, and so many packets more can be counted
pub record IsKept (es : List (ℕ × Balance)) (free : ℕ) (l : Touched) (left : ℕ) : Type 0 where
  pub apart : lookup (nat_eq l.tid) es ≡ None
  pub place : is_even l.balance ≡ false → 0 < free
  pub within : IsWithin (entries_with es l) left

-- the ids that aren't even, and for how many packets there is room, whatever their ids are
pub record Counted : Type 0 where
  pub entries : List (ℕ × Balance)
  pub room : ℕ

-- The balances of an end, both ways: the requests that it sent, and those that it took; and for how many packets more there is room
pub record Counts : Type 0 where
  pub sent : List (ℕ × Balance)
  pub took : List (ℕ × Balance)
  pub room : ℕ

-- both are the balances of an end that sent and took these packets
abbrev pub AreCounted : Counts → List (List ℕ) → List (List ℕ) → Type 0
AreCounted c xs ys = IsCounted c.sent xs ys × IsCounted c.took ys xs
