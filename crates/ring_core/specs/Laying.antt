-- Page words that an end stores one after another, into the part of a page that goes along with a packet.
use Rattle.std.specs.Prelude.{◌≡◌, ℕ, ◌+◌, List, [], ◌∷◌, length, Option, Some, None}
use Rattle.page_kept.specs.declared.kept.Kept.{Kept}
use Rattle.page_kept.specs.Layouts.{Loan}
use Rattle.page_kept.specs.Stepped.{page_stored}
use Rattle.page_table.specs.Table.{part_in}
use Rattle.ring_machine.specs.declared.place.Op.TheVariants.{Store}
use Rattle.ring_machine.specs.declared.place.Place.TheVariants.{Page}
use Rattle.ring_machine.specs.declared.state.EndState.{EndState}
use Rattle.ring_machine.specs.PageCalls.{with_pages}
use Rattle.ring_core.specs.declared.told.Told.{Told}
use Rattle.ring_core.specs.PageRuns.{told_paged}
use Rattle.ring_core.specs.Told.{HeardJust, Memory, memory_after, Tale}

-- these words were stored, from the word w of page q on
abbrev pub stored_all : Kept → ℕ → ℕ → List ℕ → Kept
stored_all k q w [] = k
stored_all k q w (v ∷ vs) = stored_all (page_stored k q w v) q (w + 1) vs

-- these words were stored into the part of a page that goes along with packet p
abbrev pub laid_at : Kept → Option Loan → List ℕ → Kept
laid_at k None words = k
laid_at k (Some a) words = stored_all k a.page 0 words

abbrev pub laid : Kept → List ℕ → List ℕ → Kept
laid k p words = laid_at k (part_in k.owners p) words

-- what these stores make of a memory whose rings have d cells
abbrev pub memory_stored : ℕ → ℕ → ℕ → List ℕ → Memory → Memory
memory_stored d q w [] m = m
memory_stored d q w (v ∷ vs) m = memory_stored d q (w + 1) vs (memory_after d (Store (Page q w) v) m)

-- From the state s these words were stored into page q, from its first word on, and t is the state: one step a word. Where the seat tells its memory, each
-- word stands there. Where it tells its end's state, that is t. Where it tells what it heard, that are just the answers of these steps
pub record RanStores (s t : EndState) (q : ℕ) (words : List ℕ) (told told' : Option Told) (tale tale' : Tale) : Type 0 where
  pub values : List ℕ
  pub state : t ≡ with_pages s (stored_all s.pages q 0 words)
  pub each : length values ≡ length words
  pub silent : told ≡ None → told' ≡ None
  pub tells : (u : Told) → told ≡ Some u → told' ≡ Some (told_paged (length words) t u)
  pub runs : (m : Memory) → tale.memory ≡ Some m → tale'.memory ≡ Some (memory_stored s.machine.cells q 0 words m)
  pub hears : HeardJust tale tale' values
