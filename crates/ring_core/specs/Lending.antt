-- What a send asks of the lists and the pages of an end of a channel with data pages.
use Rattle.std.specs.Prelude.{◌≡◌, ℕ, ◌<◌, ◌≤◌, List, Some, slice_index_or}
use Rattle.page_kept.specs.Counts.{count, is_done, is_ask}
use Rattle.page_kept.specs.Layouts.{Loan}
use Rattle.page_kept.specs.declared.owner.Owner.{Owner}
use Rattle.page_kept.specs.declared.owner.Owner.TheVariants.{Away, Has}
use Rattle.page_table.specs.Table.{named_in}
use Rattle.pkt_desc.specs.Packets.{id_of}

-- a completion answers a request that was taken and isn't completed
abbrev pub Answers : List (List ℕ) → List (List ℕ) → List ℕ → Type 0
Answers sent got p = count (is_done (id_of p)) sent < count (is_ask (id_of p)) got

-- the end has the page that a request names, and all earlier requests of its id are completed
abbrev pub Asks : List Owner → List (List ℕ) → List (List ℕ) → List ℕ → Type 0
Asks owners sent got p = (a : Loan) → named_in owners p ≡ Some a → (slice_index_or owners a.page Away ≡ Has) × (count (is_ask (id_of p)) sent ≤ count (is_done (id_of p)) got)
