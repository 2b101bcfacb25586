-- What the numbers that a caller keeps show of an end's pages.
use Rattle.std.specs.Prelude.{◌≡◌, ℕ, ◌+◌, ◌≤◌, ◌<◌, ◌==◌, cond, List, [], ◌∷◌, length}
use Rattle.io_edge.specs.declared.side.Side.{Side}
use Rattle.page_kept.specs.declared.kept.Kept.{Kept}
use Rattle.page_kept.specs.declared.due.Due.{Due}
use Rattle.page_kept.specs.declared.due.Due.TheVariants.{Clear, Loads}
use Rattle.page_kept.specs.Keepers.{Keeper, keeper, MayStore, asked, taken, ended, back}
use Rattle.page_kept.specs.Layouts.{layout}
use Rattle.page_kept.specs.Stepped.{page_stored, page_loaded}
use Rattle.page_call_plan.specs.Ends.{PageEnd}
use Rattle.page_call_plan.specs.Ids.{IdSlot, ids_in}
use Rattle.page_call_plan.specs.Slots.{PageSlot, owners_of}

-- the words that are to be loaded, of which none is loaded
abbrev pub due_of : PageEnd → Due
due_of e = cond (e.due_words == 0) Clear (Loads e.due_page e.due_words 0)

-- the part in its channel's pages of the end s that keeps k and took these packets
abbrev pub part_of : Side → List (List ℕ) → Kept → Keeper
part_of s got k = keeper (layout k.count) s got k

-- The end s, which keeps k and took these packets, has as many pages as there are slots, with just these owners, and just these words to load. Of each id, no more of its own requests
-- are open than `asks` has, whatever completions came, and as many of its peer's requests are owed as `owed` has
pub record Shows (s : Side) (got : List (List ℕ)) (k : Kept) (e : PageEnd) (ss : List PageSlot) (asks owed : List IdSlot) : Type 0 where
  pub count : k.count ≡ length ss
  pub owners : k.owners ≡ owners_of ss
  pub due : k.due ≡ due_of e
  pub asks_of : (t : ℕ) → asked t (part_of s got k) ≤ back t (part_of s got k) + ids_in t asks
  pub owed_of : (t : ℕ) → taken t (part_of s got k) ≡ ended t (part_of s got k) + ids_in t owed

-- of each id just as many requests are open as `asks` has, as beside a peer that completes none twice
abbrev pub IsExact : Side → List (List ℕ) → Kept → List IdSlot → Type 0
IsExact s got k asks = (t : ℕ) → asked t (part_of s got k) ≡ back t (part_of s got k) + ids_in t asks

-- each of n words from w on may be stored to
abbrev pub MayStoreAll : Side → Kept → ℕ → ℕ → ℕ → Type 0
MayStoreAll s k q w n = (i : ℕ) → w ≤ i → i < w + n → MayStore (layout k.count) s k q i

-- the end after it stored these words from w on, and after it loaded these words that were due, where packet p was taken last
abbrev pub stores : Kept → ℕ → ℕ → List ℕ → Kept
stores k q w [] = k
stores k q w (v ∷ vs) = stores (page_stored k q w v) q (w + 1) vs

abbrev pub loads : Kept → List ℕ → List ℕ → Kept
loads k p [] = k
loads k p (v ∷ vs) = loads (page_loaded k p v) p vs
