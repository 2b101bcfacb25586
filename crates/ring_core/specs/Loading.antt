-- What a load of page words leaves.
use Rattle.std.specs.Prelude.{◌≡◌, ◌≢◌, ℕ, ◌+◌, ◌≤◌, List, [], ◌∷◌, ◌++◌, length, Option}
use Rattle.page_kept.specs.Items.{item_of}
use Rattle.ring_machine.specs.PageCalls.{newest}
use Rattle.ring_core.specs.Pages.{last_words}
use Rattle.page_kept.specs.declared.due.Due.TheVariants.{Clear, Loads as DueLoads}
use Rattle.page_kept.specs.declared.page_call.PageCall.TheVariants.{LoadWords}
use Rattle.ring_core.specs.declared.told.Told.{Told}
use Rattle.ring_core.specs.PageRuns.{RanPages}
use Rattle.ring_core.specs.Seen.{Seen, KeptByPages}
use Rattle.ring_core.specs.Told.{Tale}

-- n words of page q were due: they are loaded, kept with the packet that was taken last, and nothing is due any more
pub record LoadsAll (S : Type 0) (told : S → Option Told) (tale : S → Tale) (q n : ℕ) (old new : Seen S) : Type 0 where
  pub ran : RanPages old.state new.state (LoadWords q n 0) (told old.seat) (told new.seat) (tale old.seat) (tale new.seat)
  pub clear : new.state.pages.due ≡ Clear
  pub long : length (last_words new.state.pages.got) ≡ n
  pub room : (old.spare_got.packets ≤ new.spare_got.packets + 1) × (old.spare_got.words ≤ new.spare_got.words + n)

-- what is due, at most 512 words of a page of which none is loaded yet, is loaded; and nothing is done where nothing is due
pub record Loads (S : Type 0) (told : S → Option Told) (tale : S → Tale) (same : S → S → Type 0) (old new : Seen S) : Type 0 where
  pub none : old.state.pages.due ≡ Clear → new ≡ old
  pub all : (q n j : ℕ) → old.state.pages.due ≡ DueLoads q n j → (j ≡ 0) × (n ≤ 512) × LoadsAll S told tale q n old new
  pub items : old.state.pages.due ≢ Clear → new.state.pages.got ≡ old.state.pages.got ++ item_of (newest old.state.got) (last_words new.state.pages.got) ∷ []
  pub kept : KeptByPages old new
  pub same_seat : same old.seat new.seat

-- the words that a load lends are those that it kept: none where none were due
pub record LendsKept {S : Type 0} (old new : Seen S) (words : List ℕ) : Type 0 where
  pub none : old.state.pages.due ≡ Clear → words ≡ []
  pub all : old.state.pages.due ≢ Clear → words ≡ last_words new.state.pages.got
