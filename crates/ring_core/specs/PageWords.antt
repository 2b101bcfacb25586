-- The loops that store and load the words of a page, one step a word. They say nothing of an end's lists: what they leave is so for whatever lists and past the end has.
use Rattle.std.specs.Prelude.{◌≡◌, ℕ, ◌+◌, List, [], ◌∷◌, ◌++◌, length, Option, Some}
use Rattle.channel_trace.specs.declared.event.Event.{Event}
use Rattle.page_kept.specs.Items.{values}
use Rattle.page_kept.specs.declared.due.Due.TheVariants.{Clear}
use Rattle.page_kept.specs.declared.page_call.PageCall.TheVariants.{Off, LoadWords}
use Rattle.page_table.specs.Table.{Table, word_of}
use Rattle.ring_core.specs.Laying.{RanStores, stored_all}
use Rattle.ring_core.specs.PageRuns.{RanPages}
use Rattle.ring_core.specs.Pages.{Paged, kept_of, resting_in}
use Rattle.ring_core.specs.Told.{Tale}
use Rattle.ring_core.specs.declared.told.Told.{Told}
use Rattle.ring_machine.specs.declared.end_core.EndCore.{EndCore}
use Rattle.ring_machine.specs.declared.machine.Stage.TheVariants.{Idle}
use Rattle.ring_machine.specs.declared.state.EndState.{EndState}

-- where a seat tells its end's state, that is this one
abbrev pub TellsAs : Option Told → EndState → Type 0
TellsAs told s = (u : Told) → told ≡ Some u → u.state ≡ s

-- The seat, the machine and the table are of one channel, and the end is between two calls: where the seat tells its state, with some lists and some past
pub record Rests {S : Type 0} (cells_of pages_of : S → ℕ) (told : S → Option Told) (seat : S) (core : EndCore) (t : Table) : Type 0 where
  pub idle : core.machine.stage ≡ Idle
  pub off : core.pages.call ≡ Off
  pub fits : cells_of seat ≡ core.machine.cells
  pub pages : pages_of seat ≡ core.pages.count
  pub count : length t.owners ≡ core.pages.count
  pub sent : Paged
  pub got : Paged
  pub past : List (Event (List ℕ))
  pub stands : TellsAs (told seat) (resting_in core.machine core.pages sent got past t)

-- these words were stored into page q, from its first word on, and into the copy
pub record StoresWords {S : Type 0} (told : S → Option Told) (tale : S → Tale) (seat seat' : S) (core : EndCore) (t t' : Table) (q : ℕ) (words : List ℕ) : Type 0 where
  pub ran : (sent got : Paged) (past : List (Event (List ℕ))) → TellsAs (told seat) (resting_in core.machine core.pages sent got past t)
      → RanStores (resting_in core.machine core.pages sent got past t) (resting_in core.machine core.pages sent got past t') q words (told seat) (told seat') (tale seat) (tale seat')
  pub pages : (sent got : Paged) → kept_of core.pages sent got t' ≡ stored_all (kept_of core.pages sent got t) q 0 words
  pub table : (t'.owners ≡ t.owners) × (t'.counts ≡ t.counts)

-- n words of page q were loaded, that were due, and stand in the copy: once they stand with the packet that was taken last, the call has ended
pub record LoadsWords {S : Type 0} (told : S → Option Told) (tale : S → Tale) (seat seat' : S) (core core' : EndCore) (t t' : Table) (q n : ℕ) : Type 0 where
  pub ran : (sent got got' : Paged) (past : List (Event (List ℕ))) → TellsAs (told seat) (resting_in core.machine core.pages sent got past t)
      → length got.list ≡ length got.lent + 1 → got'.list ≡ got.list → got'.lent ≡ got.lent ++ values n (word_of t'.copy q) ∷ []
      → RanPages (resting_in core.machine core.pages sent got past t) (resting_in core'.machine core'.pages sent got' past t') (LoadWords q n 0) (told seat) (told seat') (tale seat) (tale seat')
  pub machine : core'.machine ≡ core.machine
  pub clear : (core'.pages.due ≡ Clear) × (core'.pages.call ≡ Off) × (core'.pages.count ≡ core.pages.count)
  pub table : (t'.owners ≡ t.owners) × (t'.counts ≡ t.counts)
