-- What an end keeps of its pages, by its machine, its packets and its table.
use Rattle.std.specs.Prelude.{◌≡◌, ◌≢◌, ℕ, ◌*◌, ◌==◌, Bool, true, cond, List, [], ◌∷◌, length, replicate, Option, Some, None}
use Rattle.channel_trace.specs.declared.event.Event.{Event}
use Rattle.io_edge.specs.declared.side.Side.{Side}
use Rattle.page_kept.specs.declared.item.Item.{Item}
use Rattle.page_kept.specs.Items.{item_of, values}
use Rattle.page_kept.specs.Kept.{pages_sent}
use Rattle.page_kept.specs.Layouts.{layout}
use Rattle.page_kept.specs.declared.due.Due.{Due}
use Rattle.page_kept.specs.declared.due.Due.TheVariants.{Clear, Loads}
use Rattle.page_kept.specs.declared.kept.Kept.{Kept}
use Rattle.page_kept.specs.declared.page_call.PageCall.TheVariants.{Off}
use Rattle.page_table.specs.declared.loan.Loan.{Loan as Part}
use Rattle.page_table.specs.Table.{Table, first_owners, word_of}
use Rattle.ring_machine.specs.declared.machine.EndMachine.{EndMachine}
use Rattle.ring_machine.specs.declared.state.EndState.{EndState}
use Rattle.ring_machine.specs.States.{resting_with}
use Rattle.ring_machine.specs.declared.page_core.PageCore.{PageCore}

-- packets, and the page words that went along with each, as far as these came
pub record Paged : Type 0 where
  pub list : List (List ℕ)
  pub lent : List (List ℕ)

-- each packet with its page words, as far as these came
abbrev pub items_of : List (List ℕ) → List (List ℕ) → List Item
items_of [] ws = []
items_of (p ∷ ps) [] = []
items_of (p ∷ ps) (w ∷ ws) = item_of p w ∷ items_of ps ws

abbrev pub kept_of : PageCore → Paged → Paged → Table → Kept
kept_of k sent got t = record { count = k.count; sent = items_of sent.list sent.lent; got = items_of got.list got.lent; owners = t.owners; copy = t.copy; due = k.due; call = k.call }

-- an end between two calls, by its machine, what that knows of the pages, its lists, its past and its table
abbrev pub resting_in : EndMachine → PageCore → Paged → Paged → List (Event (List ℕ)) → Table → EndState
resting_in m k sent got past t = resting_with m sent.list got.list past (kept_of k sent got t)

-- the pages of a new end
abbrev pub first_kept : Side → ℕ → Kept
first_kept x c = record { count = c; sent = []; got = []; owners = first_owners x c; copy = replicate (512 * c) 0; due = Clear; call = Off }

-- nothing is due, where there are pages
abbrev pub IsClear : Kept → Type 0
IsClear k = k.count ≢ 0 → k.due ≡ Clear

-- one packet is there whose page words are still to be loaded
abbrev pub owed : Due → ℕ
owed Clear = 0
owed (Loads q n j) = 1

-- none of the words that are due is loaded yet
abbrev pub is_whole : Due → Bool
is_whole Clear = true
is_whole (Loads q n j) = j == 0

-- the page words of the item that stands last
abbrev pub last_words : List Item → List ℕ
last_words [] = []
last_words (i ∷ []) = i.words
last_words (i ∷ j ∷ is) = last_words (j ∷ is)

-- how many page words go along with a packet that is sent
abbrev pub along : Kept → List ℕ → ℕ
along k p = cond (k.count == 0) 0 (length (last_words (pages_sent (layout k.count) k p).sent))

-- the words of a part of a page, in this copy; and how many they are
abbrev pub part_words : List ℕ → Option Part → List ℕ
part_words copy None = []
part_words copy (Some a) = values a.words (word_of copy a.page)

abbrev pub part_len : Option Part → ℕ
part_len None = 0
part_len (Some a) = a.words
