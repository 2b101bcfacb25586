-- Page calls: a store of one page word, and a load of the words that a packet lends. The calls of the rings aren't among them.
use Rattle.std.specs.Prelude.{◌≡◌, ◌⊎◌, ℕ, ◌-◌, ◌≤◌, Bool, true, false, ◌||◌, ◌&&◌, ltb, leb, List, Option, Some, None, slice_index_or, length, []}
use Rattle.page_kept.specs.declared.due.Due.{Due}
use Rattle.page_kept.specs.declared.due.Due.TheVariants.{Clear, Loads}
use Rattle.page_kept.specs.declared.kept.Kept.{Kept}
use Rattle.page_kept.specs.declared.page_call.PageCall.{PageCall}
use Rattle.page_kept.specs.declared.page_call.PageCall.TheVariants.{Off, StoreWord, LoadWords}
use Rattle.page_kept.specs.Layouts.{layout}
use Rattle.page_kept.specs.Keepers.{MayStore}
use Rattle.page_kept.specs.Stepped.{call_fed, with_call, page_fed}
use Rattle.ring_machine.specs.declared.machine.Stage.{Stage}
use Rattle.ring_machine.specs.declared.machine.Stage.TheVariants.{Idle}
use Rattle.ring_machine.specs.declared.machine.EndMachine.{EndMachine}
use Rattle.ring_machine.specs.declared.page_core.PageCore.{PageCore}
use Rattle.ring_machine.specs.declared.state.EndState.{EndState}
use Rattle.ring_machine.specs.declared.place.Place.TheVariants.{Page}
use Rattle.ring_machine.specs.declared.place.Op.{Op}
use Rattle.ring_machine.specs.declared.place.Op.TheVariants.{Load, Store}
use Rattle.ring_machine.specs.Steps.{is_busy_at, next_of}

-- a page call is under way
abbrev pub is_paging : PageCall → Bool
is_paging Off = false
is_paging _ = true

-- a call of the rings or a page call is under way
abbrev pub is_under_way : Stage → PageCall → Bool
is_under_way st c = is_busy_at st || is_paging c

-- the step of a page call: it stores its word, or loads the next one
abbrev pub page_op : PageCall → Option Op
page_op Off = None
page_op (StoreWord q w v) = Some (Store (Page q w) v)
page_op (LoadWords q n j) = Some (Load (Page q j))

-- the next step of the rings, or else of the page call
abbrev pub or_else : Option Op → Option Op → Option Op
or_else (Some op) other = Some op
or_else None other = other

abbrev pub next_in : EndMachine → PageCall → List ℕ → Option Op
next_in m c p = or_else (next_of m p) (page_op c)

-- the load of all that is due
abbrev pub load_of : Due → PageCall
load_of Clear = Off
load_of (Loads q n j) = LoadWords q n j

-- a page call, and what is due, of a channel of c pages
abbrev pub is_call_of : ℕ → PageCall → Bool
is_call_of c Off = true
is_call_of c (StoreWord q w v) = ltb q c && ltb w 512
is_call_of c (LoadWords q n j) = ltb q c && (ltb j n && leb n 512)

-- What an end's machine knows of its pages fits: a page call is one of the channel's, and begins where no other call is under way
pub record PagesFit (k : PageCore) (st : Stage) : Type 0 where
  pub count : k.count ≤ 128
  pub call : is_call_of k.count k.call ≡ true
  pub due : is_call_of k.count (load_of k.due) ≡ true
  pub idle : is_paging k.call ≡ true → st ≡ Idle

-- no page call is under way, and nothing is due
pub record IsQuiet (k : PageCore) : Type 0 where
  pub off : k.call ≡ Off
  pub clear : k.due ≡ Clear

abbrev pub core_pages : ℕ → PageCore
core_pages c = record { count = c; call = Off; due = Clear }

-- a page word is to be stored
abbrev pub page_store_begun : PageCore → ℕ → ℕ → ℕ → PageCore
page_store_begun k q w v = record { count = k.count; call = StoreWord q w v; due = k.due }

-- all that is due is to be loaded
abbrev pub lent_load_begun : PageCore → PageCore
lent_load_begun k = record { count = k.count; call = load_of k.due; due = Clear }

-- a take left these words to load
abbrev pub owes : PageCore → ℕ → ℕ → PageCore
owes k q n = record { count = k.count; call = k.call; due = Loads q n 0 }

-- after a step
abbrev pub pages_fed : PageCore → PageCore
pages_fed k = record { count = k.count; call = call_fed k.call; due = k.due }

-- the packet that was got last
abbrev pub newest : List (List ℕ) → List ℕ
newest ps = slice_index_or ps (length ps - 1) []

-- the end's state with other pages
abbrev pub with_pages : EndState → Kept → EndState
with_pages s k = record { machine = s.machine; packet = s.packet; copied = s.copied; sent = s.sent; got = s.got; past = s.past; pages = k }

-- the same state, with this page call under way
abbrev pub paged : EndState → PageCall → EndState
paged s c = with_pages s (with_call c s.pages)

-- the state after a step of its page call that answered v
abbrev pub after_page : EndState → ℕ → EndState
after_page s v = with_pages s (page_fed s.pages.call s.pages (newest s.got) v)

-- a page call that begins: a store of a word that may be stored, by an end that isn't marked, or a load of all that is due
abbrev pub BeginsPage : EndState → PageCall → Type 0
BeginsPage s Off = ⊥
BeginsPage s (StoreWord q w v) = (s.machine.stage ≡ Idle) × (s.pages.call ≡ Off) × (s.machine.marked ≡ false) × MayStore (layout s.pages.count) s.machine.side s.pages q w
BeginsPage s (LoadWords q n j) = (s.machine.stage ≡ Idle) × (s.pages.call ≡ Off) × (s.pages.due ≡ Loads q n j)

-- a page call goes on from the state s, or begins there
abbrev pub ContinuesPage : EndState → PageCall → Type 0
ContinuesPage s c = (c ≡ s.pages.call) ⊎ BeginsPage s c
