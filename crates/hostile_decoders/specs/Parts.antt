-- What lines ask of the parts beside an end.
use Rattle.std.specs.Prelude.{◌≡◌, ◌⊎◌, ◌≤◌, ℕ, ◌-◌, ◌++◌, List, [], length, replicate, codes, Option, Some, None, IsSome, slice_set}
use Rattle.std.specs.List.{All}
use Rattle.std.specs.Fmt.{decimal}
use Rattle.ring_machine.specs.declared.place.Ring.{Ring}
use Rattle.txn_table.specs.Open.{request_of}
use Rattle.gpadl.specs.Assembly.{Assembly}
use Rattle.hostile_lines.specs.declared.command.Command.{Command}
use Rattle.hostile_lines.specs.declared.command.Command.TheVariants.{Call, Show, Table, Accept, Complete, Gpadl, Packet, Vstor}
use Rattle.hostile_decoders.specs.Lists.{SaysPages}
use Rattle.hostile_decoders.specs.Packets.{packet_text}
use Rattle.hostile_decoders.specs.Storage.{SaysVstor}

-- the line that opened the request of each id, where one is open, and the page lists
pub record Held : Type 0 where
  pub table : List (Option ℕ)
  pub lists : Assembly

abbrev pub with_table : Held → List (Option ℕ) → Held
with_table s table = record { table = table; lists = s.lists }

-- a table has 1 to 64 ids, and a packet two words at least
abbrev pub IsPartIn : Command → Type 0
IsPartIn (Call c) = Unit {0}
IsPartIn (Show r at) = Unit {0}
IsPartIn (Table n) = (1 ≤ n) × (n ≤ 64)
IsPartIn Accept = Unit {0}
IsPartIn (Complete id) = Unit {0}
IsPartIn (Gpadl b) = Unit {0}
IsPartIn (Packet b) = 16 ≤ length b
IsPartIn (Vstor b) = Unit {0}

-- a request is opened under some id that was free
pub record Accepts (number : ℕ) (s t : Held) (said : List ℕ) : Type 0 where
  pub id : ℕ
  pub within : (1 ≤ id) × (id ≤ length s.table)
  pub free : request_of s.table id ≡ None
  pub opens : t ≡ with_table s (slice_set s.table (id - 1) (Some number))
  pub says : said ≡ codes "id " ++ decimal id

-- a request is open under each id
pub record IsFull (s t : Held) (said : List ℕ) : Type 0 where
  pub all : All IsSome s.table
  pub same : t ≡ s
  pub says : said ≡ codes "table full " ++ decimal (length s.table)

abbrev pub SaysAccept : ℕ → Held → Held → List ℕ → Type 0
SaysAccept number s t said = Accepts number s t said ⊎ IsFull s t said

-- the request of an id is closed, where one is open
abbrev pub SaysClosed : Option ℕ → ℕ → Held → Held → List ℕ → Type 0
SaysClosed (Some line) id s t said = (t ≡ with_table s (slice_set s.table (id - 1) None)) × (said ≡ codes "completed")
SaysClosed None id s t said = (t ≡ s) × (said ≡ codes "unknown " ++ decimal id)

abbrev pub SaysComplete : ℕ → Held → Held → List ℕ → Type 0
SaysComplete id s t said = SaysClosed (request_of s.table id) id s t said

-- what a line asks, what it leaves, and what is said
abbrev pub Says : ℕ → Command → Held → Held → List ℕ → Type 0
Says number (Call c) s t said = (t ≡ s) × (said ≡ [])
Says number (Show r at) s t said = (t ≡ s) × (said ≡ [])
Says number (Table n) s t said = (t ≡ with_table s (replicate n None)) × (said ≡ codes "table " ++ decimal n)
Says number Accept s t said = SaysAccept number s t said
Says number (Complete id) s t said = SaysComplete id s t said
Says number (Gpadl b) s t said = SaysPages b s.lists t.lists said × (t.table ≡ s.table)
Says number (Packet b) s t said = (t ≡ s) × (said ≡ packet_text b)
Says number (Vstor b) s t said = (t ≡ s) × SaysVstor b said
