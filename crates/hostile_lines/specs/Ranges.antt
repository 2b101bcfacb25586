-- The ranges of what lines say, beside rings of d bytes of data.
use Rattle.std.specs.Prelude.{◌≡◌, ◌≤◌, ◌<◌, ◌+◌, ◌*◌, ◌/◌, ◌%◌, ℕ, List, length, Option, IfSome}
use Rattle.ring_core.specs.declared.told_mem.Change.{Change}
use Rattle.ring_machine.specs.Places.{IsPlaceOf}
use Rattle.ring_machine.specs.Endings.{IsWant}
use Rattle.hostile_lines.specs.declared.command.EndCall.{EndCall}
use Rattle.hostile_lines.specs.declared.command.EndCall.TheVariants.{Send, Take, Commit, Arm, Poll}
use Rattle.hostile_lines.specs.declared.command.Command.{Command}
use Rattle.hostile_lines.specs.declared.command.Command.TheVariants.{Call, Show, Table, Accept, Complete, Gpadl, Packet, Vstor}
use Rattle.hostile_lines.specs.declared.command.CommandLine.{CommandLine}
use Rattle.hostile_lines.specs.declared.command.Put.{Put}
use Rattle.hostile_lines.specs.declared.said.Said.{Said}
use Rattle.hostile_lines.specs.declared.said.Said.TheVariants.{Nothing, Ring as Rings, Set, Before, Long, Asks}

-- a ring has 1 to 16 pages, where a line says how many
abbrev pub IsPages : Option ℕ → Type 0
IsPages ring = IfSome ring (λ pages. (1 ≤ pages) × (pages ≤ 16))

-- a word of the channel, and one that changes before one of the first million steps
abbrev pub IsPutIn : ℕ → Put → Type 0
IsPutIn d p = IsPlaceOf (d / 8) 0 p.place

abbrev pub IsChangeIn : ℕ → Change → Type 0
IsChangeIn d c = IsPlaceOf (d / 8) 0 c.place × (1 ≤ c.step) × (c.step ≤ 1000000)

-- a packet has two words at least, and fits into its ring with its trailer; a want is that of a packet that fits
abbrev pub IsCallIn : ℕ → EndCall → Type 0
IsCallIn d (Send n) = (2 ≤ n) × (8 * n + 8 < d)
IsCallIn d Take = Unit {0}
IsCallIn d Commit = Unit {0}
IsCallIn d (Arm want) = IsWant (d / 8) want
IsCallIn d Poll = Unit {0}

abbrev pub IsCommandIn : ℕ → Command → Type 0
IsCommandIn d (Call c) = IsCallIn d c
IsCommandIn d (Show r at) = (at % 8 ≡ 0) × (at < d)
IsCommandIn d (Table n) = (1 ≤ n) × (n ≤ 64)
IsCommandIn d Accept = Unit {0}
IsCommandIn d (Complete t) = Unit {0}
IsCommandIn d (Gpadl b) = length b ≤ 512
IsCommandIn d (Packet b) = (length b % 8 ≡ 0) × (16 ≤ length b) × (length b ≤ 512)
IsCommandIn d (Vstor b) = length b ≤ 512

abbrev pub IsLineIn : ℕ → CommandLine → Type 0
IsLineIn d l = IsCommandIn d l.command

abbrev pub IsSaidIn : ℕ → Said → Type 0
IsSaidIn d Nothing = Unit {0}
IsSaidIn d (Rings pages) = IsPages pages
IsSaidIn d (Set put) = IfSome put (IsPutIn d)
IsSaidIn d (Before change) = IfSome change (IsChangeIn d)
IsSaidIn d Long = Unit {0}
IsSaidIn d (Asks command) = IfSome command (IsCommandIn d)
