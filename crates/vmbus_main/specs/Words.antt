-- The commands that words name.
use Rattle.std.specs.Prelude.{ℕ, ◌≡◌, ◌≤◌, ◌^◌, ◌-◌, ◌%◌, ◌==◌, ◌&&◌, List, [], ◌∷◌, codes, Option, Some, None, Vec, if◌then◌else◌}
use Rattle.std.specs.declared.alloc.Global.{Global}
use Rattle.std.specs.Str.{bytes_eq}
use Rattle.script_text.specs.Forms.{is_decimal, number_of, in_u64, within}
use Rattle.vmbus_main.specs.declared.command.Command.{Command}
use Rattle.vmbus_main.specs.declared.command.Command.TheVariants.{Input, Load}
use Rattle.vmbus_main.specs.declared.command.InputCommand.TheVariants.{Run, Decode, Trace, Hostile, Sock}

-- the table of commands of one word
abbrev pub named : List ℕ → Option Command
named word =
    if bytes_eq word (codes "run") then Some (Input Run) else
    if bytes_eq word (codes "decode") then Some (Input Decode) else
    if bytes_eq word (codes "trace") then Some (Input Trace) else
    if bytes_eq word (codes "hostile") then Some (Input Hostile) else None

-- a port that is in its range
abbrev pub sock_of : Option ℕ → Option Command
sock_of (Some port) = Some (Input (Sock port))
sock_of None = None

-- PORT, behind sock: a number of 32 bits
abbrev pub sock_row : List ℕ → Option Command
sock_row port = if is_decimal port then sock_of (within 0 (2 ^ 32 - 1) (in_u64 (number_of port))) else None

-- a seed and a count that are in their ranges, where the count is even
abbrev pub load_of : Option ℕ → Option ℕ → Option Command
load_of (Some seed) (Some count) = if count % 2 == 0 then Some (Load seed count) else None
load_of (Some seed) None = None
load_of None count = None

-- SEED COUNT, behind load: a number of 32 bits, and one from 2 to 8,192
abbrev pub load_row : List ℕ → List ℕ → Option Command
load_row seed count =
    if is_decimal seed && is_decimal count then load_of (within 0 (2 ^ 32 - 1) (in_u64 (number_of seed))) (within 2 8192 (in_u64 (number_of count))) else None

-- the command that the program's words name
abbrev pub command_of : List (Vec ℕ Global) → Option Command
command_of [] = None
command_of (word ∷ []) = named word.items
command_of (word ∷ port ∷ []) = if bytes_eq word.items (codes "sock") then sock_row port.items else None
command_of (word ∷ seed ∷ count ∷ []) = if bytes_eq word.items (codes "load") then load_row seed.items count.items else None
command_of (word ∷ one ∷ two ∷ three ∷ words) = None

-- a load's count is even, from 2 to 8,192
abbrev pub HasCount : Command → Type 0
HasCount (Input command) = Unit {0}
HasCount (Load seed count) = (count % 2 ≡ 0) × (2 ≤ count) × (count ≤ 8192)

-- the words are none of a command that reads an input
abbrev pub ReadsNothing : Option Command → Type 0
ReadsNothing None = Unit {0}
ReadsNothing (Some (Input command)) = ⊥
ReadsNothing (Some (Load seed count)) = Unit {0}
