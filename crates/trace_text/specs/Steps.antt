-- The text of a step.
use Rattle.std.specs.Prelude.{ℕ, ◌^◌, ◌++◌, nat_lt, List, codes, if◌then◌else◌}
use Rattle.std.specs.Fmt.{decimal}
use Rattle.io_edge.specs.declared.side.Side.{Side}
use Rattle.io_edge.specs.declared.side.Side.TheVariants.{Guest, Host}
use Rattle.ring_machine.specs.declared.place.Ring.{Ring}
use Rattle.ring_machine.specs.declared.place.Ring.TheVariants.{ToHost, ToGuest}
use Rattle.ring_machine.specs.declared.place.Place.{Place}
use Rattle.ring_machine.specs.declared.place.Place.TheVariants.{Write, Read, Mask, Pending, Feature, Cell, Signal, Mark, Page}
use Rattle.ring_machine.specs.declared.place.Op.{Op}
use Rattle.ring_machine.specs.declared.place.Op.TheVariants.{Load, Store, Raise, TakeSignal, StoreMark}
use Rattle.line_words.specs.Values.{hex_16}

abbrev pub side_text : Side → List ℕ
side_text Guest = codes "guest"
side_text Host = codes "host"

abbrev pub ring_text : Ring → List ℕ
ring_text ToHost = codes "tohost"
ring_text ToGuest = codes "toguest"

-- a value of 32 bits in decimal digits, and a greater one in sixteen hexadecimal digits
abbrev pub value_text : ℕ → List ℕ
value_text v = if nat_lt v (2 ^ 32) then decimal v else codes "0x" ++ hex_16 v

-- a word of a ring by its name, a mark by its end. A signal, and a word of a data page, is in no line of a trace
abbrev pub place_text : Place → List ℕ
place_text (Write r) = ring_text r ++ codes ".write"
place_text (Read r) = ring_text r ++ codes ".read"
place_text (Mask r) = ring_text r ++ codes ".mask"
place_text (Pending r) = ring_text r ++ codes ".pending"
place_text (Feature r) = ring_text r ++ codes ".feature"
place_text (Cell r at) = ring_text r ++ codes ".cell." ++ decimal at
place_text (Signal x) = side_text x ++ codes ".signal"
place_text (Mark x) = side_text x ++ codes ".mark"
place_text (Page q w) = codes "page." ++ decimal q ++ codes "." ++ decimal w

-- what the step does, and what it answered
abbrev pub op_text : Op → ℕ → List ℕ
op_text (Load p) v = codes "load " ++ place_text p ++ codes " " ++ value_text v
op_text (Store p w) v = codes "store " ++ place_text p ++ codes " " ++ value_text w
op_text (Raise x) v = codes "raise " ++ side_text x
op_text (TakeSignal x) v = codes "signal " ++ value_text v
op_text (StoreMark x) v = codes "store " ++ side_text x ++ codes ".mark 1"

-- the line of a step of this end, which answered v
abbrev pub step_text : Side → Op → ℕ → List ℕ
step_text x op v = codes "step " ++ side_text x ++ codes " " ++ op_text op v ++ codes "\n"
