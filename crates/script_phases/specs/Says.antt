-- What the lines of a phase say to its devices.
use Rattle.std.specs.Prelude.{ℕ, ◌==◌, Bool, List, [], ◌∷◌, Option, Some, None, slice_get, if◌then◌else◌}
use Rattle.std.specs.List.{flat_map, list_any}
use Rattle.script_lines.specs.declared.line.Ask.{Ask}
use Rattle.script_lines.specs.declared.line.Line.{Line}
use Rattle.script_lines.specs.Lines.{Says, Asks, Rescinds, Shuts, Modifies, said, is_rescind, is_close}

-- of what is said, what is said to this device
abbrev pub heard_by : ℕ → Option (ℕ × Says) → List Says
heard_by device None = []
heard_by device (Some s) = if s.0 == device then s.1 ∷ [] else []

-- what these lines say to a device, in order
abbrev pub said_to : ℕ → List Line → List Says
said_to device lines = flat_map (λ l. heard_by device (said l.what)) lines

-- what is asked, where something is
abbrev pub asked : Says → List Ask
asked (Asks ask) = ask ∷ []
asked (Rescinds after held) = []
asked Shuts = []
asked (Modifies vp) = []

-- where the service stops
abbrev pub stops : Says → List (ℕ × Bool)
stops (Asks ask) = []
stops (Rescinds after held) = (after, held) ∷ []
stops Shuts = []
stops (Modifies vp) = []

-- the processor that takes the interrupts of the first channel
abbrev pub moves : Says → List ℕ
moves (Asks ask) = []
moves (Rescinds after held) = []
moves Shuts = []
moves (Modifies vp) = vp ∷ []

-- the requests to a device, in order
abbrev pub asks_of : ℕ → List Line → List Ask
asks_of device lines = flat_map asked (said_to device lines)

-- after how many of them its service stops, and whether the answer to the last one is held; none where it goes on
abbrev pub stop_of : ℕ → List Line → Option (ℕ × Bool)
stop_of device lines = slice_get (flat_map stops (said_to device lines)) 0

-- the processor that these lines move the interrupts of its first channel to, where they move them
abbrev pub vp_of : ℕ → List Line → Option ℕ
vp_of device lines = slice_get (flat_map moves (said_to device lines)) 0

-- a line of these rescinds the device, or closes it
abbrev pub is_rescinded : ℕ → List Line → Bool
is_rescinded device lines = list_any is_rescind (said_to device lines)

abbrev pub is_shut : ℕ → List Line → Bool
is_shut device lines = list_any is_close (said_to device lines)
