-- What the top call says of its input and its output.
use Rattle.std.specs.Prelude.{ℕ, ◌≡◌, ◌⊎◌, ◌≤◌, ◌<◌, List, length, Option, Some, None}
use Rattle.script_text.specs.declared.fault.ScriptFault.{ScriptFault}
use Rattle.script_text.specs.declared.fault.Why6.TheVariants.{Limit}
use Rattle.io_edge.specs.Edge.{HoldsWhole, IsLonger, GaveMore, IsAtEnd, Grows, GrowsByFront}
use Rattle.bus_model.specs.declared.channel_run.ChannelRun.{ChannelRun}
use Rattle.device_kinds.specs.declared.history.DeviceHistory.{DeviceHistory}
use Rattle.vmbus_main.specs.declared.command.Command.{Command}
use Rattle.vmbus_main.specs.declared.command.Command.TheVariants.{Input, Load}
use Rattle.vmbus_main.specs.declared.outcome.Controls.{Controls}
use Rattle.vmbus_main.specs.Answer.{IsAnswer, IsLoadAnswer, IsFault}

-- the most bytes of an input
abbrev pub most_bytes : ℕ
most_bytes = 1048576

-- the whole input, as far as the source tells it
pub record IsInput (left : Option (List ℕ)) (input : List ℕ) : Type 0 where
  pub whole : HoldsWhole left input
  pub short : length input ≤ most_bytes

-- the input's first wrong line, or that the source went on past the last byte
abbrev pub IsRefused : Option Command → Option (List ℕ) → ScriptFault → Type 0
IsRefused None left fault = ⊥
IsRefused (Some (Load seed count)) left fault = ⊥
IsRefused (Some (Input command)) left fault =
    ((input : List ℕ) × IsInput left input × IsFault command input fault)
    ⊎ (IsLonger left most_bytes × (fault ≡ record { line = 0; why = Limit }))

-- the input was read to its end, or past the last byte that one may have
abbrev pub IsReadThrough : Option ScriptFault → Option (List ℕ) → Option (List ℕ) → Type 0
IsReadThrough fault left rest =
    IsAtEnd rest ⊎ ((fault ≡ Some (record { line = 0; why = Limit })) × GaveMore left rest most_bytes)

-- what a command answers: on its whole input, or on none where it reads nothing
abbrev pub Answers : Command → Option (List ℕ) → Option Controls → List ChannelRun → List DeviceHistory → List ℕ → Type 0
Answers (Input command) left controls settled histories output = (input : List ℕ) × IsInput left input × IsAnswer command input controls settled histories output
Answers (Load seed count) left controls settled histories output = IsLoadAnswer seed count controls settled histories output

-- the whole answer of the command was written
abbrev pub IsWritten : Option Command → Option (List ℕ) → Option (List ℕ) → Option (List ℕ) → Option Controls → List ChannelRun → List DeviceHistory → Type 0
IsWritten named left old new controls settled histories =
    (command : Command) × (output : List ℕ) × (named ≡ Some command) × Answers command left controls settled histories output × Grows old new output

-- a front of the answer was written
abbrev pub IsWrittenInPart : Option Command → Option (List ℕ) → Option (List ℕ) → Option (List ℕ) → Option Controls → List ChannelRun → List DeviceHistory → Type 0
IsWrittenInPart named left old new controls settled histories =
    (command : Command) × (output : List ℕ) × (named ≡ Some command) × Answers command left controls settled histories output × GrowsByFront old new output

-- a source that tells its bytes has an input of the command, in form; a command that reads nothing needs none
abbrev pub TellsInput : Option Command → Option (List ℕ) → Type 0
TellsInput None left = ⊥
TellsInput (Some (Load seed count)) left = Unit {0}
TellsInput (Some (Input command)) None = ⊥
TellsInput (Some (Input command)) (Some left) = (length left ≤ most_bytes) × ((fault : ScriptFault) → IsFault command left fault → ⊥)

-- a source that tells its bytes has one that is refused
abbrev pub TellsRefused : Option Command → Option (List ℕ) → Type 0
TellsRefused None left = ⊥
TellsRefused (Some (Load seed count)) left = ⊥
TellsRefused (Some (Input command)) None = ⊥
TellsRefused (Some (Input command)) (Some left) = (most_bytes < length left) ⊎ ((fault : ScriptFault) × IsFault command left fault)
