-- What the lines of a phase say to its devices, as the plan keeps it.
use Rattle.std.specs.Prelude.{ℕ, ◌≡◌, ◌<◌, Bool, List, ◌++◌, length, map, Option, Some, None, is_some, slice_get, slice_index_or}
use Rattle.std.specs.List.{flat_map, list_any}
use Rattle.chan_state.specs.declared.stop.Stop.{Stop}
use Rattle.script_lines.specs.declared.line.Line.{Line}
use Rattle.script_lines.specs.declared.line.What.{What}
use Rattle.script_lines.specs.Lines.{Says, Asks, Rescinds, Shuts, Modifies, said, is_close}
use Rattle.script_phases.specs.Says.{heard_by, said_to, asked, stops, moves}
use Rattle.phase_plan.specs.declared.device_line.DeviceLine.{DeviceLine}
use Rattle.phase_plan.specs.declared.device_line.DeviceLine.TheVariants.{Asks as LineAsks, Rescinds as LineRescinds, Shuts as LineShuts, Modifies as LineModifies}
use Rattle.phase_plan.specs.declared.device_lines.DeviceLines.{DeviceLines}

-- after how many requests, and whether nothing goes back for the last of them
abbrev pub stop_told : Option Stop → Option (ℕ × Bool)
stop_told None = None
stop_told (Some s) = Some (s.after, s.held)

abbrev pub says_told : DeviceLine → Says
says_told (LineAsks ask) = Asks ask.now
says_told (LineRescinds s) = Rescinds s.after s.held
says_told LineShuts = Shuts
says_told (LineModifies vp) = Modifies vp

abbrev pub said_told : Option (ℕ × DeviceLine) → Option (ℕ × Says)
said_told None = None
said_told (Some s) = Some (s.0, says_told s.1)

-- this is all that was said to a device: its requests, the first stop, whether it is closed, the first processor that it is moved to, and whether anything was said
pub record IsTold (said : List Says) (d : DeviceLines) : Type 0 where
  pub asks : map (λ a. a.now) d.asks.items ≡ flat_map asked said
  pub stop : stop_told d.stop ≡ slice_get (flat_map stops said) 0
  pub closed : d.is_closed ≡ list_any is_close said
  pub vp : d.vp ≡ slice_get (flat_map moves said) 0
  pub named : d.is_named ≡ is_some (slice_get said 0)

-- each device has what these lines say to it
abbrev pub AreDealt : List Line → List DeviceLines → Type 0
AreDealt part devices = (k : ℕ) (d : DeviceLines) → k < length devices → IsTold (said_to k part) (slice_index_or devices k d)

-- one more line is dealt
pub record DealsOn (what : What) (old new : List DeviceLines) : Type 0 where
  pub count : length new ≡ length old
  pub each : (k : ℕ) (d : DeviceLines) (ss : List Says) → k < length old → IsTold ss (slice_index_or old k d) → IsTold (ss ++ heard_by k (said what)) (slice_index_or new k d)
