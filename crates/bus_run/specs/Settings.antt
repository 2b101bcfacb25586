-- What the lines of a script set of its devices' channels.
use Rattle.std.specs.Prelude.{ℕ, ◌≡◌, ◌<◌, ◌≤◌, List, length, slice_index_or}
use Rattle.script_lines.specs.Parts.{ring_pages_of, window_of}
use Rattle.script_lines.specs.declared.line.Line.{Line}
use Rattle.bus_run.specs.declared.settings.Settings.{Settings}

-- what the lines set of the channels of a device
abbrev pub settings_of : List Line → ℕ → Settings
settings_of lines device = record { pages = ring_pages_of device lines; window = window_of device lines }

-- where no line sets anything
abbrev pub unset : Settings
unset = record { pages = 1; window = 4 }

-- each ring has 1 to 16 pages of data, and 1 to 64 requests of a channel can be open
pub record HasLimits (s : Settings) : Type 0 where
  pub some_pages : 1 ≤ s.pages
  pub few_pages : s.pages ≤ 16
  pub some_open : 1 ≤ s.window
  pub few_open : s.window ≤ 64

-- these are the settings of so many devices, as the lines say
pub record SettingsOf (lines : List Line) (devices : ℕ) (settings : List Settings) : Type 0 where
  pub count : length settings ≡ devices
  pub each : (k : ℕ) → k < devices → slice_index_or settings k unset ≡ settings_of lines k
