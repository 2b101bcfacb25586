-- What a script's reader keeps of the lines before, so that no line is looked at twice.
use Rattle.std.specs.Prelude.{ℕ, ◌≡◌, ◌≤◌, Bool, List, [], ◌∷◌, length, Some, IfSome, slice_get}
use Rattle.std.specs.List.{list_all, flat_map}
use Rattle.std.specs.Option.{option_map_or}
use Rattle.script_lines.specs.declared.line.Line.{Line}
use Rattle.script_lines.specs.declared.line.What.{What}
use Rattle.script_lines.specs.declared.bad_place.BadPlace.{BadPlace}
use Rattle.script_lines.specs.declared.draft.Seen.{Seen}
use Rattle.script_lines.specs.Lines.{bad_block, set_as}
use Rattle.script_lines.specs.Parts.{is_settings, asks_in, this_part, phases_over, offered, names, channels, has_ring, has_window, rescinded_in, closed_in, modified_here}
use Rattle.script_lines.specs.Faults.{is_now}
use Rattle.script_lines.specs.WellFormed.{IsScript}

-- what the lines say of a device
pub record IsSeen (lines : List Line) (device : ℕ) (seen : Seen) : Type 0 where
  pub spec : slice_get (offered lines) device ≡ Some seen.spec
  pub ring : seen.ring ≡ has_ring device lines
  pub window : seen.window ≡ has_window device lines
  pub rescinded : seen.rescinded ≡ rescinded_in device lines
  pub closed : seen.closed ≡ closed_in device lines
  pub modified : is_now (phases_over lines) seen.modified ≡ modified_here device lines
  pub by_now : IfSome seen.modified (λ p. p ≤ phases_over lines)

-- the bad blocks that lines say, in order
abbrev pub places_by : What → List BadPlace
places_by what = option_map_or (λ s. record { device = s.0; lba = s.1 } ∷ []) (set_as bad_block what) []

abbrev pub places : List Line → List BadPlace
places lines = flat_map (λ l. places_by l.what) lines

-- the devices' names, the bad blocks, what the lines say of each, and the counts are those of the lines
pub record Keeps (lines : List Line) (keys : List (List ℕ)) (seen : List Seen) (count asks phase : ℕ) (settings : Bool) (bad : List BadPlace) : Type 0 where
  pub script : IsScript lines
  pub names : keys ≡ names lines
  pub bad_places : bad ≡ places lines
  pub many : length seen ≡ length (offered lines)
  pub each : (device : ℕ) (s : Seen) → slice_get seen device ≡ Some s → IsSeen lines device s
  pub channels : count ≡ channels lines
  pub asked : asks ≡ asks_in (this_part lines)
  pub over : phase ≡ phases_over lines
  pub all_settings : settings ≡ list_all (λ l. is_settings l.what) lines
