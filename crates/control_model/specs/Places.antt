-- Where the openings of a phase stand, by which they are found.
use Rattle.std.specs.Prelude.{ℕ, ◌+◌, ◌-◌, ◌==◌, Bool, false, List, slice_get, if◌then◌else◌, Option, Some, None}
use Rattle.control_model.specs.declared.opening.Opening.{Opening}
use Rattle.control_model.specs.Plan.{is_of_sub}

-- where the opening with a place in closing order stands among a phase's openings: a sub-channel one place later, and a device's first channel where the device
-- begins
abbrev pub sub_at : Option Opening → ℕ
sub_at None = 0
sub_at (Some o) = o.sub

abbrev pub closing_place : List Opening → ℕ → ℕ
closing_place os place = if is_of_sub (slice_get os (place + 1)) then place + 1 else place - sub_at (slice_get os place)

-- a device's first channel stands at a place of these openings
abbrev pub is_of_first : Option Opening → Bool
is_of_first None = false
is_of_first (Some o) = o.sub == 0

abbrev pub is_first_at : List Opening → ℕ → Bool
is_first_at os place = is_of_first (slice_get os place)
