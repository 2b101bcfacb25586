-- The phases of a script, and the channels that each of them opens.
use Rattle.std.specs.Prelude.{ℕ, zero, suc, ◌+◌, ◌==◌, Bool, not, ◌&&◌, ◌||◌, is_some, List, [], ◌∷◌, ◌++◌, length, filter, slice_get, if◌then◌else◌}
use Rattle.script_lines.specs.declared.line.DeviceSpec.{DeviceSpec}
use Rattle.script_lines.specs.declared.line.Line.{Line}
use Rattle.script_lines.specs.Parts.{parts, offered}
pub use Rattle.script_lines.specs.Parts.{subs_of}
use Rattle.script_phases.specs.Says.{said_to, is_rescinded, is_shut}
use Rattle.script_phases.specs.Agreed.{agreed_in}

-- a channel that a phase opens: its relid, its device, what that is, and its number among the device's channels
pub record Opening : Type 0 where
  pub relid : ℕ
  pub device : ℕ
  pub spec : DeviceSpec
  pub sub : ℕ

-- a phase: the version that both ends agreed on, its number, the lines of the earlier ones, its own, and the channels that it opens, in that order
pub record Phase : Type 0 where
  pub version : ℕ
  pub number : ℕ
  pub earlier : List Line
  pub part : List Line
  pub opened : List Opening

-- an earlier phase rescinded the device, or closed it
abbrev pub is_ended : ℕ → List Line → Bool
is_ended device earlier = is_rescinded device earlier || is_shut device earlier

-- a device is opened in a phase whose lines speak to it, unless an earlier phase ended it
abbrev pub is_opened : List Line → List Line → ℕ → Bool
is_opened earlier part device = not (is_ended device earlier) && is_some (slice_get (said_to device part) 0)

-- so many sub-channels of a device, from this one on; they take the next relids
abbrev pub subs_from : ℕ → DeviceSpec → ℕ → ℕ → ℕ → List Opening
subs_from device spec sub relid zero = []
subs_from device spec sub relid (suc n) = record { relid = relid; device = device; spec = spec; sub = sub } ∷ subs_from device spec (sub + 1) (relid + 1) n

-- the channels of a device: the first one, which was offered in the device's place (relids count from 1), and its sub-channels, which are offered together
-- and then opened in order
abbrev pub channels_from : ℕ → DeviceSpec → ℕ → List Opening
channels_from device spec next = record { relid = device + 1; device = device; spec = spec; sub = 0 } ∷ subs_from device spec 1 next (subs_of spec)

-- those of the devices from this one on, in order of offer, where this relid is the next one
abbrev pub opened_from : (ℕ → Bool) → ℕ → ℕ → List DeviceSpec → List Opening
opened_from opened device next [] = []
opened_from opened device next (spec ∷ specs) =
    if opened device then channels_from device spec next ++ opened_from opened (device + 1) (next + subs_of spec) specs else opened_from opened (device + 1) next specs

-- the first channels of devices, and the others
abbrev pub is_first : Opening → Bool
is_first o = o.sub == 0

abbrev pub firsts : List Opening → List Opening
firsts os = filter is_first os

abbrev pub others : List Opening → List Opening
others os = filter (λ o. not (is_first o)) os

-- in order of their relids: all first channels were offered before
abbrev pub by_relid : List Opening → List Opening
by_relid os = firsts os ++ others os

-- the phases of this version from this number on, behind these lines, where this relid is the next one
abbrev pub phases_from : ℕ → List DeviceSpec → ℕ → ℕ → List Line → List (List Line) → List Phase
phases_from version specs number next earlier [] = []
phases_from version specs number next earlier (part ∷ rest) =
    let opened = opened_from (is_opened earlier part) 0 next specs in
    record { version = version; number = number; earlier = earlier; part = part; opened = opened } ∷ phases_from version specs (number + 1) (next + length (others opened)) (earlier ++ part) rest

abbrev pub phases : List Line → List Phase
phases lines = phases_from (agreed_in lines) (offered lines) 0 (length (offered lines) + 1) [] (parts lines)
