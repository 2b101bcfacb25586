-- Laws of phases and their channels.
use Rattle.std.specs.Prelude.{ℕ, ◌≡◌, ◌≤◌, ◌+◌, ◌/◌, ◌%◌, ◌==◌, Bool, true, List, length, map, filter, Some, slice_get}
use Rattle.std.specs.List.{AllByRecursion, flat_map, range_with_len}
use Rattle.script_lines.specs.declared.line.DeviceSpec.{DeviceSpec}
use Rattle.script_lines.specs.declared.line.Line.{Line}
use Rattle.script_lines.specs.Parts.{channels_of, offered}
use Rattle.script_phases.specs.Openings.{Opening, opened_from, firsts, others, by_relid, phases}
use Rattle.script_phases.specs.Shares.{share}

-- the request with number n of a device with so many channels stands at place n / many of channel n % many
abbrev pub Deals : Type 0 → Type 0
Deals X = (xs : List X) (many n : ℕ) → 1 ≤ many → slice_get (share many (n % many) 0 xs) (n / many) ≡ slice_get xs n

-- a device that a phase opens has all its channels there: as many as its requests are dealt to
abbrev pub AllSeats : Type 0
AllSeats = (opened : ℕ → Bool) (next device : ℕ) (specs : List DeviceSpec) (spec : DeviceSpec) → slice_get specs device ≡ Some spec → opened device ≡ true
    → length (filter (λ o. o.device == device) (by_relid (opened_from opened 0 next specs))) ≡ channels_of spec

-- the first channel of a device has the relid that it was offered with, in each phase
abbrev pub OfferedRelids : Type 0
OfferedRelids = (opened : ℕ → Bool) (next : ℕ) (specs : List DeviceSpec) → AllByRecursion (λ o. o.relid ≡ o.device + 1) (firsts (opened_from opened 0 next specs))

-- the sub-channels that the phases of a script open, phase by phase
abbrev pub later_channels : List Line → List Opening
later_channels lines = flat_map (λ p. others p.opened) (phases lines)

-- they have the relids behind those of the offers, one after the other: so none is used twice
abbrev pub NextRelids : Type 0
NextRelids = (lines : List Line) → map (λ o. o.relid) (later_channels lines) ≡ range_with_len (length (offered lines) + 1) (length (later_channels lines))
