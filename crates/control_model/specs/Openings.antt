-- The plan of a script.
use Rattle.std.specs.Prelude.{ℕ, ◌+◌, ◌==◌, Bool, true, false, List, [], ◌∷◌, map, Option, None, if◌then◌else◌}
use Rattle.script_lines.specs.declared.line.Line.{Line}
use Rattle.script_lines.specs.declared.line.DeviceSpec.{DeviceSpec}
use Rattle.script_lines.specs.declared.line.DeviceSpec.TheVariants.{Net}
use Rattle.contact.specs.Classes.{offered_kind}
use Rattle.script_lines.specs.Parts.{offered, kind_of, ring_pages_of}
use Rattle.script_phases.specs.Agreed.{guest_in, host_in}
use Rattle.script_phases.specs.Says.{is_rescinded, vp_of}
use Rattle.script_phases.specs.Openings.{Opening as PhaseOpening, Phase, phases}
use Rattle.control_model.specs.declared.opening.Opening.{Opening}
use Rattle.control_model.specs.declared.planning.Fate.{Fate}
use Rattle.control_model.specs.Plan.{BusPlan, lists_with, pages_with, first_gpadl}

-- what the lines of a phase do to a device: they rescind it, and move it to another processor
abbrev pub fate_of : ℕ → List Line → Fate
fate_of device part = record { rescinded = is_rescinded device part; vp = vp_of device part }

-- a device is moved by its first channel
abbrev pub vp_at : Option ℕ → ℕ → Option ℕ
vp_at vp sub = if sub == 0 then vp else None

-- a network has buffers
abbrev pub has_buffers : DeviceSpec → Bool
has_buffers (Net mac station) = true
has_buffers spec = false

-- how many page lists the channel of a device has, and how many pages they have together
abbrev pub lists_for : PhaseOpening → ℕ
lists_for o = lists_with (has_buffers o.spec)

abbrev pub pages_for : (ℕ → ℕ) → PhaseOpening → ℕ
pages_for sizes o = pages_with (has_buffers o.spec) (sizes o.device)

-- the openings of a phase's channels, in order: handles and page numbers are given out one after the other, so none is used twice
abbrev pub openings_from : (ℕ → ℕ) → (ℕ → Fate) → ℕ → ℕ → List PhaseOpening → List Opening
openings_from sizes fates gpadl page [] = []
openings_from sizes fates gpadl page (o ∷ os) =
    record { relid = o.relid; sub = o.sub; ring_pages = sizes o.device; gpadl = gpadl; first_page = page; rescinded = (fates o.device).rescinded; vp = vp_at (fates o.device).vp o.sub; dialed = None; buffers = has_buffers o.spec }
    ∷ openings_from sizes fates (gpadl + lists_for o) (page + pages_for sizes o) os

abbrev pub lists_in : List PhaseOpening → ℕ
lists_in [] = 0
lists_in (o ∷ os) = lists_for o + lists_in os

abbrev pub pages_in : (ℕ → ℕ) → List PhaseOpening → ℕ
pages_in sizes [] = 0
pages_in sizes (o ∷ os) = pages_for sizes o + pages_in sizes os

-- those of all phases; a channel is rescinded at the end of a phase that rescinds its device, and moved to another processor in one that moves it
abbrev pub numbered : (ℕ → ℕ) → ℕ → ℕ → List Phase → List (List Opening)
numbered sizes gpadl page [] = []
numbered sizes gpadl page (p ∷ phases) =
    openings_from sizes (λ device. fate_of device p.part) gpadl page p.opened ∷ numbered sizes (gpadl + lists_in p.opened) (page + pages_in sizes p.opened) phases

-- the plan of a script's lines
abbrev pub plan_of : List Line → BusPlan
plan_of lines = record {
  guest = guest_in lines;
  host = host_in lines;
  kinds = map (λ spec. offered_kind (kind_of spec)) (offered lines);
  phases = numbered (λ d. ring_pages_of d lines) first_gpadl 0 (phases lines);
}
