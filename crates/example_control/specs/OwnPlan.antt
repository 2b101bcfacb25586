-- The plan of a bus with one disk.
use Rattle.std.specs.Prelude.{ℕ, false, [], ◌∷◌, None}
use Rattle.contact.specs.Versions.{version}
use Rattle.contact.specs.declared.version.Version.{Version}
use Rattle.contact.specs.declared.kind.Kind.TheVariants.{Disk}
use Rattle.control_model.specs.declared.opening.Opening.{Opening}
use Rattle.control_model.specs.Plan.{BusPlan, first_gpadl}

abbrev pub five_two : Version
five_two = record { 0 = version 5 2 }

-- its channel is opened on rings of so many data pages, and closed
abbrev pub disk_opening : ℕ → Opening
disk_opening ring_pages = record { relid = 1; sub = 0; ring_pages = ring_pages; gpadl = first_gpadl; first_page = 0; rescinded = false; vp = None; dialed = None; buffers = false }

-- both ends have 5.2, and in the one phase the disk's channel is opened
abbrev pub disk_plan : ℕ → BusPlan
disk_plan ring_pages = record { guest = five_two; host = five_two; kinds = Disk ∷ []; phases = (disk_opening ring_pages ∷ []) ∷ [] }
