-- A page list that is being assembled, as the numbers that C sees and the pages that it keeps.
use Rattle.std.specs.Prelude.{ℕ, ◌==◌, ◌<◌, ◌≤◌, List, [], ◌∷◌, ◌++◌, take, Option, Some, None, nat_lt, if◌then◌else◌}
use Rattle.vmbus_msg.specs.declared.msg.Msg.{Msg}
use Rattle.vmbus_msg.specs.declared.msg.Msg.TheVariants.{GpadlHeader}
use Rattle.vmbus_msg.specs.Pages.{pages_of}
use Rattle.gpadl.specs.Assembly.{Partial, Assembly}
use Rattle.gpadl.specs.declared.fault.GpadlFault.{GpadlFault}
use Rattle.gpadl.specs.declared.fault.GpadlFault.TheVariants.{Count, Handle, Repeat, Range, Memory}
use Rattle.vmbus_fault.specs.declared.fault.VmbusFault.{VmbusFault}
use Rattle.vmbus_control_c.specs.declared.page_list.VmbusPageList.{VmbusPageList}

-- the numbers are those of a list: it is whole, or is being built where there is room for all its pages
abbrev pub IsList : VmbusPageList → ℕ → Type 0
IsList l room = (l.have ≤ l.want) × (l.want ≤ 8190) × (l.have < l.want → l.want ≤ room)

-- what came of it
abbrev pub list_of : VmbusPageList → List ℕ → Partial
list_of l pages = record { relid = l.relid; handle = l.gpadl; want = l.want; pages = take l.have pages }

-- the list that is being built: none where all of it came
abbrev pub building_of : VmbusPageList → List ℕ → Option Partial
building_of l pages = if nat_lt l.have l.want then Some (list_of l pages) else None

-- the list that is being built, beside the live ones
abbrev pub assembly_of : VmbusPageList → List ℕ → List ℕ → Assembly
assembly_of l pages live = record { building = building_of l pages; live = live }

-- the live lists after an answer: where the list is whole (0) it is one of them
abbrev pub lives_after : ℕ → VmbusPageList → List ℕ → List ℕ
lives_after a l live = if a == 0 then live ++ l.gpadl ∷ [] else live

-- how many pages a message needs room for: a header all those of its list, and a body none
abbrev pub needs : Msg → ℕ
needs (GpadlHeader h) = pages_of h.range_buflen
needs _ = 0

-- the number of a refusal
abbrev pub number_of : GpadlFault → ℕ
number_of (Repeat id) = 3
number_of (Handle id) = 4
number_of (Range value) = 5
number_of (Count want have) = 6
number_of Memory = 7

-- its numbers
abbrev pub told_of : GpadlFault → VmbusFault
told_of (Repeat id) = record { have = 0; need = 0; field = 0; value = id }
told_of (Handle id) = record { have = 0; need = 0; field = 0; value = id }
told_of (Range value) = record { have = 0; need = 0; field = 0; value = value }
told_of (Count want have) = record { have = have; need = want; field = 0; value = 0 }
told_of Memory = record { have = 0; need = 0; field = 0; value = 0 }

-- so many pages have room, and so many are needed
abbrev pub no_room : ℕ → ℕ → VmbusFault
no_room have need = record { have = have; need = need; field = 0; value = 0 }
