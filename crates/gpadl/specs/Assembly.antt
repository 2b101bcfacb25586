-- Page lists that come in pieces.
use Rattle.std.specs.Prelude.{◌≡◌, ℕ, ◌-◌, ◌*◌, ◌<◌, ◌==◌, ◌||◌, Bool, false, List, [], ◌∷◌, ◌++◌, length, Option, Some, None, is_some, nat_lt, if◌then◌else◌}
use Rattle.std.specs.List.{list_any}
use Rattle.vmbus_msg.specs.declared.msg.Msg.{Msg}
use Rattle.vmbus_msg.specs.declared.msg.Msg.TheVariants.{GpadlHeader, GpadlBody}
use Rattle.vmbus_msg.specs.declared.gpadl_header.GpadlHeader.{GpadlHeader as Header}
use Rattle.vmbus_msg.specs.declared.gpadl_body.GpadlBody.{GpadlBody as Body}
use Rattle.vmbus_msg.specs.Pages.{pages_of}
use Rattle.gpadl.specs.declared.fault.GpadlFault.{GpadlFault}
use Rattle.gpadl.specs.declared.fault.GpadlFault.TheVariants.{Count, Handle, Repeat, Range, Memory}
use Rattle.gpadl.specs.declared.progress.Progress.{Progress}
use Rattle.gpadl.specs.declared.progress.Progress.TheVariants.{More, Done}

-- a list that is being built: how many pages it has, and those that came
pub record Partial : Type 0 where
  pub relid : ℕ
  pub handle : ℕ
  pub want : ℕ
  pub pages : List ℕ

-- the list that is being built, if one is, and the handles of the live ones
pub record Assembly : Type 0 where
  pub building : Option Partial
  pub live : List ℕ

-- a list with the handle is live
abbrev pub is_live : List ℕ → ℕ → Bool
is_live live handle = list_any (λ h. h == handle) live

-- a list with the handle is being built
abbrev pub is_built : Option Partial → ℕ → Bool
is_built None handle = false
is_built (Some p) handle = p.handle == handle

-- the fault of a range that isn't one of whole pages
abbrev pub range_fault : Header → Option GpadlFault
range_fault h =
    if h.byte_offset == 0 then (if h.byte_count == 4096 * pages_of h.range_buflen then None else Some (Range h.byte_count)) else
    Some (Range h.byte_offset)

-- a header is refused where its handle is known, another list is being built, or its range isn't one of whole pages
abbrev pub header_fault : Assembly → Header → Option GpadlFault
header_fault s h =
    if is_built s.building h.gpadl || is_live s.live h.gpadl then Some (Repeat h.gpadl) else
    if is_some s.building then Some (Handle h.gpadl) else range_fault h

-- a body is refused where its list isn't being built, or it brings more frames than are missing
abbrev pub body_fault : Option Partial → Body → Option GpadlFault
body_fault None b = Some (Handle b.gpadl)
body_fault (Some p) b =
    if p.handle == b.gpadl then (if nat_lt (p.want - length p.pages) (length b.frames) then Some (Count (p.want - length p.pages) (length b.frames)) else None) else
    Some (Handle b.gpadl)

-- the first fault of a header or a body, but for want of memory
abbrev pub fault_of : Assembly → Msg → Option GpadlFault
fault_of s (GpadlHeader h) = header_fault s h
fault_of s (GpadlBody b) = body_fault s.building b
fault_of s _ = None

-- The fault of a message that a refusal tells of: none where a header wants memory. A body finds its room made, so that it is never refused for want of memory: that
-- is no fault of its own
abbrev pub of_message : Msg → GpadlFault → Option GpadlFault
of_message (GpadlHeader h) Memory = None
of_message m fault = Some fault

-- the list of a header
abbrev pub begun : Header → Partial
begun h = record { relid = h.relid; handle = h.gpadl; want = pages_of h.range_buflen; pages = h.frames }

-- a list with more frames
abbrev pub with_frames : Partial → List ℕ → Partial
with_frames p frames = record { relid = p.relid; handle = p.handle; want = p.want; pages = p.pages ++ frames }

-- the list that is being built once a message is taken
abbrev pub built : Option Partial → Msg → Option Partial
built building (GpadlHeader h) = Some (begun h)
built (Some p) (GpadlBody b) = Some (with_frames p b.frames)
built _ _ = None

-- what is told of a list, and what is left: it goes on where frames are missing, and is live otherwise
abbrev pub Comes : Partial → List ℕ → Progress → Assembly → Type 0
Comes p live (More have want) now = (length p.pages < p.want) × (have ≡ length p.pages) × (want ≡ p.want) × (now ≡ record { building = Some p; live = live })
Comes p live (Done l) now =
    (length p.pages ≡ p.want) × (l.relid ≡ p.relid) × (l.handle ≡ p.handle) × (l.pages.items ≡ p.pages) × (now ≡ record { building = None; live = live ++ p.handle ∷ [] })

-- a message was taken
abbrev pub Took : Assembly → Msg → Progress → Assembly → Type 0
Took s m progress now = (p : Partial) × ((built s.building m ≡ Some p) × Comes p s.live progress now)

-- the message is a header or a body
abbrev pub IsPiece : Msg → Type 0
IsPiece (GpadlHeader h) = Unit {0}
IsPiece (GpadlBody b) = Unit {0}
IsPiece _ = ⊥

-- a list that is being built has frames missing, and its handle has room among the live ones
abbrev pub IsReady : Option Partial → ℕ → ℕ → Type 0
IsReady None live room = Unit {0}
IsReady (Some p) live room = (length p.pages < p.want) × (live < room)
