-- What both controls know of a script from the start.
use Rattle.std.specs.Prelude.{◌≡◌, ◌<◌, ◌≤◌, ◌^◌, All, ℕ, Bool, true, false, not, ◌+◌, ◌*◌, ◌==◌, ◌&&◌, ◌||◌, List, [], ◌∷◌, ◌++◌, drop, filter, length, map, slice_get, slice_index_or, nat_lt, Option, Some, None, is_some, if◌then◌else◌}
use Rattle.std.specs.Option.{option_map_or}
use Rattle.std.specs.List.{range_with_len, list_any}
use Rattle.contact.specs.Versions.{IsVersion}
use Rattle.contact.specs.declared.version.Version.{Version}
use Rattle.contact.specs.declared.kind.Kind.{Kind}
use Rattle.contact.specs.declared.kind.Kind.TheVariants.{Sock}
use Rattle.contact.specs.declared.part.Part.{Part}
use Rattle.contact.specs.declared.part.Part.TheVariants.{Contact, PhaseStart, PhaseEnd, Unload}
use Rattle.control_model.specs.declared.opening.Opening.{Opening}
use Rattle.control_model.specs.declared.buffer.Buffer.{Buffer}
use Rattle.control_model.specs.declared.buffer.Buffer.TheVariants.{Receive, Send}

-- the highest versions of both ends, the kinds of the devices in order of offer, and for each phase the channels that are opened in it, in that order
pub record BusPlan : Type 0 where
  pub guest : Version
  pub host : Version
  pub kinds : List Kind
  pub phases : List (List Opening)

-- the openings of a phase
abbrev pub phase_of : BusPlan → ℕ → List Opening
phase_of plan phase = slice_index_or plan.phases phase []

-- an opening of a phase, by its place
abbrev pub opening_at : BusPlan → ℕ → ℕ → Option Opening
opening_at plan phase place = slice_get (phase_of plan phase) place

-- an opening is of a sub-channel, and not of a device's first channel
abbrev pub is_sub : Opening → Bool
is_sub o = not (o.sub == 0)

abbrev pub is_of_sub : Option Opening → Bool
is_of_sub None = false
is_of_sub (Some o) = is_sub o

-- the channel of an opening is offered at the contact: it is a device's first channel, which is neither a sub-channel nor that of a service that the guest asks for
abbrev pub at_contact : Opening → Bool
at_contact o = not (is_some o.dialed) && (o.sub == 0)

-- the others are offered later, each when its turn comes
abbrev pub is_later : Opening → Bool
is_later o = not (at_contact o)

-- the sub-channels that these openings begin with, up to the next device's first channel
abbrev pub first_subs : List Opening → List Opening
first_subs [] = []
first_subs (o ∷ os) = if is_sub o then o ∷ first_subs os else []

-- where these openings begin with a device's first channel, its sub-channels, which stand right behind it
abbrev pub subs_next : List Opening → List Opening
subs_next [] = []
subs_next (o ∷ os) = if is_sub o then [] else first_subs os

-- the sub-channels of the device whose first channel is opened at this place, while a phase starts
abbrev pub subs_behind : BusPlan → Option Part → ℕ → List Opening
subs_behind plan (Some (PhaseStart phase)) place = subs_next (drop place (phase_of plan phase))
subs_behind plan part place = []

-- at the end of a phase a device's sub-channels are done with before its first channel
abbrev pub behind_subs : Opening → List Opening → List Opening
behind_subs first [] = first ∷ []
behind_subs first (o ∷ os) = if is_sub o then o ∷ behind_subs first os else first ∷ behind_subs o os

abbrev pub in_closing_order : List Opening → List Opening
in_closing_order [] = []
in_closing_order (o ∷ os) = behind_subs o os

-- the openings of a phase, in the order in which their channels are done with
abbrev pub closing_of : BusPlan → ℕ → List Opening
closing_of plan phase = in_closing_order (phase_of plan phase)

abbrev pub closing_at : BusPlan → ℕ → ℕ → Option Opening
closing_at plan phase place = slice_get (closing_of plan phase) place

-- the opening with this place in the phase that starts or ends in a part
abbrev pub opening_in : BusPlan → Option Part → ℕ → Option Opening
opening_in plan (Some (PhaseStart phase)) place = opening_at plan phase place
opening_in plan (Some (PhaseEnd phase)) place = closing_at plan phase place
opening_in plan part place = None

-- the openings of channels that are moved to other processors once all of the phase are open, and the processor that one is moved to
abbrev pub movers : List Opening → List Opening
movers os = filter (λ o. is_some o.vp) os

abbrev pub vp_for : Opening → ℕ
vp_for o = option_map_or (λ vp. vp) o.vp 0

-- those of the phase that starts in a part, where the version has MODIFYCHANNEL: none otherwise
abbrev pub movers_in : BusPlan → Option Part → Bool → List Opening
movers_in plan (Some (PhaseStart phase)) true = movers (phase_of plan phase)
movers_in plan part has = []

-- the part that comes next: each phase starts and ends, and the farewell comes behind the last one
abbrev pub part_after : BusPlan → Option Part → Option Part
part_after plan None = Some Contact
part_after plan (Some Contact) = Some (PhaseStart 0)
part_after plan (Some (PhaseStart phase)) = Some (PhaseEnd phase)
part_after plan (Some (PhaseEnd phase)) = if nat_lt (phase + 1) (length plan.phases) then Some (PhaseStart (phase + 1)) else Some Unload
part_after plan (Some Unload) = None

-- how many pages the list of an opening has: for each ring a header page and its data pages
abbrev pub list_pages : ℕ → ℕ
list_pages ring_pages = 2 * ring_pages + 2

-- a network's buffer has 64 pages, and a page list of its own: the two have the handles and the pages behind those of the rings' list, the receive buffer's first
abbrev pub buffer_size : ℕ
buffer_size = 64

abbrev pub buffer_list : Opening → Buffer → ℕ
buffer_list o Receive = o.gpadl + 1
buffer_list o Send = o.gpadl + 2

abbrev pub buffer_begins : Opening → Buffer → ℕ
buffer_begins o Receive = o.first_page + list_pages o.ring_pages
buffer_begins o Send = o.first_page + (list_pages o.ring_pages + buffer_size)

-- how many page lists an opening has, with buffers or without, and how many pages they have together
abbrev pub lists_with : Bool → ℕ
lists_with buffers = if buffers then 3 else 1

abbrev pub pages_with : Bool → ℕ → ℕ
pages_with buffers ring_pages = list_pages ring_pages + (if buffers then 2 * buffer_size else 0)

abbrev pub lists_of : Opening → ℕ
lists_of o = lists_with o.buffers

abbrev pub pages_of : Opening → ℕ
pages_of o = pages_with o.buffers o.ring_pages

-- a handle is that of a buffer's list
abbrev pub is_buffer : Opening → ℕ → Bool
is_buffer o gpadl = o.buffers && ((buffer_list o Receive == gpadl) || (buffer_list o Send == gpadl))

-- among the openings of the phase that starts or ends in a part: a buffer of the channel with a relid has it
abbrev pub openings_in : BusPlan → Option Part → List Opening
openings_in plan (Some (PhaseStart phase)) = phase_of plan phase
openings_in plan (Some (PhaseEnd phase)) = phase_of plan phase
openings_in plan part = []

abbrev pub is_buffer_in : BusPlan → Option Part → ℕ → ℕ → Bool
is_buffer_in plan part relid gpadl = list_any (λ o. (o.relid == relid) && is_buffer o gpadl) (openings_in plan part)

-- a port has 32 bits
abbrev pub IsPort : Option ℕ → Type 0
IsPort None = Unit {0}
IsPort (Some port) = port < 2 ^ 32

abbrev pub HasPort : Kind → Type 0
HasPort (Sock port) = port < 2 ^ 32
HasPort kind = Unit {0}

-- at most 16 devices are offered at first, and each of the phases, which are at most 20,001, opens at most 16 channels
abbrev pub most_channels : ℕ
most_channels = 320032

-- an opening of a channel: its rings have 1 to 16 data pages, and its lists, also those of buffers, have handles of 32 bits and pages with numbers of 64 bits; the channel of a service that the guest asks for is no sub-channel
pub record IsOpening (o : Opening) : Type 0 where
  pub named : 1 ≤ o.relid
  pub few : o.relid ≤ most_channels
  pub some_pages : 1 ≤ o.ring_pages
  pub few_pages : o.ring_pages ≤ 16
  pub numbered : o.first_page + pages_with true o.ring_pages < 2 ^ 64
  pub handled : o.gpadl + lists_with true ≤ 2 ^ 32
  pub alone : is_some o.dialed ≡ true → is_sub o ≡ false
  pub port : IsPort o.dialed

-- those whose channels are offered at the contact
abbrev pub firsts : List Opening → List Opening
firsts os = filter at_contact os

-- those whose channels are offered later
abbrev pub laters : List Opening → List Opening
laters os = filter is_later os

-- each channel of a device stands behind the one before, with the next number among the device's channels: where the next one is a sub-channel, it has this number
abbrev pub Seated : ℕ → List Opening → Type 0
Seated next [] = Unit {0}
Seated next (o ∷ os) = (is_sub o ≡ true → o.sub ≡ next) × Seated (o.sub + 1) os

-- a channel that has buffers has no sub-channels behind it
abbrev pub Bare : List Opening → Type 0
Bare [] = Unit {0}
Bare (o ∷ os) = (o.buffers ≡ true → first_subs os ≡ []) × Bare os

-- the relids rise
abbrev pub Rising : ℕ → List Opening → Type 0
Rising least [] = Unit {0}
Rising least (o ∷ os) = (least ≤ o.relid) × Rising (o.relid + 1) os

-- each opening follows the one before: its first handle is the next one, and its pages begin behind those of that one
abbrev pub Follows : ℕ → ℕ → List Opening → Type 0
Follows gpadl page [] = Unit {0}
Follows gpadl page (o ∷ os) = (o.gpadl ≡ gpadl) × (o.first_page ≡ page) × Follows (gpadl + lists_of o) (page + pages_of o) os

-- a channel that a later phase opens again isn't rescinded
abbrev pub OpensAgain : List (List Opening) → Opening → Type 0
OpensAgain later o = All (λ os. All (λ p. p.relid ≡ o.relid → o.rescinded ≡ false) os) later

abbrev pub RescindsEnd : List (List Opening) → Type 0
RescindsEnd [] = Unit {0}
RescindsEnd (os ∷ later) = All (OpensAgain later) os × RescindsEnd later

-- all openings, phase by phase
abbrev pub all_openings : List (List Opening) → List Opening
all_openings [] = []
all_openings (os ∷ phases) = os ++ all_openings phases

-- the handle of the first page list, as Linux's vmbus_connection.next_gpadl_handle begins
abbrev pub first_gpadl : ℕ
first_gpadl = 0xE1E10

-- What every plan keeps: versions of the list, at most 16 devices, whose first channels are opened in order of offer in each phase, each with its sub-channels right behind it, which none with buffers has; channels that are offered later have the relids behind those of the devices, one after the other over all phases; handles, page numbers and these relids are never used twice; and a channel that was rescinded isn't opened again
pub record IsPlan (p : BusPlan) : Type 0 where
  pub guest : IsVersion p.guest.0
  pub host : IsVersion p.host.0
  pub few : length p.kinds ≤ 16
  pub ports : All HasPort p.kinds
  pub some : 1 ≤ length p.phases
  pub short : length p.phases ≤ 20001
  pub fits : All (λ os. All (λ o. IsOpening o) os) p.phases
  pub small : All (λ os. length os ≤ 16) p.phases
  pub seated : All (λ os. Seated 0 os) p.phases
  pub bare : All (λ os. Bare os) p.phases
  pub offered : All (λ os. All (λ o. is_later o ≡ false → o.relid ≤ length p.kinds) os) p.phases
  pub rising : All (λ os. Rising 1 (firsts os)) p.phases
  pub later : map (λ o. o.relid) (laters (all_openings p.phases)) ≡ range_with_len (length p.kinds + 1) (length (laters (all_openings p.phases)))
  pub follow : Follows first_gpadl 0 (all_openings p.phases)
  pub ends : RescindsEnd p.phases
