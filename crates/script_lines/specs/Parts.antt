-- The phases of a script, and the devices that it offers.
use Rattle.std.specs.Prelude.{ℕ, ◌+◌, ◌==◌, ◌&&◌, ◌||◌, is_some, Bool, false, List, [], ◌∷◌, Option, Some, None, count_by, sum_by, position, slice_get, slice_index_or, if◌then◌else◌}
use Rattle.std.specs.List.{flat_map, slice_split, list_any}
use Rattle.std.specs.Option.{option_map_or}
use Rattle.std.specs.Str.{bytes_eq}
use Rattle.contact.specs.declared.kind.DeviceKind.{DeviceKind}
use Rattle.contact.specs.declared.kind.DeviceKind.TheVariants.{Beat as KindBeat, Down as KindDown, Disk as KindDisk, Net as KindNet, Kvp as KindKvp}
use Rattle.util_ic.specs.declared.ic.IcAsk.TheVariants.{Beat as AskBeat, Down as AskDown}
use Rattle.script_lines.specs.declared.line.Line.{Line}
use Rattle.script_lines.specs.declared.line.What.{What}
use Rattle.script_lines.specs.declared.line.Ask.{Ask}
use Rattle.script_lines.specs.declared.line.Ask.TheVariants.{Ic, Disk as AskDisk, Net as AskNet, Kvp as AskKvp}
use Rattle.script_lines.specs.declared.line.DeviceSpec.{DeviceSpec}
use Rattle.script_lines.specs.declared.line.DeviceSpec.TheVariants.{Beat, Down, Disk, Net, Kvp}
use Rattle.script_lines.specs.declared.shape.Shape.{Shape}
use Rattle.script_lines.specs.Lines.{contact_of, offer_of, sets, said, is_phase, bad_block, ring_pages, open_most, set_as, is_request, is_rescind, is_close, is_modify}

abbrev pub ends_part : Line → Bool
ends_part line = is_phase line.what

-- the phases: what stands between the lines that begin one
abbrev pub parts : List Line → List (List Line)
parts lines = slice_split ends_part lines

-- a line of settings
abbrev pub is_settings : What → Bool
is_settings what = is_some (contact_of what) || is_some (offer_of what) || is_some (sets what)

-- a line that asks a device
abbrev pub is_ask : What → Bool
is_ask what = option_map_or (λ s. is_request s.1) (said what) false

-- a line that moves a device's interrupts
abbrev pub is_move : What → Bool
is_move what = option_map_or (λ s. is_modify s.1) (said what) false

-- how many lines ask a device
abbrev pub asks_in : List Line → ℕ
asks_in lines = count_by (λ l. is_ask l.what) lines

-- the devices that are offered, in order
abbrev pub offered_by : What → List DeviceSpec
offered_by what = option_map_or (λ o. o.1 ∷ []) (offer_of what) []

abbrev pub offered : List Line → List DeviceSpec
offered lines = flat_map (λ l. offered_by l.what) lines

-- their names
abbrev pub named_by : What → List (List ℕ)
named_by what = option_map_or (λ o. o.0 ∷ []) (offer_of what) []

abbrev pub names : List Line → List (List ℕ)
names lines = flat_map (λ l. named_by l.what) lines

-- what each kind of device is: its kind, its blocks (a disk alone has any), and its channels beside the first one
abbrev pub shape_of : DeviceSpec → Shape
shape_of Beat = record { kind = KindBeat; blocks = 0; subs = 0 }
shape_of Down = record { kind = KindDown; blocks = 0; subs = 0 }
shape_of (Disk blocks subs) = record { kind = KindDisk; blocks = blocks; subs = subs }
shape_of (Net mac station) = record { kind = KindNet; blocks = 0; subs = 0 }
shape_of Kvp = record { kind = KindKvp; blocks = 0; subs = 0 }

abbrev pub kind_of : DeviceSpec → DeviceKind
kind_of spec = (shape_of spec).kind

abbrev pub blocks_of : DeviceSpec → ℕ
blocks_of spec = (shape_of spec).blocks

abbrev pub subs_of : DeviceSpec → ℕ
subs_of spec = (shape_of spec).subs

-- the kind of device that is asked this
abbrev pub kind_asked : Ask → DeviceKind
kind_asked (Ic (AskBeat seq)) = KindBeat
kind_asked (Ic (AskDown reason timeout flags)) = KindDown
kind_asked (AskDisk request) = KindDisk
kind_asked (AskNet message) = KindNet
kind_asked (AskKvp request) = KindKvp

-- the blocks of one of these devices
abbrev pub blocks_at : ℕ → List DeviceSpec → ℕ
blocks_at device specs = option_map_or blocks_of (slice_get specs device) 0

-- a number that is set, where it is set of this device
abbrev pub set_here : ℕ → Option (ℕ × ℕ) → List ℕ
set_here device set = option_map_or (λ s. if s.0 == device then s.1 ∷ [] else []) set []

-- the data pages that a line gives each ring of this device
abbrev pub pages_by : ℕ → What → List ℕ
pages_by device what = set_here device (set_as ring_pages what)

-- the data pages of each ring of a device: those that its line says, or 1
abbrev pub ring_pages_of : ℕ → List Line → ℕ
ring_pages_of device lines = slice_index_or (flat_map (λ l. pages_by device l.what) lines) 0 1

-- the places that a line makes bad on this device
abbrev pub bads_by : ℕ → What → List ℕ
bads_by device what = set_here device (set_as bad_block what)

-- the bad places of a device, in order of the lines
abbrev pub bads_of : ℕ → List Line → List ℕ
bads_of device lines = flat_map (λ l. bads_by device l.what) lines

-- the window that a line gives this device
abbrev pub window_by : ℕ → What → List ℕ
window_by device what = set_here device (set_as open_most what)

-- how many requests a channel of a device has open at most: the number that its line says, or 4
abbrev pub window_of : ℕ → List Line → ℕ
window_of device lines = slice_index_or (flat_map (λ l. window_by device l.what) lines) 0 4

-- a line that rescinds this device
abbrev pub rescinds : ℕ → What → Bool
rescinds device what = option_map_or (λ s. is_rescind s.1 && (s.0 == device)) (said what) false

-- a line that closes this device
abbrev pub shuts : ℕ → What → Bool
shuts device what = option_map_or (λ s. is_close s.1 && (s.0 == device)) (said what) false

-- one that moves this device's
abbrev pub modifies : ℕ → What → Bool
modifies device what = option_map_or (λ s. is_modify s.1 && (s.0 == device)) (said what) false

-- how many of these lines move them
abbrev pub modifies_in : ℕ → List Line → ℕ
modifies_in device lines = count_by (λ l. modifies device l.what) lines

-- a line that makes this block of this device bad
abbrev pub sets_bad : ℕ → ℕ → What → Bool
sets_bad device lba what = option_map_or (λ s. (device == s.0) && (lba == s.1)) (set_as bad_block what) false

-- a line that says how many data pages this device has
abbrev pub sets_ring : ℕ → What → Bool
sets_ring device what = option_map_or (λ s. s.0 == device) (set_as ring_pages what) false

-- a line that says the window of this device
abbrev pub sets_window : ℕ → What → Bool
sets_window device what = option_map_or (λ s. s.0 == device) (set_as open_most what) false

abbrev pub has_bad : ℕ → ℕ → List Line → Bool
has_bad device lba lines = list_any (λ l. sets_bad device lba l.what) lines

abbrev pub has_ring : ℕ → List Line → Bool
has_ring device lines = list_any (λ l. sets_ring device l.what) lines

abbrev pub has_window : ℕ → List Line → Bool
has_window device lines = list_any (λ l. sets_window device l.what) lines

-- the last of some phases
abbrev pub last_of : List (List Line) → List Line
last_of [] = []
last_of (p ∷ []) = p
last_of (p ∷ q ∷ ps) = last_of (q ∷ ps)

-- the phase that goes on behind these lines
abbrev pub this_part : List Line → List Line
this_part lines = last_of (parts lines)

-- a line of the phase that goes on moves this device's interrupts
abbrev pub modified_here : ℕ → List Line → Bool
modified_here device lines = list_any (λ l. modifies device l.what) (this_part lines)

-- how many phases are over
abbrev pub phases_over : List Line → ℕ
phases_over lines = count_by ends_part lines

-- the phase behind a line of this one
abbrev pub phase_behind : ℕ → Line → ℕ
phase_behind phase line = if ends_part line then phase + 1 else phase

-- the phase of the first line of such a kind, where there is one; the lines begin in this phase
abbrev pub phase_from : (What → Bool) → ℕ → List Line → Option ℕ
phase_from kind phase [] = None
phase_from kind phase (l ∷ ls) = if kind l.what then Some phase else phase_from kind (phase_behind phase l) ls

-- the phase in which a device is rescinded, where it is; phases count from 0
abbrev pub rescinded_in : ℕ → List Line → Option ℕ
rescinded_in device lines = phase_from (rescinds device) 0 lines

-- the phase in which a device is closed, where it is
abbrev pub closed_in : ℕ → List Line → Option ℕ
closed_in device lines = phase_from (shuts device) 0 lines

-- the place of the device with this name, where one was offered
abbrev pub device_of : List ℕ → List Line → Option ℕ
device_of name lines = position (bytes_eq name) (names lines)

-- the channels of a device
abbrev pub channels_of : DeviceSpec → ℕ
channels_of spec = 1 + subs_of spec

-- the channels of all devices
abbrev pub channels : List Line → ℕ
channels lines = sum_by channels_of (offered lines)
