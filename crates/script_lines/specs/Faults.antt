-- Why a line is refused after the lines before it.
use Rattle.std.specs.Prelude.{ℕ, ◌+◌, ◌==◌, Bool, true, false, not, ◌&&◌, ◌||◌, is_some, nat_le, nat_lt, List, [], ◌∷◌, Option, Some, None, if◌then◌else◌, option_and_then, slice_get}
use Rattle.std.specs.List.{list_all}
use Rattle.std.specs.Option.{option_or, option_map, option_map_or}
use Rattle.script_text.specs.declared.fault.Why6.{Why6}
use Rattle.script_text.specs.declared.fault.Why6.TheVariants.{Form, Limit, Order, UnknownName, Repeat, Range}
use Rattle.script_lines.specs.declared.line.Line.{Line}
use Rattle.script_lines.specs.declared.line.DeviceSpec.{DeviceSpec}
use Rattle.script_lines.specs.declared.line.DeviceSpec.TheVariants.{Beat as IsBeat, Down as IsDown, Disk as IsDisk, Net as IsNet, Kvp as IsKvp}
use Rattle.script_lines.specs.declared.asked.Asked.{Asked}
use Rattle.script_lines.specs.declared.asked.Asked.TheVariants.{Beat, Down, Command, Message, Pair}
use Rattle.script_lines.specs.declared.disk_ask.DiskAsk.{DiskAsk}
use Rattle.script_lines.specs.declared.disk_ask.DiskAsk.TheVariants.{Ready, Inquiry, Capacity, LongCapacity, Flush, Read, Write}
use Rattle.script_lines.specs.declared.offering.Offering.{Offering}
use Rattle.script_lines.specs.declared.offering.Offering.TheVariants.{Disk as OfDisk, Plain}
use Rattle.script_lines.specs.declared.said.Said.{Said}
use Rattle.script_lines.specs.declared.said.Said.TheVariants.{Nothing, Contact, Offer, Bad, Ring, Window, Request, Rescind, Close, Modify, Phase}
use Rattle.script_lines.specs.Parts.{is_settings, asks_in, this_part, phases_over, offered, channels, channels_of, has_bad, has_ring, has_window, rescinded_in, closed_in, modified_here, device_of, blocks_at}
use Rattle.script_text.specs.Forms.{within}
use Rattle.script_lines.specs.Rows.{said_in}

-- a reason, where a test fails
abbrev pub unless : Bool → Why6 → Option Why6
unless holds why = if holds then None else Some why

-- the name that a line speaks of
abbrev pub name_said : Said → Option (List ℕ)
name_said Nothing = None
name_said (Contact guest host) = None
name_said (Offer name offering) = Some name
name_said (Bad name lba) = Some name
name_said (Ring name pages) = Some name
name_said (Window name size) = Some name
name_said (Request name asked) = Some name
name_said (Rescind name after held) = Some name
name_said (Close name) = Some name
name_said (Modify name vp) = Some name
name_said Phase = None

-- the device of that name, where one was offered before
abbrev pub device_said : List Line → Said → Option ℕ
device_said before said = option_and_then (λ name. device_of name before) (name_said said)

-- a line of settings
abbrev pub says_settings : Said → Bool
says_settings Nothing = false
says_settings (Contact guest host) = true
says_settings (Offer name offering) = true
says_settings (Bad name lba) = true
says_settings (Ring name pages) = true
says_settings (Window name size) = true
says_settings (Request name asked) = false
says_settings (Rescind name after held) = false
says_settings (Close name) = false
says_settings (Modify name vp) = false
says_settings Phase = false

-- Limit: there are 20,000 lines, whatever they hold
abbrev pub line_limit : ℕ → Option Why6
line_limit number = unless (nat_le number 20000) Limit

-- a phase has 4,096 requests
abbrev pub ask_limit : List Line → Option Why6
ask_limit before = unless (nat_lt (asks_in (this_part before)) 4096) Limit

-- the channels of what is offered, where their number has 64 bits: a disk has those beside its first one too
abbrev pub channels_said : Offering → Option ℕ
channels_said (OfDisk blocks subs) = option_map (λ n. 1 + n) subs
channels_said (Plain spec) = Some (channels_of spec)

-- with them the devices have 16 channels at most
abbrev pub has_room : List Line → Offering → Bool
has_room before offering = option_map_or (λ n. nat_le (channels before + n) 16) (channels_said offering) false

-- Limit: and the devices have 16 channels
abbrev pub count_limit : List Line → Said → Option Why6
count_limit before Nothing = None
count_limit before (Contact guest host) = None
count_limit before (Offer name offering) = unless (has_room before offering) Limit
count_limit before (Bad name lba) = None
count_limit before (Ring name pages) = None
count_limit before (Window name size) = None
count_limit before (Request name asked) = ask_limit before
count_limit before (Rescind name after held) = None
count_limit before (Close name) = None
count_limit before (Modify name vp) = None
count_limit before Phase = None

-- no line with words stands before
abbrev pub is_first : List Line → Bool
is_first [] = true
is_first (l ∷ ls) = false

-- a phase that is over, where this one goes on
abbrev pub is_over : ℕ → Option ℕ → Bool
is_over now phase = option_map_or (λ p. nat_lt p now) phase false

-- the phase that goes on
abbrev pub is_now : ℕ → Option ℕ → Bool
is_now now phase = option_map_or (λ p. p == now) phase false

-- a device that an earlier phase rescinded or closed
abbrev pub is_ended_before : List Line → ℕ → Bool
is_ended_before before device = is_over (phases_over before) (rescinded_in device before) || is_over (phases_over before) (closed_in device before)

-- Order: the versions stand before all other lines, and what an earlier phase rescinded or closed is neither rescinded nor closed again
abbrev pub own_order : List Line → Option ℕ → Said → Option Why6
own_order before device Nothing = None
own_order before device (Contact guest host) = unless (is_first before) Order
own_order before device (Offer name offering) = None
own_order before device (Bad name lba) = None
own_order before device (Ring name pages) = None
own_order before device (Window name size) = None
own_order before device (Request name asked) = None
own_order before device (Rescind name after held) = unless (not (option_map_or (is_ended_before before) device false)) Order
own_order before device (Close name) = unless (not (option_map_or (is_ended_before before) device false)) Order
own_order before device (Modify name vp) = None
own_order before device Phase = None

-- Order: settings stand before all lines of other kinds
abbrev pub order_fault : List Line → Option ℕ → Said → Option Why6
order_fault before device said = option_or (unless (not (says_settings said) || list_all (λ l. is_settings l.what) before) Order) (own_order before device said)

-- which kind of device it is
abbrev pub is_disk : DeviceSpec → Bool
is_disk (IsDisk blocks subs) = true
is_disk _ = false

abbrev pub is_net : DeviceSpec → Bool
is_net (IsNet mac station) = true
is_net _ = false

-- the kind of device that is asked this
abbrev pub takes : Asked → DeviceSpec → Bool
takes (Beat seq) IsBeat = true
takes (Down flags) IsDown = true
takes (Command ask) (IsDisk blocks subs) = true
takes (Message message) (IsNet mac station) = true
takes (Pair request) IsKvp = true
takes _ _ = false

-- a device that can be rescinded: a disk or a network
abbrev pub is_rescindable : DeviceSpec → Bool
is_rescindable spec = is_disk spec || is_net spec

-- the device was offered, and it is of such a kind
abbrev pub is_offered : (DeviceSpec → Bool) → List Line → Option ℕ → Bool
is_offered kind before device = option_map_or kind (option_and_then (slice_get (offered before)) device) false

-- UnknownName: the name was offered before, and as the kind of device that the line takes
abbrev pub name_fault : List Line → Option ℕ → Said → Option Why6
name_fault before device Nothing = None
name_fault before device (Contact guest host) = None
name_fault before device (Offer name offering) = None
name_fault before device (Bad name lba) = unless (is_offered is_disk before device) UnknownName
name_fault before device (Ring name pages) = unless (is_some device) UnknownName
name_fault before device (Window name size) = unless (is_some device) UnknownName
name_fault before device (Request name asked) = unless (is_offered (takes asked) before device) UnknownName
name_fault before device (Rescind name after held) = unless (is_offered is_rescindable before device) UnknownName
name_fault before device (Close name) = unless (is_some device) UnknownName
name_fault before device (Modify name vp) = unless (is_some device) UnknownName
name_fault before device Phase = None

-- a device that this phase rescinds
abbrev pub is_rescinded_here : List Line → ℕ → Bool
is_rescinded_here before device = is_now (phases_over before) (rescinded_in device before)

-- a device that this phase closes
abbrev pub is_closed_here : List Line → ℕ → Bool
is_closed_here before device = is_now (phases_over before) (closed_in device before)

-- the block is bad already
abbrev pub is_bad : List Line → Option ℕ → Option ℕ → Bool
is_bad before device lba = option_map_or (λ d. option_map_or (λ l. has_bad d l before) lba false) device false

-- Repeat: a name is offered once, a device has one line of each setting and for each bad block, and a phase rescinds it once, closes it once and moves it once
abbrev pub repeat_fault : List Line → Option ℕ → Said → Option Why6
repeat_fault before device Nothing = None
repeat_fault before device (Contact guest host) = None
repeat_fault before device (Offer name offering) = unless (not (is_some device)) Repeat
repeat_fault before device (Bad name lba) = unless (not (is_bad before device lba)) Repeat
repeat_fault before device (Ring name pages) = unless (not (option_map_or (λ d. has_ring d before) device false)) Repeat
repeat_fault before device (Window name size) = unless (not (option_map_or (λ d. has_window d before) device false)) Repeat
repeat_fault before device (Request name asked) = None
repeat_fault before device (Rescind name after held) = unless (not (option_map_or (is_rescinded_here before) device false)) Repeat
repeat_fault before device (Close name) = unless (not (option_map_or (is_closed_here before) device false)) Repeat
repeat_fault before device (Modify name vp) = unless (not (option_map_or (λ d. modified_here d before) device false)) Repeat
repeat_fault before device Phase = None

-- a disk has 1 to 2^40 blocks, and at most 3 channels beside its first one
abbrev pub offers_in_range : Offering → Bool
offers_in_range (OfDisk blocks subs) = is_some blocks && is_some (within 0 3 subs)
offers_in_range (Plain spec) = true

-- a block of the device
abbrev pub is_block : List Line → Option ℕ → Option ℕ → Bool
is_block before device lba = option_map_or (λ d. option_map_or (λ l. nat_lt l (blocks_at d (offered before))) lba false) device false

abbrev pub asks_in_range : DiskAsk → Bool
asks_in_range Ready = true
asks_in_range Inquiry = true
asks_in_range Capacity = true
asks_in_range LongCapacity = true
asks_in_range Flush = true
asks_in_range (Read lba count) = is_some lba && is_some count
asks_in_range (Write lba count byte) = is_some lba && is_some count

abbrev pub asked_in_range : Asked → Bool
asked_in_range (Beat seq) = is_some seq
asked_in_range (Down flags) = is_some flags
asked_in_range (Command ask) = asks_in_range ask
asked_in_range (Message message) = is_some message
asked_in_range (Pair request) = is_some request

-- Range: each value is in its range
abbrev pub range_fault : List Line → Option ℕ → Said → Option Why6
range_fault before device Nothing = None
range_fault before device (Contact guest host) = unless (is_some guest && is_some host) Range
range_fault before device (Offer name offering) = unless (offers_in_range offering) Range
range_fault before device (Bad name lba) = unless (is_block before device lba) Range
range_fault before device (Ring name pages) = unless (is_some pages) Range
range_fault before device (Window name size) = unless (is_some size) Range
range_fault before device (Request name asked) = unless (asked_in_range asked) Range
range_fault before device (Rescind name after held) = unless (is_some after) Range
range_fault before device (Close name) = None
range_fault before device (Modify name vp) = unless (is_some vp) Range
range_fault before device Phase = None

-- the first reason against a row that speaks of this device, in the order Limit, Order, UnknownName, Repeat, Range
abbrev pub row_fault : ℕ → List Line → Option ℕ → Said → Option Why6
row_fault number before device said =
    option_or (option_or (option_or (option_or (option_or (line_limit number) (count_limit before said)) (order_fault before device said)) (name_fault before device said)) (repeat_fault before device said)) (range_fault before device said)

-- the first reason against what a line says; one that is no row of the table says nothing in form
abbrev pub fault_of : ℕ → List Line → Option Said → Option Why6
fault_of number before None = Some Form
fault_of number before (Some said) = row_fault number before (device_said before said) said

-- the first reason against a line
abbrev pub fault_at : ℕ → List Line → List ℕ → Option Why6
fault_at number before line = fault_of number before (said_in line)
