-- Which bytes an NVSP message has: 40, that begin with its type and its fields. `IsNvsp` says which bytes are a message's, `nvsp_bytes`
-- which of them are written.
use Rattle.std.specs.Prelude.{◌≡◌, ℕ, ◌+◌, ◌-◌, ◌≤◌, List, [], ◌∷◌, ◌++◌, length, replicate, slice_range, Option, Some, None, nat_lt, ◌==◌, if◌then◌else◌}
use Rattle.wire_table.specs.Little.{number_of}
use Rattle.wire_table.specs.Rows.{Row, num, Kind, nums, spelled_after, total, AllHave, rows_at}
use Rattle.net_dev.specs.declared.fault.NvspFault.{NvspFault}
use Rattle.net_dev.specs.declared.fault.NvspFault.TheVariants.{Short, Unknown}
use Rattle.net_dev.specs.declared.nvsp.Nvsp.{Nvsp}
use Rattle.net_dev.specs.declared.nvsp.Nvsp.TheVariants.{Init, InitComplete, NdisVersion, ReceiveBuffer, ReceiveBufferComplete, SendBuffer, SendBufferComplete, RndisPacket, RndisPacketComplete}

-- the number that tells which message it is
abbrev pub type_of : Nvsp → ℕ
type_of (Init min max) = 1
type_of (InitComplete version mdl_chain_length status) = 2
type_of (NdisVersion major minor) = 100
type_of (ReceiveBuffer gpadl id) = 101
type_of (ReceiveBufferComplete status count offset sub_alloc_size num_sub_allocs end_offset) = 102
type_of (SendBuffer gpadl id) = 104
type_of (SendBufferComplete status section_size) = 105
type_of (RndisPacket channel_type section_index section_size) = 107
type_of (RndisPacketComplete status) = 108

-- the fields after the type, in the order of the wire
abbrev pub fields_of : Nvsp → List Row
fields_of (Init min max) = num 4 min ∷ num 4 max ∷ []
fields_of (InitComplete version mdl_chain_length status) = num 4 version ∷ num 4 mdl_chain_length ∷ num 4 status ∷ []
fields_of (NdisVersion major minor) = num 4 major ∷ num 4 minor ∷ []
fields_of (ReceiveBuffer gpadl id) = num 4 gpadl ∷ num 2 id ∷ []
fields_of (ReceiveBufferComplete status count offset sub_alloc_size num_sub_allocs end_offset) = num 4 status ∷ num 4 count ∷ num 4 offset ∷ num 4 sub_alloc_size ∷ num 4 num_sub_allocs ∷ num 4 end_offset ∷ []
fields_of (SendBuffer gpadl id) = num 4 gpadl ∷ num 2 id ∷ []
fields_of (SendBufferComplete status section_size) = num 4 status ∷ num 4 section_size ∷ []
fields_of (RndisPacket channel_type section_index section_size) = num 4 channel_type ∷ num 4 section_index ∷ num 4 section_size ∷ []
fields_of (RndisPacketComplete status) = num 4 status ∷ []

-- how wide the fields after the type are, by the type: none where there is no such message
abbrev pub kinds_of : ℕ → List Kind
kinds_of k =
    if k == 1 then nums 4 ∷ nums 4 ∷ [] else
    if k == 2 then nums 4 ∷ nums 4 ∷ nums 4 ∷ [] else
    if k == 100 then nums 4 ∷ nums 4 ∷ [] else
    if k == 101 then nums 4 ∷ nums 2 ∷ [] else
    if k == 102 then nums 4 ∷ nums 4 ∷ nums 4 ∷ nums 4 ∷ nums 4 ∷ nums 4 ∷ [] else
    if k == 104 then nums 4 ∷ nums 2 ∷ [] else
    if k == 105 then nums 4 ∷ nums 4 ∷ [] else
    if k == 107 then nums 4 ∷ nums 4 ∷ nums 4 ∷ [] else
    if k == 108 then nums 4 ∷ [] else
    []

-- each field fits its width
abbrev pub InForm : Nvsp → Type 0
InForm m = AllHave (kinds_of (type_of m)) (fields_of m)

-- the number of 4 bytes with which bytes begin
abbrev pub type_in : List ℕ → ℕ
type_in b = number_of (slice_range b 0 4)

-- bytes begin with those of a message: there are 40 of them, the type comes first, and then each field
pub record IsNvsp (m : Nvsp) (b : List ℕ) : Type 0 where
  pub long : 40 ≤ length b
  pub kind : type_in b ≡ type_of m
  pub fields : rows_at (kinds_of (type_of m)) 4 b ≡ fields_of m

-- there is no message of the type
abbrev pub unknown : ℕ → List Kind → Option NvspFault
unknown kind [] = Some (Unknown kind)
unknown kind (k ∷ ks) = None

-- why bytes don't begin with a message: too few, or else a type that isn't in the table
unfoldable pub nvsp_fault : List ℕ → Option NvspFault
nvsp_fault b = if nat_lt (length b) 40 then Some (Short (length b) 40) else unknown (type_in b) (kinds_of (type_in b))

-- how many bytes the type and the fields have
abbrev pub size_of_fields : Nvsp → ℕ
size_of_fields m = 4 + total (kinds_of (type_of m))

-- the bytes of the type and the fields
abbrev pub field_bytes : Nvsp → List ℕ
field_bytes m = spelled_after [] (num 4 (type_of m) ∷ fields_of m)

-- the bytes that are written: the type and the fields, and 0 up to 40
abbrev pub nvsp_bytes : Nvsp → List ℕ
nvsp_bytes m = field_bytes m ++ replicate (40 - size_of_fields m) 0
