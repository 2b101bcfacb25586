-- Storage packets as bytes.
use Rattle.std.specs.Prelude.{◌≡◌, ◌≢◌, ℕ, not, ◌==◌, ◌&&◌, nat_lt, List, [], ◌∷◌, length, slice_range, Option, Some, None, IsSome, is_none, if◌then◌else◌}
use Rattle.wire_table.specs.Little.{number_of}
use Rattle.wire_table.specs.Rows.{Row, num, raw, Kind, nums, raws, spelled_after, AllHave}
use Rattle.stor_proto.specs.Operations.{operation_of}
use Rattle.stor_proto.specs.declared.vstor.Vstor.{Vstor}
use Rattle.stor_proto.specs.declared.fault.VstorFault.{VstorFault}
use Rattle.stor_proto.specs.declared.fault.VstorFault.TheVariants.{Short, Operation, Field}
use Rattle.stor_proto.specs.declared.field_name.FieldName.TheVariants.{Status}

-- a packet in order: operation, flags, status and 52 bytes
abbrev pub rows_of : Vstor → List Row
rows_of p = num 4 p.operation ∷ num 4 p.flags ∷ num 4 p.status ∷ raw p.rest ∷ []

-- what each row may be
abbrev pub vstor_kinds : List Kind
vstor_kinds = nums 4 ∷ nums 4 ∷ nums 4 ∷ raws 52 ∷ []

-- the bytes of a packet
unfoldable pub vstor_bytes : Vstor → List ℕ
vstor_bytes p = spelled_after [] (rows_of p)

-- each value fits its field
abbrev pub InForm : Vstor → Type 0
InForm p = AllHave vstor_kinds (rows_of p)

-- there is such an operation, and only an answer has a status
abbrev pub IsAllowed : Vstor → Type 0
IsAllowed p = IsSome (operation_of p.operation) × (p.operation ≢ 1 → p.status ≡ 0)

-- the values at the places of a packet
unfoldable pub vstor_in : List ℕ → Vstor
vstor_in b = record {
  operation = number_of (slice_range b 0 4);
  flags = number_of (slice_range b 4 8);
  status = number_of (slice_range b 8 12);
  rest = slice_range b 12 64;
}

-- what is wrong with the values of a packet
abbrev pub fault_in : Vstor → Option VstorFault
fault_in p =
    if is_none (operation_of p.operation) then Some (Operation p.operation)
    else (if not (p.status == 0) && not (p.operation == 1) then Some (Field Status p.status)
    else None)

-- why bytes don't begin with a packet: the first reason that applies
unfoldable pub vstor_fault : List ℕ → Option VstorFault
vstor_fault b = if nat_lt (length b) 64 then Some (Short (length b) 64) else fault_in (vstor_in b)
