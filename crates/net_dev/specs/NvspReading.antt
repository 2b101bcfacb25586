-- What is read of bytes of a type.
use Rattle.std.specs.Prelude.{◌≡◌, ℕ, ◌≤◌, List, [], length, Result, MatchResult, Some}
use Rattle.wire_table.specs.Rows.{rows_at}
use Rattle.net_dev.specs.Nvsp.{type_of, fields_of, kinds_of, type_in, nvsp_fault}
use Rattle.net_dev.specs.declared.fault.NvspFault.{NvspFault}
use Rattle.net_dev.specs.declared.fault.NvspFault.TheVariants.{Unknown}
use Rattle.net_dev.specs.declared.nvsp.Nvsp.{Nvsp}

-- the message of a type with the fields that stand in the bytes, or no message of the type
abbrev pub Reads : ℕ → List ℕ → Result Nvsp NvspFault → Type 0
Reads kind b r =
    MatchResult r
    (λ m. (type_of m ≡ kind) × (rows_at (kinds_of kind) 4 b ≡ fields_of m))
    (λ e. (e ≡ Unknown kind) × (kinds_of kind ≡ []))

-- the message that was read, where there is no fault, or the first fault
unfoldable pub Parses : List ℕ → Result Nvsp NvspFault → Type 0
Parses b r =
    MatchResult r
    (λ m. (40 ≤ length b) × (type_of m ≡ type_in b) × (rows_at (kinds_of (type_in b)) 4 b ≡ fields_of m))
    (λ e. nvsp_fault b ≡ Some e)
