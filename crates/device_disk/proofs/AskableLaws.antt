-- What can be asked of a disk.
use Rattle.std.proofs.Common.{◌≡◌, ℕ, ◌≤◌, List, [], ◌∷◌, length, Option, Some, refl, subst, arith}
use Rattle.std.specs.Prelude.{IsSome}
use Rattle.std.proofs.lemmas.List.{take_all}
use Rattle.wire_table.proofs.RowLaws.{IsBytes, all_bytes}
use Rattle.scsi_disk.specs.Commands.{command_of}
use Rattle.scsi_disk.specs.declared.command.Command.{Command}
use Rattle.scsi_disk.specs.declared.command.Command.TheVariants.{TestUnitReady, Inquiry, ReadCapacity, Read, Write, SynchronizeCache, LongCapacity}
use Rattle.stor_proto.specs.Srbs.{bytes_moved, data_for}
use Rattle.disk_format.specs.PageDisks.{IsPageAsk}

-- what the command of a request says of its data
abbrev Takes : Option Command → List ℕ → Type 0
Takes k out = IsSome k × (bytes_moved k (length out) ≤ 4096) × (data_for k (length out) out ≡ out)

takes_none : (c : Command) → bytes_moved (Some c) 0 ≤ 4096 → Takes (Some c) []
takes_none TestUnitReady few = (refl, few, refl)
takes_none (Inquiry s a) few = (refl, few, refl)
takes_none ReadCapacity few = (refl, few, refl)
takes_none (Read l k) few = (refl, few, refl)
takes_none (Write l k) few = (refl, few, refl)
takes_none SynchronizeCache few = (refl, few, refl)
takes_none (LongCapacity b a) few = (refl, few, refl)

can_from : (cdb out : List ℕ) → length cdb ≡ 16 → IsBytes cdb → IsBytes out → Takes (command_of cdb) out → IsPageAsk (record { cdb = cdb; out = out })
can_from cdb out len cdb_bytes out_bytes takes = record { built = takes.0; few = takes.1; own = takes.2; len = len; cdb_bytes = all_bytes cdb cdb_bytes; out_bytes = all_bytes out out_bytes }

-- a write with its data
pub write_can : (cdb out : List ℕ) (lba count : ℕ) → length cdb ≡ 16 → IsBytes cdb → IsBytes out → Some (Write lba count) ≡ command_of cdb → length out ≤ 4096 → IsPageAsk (record { cdb = cdb; out = out })
write_can cdb out lba count len cdb_bytes out_bytes is few =
    can_from cdb out len cdb_bytes out_bytes (subst (λ k. Takes k out) is (refl, few, take_all (length out) out (omega arith)))

-- another command, which takes none
pub other_can : (cdb out : List ℕ) (c : Command) → length cdb ≡ 16 → IsBytes cdb → IsBytes out → Some c ≡ command_of cdb → length out ≡ 0 → bytes_moved (Some c) 0 ≤ 4096 → IsPageAsk (record { cdb = cdb; out = out })
other_can cdb [] c len cdb_bytes out_bytes is none few = can_from cdb [] len cdb_bytes out_bytes (subst (λ k. Takes k []) is (takes_none c few))
other_can cdb (b ∷ out) c len cdb_bytes out_bytes is none few = absurd (omega arith)
