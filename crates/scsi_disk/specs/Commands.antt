-- Commands of the disk, as their descriptor blocks spell them.
use Rattle.std.specs.Prelude.{ℕ, Bool, ◌%◌, ◌==◌, ◌&&◌, List, Option, Some, None, if◌then◌else◌, slice_index, slice_range}
use Rattle.scsi_disk.specs.BigEndian.{be_number}
use Rattle.scsi_disk.specs.declared.command.Command.{Command}
use Rattle.scsi_disk.specs.declared.command.Command.TheVariants.{TestUnitReady, Inquiry, ReadCapacity, Read, Write, SynchronizeCache, LongCapacity}

-- the first block of a 10-byte command
abbrev pub lba_of : List ℕ → ℕ
lba_of cdb = be_number (slice_range cdb 2 6)

-- how many blocks a 10-byte command moves
abbrev pub count_of : List ℕ → ℕ
count_of cdb = be_number (slice_range cdb 7 9)

-- how many bytes an inquiry takes at most
abbrev pub allocation_of : List ℕ → ℕ
allocation_of cdb = be_number (slice_range cdb 3 5)

-- an inquiry for the standard data: no vital product data and no page code
abbrev pub is_standard : List ℕ → Bool
is_standard cdb = (slice_index cdb 1 % 2 == 0) && (slice_index cdb 2 == 0)

-- the first block of a 16-byte command
abbrev pub wide_lba : List ℕ → ℕ
wide_lba cdb = be_number (slice_range cdb 2 10)

-- how many blocks a 16-byte command moves, or how many bytes it takes at most
abbrev pub wide_count : List ℕ → ℕ
wide_count cdb = be_number (slice_range cdb 10 14)

-- the service action of a command of code 9E is that for the capacity: it stands in the low five bits of byte 1
abbrev pub asks_capacity : List ℕ → Bool
asks_capacity cdb = slice_index cdb 1 % 32 == 0x10

-- the command, where it is built
unfoldable pub command_of : List ℕ → Option Command
command_of cdb =
    let code = slice_index cdb 0 in
    if code == 0x00 then Some TestUnitReady
    else (if code == 0x12 then Some (Inquiry (is_standard cdb) (allocation_of cdb))
    else (if code == 0x25 then Some ReadCapacity
    else (if code == 0x28 then Some (Read (lba_of cdb) (count_of cdb))
    else (if code == 0x2a then Some (Write (lba_of cdb) (count_of cdb))
    else (if code == 0x35 then Some SynchronizeCache
    else (if code == 0x88 then Some (Read (wide_lba cdb) (wide_count cdb))
    else (if code == 0x8a then Some (Write (wide_lba cdb) (wide_count cdb))
    else (if code == 0x9e then Some (LongCapacity (asks_capacity cdb) (wide_count cdb))
    else None))))))))
