-- The disk, as its users see it: a total map from places to blocks, the places that were written, and those that can't be read.
use Rattle.std.specs.Prelude.{ℕ, ◌≤◌, ◌<◌, ◌+◌, ◌-◌, ◌*◌, Bool, false, not, ◌==◌, ◌||◌, ◌&&◌, nat_eq, nat_lt, nat_le, min, List, [], ◌∷◌, ◌++◌, length, take, filter, replicate, slice_range, Option, Some, None, is_none, if◌then◌else◌}
use Rattle.std.specs.List.{AllByRecursion, flat_map, list_any, range_with_len}
use Rattle.std.specs.Int.{to_be_bytes, w32, w64}
use Rattle.scsi_disk.specs.Commands.{command_of}
use Rattle.scsi_disk.specs.declared.command.Command.{Command}
use Rattle.scsi_disk.specs.declared.command.Command.TheVariants.{Inquiry, ReadCapacity, Read, Write, LongCapacity}
use Rattle.scsi_disk.specs.declared.refusal.Refusal.{Refusal}
use Rattle.scsi_disk.specs.declared.refusal.Refusal.TheVariants.{InvalidCode, InvalidField, OutOfRange, UnrecoveredRead, SpaceExhausted}
use Rattle.scsi_disk.specs.declared.request.DiskRequest.{DiskRequest}
use Rattle.scsi_disk.specs.declared.reply.DiskReply.{DiskReply}
use Rattle.scsi_disk.specs.declared.reply.DiskReply.TheVariants.{Good, Check}

-- how many blocks, the bytes of each, the places that were written, each once, and which places can't be read
pub record DiskState : Type 0 where
  pub blocks : ℕ
  pub bytes_at : ℕ → List ℕ
  pub written : List ℕ
  pub is_bad : ℕ → Bool

-- a block that was never written
abbrev pub zero_block : List ℕ
zero_block = replicate 512 0

-- a new disk: all zero, with these bad places
abbrev pub new_disk : ℕ → List ℕ → DiskState
new_disk blocks bad = record { blocks = blocks; bytes_at = λ _. zero_block; written = []; is_bad = λ place. list_any (nat_eq place) bad }

-- the 36 bytes of inquiry data: a disk of version 5 with fixed format, RATTLE, VMBUS DISK, 1.0
abbrev pub inquiry_data : List ℕ
inquiry_data =
    0x00 ∷ 0x00 ∷ 0x05 ∷ 0x02 ∷ 0x1f ∷ 0x00 ∷ 0x00 ∷ 0x00
    ∷ 0x52 ∷ 0x41 ∷ 0x54 ∷ 0x54 ∷ 0x4c ∷ 0x45 ∷ 0x20 ∷ 0x20
    ∷ 0x56 ∷ 0x4d ∷ 0x42 ∷ 0x55 ∷ 0x53 ∷ 0x20 ∷ 0x44 ∷ 0x49
    ∷ 0x53 ∷ 0x4b ∷ 0x20 ∷ 0x20 ∷ 0x20 ∷ 0x20 ∷ 0x20 ∷ 0x20
    ∷ 0x31 ∷ 0x2e ∷ 0x30 ∷ 0x20 ∷ []

-- the check of a refusal: sense key, additional code and its qualifier
abbrev pub check_of : Refusal → DiskReply
check_of InvalidCode = Check 5 0x20 0
check_of InvalidField = Check 5 0x24 0
check_of OutOfRange = Check 5 0x21 0
check_of UnrecoveredRead = Check 3 0x11 0
check_of SpaceExhausted = Check 7 0x27 0x07

-- a page that inquiry doesn't give, a service action that isn't built, more than 8 blocks, or data of another length than the blocks
abbrev pub has_wrong_field : Command → List ℕ → Bool
has_wrong_field (Inquiry standard allocation) out = not standard
has_wrong_field (Read lba count) out = nat_lt 8 count
has_wrong_field (Write lba count) out = nat_lt 8 count || not (length out == 512 * count)
has_wrong_field (LongCapacity built allocation) out = not built
has_wrong_field _ out = false

-- the blocks that it moves end past the disk
abbrev pub ends_past : DiskState → Command → Bool
ends_past d (Read lba count) = nat_lt d.blocks (lba + count)
ends_past d (Write lba count) = nat_lt d.blocks (lba + count)
ends_past d _ = false

-- it reads a bad block
abbrev pub reads_bad : DiskState → Command → Bool
reads_bad d (Read lba count) = list_any d.is_bad (range_with_len lba count)
reads_bad d _ = false

-- those of so many places from lba on that aren't among the written ones
abbrev pub first_written : List ℕ → ℕ → ℕ → List ℕ
first_written written lba count = filter (λ place. not (list_any (nat_eq place) written)) (range_with_len lba count)

-- how many blocks of a disk can be written
abbrev pub most_written : ℕ
most_written = 65536

-- after this write more blocks would have been written than can be
abbrev pub overfills : DiskState → Command → Bool
overfills d (Write lba count) = nat_lt most_written (length d.written + length (first_written d.written lba count))
overfills d _ = false

-- why a command is refused: the first of these that applies
unfoldable pub refusal_of : DiskState → Command → List ℕ → Option Refusal
refusal_of d command out =
    if has_wrong_field command out then Some InvalidField
    else (if ends_past d command then Some OutOfRange
    else (if reads_bad d command then Some UnrecoveredRead
    else (if overfills d command then Some SpaceExhausted
    else None)))

-- the capacity in 64 bits, 32 bytes: the last place, the size of a block, and zeros
abbrev pub long_capacity : DiskState → List ℕ
long_capacity d = to_be_bytes w64 (d.blocks - 1) ++ (to_be_bytes w32 512 ++ replicate 20 0)

-- the bytes of a good reply
unfoldable pub good_bytes : DiskState → Command → List ℕ
good_bytes d (Inquiry standard allocation) = take allocation inquiry_data
good_bytes d ReadCapacity = to_be_bytes w32 (min (d.blocks - 1) 0xffff_ffff) ++ to_be_bytes w32 512
good_bytes d (Read lba count) = flat_map d.bytes_at (range_with_len lba count)
good_bytes d (LongCapacity built allocation) = take allocation (long_capacity d)
good_bytes d _ = []

-- the check of a refusal, or else the good reply
abbrev pub answer_of : Option Refusal → List ℕ → DiskReply
answer_of (Some refusal) bytes = check_of refusal
answer_of None bytes = Good bytes

-- the reply to a command; one that isn't built has none
abbrev pub command_reply : DiskState → Option Command → List ℕ → DiskReply
command_reply d (Some command) out = answer_of (refusal_of d command out) (good_bytes d command)
command_reply d None out = check_of InvalidCode

-- the map with the bytes of out in the blocks from lba on
abbrev pub overwritten : (ℕ → List ℕ) → ℕ → ℕ → List ℕ → ℕ → List ℕ
overwritten old lba count out place =
    if nat_le lba place && nat_lt place (lba + count) then slice_range out (512 * (place - lba)) (512 * (place - lba) + 512) else old place

-- the disk after a command: a write that isn't refused replaces its blocks, and they are written then
abbrev pub command_after : DiskState → Option Command → List ℕ → DiskState
command_after d (Some (Write lba count)) out =
    if is_none (refusal_of d (Write lba count) out)
    then record { blocks = d.blocks; bytes_at = overwritten d.bytes_at lba count out; written = d.written ++ first_written d.written lba count; is_bad = d.is_bad }
    else d
command_after d _ out = d

-- the disk's reply to a request
abbrev pub disk_reply : DiskState → DiskRequest → DiskReply
disk_reply d q = command_reply d (command_of q.cdb) q.out

-- the disk after a request
abbrev pub disk_after : DiskState → DiskRequest → DiskState
disk_after d q = command_after d (command_of q.cdb) q.out

-- how many bytes come back at most
abbrev pub most_back : Option Command → ℕ
most_back (Some (Inquiry standard allocation)) = min allocation 36
most_back (Some ReadCapacity) = 8
most_back (Some (Read lba count)) = 512 * count
most_back (Some (LongCapacity built allocation)) = min allocation 32
most_back _ = 0

-- what comes back are bytes, no more than the command asks for, and a check's codes are bytes
abbrev pub IsSized : DiskRequest → DiskReply → Type 0
IsSized q (Good bytes) = (length bytes ≤ most_back (command_of q.cdb)) × AllByRecursion (λ b. b < 256) bytes
IsSized q (Check key asc ascq) = (key < 256) × (asc < 256) × (ascq < 256)
