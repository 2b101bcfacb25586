-- SCSI requests and their replies in storage packets.
--
-- Places in an srb of 52 bytes: srb_status 2, scsi_status 3, path 5, target 6, lun 7, cdb_length 8, sense_info_length 9, data_in 10,
-- data_transfer_length 12 (4 bytes), the command or the sense 16 (20 bytes).
use Rattle.std.specs.Prelude.{◌≡◌, ◌≤◌, ℕ, ◌*◌, ◌%◌, ◌^◌, Bool, not, ◌==◌, ◌&&◌, ◌||◌, nat_lt, min, List, [], ◌∷◌, length, take, replicate, slice_range, slice_index, Option, Some, None, Result, Ok, Err, if◌then◌else◌}
use Rattle.scsi_disk.specs.Commands.{command_of}
use Rattle.scsi_disk.specs.declared.command.Command.{Command}
use Rattle.scsi_disk.specs.declared.command.Command.TheVariants.{Inquiry, ReadCapacity, Read, Write, LongCapacity}
use Rattle.scsi_disk.specs.declared.request.DiskRequest.{DiskRequest}
use Rattle.scsi_disk.specs.declared.reply.DiskReply.{DiskReply}
use Rattle.scsi_disk.specs.declared.reply.DiskReply.TheVariants.{Good, Check}
use Rattle.stor_proto.specs.Fields.{number_at, with_bytes, with_number}
use Rattle.stor_proto.specs.declared.vstor.Vstor.{Vstor}
use Rattle.stor_proto.specs.declared.end.SrbEnd.{SrbEnd}
use Rattle.stor_proto.specs.declared.end.SrbEnd.TheVariants.{Done, Refused}
use Rattle.stor_proto.specs.declared.stop.SrbStop.{SrbStop}

-- the command in an srb
abbrev pub cdb_in : Vstor → List ℕ
cdb_in p = slice_range p.rest 16 32

-- path, target and lun name the disk
abbrev pub names_disk : Vstor → Bool
names_disk p = (number_at 5 1 p.rest == 0) && (number_at 6 1 p.rest == 0) && (number_at 7 1 p.rest == 0)

-- the data of a command: what a write takes of the bytes that came
abbrev pub data_for : Option Command → ℕ → List ℕ → List ℕ
data_for (Some (Write lba count)) transfer out = take transfer out
data_for _ transfer out = []

-- the disk's request of an srb with the bytes that came, or the status with which it is stopped
abbrev pub request_of : Vstor → List ℕ → Result DiskRequest SrbStop
request_of p out =
    if not (names_disk p) then Err (record { status = 0x20 })
    else (if nat_lt 16 (number_at 8 1 p.rest) then Err (record { status = 4 })
    else Ok (record { cdb = cdb_in p; out = data_for (command_of (cdb_in p)) (number_at 12 4 p.rest) out }))

-- fixed sense: the key in byte 2, the codes in bytes 12 and 13
abbrev pub sense_of : ℕ → ℕ → ℕ → List ℕ
sense_of key asc ascq =
    0x70 ∷ 0 ∷ key ∷ 0 ∷ 0 ∷ 0 ∷ 0 ∷ 0x0a ∷ 0 ∷ 0 ∷ 0 ∷ 0 ∷ asc ∷ ascq ∷ 0 ∷ 0 ∷ 0 ∷ 0 ∷ []

-- how many bytes a command moved, where so many came back: of a write those that went, in 32 bits
abbrev pub moved_by : Option Command → ℕ → ℕ
moved_by (Some (Write lba count)) back = 512 * count % 2 ^ 32
moved_by _ back = back

-- an srb that ended well, where so many bytes came back
abbrev pub good_srb : Vstor → ℕ → List ℕ
good_srb p back = with_number 12 4 (moved_by (command_of (cdb_in p)) back) (with_number 3 1 0 (with_number 2 1 1 p.rest))

-- an srb that was refused
abbrev pub check_srb : Vstor → ℕ → ℕ → ℕ → List ℕ
check_srb p key asc ascq =
    with_bytes 16 (sense_of key asc ascq) (with_number 12 4 0 (with_number 9 1 18 (with_number 3 1 2 (with_number 2 1 0x84 p.rest))))

-- an srb with the disk's reply
abbrev pub reply_srb : Vstor → DiskReply → List ℕ
reply_srb p (Good back) = good_srb p (length back)
reply_srb p (Check key asc ascq) = check_srb p key asc ascq

-- the answer to an srb: its packet with operation 1 and other bytes
abbrev pub completed : Vstor → List ℕ → Vstor
completed p rest = record { operation = 1; flags = p.flags; status = p.status; rest = rest }

-- the answer that carries the disk's reply
abbrev pub reply_of : Vstor → DiskReply → Vstor
reply_of p r = completed p (reply_srb p r)

-- the answer to an srb that is stopped
abbrev pub stop_of : Vstor → ℕ → Vstor
stop_of p status = completed p (with_number 2 1 status p.rest)

-- how many bytes of a command go or may come: inquiry data have 36, and a capacity in 64 bits has 32
abbrev pub bytes_moved : Option Command → ℕ → ℕ
bytes_moved (Some (Inquiry standard allocation)) out = min allocation 36
bytes_moved (Some ReadCapacity) out = 8
bytes_moved (Some (Read lba count)) out = 512 * count
bytes_moved (Some (Write lba count)) out = out
bytes_moved (Some (LongCapacity built allocation)) out = min allocation 32
bytes_moved _ out = 0

-- how many bytes a command has, by its code
abbrev pub cdb_length : List ℕ → ℕ
cdb_length cdb =
    let code = slice_index cdb 0 in
    if (code == 0x00) || (code == 0x12) then 6
    else (if (code == 0x88) || (code == 0x8a) || (code == 0x9e) then 16
    else 10)

-- 1 for commands that give bytes
abbrev pub data_in : Option Command → ℕ
data_in (Some (Inquiry standard allocation)) = 1
data_in (Some ReadCapacity) = 1
data_in (Some (Read lba count)) = 1
data_in (Some (LongCapacity built allocation)) = 1
data_in _ = 0

-- the srb of a disk's request, with 0 in all else
abbrev pub ask_rest : Option Command → List ℕ → ℕ → List ℕ
ask_rest command cdb out =
    with_bytes 16 cdb (with_number 12 4 (bytes_moved command out) (with_number 10 1 (data_in command)
    (with_number 9 1 20 (with_number 8 1 (cdb_length cdb) (with_number 0 2 52 (replicate 52 0))))))

-- the guest's packet of a disk's request
abbrev pub ask_of : DiskRequest → Vstor
ask_of r = record { operation = 3; flags = 1; status = 0; rest = ask_rest (command_of r.cdb) r.cdb (length r.out) }

-- the reply in a completion, with the bytes that came back
abbrev pub done_of : Vstor → List ℕ → Option DiskReply
done_of p back =
    let status = number_at 2 1 p.rest in
    if status == 1 then Some (Good (take (min (number_at 12 4 p.rest) 4096) back))
    else (if status == 0x84 then Some (Check (slice_index p.rest 18) (slice_index p.rest 28) (slice_index p.rest 29))
    else None)

-- the reply of an srb that ended so, with the bytes that came back
abbrev pub reply_at : Option SrbEnd → List ℕ → Option DiskReply
reply_at (Some (Done moved)) back = Some (Good (take (min moved 4096) back))
reply_at (Some (Refused key asc ascq)) back = Some (Check key asc ascq)
reply_at None back = None

-- the guest reads the same reply in a completion: a check whatever came back, and bytes where as many moved at least
abbrev pub IsReadBack : Vstor → DiskReply → Vstor → Type 0
IsReadBack p (Good bytes) result = length bytes ≤ moved_by (command_of (cdb_in p)) (length bytes) → done_of result bytes ≡ Some (Good bytes)
IsReadBack p (Check key asc ascq) result = (back : List ℕ) → done_of result back ≡ Some (Check key asc ascq)

-- only a write has data
abbrev pub HasItsData : DiskRequest → Type 0
HasItsData r = data_for (command_of r.cdb) (length r.out) r.out ≡ r.out
