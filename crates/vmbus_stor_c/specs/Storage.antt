-- A storage packet and a refusal as the numbers that C sees.
use Rattle.std.specs.Prelude.{◌≡◌, ◌≢◌, ◌≤◌, ◌==◌, ℕ, List, [], length, take, slice_index, Option, Some, None, IsSome, Result, Ok, Err, if◌then◌else◌}
use Rattle.scsi_disk.specs.Commands.{command_of}
use Rattle.scsi_disk.specs.declared.command.Command.{Command}
use Rattle.scsi_disk.specs.declared.command.Command.TheVariants.{TestUnitReady, Inquiry, ReadCapacity, Read, Write, SynchronizeCache, LongCapacity}
use Rattle.scsi_disk.specs.declared.reply.DiskReply.{DiskReply}
use Rattle.scsi_disk.specs.declared.reply.DiskReply.TheVariants.{Good, Check}
use Rattle.scsi_disk.specs.declared.request.DiskRequest.{DiskRequest}
use Rattle.stor_proto.specs.Fields.{number_at}
use Rattle.stor_proto.specs.Srbs.{bytes_moved, request_of}
use Rattle.stor_proto.specs.declared.stop.SrbStop.{SrbStop}
use Rattle.vmbus_stor_c.specs.declared.guest.VmbusDiskEnd.{VmbusDiskEnd}
use Rattle.vmbus_stor_c.specs.declared.host.VmbusDiskAsked.{VmbusDiskAsked}
use Rattle.stor_proto.specs.Packets.{InForm, IsAllowed, vstor_bytes}
use Rattle.stor_proto.specs.declared.vstor.Vstor.{Vstor}
use Rattle.stor_proto.specs.declared.fault.VstorFault.{VstorFault}
use Rattle.stor_proto.specs.declared.fault.VstorFault.TheVariants.{Short, Operation, Field}
use Rattle.vmbus_stor_c.specs.declared.storage.VmbusStorage.{VmbusStorage}

abbrev pub fields_of : Vstor → VmbusStorage
fields_of p = record { operation = p.operation; flags = p.flags; status = p.status }

-- the packet of these numbers and bytes
abbrev pub packet_of : VmbusStorage → List ℕ → Vstor
packet_of v bytes = record { operation = v.operation; flags = v.flags; status = v.status; rest = bytes }

-- the number of a refusal
abbrev pub number_of : VstorFault → ℕ
number_of (Short have need) = 1
number_of (Operation value) = 2
number_of (Field name value) = 3

-- the bytes begin with this packet
abbrev pub Begins : Vstor → List ℕ → Type 0
Begins p bytes = InForm p × IsAllowed p × (take 64 bytes ≡ vstor_bytes p)

-- and it is no SCSI request
abbrev pub IsOpening : Vstor → List ℕ → Type 0
IsOpening p bytes = Begins p bytes × (p.operation ≢ 3)

-- and it is one
abbrev pub IsSrb : Vstor → List ℕ → Type 0
IsSrb p bytes = Begins p bytes × (p.operation ≡ 3)

-- a disk's request of this command, to which so many bytes go
abbrev pub Asks : DiskRequest → List ℕ → ℕ → Type 0
Asks r cdb goes = (r.cdb ≡ cdb) × (length r.out ≡ goes)

-- a command that is built, and moves a page at most
pub record CanAsk (cdb : List ℕ) (goes : ℕ) : Type 0 where
  pub whole : length cdb ≡ 16
  pub built : IsSome (command_of cdb)
  pub gives : goes ≤ 4096
  pub moves : bytes_moved (command_of cdb) goes ≤ 4096

-- how a completion says that its request ended: with sense where it is a refusal
abbrev pub end_in : Vstor → VmbusDiskEnd
end_in p =
    let status = number_at 2 1 p.rest in
    let refusal = λ (n : ℕ). if status == 1 then 0 else n in
    record { status = status; moved = number_at 12 4 p.rest; key = refusal (slice_index p.rest 18); asc = refusal (slice_index p.rest 28); ascq = refusal (slice_index p.rest 29) }

abbrev asking : ℕ → ℕ → ℕ → ℕ → ℕ → ℕ → ℕ → VmbusDiskAsked
asking command transfer plain stop allocation lba count = record { command = command; transfer = transfer; plain = plain; stop = stop; allocation = allocation; lba = lba; count = count }

-- a command's numbers
abbrev pub asked_of : Option Command → ℕ → ℕ → VmbusDiskAsked
asked_of None transfer stop = asking 0 transfer 0 stop 0 0 0
asked_of (Some TestUnitReady) transfer stop = asking 1 transfer 0 stop 0 0 0
asked_of (Some (Inquiry standard allocation)) transfer stop = asking 2 transfer (if standard then 1 else 0) stop allocation 0 0
asked_of (Some ReadCapacity) transfer stop = asking 3 transfer 0 stop 0 0 0
asked_of (Some (Read lba count)) transfer stop = asking 4 transfer 0 stop 0 lba count
asked_of (Some (Write lba count)) transfer stop = asking 5 transfer 0 stop 0 lba count
asked_of (Some SynchronizeCache) transfer stop = asking 6 transfer 0 stop 0 0 0
asked_of (Some (LongCapacity built allocation)) transfer stop = asking 7 transfer (if built then 1 else 0) stop allocation 0 0

abbrev pub stop_in : Result DiskRequest SrbStop → ℕ
stop_in (Ok r) = 0
stop_in (Err stop) = stop.status

-- the status with which an srb has to be stopped, whatever bytes come with it, or 0
abbrev pub stopped_of : Vstor → ℕ
stopped_of p = stop_in (request_of p [])

-- a reply of so many bytes
abbrev pub IsGood : ℕ → DiskReply → Type 0
IsGood back (Good bytes) = length bytes ≡ back
IsGood back (Check key asc ascq) = ⊥
