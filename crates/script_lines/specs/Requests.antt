-- The requests that lines ask of a disk, and of a network.
use Rattle.std.specs.Prelude.{ℕ, ◌≡◌, ◌≤◌, ◌<◌, ◌*◌, ◌^◌, nat_lt, if◌then◌else◌, true, List, [], ◌∷◌, ◌++◌, length, replicate, Option, Some, IsSome, IfSome, unwrap_or}
use Rattle.std.specs.Int.{to_be_bytes, w16, w32, w64}
use Rattle.std.specs.List.{AllByRecursion}
use Rattle.rndis_msg.specs.declared.rndis.Rndis.{Rndis}
use Rattle.rndis_msg.specs.declared.rndis.Rndis.TheVariants.{Packet, Query, Set, Reset, Keepalive}
use Rattle.scsi_disk.specs.Commands.{command_of}
use Rattle.scsi_disk.specs.declared.command.Command.{Command}
use Rattle.scsi_disk.specs.declared.command.Command.TheVariants.{TestUnitReady, Inquiry as IsInquiry, ReadCapacity, Read as IsRead, Write as IsWrite, SynchronizeCache, LongCapacity as IsLongCapacity}
use Rattle.scsi_disk.specs.declared.request.DiskRequest.{DiskRequest}
use Rattle.script_lines.specs.declared.disk_ask.DiskAsk.{DiskAsk}
use Rattle.script_lines.specs.declared.disk_ask.DiskAsk.TheVariants.{Ready, Inquiry, Capacity, LongCapacity, Flush, Read, Write}

-- a command of 10 bytes, in 16: its code, its first block in bytes 2 to 5 and its count of blocks in bytes 7 and 8, both big-endian
abbrev pub ten : ℕ → ℕ → ℕ → List ℕ
ten code lba count = code ∷ 0 ∷ (to_be_bytes w32 lba ++ (0 ∷ (to_be_bytes w16 count ++ (0 ∷ 0 ∷ 0 ∷ 0 ∷ 0 ∷ 0 ∷ 0 ∷ []))))

-- a command in 16 bytes: its code, its first block in bytes 2 to 9 and its count of blocks in bytes 10 to 13, both big-endian
abbrev pub sixteen : ℕ → ℕ → ℕ → List ℕ
sixteen code lba count = code ∷ 0 ∷ (to_be_bytes w64 lba ++ (to_be_bytes w32 count ++ (0 ∷ 0 ∷ [])))

-- a command that moves blocks, by its code in 10 and its code in 16 bytes: it has 10 where the number of the first block fits into 32 bits, and else 16
abbrev pub moving : ℕ → ℕ → ℕ → ℕ → List ℕ
moving narrow wide lba count = if nat_lt lba (2 ^ 32) then ten narrow lba count else sixteen wide lba count

-- the capacity in 64 bits: the service action stands in byte 1, and how many bytes may come, 32, in bytes 10 to 13, big-endian
abbrev pub long_capacity_cdb : List ℕ
long_capacity_cdb = 0x9e ∷ 0x10 ∷ 0 ∷ 0 ∷ 0 ∷ 0 ∷ 0 ∷ 0 ∷ 0 ∷ 0 ∷ 0 ∷ 0 ∷ 0 ∷ 32 ∷ 0 ∷ 0 ∷ []

-- an inquiry for 36 bytes: how many may come stands in bytes 3 and 4, big-endian
abbrev pub inquiry_cdb : List ℕ
inquiry_cdb = 0x12 ∷ 0 ∷ 0 ∷ 0 ∷ 36 ∷ 0 ∷ 0 ∷ 0 ∷ 0 ∷ 0 ∷ 0 ∷ 0 ∷ 0 ∷ 0 ∷ 0 ∷ 0 ∷ []

-- so many blocks of one byte
abbrev pub filled : ℕ → ℕ → List ℕ
filled count byte = replicate (512 * count) byte

-- the command of a line
abbrev pub cdb_of : DiskAsk → List ℕ
cdb_of Ready = ten 0x00 0 0
cdb_of Inquiry = inquiry_cdb
cdb_of Capacity = ten 0x25 0 0
cdb_of LongCapacity = long_capacity_cdb
cdb_of Flush = ten 0x35 0 0
cdb_of (Read lba count) = moving 0x28 0x88 (unwrap_or lba 0) (unwrap_or count 0)
cdb_of (Write lba count byte) = moving 0x2a 0x8a (unwrap_or lba 0) (unwrap_or count 0)

-- the data of a line: a write alone has any
abbrev pub out_of : DiskAsk → List ℕ
out_of Ready = []
out_of Inquiry = []
out_of Capacity = []
out_of LongCapacity = []
out_of Flush = []
out_of (Read lba count) = []
out_of (Write lba count byte) = filled (unwrap_or count 0) byte

-- the request of a line
abbrev pub request_of : DiskAsk → DiskRequest
request_of ask = record { cdb = cdb_of ask; out = out_of ask }

-- the disk's command of a line
abbrev pub command_said : DiskAsk → Command
command_said Ready = TestUnitReady
command_said Inquiry = IsInquiry true 36
command_said Capacity = ReadCapacity
command_said LongCapacity = IsLongCapacity true 32
command_said Flush = SynchronizeCache
command_said (Read lba count) = IsRead (unwrap_or lba 0) (unwrap_or count 0)
command_said (Write lba count byte) = IsWrite (unwrap_or lba 0) (unwrap_or count 0)

-- its first block has a number of 64 bits, and it moves at most 8 blocks
abbrev pub AskInRange : DiskAsk → Type 0
AskInRange Ready = Unit {0}
AskInRange Inquiry = Unit {0}
AskInRange Capacity = Unit {0}
AskInRange LongCapacity = Unit {0}
AskInRange Flush = Unit {0}
AskInRange (Read lba count) = IfSome lba (λ n. n < 2 ^ 64) × IfSome count (λ n. n ≤ 8)
AskInRange (Write lba count byte) = IfSome lba (λ n. n < 2 ^ 64) × IfSome count (λ n. n ≤ 8)

-- a message that a line sends to an adapter: a query with no bytes of its own, a set of 1 to 64 bytes, a keepalive and a reset, or a frame of 14 to 1,514
-- bytes. The packet that carries it gives it its request id
abbrev pub IsSent : Rndis → Type 0
IsSent (Query request_id oid body) = (request_id ≡ 0) × (oid < 2 ^ 32) × (body ≡ [])
IsSent (Set request_id oid body) = (request_id ≡ 0) × (oid < 2 ^ 32) × (1 ≤ length body) × (length body ≤ 64) × AllByRecursion (λ b. b < 256) body
IsSent (Keepalive request_id) = request_id ≡ 0
IsSent Reset = Unit {0}
IsSent (Packet body) = (14 ≤ length body) × (length body ≤ 1514) × AllByRecursion (λ b. b < 256) body
IsSent others = ⊥

-- how many bytes a command moves at most, to the disk or back
abbrev pub most_moved : Option Command → ℕ
most_moved (Some (IsInquiry standard allocation)) = allocation
most_moved (Some ReadCapacity) = 8
most_moved (Some (IsRead lba count)) = 512 * count
most_moved (Some (IsWrite lba count)) = 512 * count
most_moved (Some (IsLongCapacity built allocation)) = allocation
most_moved _ = 0

-- how many bytes a command writes
abbrev pub bytes_written : Option Command → ℕ
bytes_written (Some (IsWrite lba count)) = 512 * count
bytes_written _ = 0

-- a request that a disk's channel carries: a built command in 16 bytes, which moves at most 4,096 bytes, with the data that it writes
pub record CanBeCarried (request : DiskRequest) : Type 0 where
  pub bytes : length request.cdb ≡ 16
  pub built : IsSome (command_of request.cdb)
  pub moves : most_moved (command_of request.cdb) ≤ 4096
  pub writes : length request.out ≡ bytes_written (command_of request.cdb)
