-- Storage packets in the packets of a disk's channel, and what a disk may reply.
use Rattle.std.specs.Prelude.{ℕ, ◌≡◌, zero, suc, Bool, ◌&&◌, nat_le, nat_lt, List, [], ◌∷◌, ◌++◌, length, Result, Ok, Err}
use Rattle.std.specs.List.{list_all}
use Rattle.scsi_disk.specs.Commands.{command_of}
use Rattle.scsi_disk.specs.DiskModel.{most_back}
use Rattle.scsi_disk.specs.declared.request.DiskRequest.{DiskRequest}
use Rattle.scsi_disk.specs.declared.reply.DiskReply.{DiskReply}
use Rattle.scsi_disk.specs.declared.reply.DiskReply.TheVariants.{Good, Check}
use Rattle.stor_proto.specs.Fields.{number_at}
use Rattle.stor_proto.specs.Packets.{vstor_bytes}
use Rattle.stor_proto.specs.Opening.{start_of, answer_of}
use Rattle.stor_proto.specs.declared.operation.Operation.TheVariants.{BeginInitialization, EndInitialization, QueryProtocolVersion, QueryProperties, CreateSubChannels}
use Rattle.stor_proto.specs.declared.stop.SrbStop.{SrbStop}
use Rattle.stor_proto.specs.declared.vstor.Vstor.{Vstor}
use Rattle.pkt_desc.specs.Packets.{inband_packet, completion_packet}
use Rattle.disk_format.specs.declared.disk_step.DiskStep.{DiskStep}
use Rattle.disk_format.specs.declared.disk_step.DiskStep.TheVariants.{Begin, Version, Properties, End, SubChannels}

-- a storage packet and data, as the guest sends it (it asks for a completion), and as the host does
unfoldable pub sent_packet : ℕ → Vstor → List ℕ → List ℕ
sent_packet id v behind = inband_packet id 1 (vstor_bytes v ++ behind)

unfoldable pub done_packet : ℕ → Vstor → List ℕ → List ℕ
done_packet id v behind = completion_packet id (vstor_bytes v ++ behind)

-- the status with which an srb is stopped: 4, an error, where its reply has no room in its page
abbrev pub stopped_by : Result DiskRequest SrbStop → ℕ
stopped_by (Ok q) = 4
stopped_by (Err stop) = stop.status

-- the bytes of a reply
abbrev pub back_of : DiskReply → List ℕ
back_of (Good bytes) = bytes
back_of (Check key asc ascq) = []

-- the disk may reply so: bytes, no more than the command asks for, or a check
unfoldable pub disk_fits : DiskRequest → DiskReply → Bool
disk_fits q (Good bytes) = nat_le (length bytes) (most_back (command_of q.cdb)) && list_all (λ b. nat_lt b 256) bytes
disk_fits q (Check key asc ascq) = nat_lt key 256 && nat_lt asc 256 && nat_lt ascq 256

-- the packets of the start-up: it begins, version 6.2 is asked for, then the properties, and it ends; then so many sub-channels are asked for
abbrev pub start_vstor : DiskStep → Vstor
start_vstor Begin = start_of BeginInitialization 0
start_vstor Version = start_of QueryProtocolVersion 0x0602
start_vstor Properties = start_of QueryProperties 0
start_vstor End = start_of EndInitialization 0
start_vstor (SubChannels n) = start_of CreateSubChannels n

unfoldable pub disk_start : ℕ → DiskStep → List ℕ
disk_start id s = sent_packet id (start_vstor s) []

-- the start-up of a disk, with so many sub-channels: the four steps, and where it has some, one that asks for them
abbrev pub disk_steps : ℕ → List DiskStep
disk_steps zero = Begin ∷ Version ∷ Properties ∷ End ∷ []
disk_steps (suc n) = Begin ∷ Version ∷ Properties ∷ End ∷ SubChannels (suc n) ∷ []

-- A disk's first channel asks for so many sub-channels behind the four steps: the packet of operation 13 has their number, and the answer to it has status 0
-- and the number too
pub record AsksForSubs (subs : ℕ) : Type 0 where
  pub last : disk_steps subs ≡ disk_steps 0 ++ SubChannels subs ∷ []
  pub operation : (start_vstor (SubChannels subs)).operation ≡ 13
  pub asked : number_at 0 2 (start_vstor (SubChannels subs)).rest ≡ subs
  pub status : (answer_of (start_vstor (SubChannels subs))).status ≡ 0
  pub granted : number_at 0 2 (answer_of (start_vstor (SubChannels subs))).rest ≡ subs
