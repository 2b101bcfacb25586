-- What a guest's disk driver says and reads.
use Rattle.std.specs.Prelude.{◌≡◌, ◌≤◌, ℕ, List, [], ◌∷◌, ◌++◌, length, take, drop, Some}
use Rattle.std.specs.Int.{to_be_bytes, w16, w32}
use Rattle.vm_page.specs.Words.{bytes_in}
use Rattle.pkt_desc.specs.Packets.{IsPacket, kind_of, id_of, payload_of}
use Rattle.scsi_disk.specs.Commands.{command_of}
use Rattle.scsi_disk.specs.declared.command.Command.TheVariants.{Read}
use Rattle.scsi_disk.specs.declared.request.DiskRequest.{DiskRequest}
use Rattle.scsi_disk.specs.declared.reply.DiskReply.{DiskReply}
use Rattle.stor_proto.specs.Opening.{start_of}
use Rattle.stor_proto.specs.Packets.{IsAllowed, InForm, vstor_bytes}
use Rattle.stor_proto.specs.Srbs.{done_of}
use Rattle.stor_proto.specs.declared.operation.Operation.TheVariants.{BeginInitialization, EndInitialization, QueryProtocolVersion, QueryProperties}
use Rattle.stor_proto.specs.declared.vstor.Vstor.{Vstor}

-- the start-up's packets, in order: version 6.2 is asked for
abbrev pub start_ups : List Vstor
start_ups = start_of BeginInitialization 0 ∷ start_of QueryProtocolVersion 0x0602 ∷ start_of QueryProperties 0 ∷ start_of EndInitialization 0 ∷ []

-- the command that reads blocks, in 16 bytes: its code, its first block in bytes 2 to 5 and its count of blocks in bytes 7 and 8, both big-endian
abbrev pub read_command : ℕ → ℕ → List ℕ
read_command lba count = 0x28 ∷ 0 ∷ (to_be_bytes w32 lba ++ (0 ∷ (to_be_bytes w16 count ++ (0 ∷ 0 ∷ 0 ∷ 0 ∷ 0 ∷ 0 ∷ 0 ∷ []))))

-- the disk is asked for so many blocks from this one on
abbrev pub Reads : ℕ → ℕ → DiskRequest → Type 0
Reads lba count q = (command_of q.cdb ≡ Some (Read lba count)) × (q.out ≡ [])

-- words are a completion of this id, which begins with a storage packet that is an answer, and says this reply of the disk
pub record Answers (words : List ℕ) (id : ℕ) (reply : DiskReply) : Type 0 where
  pub is_packet : IsPacket words
  pub kind_is : kind_of words ≡ 11
  pub id_is : id_of words ≡ id
  pub long : 64 ≤ length (bytes_in (payload_of words))
  pub packet : Vstor
  pub in_form : InForm packet
  pub allowed : IsAllowed packet
  pub begins : take 64 (bytes_in (payload_of words)) ≡ vstor_bytes packet
  pub answer : packet.operation ≡ 1
  pub says : done_of packet (drop 64 (bytes_in (payload_of words))) ≡ Some reply
