-- What a storage packet says.
use Rattle.std.specs.Prelude.{◌≡◌, ◌≢◌, ◌⊎◌, ℕ, ◌++◌, ◌==◌, List, [], take, codes, Some, Result, Ok, Err, if◌then◌else◌}
use Rattle.std.specs.Fmt.{decimal}
use Rattle.scsi_disk.specs.declared.request.DiskRequest.{DiskRequest}
use Rattle.stor_proto.specs.Opening.{answer_of}
use Rattle.stor_proto.specs.Packets.{InForm, IsAllowed, vstor_bytes, vstor_fault}
use Rattle.stor_proto.specs.Srbs.{request_of}
use Rattle.stor_proto.specs.declared.fault.VstorFault.{VstorFault}
use Rattle.stor_proto.specs.declared.fault.VstorFault.TheVariants.{Short, Operation, Field}
use Rattle.stor_proto.specs.declared.stop.SrbStop.{SrbStop}
use Rattle.stor_proto.specs.declared.vstor.Vstor.{Vstor}

abbrev pub vstor_fault_said : VstorFault → List ℕ
vstor_fault_said (Short have need) = (codes "vstor short " ++ decimal have) ++ (codes " need " ++ decimal need)
vstor_fault_said (Operation value) = codes "vstor operation " ++ decimal value
vstor_fault_said (Field name value) = codes "vstor field " ++ decimal value

-- whether an srb reaches the disk
abbrev pub srb_said : Result DiskRequest SrbStop → List ℕ
srb_said (Ok request) = codes "srb ok"
srb_said (Err stop) = codes "srb stop " ++ decimal stop.status

-- of an srb whether it is stopped, and of any other packet the status of its answer
abbrev pub whole_said : Vstor → List ℕ
whole_said p = if p.operation == 3 then srb_said (request_of p []) else codes "vstor status " ++ decimal (answer_of p).status

-- the bytes begin with this packet
pub record BeginsWith (b : List ℕ) (p : Vstor) : Type 0 where
  pub form : InForm p
  pub allowed : IsAllowed p
  pub bytes : take 64 b ≡ vstor_bytes p

-- the bytes begin with a packet, and this is told of it
pub record SaysPacket (b said : List ℕ) : Type 0 where
  pub packet : Vstor
  pub begins : BeginsWith b packet
  pub says : said ≡ whole_said packet

-- they begin with none, and this is told of the first fault
pub record SaysFault (b said : List ℕ) : Type 0 where
  pub fault : VstorFault
  pub is : vstor_fault b ≡ Some fault
  pub says : said ≡ vstor_fault_said fault

abbrev pub SaysVstor : List ℕ → List ℕ → Type 0
SaysVstor b said = SaysFault b said ⊎ SaysPacket b said
