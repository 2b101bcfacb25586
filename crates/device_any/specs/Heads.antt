-- What is decoded of a packet of a device of any kind.
use Rattle.std.specs.Prelude.{◌≡◌, Option, Some, IsSome}
use Rattle.page_kept.specs.declared.item.Item.{Item}
use Rattle.contact.specs.declared.kind.DeviceKind.{DeviceKind}
use Rattle.contact.specs.declared.kind.DeviceKind.TheVariants.{Beat, Down, Disk, Net, Kvp}
use Rattle.device_any.specs.declared.device_head.DeviceHead.{DeviceHead}
use Rattle.device_any.specs.declared.device_head.DeviceHead.TheVariants.{Ic as HeadIc, Disk as HeadDisk, Net as HeadNet, Kvp as HeadKvp}
use Rattle.device_any.specs.declared.device_head.DeviceAnswer.{DeviceAnswer}
use Rattle.device_any.specs.declared.device_head.DeviceAnswer.TheVariants.{Ic as AnswerIc, Disk as AnswerDisk, Net as AnswerNet, Kvp as AnswerKvp}
use Rattle.device_packets.specs.Said.{vstor_of}
use Rattle.ic_format.specs.Services.{service_read, service_result}
use Rattle.device_disk.specs.Answered.{IsAnswered}
use Rattle.device_net.specs.Came.{status_in}
use Rattle.kvp_format.specs.Pairs.{pair_result}

-- it is that of the device's kind, and what the kind's own wire decodes
abbrev pub IsHead : DeviceKind → Item → DeviceHead → Type 0
IsHead Beat i (HeadIc ask) = service_read Beat i.packet ≡ Some ask
IsHead Down i (HeadIc ask) = service_read Down i.packet ≡ Some ask
IsHead Disk i (HeadDisk v) = v ≡ vstor_of i.packet
IsHead Net i (HeadNet h) = Unit {0}
IsHead Kvp i (HeadKvp h) = Unit {0}
IsHead _ i _ = ⊥

abbrev pub IsAnswerHead : DeviceKind → Option Item → Item → DeviceAnswer → Type 0
IsAnswerHead Beat before i (AnswerIc r) = service_result Beat i.packet ≡ Some r
IsAnswerHead Down before i (AnswerIc r) = service_result Down i.packet ≡ Some r
IsAnswerHead Disk before i (AnswerDisk h) = IsAnswered i h
IsAnswerHead Net before i (AnswerNet status) = status_in i.packet ≡ Some status
IsAnswerHead Kvp before i (AnswerKvp h) = IsSome (pair_result i.packet)
IsAnswerHead _ before i _ = ⊥
