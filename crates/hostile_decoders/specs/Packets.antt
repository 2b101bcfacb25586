-- What a packet says.
use Rattle.std.specs.Prelude.{ℕ, ◌/◌, ◌++◌, List, map, length, codes, Option, Some, None}
use Rattle.std.specs.List.{range_with_len}
use Rattle.std.specs.Fmt.{decimal}
use Rattle.pkt_desc.specs.Faults.{fault_of}
use Rattle.pkt_desc.specs.Lending.{lent_of}
use Rattle.pkt_desc.specs.declared.desc.PacketFault.{PacketFault}
use Rattle.pkt_desc.specs.declared.desc.PacketFault.TheVariants.{Length, Offset, Ranges}
use Rattle.pkt_desc.specs.declared.loan.Lent.{Lent}
use Rattle.vm_page.specs.Words.{word_at}

-- the words of bytes, eight each
abbrev pub words_in : List ℕ → List ℕ
words_in b = map (word_at b) (range_with_len 0 (length b / 8))

abbrev pub packet_fault_said : PacketFault → List ℕ
packet_fault_said (Length len8 have) = (codes "packet length " ++ decimal len8) ++ (codes " have " ++ decimal have)
packet_fault_said (Offset offset8 len8) = (codes "packet offset " ++ decimal offset8) ++ (codes " length " ++ decimal len8)
packet_fault_said (Ranges count have) = (codes "packet ranges " ++ decimal count) ++ (codes " have " ++ decimal have)

abbrev pub lent_said : Option Lent → List ℕ
lent_said (Some l) = (codes "lent page " ++ decimal l.page) ++ (codes " bytes " ++ decimal l.bytes)
lent_said None = codes "lent none"

-- the first fault of a packet, or the page that it lends
abbrev pub packet_said : Option PacketFault → Option Lent → List ℕ
packet_said (Some fault) lent = packet_fault_said fault
packet_said None lent = lent_said lent

abbrev pub packet_text : List ℕ → List ℕ
packet_text b = packet_said (fault_of (words_in b)) (lent_of (words_in b))
