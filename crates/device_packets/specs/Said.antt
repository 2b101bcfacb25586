-- Packets with page words, as they are read. The page of a request comes back with its completion, and words that say nothing are left out or are 0: those that
-- stood in a page that is to be read into, those of a write that come back, and those past the bytes that came.
use Rattle.std.specs.Prelude.{ℕ, ◌==◌, Bool, ◌&&◌, List, is_none, length, take, replicate, if◌then◌else◌}
use Rattle.vm_page.specs.Words.{words_for}
use Rattle.pkt_desc.specs.Packets.{kind_of}
use Rattle.page_kept.specs.declared.item.Item.{Item}
use Rattle.page_kept.specs.Items.{item_of}
use Rattle.scsi_disk.specs.Commands.{command_of}
use Rattle.stor_proto.specs.Fields.{number_at}
use Rattle.stor_proto.specs.Srbs.{cdb_in, data_in}
use Rattle.stor_proto.specs.Packets.{vstor_in, vstor_fault}
use Rattle.stor_proto.specs.declared.vstor.Vstor.{Vstor}
use Rattle.device_packets.specs.Packets.{content_of}

-- the storage packet with which a packet's bytes begin
unfoldable pub vstor_of : List ℕ → Vstor
vstor_of p = vstor_in (content_of p)

-- the bytes begin with a storage packet
unfoldable pub has_vstor : List ℕ → Bool
has_vstor p = is_none (vstor_fault (content_of p))

-- an srb whose command gives bytes
unfoldable pub gives_bytes : Vstor → Bool
gives_bytes v = data_in (command_of (cdb_in v)) == 1

-- the bytes that came with a completion: those that moved, where its srb ended well and its command gives bytes
unfoldable pub came_with : Vstor → ℕ
came_with v = if (v.operation == 1) && ((number_at 2 1 v.rest == 1) && gives_bytes v) then number_at 12 4 v.rest else 0

-- in a packet
unfoldable pub reads_into : List ℕ → Bool
reads_into p = has_vstor p && gives_bytes (vstor_of p)

unfoldable pub came_in : List ℕ → ℕ
came_in p = if has_vstor p then came_with (vstor_of p) else 0

-- the page words of a packet, as they are read: of a completion as far as bytes came, and of a request that reads into its page as many as there are, of 0
abbrev pub words_said : List ℕ → List ℕ → List ℕ
words_said p ws = if kind_of p == 11 then take (words_for (came_in p)) ws else (if (kind_of p == 9) && reads_into p then replicate (length ws) 0 else ws)

abbrev pub said_item : Item → Item
said_item i = item_of i.packet (words_said i.packet i.words)
