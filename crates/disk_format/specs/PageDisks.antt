-- What the packets of a disk's channel say where data stands in data pages of the channel. A request that moves bytes is a packet of type 9 with one range, that
-- begins the page of its id; any other is in-band. Each has the 64 bytes of a storage packet alone. A completion brings back the page of its request.
use Rattle.std.specs.Prelude.{◌≡◌, ◌<◌, ◌≤◌, ℕ, ◌-◌, ◌==◌, Bool, true, false, ◌&&◌, ◌||◌, nat_le, nat_lt, min, List, [], ◌∷◌, length, replicate, Option, Some, None, IsSome, Result, Ok, Err, if◌then◌else◌}
use Rattle.std.specs.List.{AllByRecursion, list_all}
use Rattle.vm_page.specs.declared.span.Span.{Span}
use Rattle.vm_page.specs.Words.{words_for, words_of, bytes_in}
use Rattle.pkt_desc.specs.Packets.{id_of, kind_of}
use Rattle.pkt_desc.specs.Built.{gpa_packet}
use Rattle.page_kept.specs.declared.item.Item.{Item}
use Rattle.page_kept.specs.Items.{item_of}
use Rattle.scsi_disk.specs.Commands.{command_of}
use Rattle.scsi_disk.specs.DiskModel.{most_back}
use Rattle.scsi_disk.specs.declared.request.DiskRequest.{DiskRequest}
use Rattle.scsi_disk.specs.declared.reply.DiskReply.{DiskReply}
use Rattle.stor_proto.specs.Packets.{vstor_bytes}
use Rattle.stor_proto.specs.Opening.{answer_of}
use Rattle.stor_proto.specs.Srbs.{request_of, reply_of, stop_of, done_of, ask_of, bytes_moved, data_in, HasItsData}
use Rattle.stor_proto.specs.declared.stop.SrbStop.{SrbStop}
use Rattle.stor_proto.specs.declared.vstor.Vstor.{Vstor}
use Rattle.device_packets.specs.Packets.{is_of, is_inband, is_completion}
use Rattle.device_wire.specs.declared.want.Want.{Want}
use Rattle.device_wire.specs.declared.want.Want.TheVariants.{Step, Request}
use Rattle.device_wire.specs.Codecs.{Codec}
use Rattle.device_packets.specs.Said.{vstor_of, has_vstor, came_with}
use Rattle.disk_format.specs.Disks.{disk_steps, sent_packet, done_packet, stopped_by, back_of, disk_fits, disk_start}
use Rattle.device_wire.specs.WireModels.{WireModel, codec_model}
use Rattle.disk_format.specs.declared.disk_step.DiskStep.{DiskStep}
use Rattle.disk_format.specs.declared.disk_step.DiskStep.TheVariants.{Begin}

-- a packet with ranges of pages, of at most 384 words
unfoldable pub is_direct : List ℕ → Bool
is_direct p = is_of 9 p

-- a request has an answer
unfoldable pub page_waits : Item → Bool
page_waits i = (is_inband i.packet || is_direct i.packet) && has_vstor i.packet

-- it came without the page that it names: that isn't one of the channel, or the packet has two ranges, or an offset, or a range of no bytes
abbrev pub is_empty : List ℕ → Bool
is_empty [] = true
is_empty (w ∷ ws) = false

unfoldable pub lacks_page : Item → Bool
lacks_page i = (kind_of i.packet == 9) && is_empty i.words

-- a request whose reply has so much room, of at most a page
abbrev pub with_room : ℕ → Result DiskRequest SrbStop → Option DiskRequest
with_room room (Ok q) = if nat_le (most_back (command_of q.cdb)) (min room 4096) then Some q else None
with_room room (Err stop) = None

-- what a storage packet asks of the disk, with the bytes that came in its page, or without its page
unfoldable pub srb_asked : Vstor → Bool → List ℕ → Option DiskRequest
srb_asked v lacks came = if v.operation == 3 then (if lacks then None else with_room (length came) (request_of v came)) else None

-- what a packet asks of the disk
unfoldable pub page_read : Item → Option DiskRequest
page_read i = if page_waits i then srb_asked (vstor_of i.packet) (lacks_page i) (bytes_in i.words) else None

-- the storage packet with status 1 and 0 in all else
abbrev pub refused_vstor : Vstor
refused_vstor = record { operation = 1; flags = 0; status = 1; rest = replicate 52 0 }

-- The answer to a request of the start-up. One whose bytes are those of an srb that gave bytes back is refused: nothing of an answer to it may be read in the
-- page that goes back, and one that isn't its own may go back under its id
abbrev pub silent_answer : Vstor → Vstor
silent_answer w = if came_with w == 0 then w else refused_vstor

-- The answer to what asks nothing of the disk. An srb is stopped with status 4, an error, where it came without its page, or where its reply has no room there
unfoldable pub page_fixed_vstor : Vstor → Bool → List ℕ → Vstor
page_fixed_vstor v lacks came = if v.operation == 3 then stop_of v (if lacks then 4 else stopped_by (request_of v came)) else silent_answer (answer_of v)

unfoldable pub page_fixed : Item → Item
page_fixed i = item_of (done_packet (id_of i.packet) (page_fixed_vstor (vstor_of i.packet) (lacks_page i) (bytes_in i.words)) []) []

-- the answer with the disk's reply: its bytes stand in the page
unfoldable pub page_answer : Item → DiskReply → Item
page_answer i r = item_of (done_packet (id_of i.packet) (reply_of (vstor_of i.packet) r) []) (words_of (back_of r))

-- what a completion says
unfoldable pub page_result : Item → Option DiskReply
page_result i = if is_completion i.packet && (has_vstor i.packet && ((vstor_of i.packet).operation == 1)) then done_of (vstor_of i.packet) (bytes_in i.words) else None

-- how many bytes a request moves
abbrev pub bytes_of_ask : DiskRequest → ℕ
bytes_of_ask q = bytes_moved (command_of q.cdb) (length q.out)

-- its page words: those of a write's data, or 0 for all that may come
abbrev pub words_asked : DiskRequest → List ℕ
words_asked q = if data_in (command_of q.cdb) == 1 then replicate (words_for (bytes_of_ask q)) 0 else words_of q.out

-- the first bytes of a page
abbrev pub page_front : ℕ → ℕ → Span
page_front page n = record { page = page; offset = 0; len = n }

-- a storage packet in a packet of type 9 with one range: so many first bytes of the page of its id. That of id 1 is page 0
unfoldable pub direct_packet : ℕ → ℕ → Vstor → List ℕ
direct_packet id n v = gpa_packet id (page_front (id - 1) n ∷ []) (vstor_bytes v)

-- the packet that asks the disk, with its page words
unfoldable pub page_ask : ℕ → DiskRequest → Item
page_ask id q = if bytes_of_ask q == 0 then item_of (sent_packet id (ask_of q) []) [] else item_of (direct_packet id (bytes_of_ask q) (ask_of q)) (words_asked q)

-- a command of 16 bytes, that moves at most a page
unfoldable pub fits_page : DiskRequest → Bool
fits_page q = (length q.cdb == 16) && (list_all (λ b. nat_lt b 256) q.cdb && nat_le (bytes_of_ask q) 4096)

-- a request that can be asked: of a built command that moves at most a page, with data exactly where it is a write
pub record IsPageAsk (q : DiskRequest) : Type 0 where
  pub built : IsSome (command_of q.cdb)
  pub few : bytes_of_ask q ≤ 4096
  pub own : HasItsData q
  pub len : length q.cdb ≡ 16
  pub cdb_bytes : AllByRecursion (λ b. b < 256) q.cdb
  pub out_bytes : AllByRecursion (λ b. b < 256) q.out

-- the packet of an ask: a request that fits no page counts as the start-up's first step
abbrev pub page_encode : ℕ → Want DiskStep DiskRequest → Item
page_encode id (Step s) = item_of (disk_start id s) []
page_encode id (Request q) = if fits_page q then page_ask id q else item_of (disk_start id Begin) []

-- the channel of a disk, over data pages
abbrev pub page_codec : Codec Item (Want DiskStep DiskRequest) DiskRequest DiskReply
page_codec = record {
  id = λ i. id_of i.packet;
  answers = λ i. kind_of i.packet == 11;
  encode = page_encode;
  waits = page_waits;
  read = page_read;
  fixed = page_fixed;
  fits = disk_fits;
  answer = page_answer;
  said = page_result;
}

abbrev pub disk_model : WireModel DiskStep DiskRequest DiskReply
disk_model = codec_model page_codec true (λ subs lists. disk_steps subs)
