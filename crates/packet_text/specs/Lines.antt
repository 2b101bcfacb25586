-- The packets of a run, as text.
use Rattle.std.specs.Prelude.{ℕ, ◌/◌, ◌%◌, ◌==◌, List, [], ◌++◌, drop, length, slice_index_or, codes, if◌then◌else◌}
use Rattle.std.specs.Fmt.{decimal}
use Rattle.std.specs.Int.{to_le_bytes, w64}
use Rattle.std.specs.List.{flat_map}
use Rattle.script_text.specs.Hex.{hex_2}
use Rattle.io_edge.specs.declared.side.Side.{Side}
use Rattle.io_edge.specs.declared.side.Side.TheVariants.{Guest, Host}
use Rattle.page_kept.specs.declared.item.Item.{Item}
use Rattle.bus_model.specs.Channel.{items_sent}
use Rattle.bus_model.specs.declared.channel_run.ChannelRun.{ChannelRun}
use Rattle.packet_text.specs.declared.form.Form.{Form}
use Rattle.packet_text.specs.declared.form.Form.TheVariants.{Words, Dump}
use Rattle.packet_text.specs.declared.packet.Origin.{Origin}

-- the bytes of a word, the lowest first, in two digits each behind what stands before them
abbrev pub hex_word : List ℕ → ℕ → List ℕ
hex_word before w = flat_map (λ b. before ++ hex_2 b) (to_le_bytes w64 w)

-- the bytes of words, word by word
abbrev pub hex_words : List ℕ → List ℕ → List ℕ
hex_words before words = flat_map (hex_word before) words

-- who sent a packet
abbrev pub side_text : Side → List ℕ
side_text Guest = codes " guest"
side_text Host = codes " host"

-- a packet's type: by the name that it has in the format (VM_PKT_ before it), and any other by its number
abbrev pub kind_text : ℕ → List ℕ
kind_text t =
    if t == 6 then codes " DATA_INBAND" else (if t == 7 then codes " DATA_USING_XFER_PAGES" else (if t == 9 then codes " DATA_USING_GPA_DIRECT" else (if t == 11 then codes " COMP"
    else codes " type " ++ decimal t)))

-- where a packet stands
abbrev pub origin_text : Origin → List ℕ
origin_text from = (codes "phase " ++ decimal from.phase) ++ ((codes " relid " ++ decimal from.relid) ++ side_text from.side)

-- what its first two words say, but for their lengths: type, id and flags
abbrev pub descriptor_text : List ℕ → List ℕ
descriptor_text p = kind_text (slice_index_or p 0 0 % 65536) ++ ((codes " id " ++ decimal (slice_index_or p 1 0)) ++ (codes " flags " ++ decimal (slice_index_or p 0 0 / 281474976710656)))

-- the bytes behind these two words
abbrev pub payload_text : List ℕ → List ℕ
payload_text p = codes " bytes " ++ hex_words [] (drop 2 p)

-- the bytes of the page words that went along, if any did
abbrev pub page_text : List ℕ → List ℕ
page_text ws = if length ws == 0 then [] else codes " page " ++ hex_words [] ws

-- a packet in words
abbrev pub words_line : Origin → Item → List ℕ
words_line from i = origin_text from ++ (descriptor_text i.packet ++ (payload_text i.packet ++ (page_text i.words ++ codes "\n")))

-- a packet as text2pcap reads it: its place, 000000, and each of its bytes. Page words are no part of a packet
abbrev pub dump_line : List ℕ → List ℕ
dump_line p = codes "000000" ++ (hex_words (codes " ") p ++ codes "\n")

abbrev pub line_of : Form → Origin → Item → List ℕ
line_of Words from i = words_line from i
line_of Dump from i = dump_line i.packet

-- a line for each of these packets, in order
abbrev pub lines_of : Form → Origin → List Item → List ℕ
lines_of form from items = flat_map (line_of form from) items

-- what the guest sent on a channel, and then what the host sent
abbrev pub channel_text : Form → ChannelRun → List ℕ
channel_text form c =
    lines_of form (record { phase = c.phase; relid = c.relid; side = Guest }) (items_sent Guest c.settled)
    ++ lines_of form (record { phase = c.phase; relid = c.relid; side = Host }) (items_sent Host c.settled)

-- the channels of a run, in order
abbrev pub packets_text : Form → List ChannelRun → List ℕ
packets_text form channels = flat_map (channel_text form) channels
