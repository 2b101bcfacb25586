-- The text of a run's outcomes.
use Rattle.std.specs.Prelude.{ℕ, ◌≡◌, ◌+◌, ◌*◌, ◌/◌, ◌%◌, Bool, true, false, List, [], ◌∷◌, ◌++◌, Option, Some, None, is_some, IfSome, ◌||◌, if◌then◌else◌, codes, count_by, sum_by, length, filter, take, nat_le}
use Rattle.std.specs.List.{flat_map, zip}
use Rattle.std.specs.Option.{option_map_or}
use Rattle.std.specs.Fmt.{decimal}
use Rattle.contact.specs.Versions.{versions, IsVersion}
use Rattle.contact.specs.declared.version.Version.{Version}
use Rattle.rndis_msg.specs.declared.rndis.Rndis.{Rndis}
use Rattle.rndis_msg.specs.declared.rndis.Rndis.TheVariants.{Packet, QueryComplete, SetComplete, ResetComplete, KeepaliveComplete}
use Rattle.rndis_msg.specs.Messages.{body_of}
use Rattle.scsi_disk.specs.declared.reply.DiskReply.{DiskReply}
use Rattle.scsi_disk.specs.declared.reply.DiskReply.TheVariants.{Good, Check}
use Rattle.util_ic.specs.declared.ic.IcAnswer.{IcAnswer}
use Rattle.util_ic.specs.declared.ic.IcAsk.{IcAsk}
use Rattle.util_ic.specs.declared.ic.IcAsk.TheVariants.{Beat as AskBeat, Down as AskDown}
use Rattle.script_lines.specs.declared.line.Line.{Line}
use Rattle.script_lines.specs.declared.line.What.{What}
use Rattle.script_lines.specs.declared.line.What.TheVariants.{Contact as IsContact, Offer as IsOffer, Bad as IsBad, RingSize as IsRingSize, Window as IsWindow, Ask as IsAsk, Rescind as IsRescind, Shut as IsShut, Modify as IsModify, Phase as IsPhase}
use Rattle.script_lines.specs.declared.line.Ask.{Ask}
use Rattle.script_lines.specs.declared.line.Ask.TheVariants.{Ic, Disk as AskDisk, Net as AskNet, Kvp as AskKvp}
use Rattle.bus_script.specs.declared.outcome.Reply.{Reply}
use Rattle.bus_script.specs.declared.outcome.Reply.TheVariants.{Ic as IcReply, Disk as ReplyDisk, Net as ReplyNet, Kvp as ReplyKvp}
use Rattle.bus_script.specs.declared.outcome.LineResult.{LineResult}
use Rattle.bus_script.specs.declared.outcome.LineResult.TheVariants.{Version as Agreed, Done, RescindedServed, Unserved, Modified, Unsupported, Gone, Closed}
use Rattle.kvp_lines.specs.Replies.{pair_text}
use Rattle.script_text.specs.Hex.{hex_8, hex_2, hex_short}
use Rattle.script_text.specs.Runs.{runs_of, runs_text}
use Rattle.script_lines.specs.Lines.{contact_of}
use Rattle.script_lines.specs.Parts.{is_ask, is_move, asks_in}

-- the versions that a guest with this highest one may try, in order
abbrev pub versions_from : ℕ → List ℕ
versions_from guest = filter (λ v. nat_le v guest) versions

-- the first ones that it tries
abbrev pub tried : ℕ → ℕ → List ℕ
tried guest count = take count (versions_from guest)

-- the last one tried, or else this
abbrev pub last_or : ℕ → List ℕ → ℕ
last_or other [] = other
last_or other (v ∷ vs) = last_or v vs

-- MAJOR.MINOR
abbrev pub version_text : ℕ → List ℕ
version_text v = decimal (v / 65536) ++ (codes "." ++ decimal (v % 65536))

-- each behind a space
abbrev pub versions_text : List ℕ → List ℕ
versions_text vs = flat_map (λ v. codes " " ++ version_text v) vs

-- version V tried A B, where the last one tried is V
abbrev pub contact_text : ℕ → ℕ → List ℕ
contact_text guest count = codes "version " ++ (version_text (last_or 0 (tried guest count)) ++ (codes " tried" ++ versions_text (tried guest count)))

-- good, and behind it the runs of the bytes that came back, if any did
abbrev pub good_text : List ℕ → List ℕ
good_text [] = codes "good"
good_text (b ∷ bs) = codes "good" ++ (codes " " ++ runs_text (b ∷ bs))

-- good, or check KEY/CODE/QUALIFIER
abbrev pub disk_text : DiskReply → List ℕ
disk_text (Good back) = good_text back
disk_text (Check key asc ascq) = codes "check " ++ (hex_short key ++ (codes "/" ++ (hex_2 asc ++ (codes "/" ++ hex_2 ascq))))

-- seq SEQ, or status 0xSTATUS
abbrev pub answer_text : IcAsk → IcAnswer → List ℕ
answer_text (AskBeat seq) answer = codes "seq " ++ decimal answer.seq
answer_text (AskDown reason timeout flags) answer = codes "status 0x" ++ hex_8 answer.status

-- the runs of bytes behind a space, if there are any
abbrev pub bytes_text : List ℕ → List ℕ
bytes_text [] = []
bytes_text (b ∷ bs) = codes " " ++ runs_text (b ∷ bs)

-- status 0xSTATUS
abbrev pub status_text : ℕ → List ℕ
status_text status = codes "status 0x" ++ hex_8 status

-- what came back of a query, with its bytes, of a set, of a reset or of a keepalive: its own status is told, and not that of the packet's completion
abbrev pub completion_text : Rndis → List ℕ
completion_text (QueryComplete request_id status body) = status_text status ++ bytes_text body
completion_text (SetComplete request_id status) = status_text status
completion_text (ResetComplete status addressing_reset) = status_text status
completion_text (KeepaliveComplete request_id status) = status_text status
completion_text others = []

-- back LENGTH RUNS of a frame that came back
abbrev pub back_text : Option Rndis → List ℕ
back_text (Some (Packet frame)) = codes " back " ++ (decimal (length frame) ++ bytes_text frame)
back_text others = []

-- what came back of a message: a frame of a frame, and a completion of any other
abbrev pub net_text : Rndis → Option Rndis → List ℕ
net_text (Packet frame) back = codes "sent" ++ back_text back
net_text message None = []
net_text message (Some back) = completion_text back

-- a reply to a request; one of another kind of device has no text
abbrev pub reply_text : Ask → Reply → List ℕ
reply_text (Ic ask) (IcReply answer) = answer_text ask answer
reply_text (AskDisk request) (ReplyDisk reply) = disk_text reply
reply_text (AskNet message) (ReplyNet status back) = net_text message back
reply_text (AskKvp request) (ReplyKvp reply) = pair_text reply
reply_text _ _ = []

-- how many runs the bytes of a disk's reply have
abbrev pub disk_runs : DiskReply → ℕ
disk_runs (Good back) = length (runs_of back)
disk_runs (Check key asc ascq) = 0

-- how many the message that came back has
abbrev pub net_runs : Option Rndis → ℕ
net_runs None = 0
net_runs (Some message) = length (runs_of (body_of message))

-- how many bytes of text a reply has beside 31 at most: 24 for each run that comes back, and those of the longest key and the longest value
abbrev pub reply_room : Reply → ℕ
reply_room (IcReply answer) = 0
reply_room (ReplyDisk reply) = 24 * disk_runs reply
reply_room (ReplyNet status back) = 24 * net_runs back
reply_room (ReplyKvp reply) = 255 + 1023

-- and an outcome
abbrev pub result_room : LineResult → ℕ
result_room (Agreed count) = 0
result_room (Done serial reply) = reply_room reply
result_room (RescindedServed serial) = 0
result_room Unserved = 0
result_room (Modified vp answered) = 0
result_room Unsupported = 0
result_room Gone = 0
result_room Closed = 0

-- and these outcomes
abbrev pub room_back : List LineResult → ℕ
room_back results = sum_by result_room results

-- done @SERIAL REPLY, and so on
abbrev pub ask_text : Ask → LineResult → List ℕ
ask_text ask (Agreed count) = []
ask_text ask (Done serial reply) = codes "done @" ++ (decimal serial ++ (codes " " ++ reply_text ask reply))
ask_text ask (RescindedServed serial) = codes "rescinded @" ++ decimal serial
ask_text ask Unserved = codes "rescinded unserved"
ask_text ask (Modified vp answered) = []
ask_text ask Unsupported = []
ask_text ask Gone = codes "gone"
ask_text ask Closed = codes "closed"

-- the versions that were tried; no other outcome of a contact has a text
abbrev pub agreed_text : Version → LineResult → List ℕ
agreed_text guest (Agreed count) = contact_text guest.0 count
agreed_text guest (Done serial reply) = []
agreed_text guest (RescindedServed serial) = []
agreed_text guest Unserved = []
agreed_text guest (Modified vp answered) = []
agreed_text guest Unsupported = []
agreed_text guest Gone = []
agreed_text guest Closed = []

-- modified VP, and whether the host answered; or that the version has no such message, or how the device ended before; no other outcome of a modify has a text
abbrev pub modified_text : LineResult → List ℕ
modified_text (Agreed count) = []
modified_text (Done serial reply) = []
modified_text (RescindedServed serial) = []
modified_text Unserved = []
modified_text (Modified vp true) = codes "modified " ++ decimal vp
modified_text (Modified vp false) = codes "modified " ++ (decimal vp ++ codes " unanswered")
modified_text Unsupported = codes "modify unsupported"
modified_text Gone = codes "gone"
modified_text Closed = codes "closed"

-- contact, requests and modify have outcomes, and no other line has
abbrev pub outcome_text : What → LineResult → List ℕ
outcome_text (IsContact guest host) result = agreed_text guest result
outcome_text (IsOffer name device) result = []
outcome_text (IsBad device lba) result = []
outcome_text (IsRingSize device pages) result = []
outcome_text (IsWindow device size) result = []
outcome_text (IsAsk device ask) result = ask_text ask result
outcome_text (IsRescind device after held) result = []
outcome_text (IsShut device) result = []
outcome_text (IsModify device vp) result = modified_text result
outcome_text IsPhase result = []

-- the line's number and its outcome
abbrev pub line_text : Line → LineResult → List ℕ
line_text line result = decimal line.number ++ (codes " " ++ (outcome_text line.what result ++ codes "\n"))

-- a line that prints: a contact, a request or a modify
abbrev pub tells : What → Bool
tells what = is_some (contact_of what) || is_ask what || is_move what

abbrev pub prints : Line → Bool
prints line = tells line.what

-- the lines that print, each with its outcome
abbrev pub lines_text : List Line → List LineResult → List ℕ
lines_text lines results = flat_map (λ pair. line_text pair.0 pair.1) (zip (filter prints lines) results)

-- one outcome for each line that prints
abbrev pub Answers : List Line → List LineResult → Type 0
Answers lines results = length results ≡ count_by prints lines

-- served and completed
abbrev pub is_done : LineResult → Bool
is_done (Agreed count) = false
is_done (Done serial reply) = true
is_done (RescindedServed serial) = false
is_done Unserved = false
is_done (Modified vp answered) = false
is_done Unsupported = false
is_done Gone = false
is_done Closed = false

-- rescinded, served or not
abbrev pub is_rescinded : LineResult → Bool
is_rescinded (Agreed count) = false
is_rescinded (Done serial reply) = false
is_rescinded (RescindedServed serial) = true
is_rescinded Unserved = true
is_rescinded (Modified vp answered) = false
is_rescinded Unsupported = false
is_rescinded Gone = false
is_rescinded Closed = false

-- end requests R done D rescinded S
abbrev pub end_text : ℕ → ℕ → ℕ → List ℕ
end_text requests done rescinded = codes "end requests " ++ (decimal requests ++ (codes " done " ++ (decimal done ++ (codes " rescinded " ++ (decimal rescinded ++ codes "\n")))))

-- each line that prints, and the counts
abbrev pub report_of : List Line → List LineResult → List ℕ
report_of lines results = lines_text lines results ++ end_text (asks_in lines) (count_by is_done results) (count_by is_rescinded results)

-- the versions of a contact are in the list
abbrev pub HasVersion : What → Type 0
HasVersion what = IfSome (contact_of what) (λ v. IsVersion v.0.0)

-- no outcome of a line has more bytes beside the room of what comes back
abbrev pub most_text : What → ℕ
most_text what = option_map_or (λ v. 55 + 42 * length (versions_from v.0.0)) (contact_of what) (if is_ask what || is_move what then 58 else 0)
