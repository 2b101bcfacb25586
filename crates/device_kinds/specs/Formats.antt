-- What the packets of each kind of channel say, with their page words.
use Rattle.std.specs.Prelude.{ℕ, Bool, List, Option}
use Rattle.page_kept.specs.declared.item.Item.{Item}
use Rattle.contact.specs.declared.kind.DeviceKind.{DeviceKind}
use Rattle.script_lines.specs.declared.line.Ask.{Ask}
use Rattle.script_lines.specs.declared.line.Ask.TheVariants.{Net as AskNet}
use Rattle.bus_script.specs.declared.outcome.Reply.{Reply}
use Rattle.channel_model.specs.WireFormat.{WireFormat}
use Rattle.device_wire.specs.declared.buffer_lists.BufferLists.{BufferLists}
use Rattle.device_wire.specs.WireModels.{startup_in}
use Rattle.device_wire.specs.EndScripts.{EndScript, asks_in}
use Rattle.net_format.specs.Nets.{with_id, request_id_of}
use Rattle.device_kinds.specs.Kinds.{DeviceWant, model_of}

abbrev pub format_of : DeviceKind → WireFormat Item DeviceWant Ask Reply
format_of kind = (model_of kind).format

-- whether its packets lend data pages
abbrev pub lends_on : DeviceKind → Bool
lends_on kind = (model_of kind).lends

-- whether messages go back besides the answers: what comes back of a network's adapter
abbrev pub besides_on : DeviceKind → Bool
besides_on kind = (model_of kind).besides

-- what the device is asked where the script asks this under an id: a message for an adapter has the id of its packet
abbrev pub asked_as : ℕ → Ask → Ask
asked_as id (AskNet message) = AskNet (with_id (request_id_of id) message)
asked_as id ask = ask

-- the packet that asks, under an id, and what a packet asks of the device
abbrev pub encode_on : DeviceKind → ℕ → DeviceWant → Item
encode_on kind id a = (format_of kind).encode id a

abbrev pub read_on : DeviceKind → Item → Option Ask
read_on kind i = (format_of kind).read i

-- an ask has an answer
abbrev pub has_answer_on : DeviceKind → DeviceWant → Bool
has_answer_on kind a = (format_of kind).has_answer a

-- the device may reply so
abbrev pub fits_on : DeviceKind → Ask → Reply → Bool
fits_on kind q r = (format_of kind).fits q r

-- the start-up of a channel, which has this number among its device's channels, where so many are beside the first one: a sub-channel has none
abbrev pub startup : DeviceKind → ℕ → ℕ → BufferLists → List DeviceWant
startup kind sub subs lists = startup_in (model_of kind) sub subs lists

-- without page lists
abbrev pub no_lists : BufferLists
no_lists = record { receive = 0; send = 0 }

-- one end's part in the protocol of a channel, and what the end that asks has to ask
abbrev pub ChannelScript : Type 0
ChannelScript = EndScript DeviceKind Ask

abbrev pub asks_of : ChannelScript → List DeviceWant
asks_of t = asks_in (model_of t.kind) t
