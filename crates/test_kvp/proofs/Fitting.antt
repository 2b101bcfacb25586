-- What a key-value service replies fits its request.
use Rattle.std.proofs.Common.{◌≡◌, true}
use Rattle.contact.specs.declared.kind.DeviceKind.TheVariants.{Kvp}
use Rattle.kvp_ic.specs.declared.message.Kvp.{Kvp as Message}
use Rattle.kvp_ic.specs.declared.message.KvpReply.{KvpReply}
use Rattle.kvp_ic.specs.Machine.{IsReplyTo}
use Rattle.script_lines.specs.declared.line.Ask.TheVariants.{Kvp as AskKvp}
use Rattle.bus_script.specs.declared.outcome.Reply.TheVariants.{Kvp as ReplyKvp}
use Rattle.device_kinds.specs.Formats.{fits_on}
use Rattle.device_kinds.proofs.KindLaws.{replies_fit}

pub kvp_reply_fits : (q : Message) (r : KvpReply) → IsReplyTo q r → fits_on Kvp (AskKvp q) (ReplyKvp r) ≡ true
kvp_reply_fits = replies_fit Kvp
