use Rattle.std.proofs.Common.{◌∙◌, Some, take, sym, ap}
use Rattle.vm_page.specs.Words.{words_for, bytes_in}
use Rattle.page_kept.specs.Items.{item_of}
use Rattle.stor_proto.specs.Srbs.{reply_at}
use Rattle.stor_proto.specs.declared.end.SrbEnd.TheVariants.{Done}
use Rattle.device_packets.specs.Said.{said_item}
use Rattle.device_disk.proofs.PageHeadLaws.{said_words}
use Rattle.device_disk.proofs.disk_wire.DiskWireWire.reply.Goals as goal

pub returns-in-Done : goal.returns-in-Done
returns-in-Done c =
    let h = c.requires.head in
    let i = item_of c.args._packet.now c.args.words.now in
    let ws = c.args.words.now in
    let cut = said_words i h.completes ∙ (ap (λ n. take (words_for n) ws) h.came ∙ sym c.first.ensures.front) in
    h.says ∙ (ap (λ e. reply_at (Some e) (bytes_in (said_item i).words)) c.in-Done.is ∙ (ap (λ x. reply_at (Some (Done c.in-Done.moved)) (bytes_in x)) cut ∙ ap Some (sym c.came.ensures)))

pub returns-in-Refused : goal.returns-in-Refused
returns-in-Refused c =
    let h = c.requires.head in
    let i = item_of c.args._packet.now c.args.words.now in
    h.says ∙ ap (λ e. reply_at (Some e) (bytes_in (said_item i).words)) c.in-Refused.is
