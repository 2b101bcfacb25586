use Rattle.std.proofs.Common.{refl, sym, ap, ◌∙◌}
use Rattle.vm_page.specs.Words.{bytes_in}
use Rattle.page_kept.specs.Items.{item_of}
use Rattle.stor_proto.specs.Srbs.{reply_at}
use Rattle.device_packets.specs.Said.{said_item}
use Rattle.device_disk.proofs.disk_wire.DiskWireWire.answer_head.Goals as goal

pub returns-in_default : goal.returns-in_default
returns-in_default c = c.in_default.ensures (said_item (item_of c.args.packet.now c.args._words.now)) refl

pub returns-in_default-srb_end : goal.returns-in_default-srb_end
returns-in_default-srb_end c =
    let i = said_item (item_of c.args.packet.now c.args._words.now) in
    c.in-Some.ensures.2 i refl ∙ (c.srb_end.ensures (bytes_in i.words) ∙ ap (λ e. reply_at e (bytes_in i.words)) c.in_default-srb_end.is)

pub returns : goal.returns
returns c =
    let i = said_item (item_of c.args.packet.now c.args._words.now) in
    record {
      completes = c.in-Some.ensures.3;
      came = c.in-Some.ensures.1 ∙ sym c.came_with.ensures;
      says = c.in-Some.ensures.2 i refl ∙ (c.srb_end.ensures (bytes_in i.words) ∙ ap (λ e. reply_at e (bytes_in i.words)) c.in-Some-srb_end.is);
    }
