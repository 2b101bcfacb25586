use Rattle.std.proofs.Common.{refl, sym, ap, ◌∙◌}
use Rattle.std.specs.Prelude.{is_some}
use Rattle.vm_page.specs.Words.{bytes_in}
use Rattle.page_kept.specs.Items.{item_of}
use Rattle.device_packets.specs.Said.{said_item}
use Rattle.disk_format.specs.PageDisks.{page_read, srb_asked}
use Rattle.device_disk.proofs.PageHeadLaws.{none_from, read_is, read_other, has_so, room_of}
use Rattle.device_disk.proofs.disk_wire.DiskWireWire.head.Goals as goal

pub returns-then-not-is_page_request : goal.returns-then-not-is_page_request
returns-then-not-is_page_request c =
    let i = item_of c.args.packet.now c.args.words.now in
    read_other i (sym (c.is_page_request.ensures.value i refl) ∙ c.if-not-is_page_request.true)

pub returns-in_default : goal.returns-in_default
returns-in_default c =
    let i = item_of c.args.packet.now c.args.words.now in
    absurd (has_so i (sym (c.is_page_request.ensures.value i refl) ∙ c.if-not-is_page_request.false) c.in_default.ensures)

pub returns-then-asks_disk : goal.returns-then-asks_disk
returns-then-asks_disk c =
    let i = item_of c.args.packet.now c.args.words.now in
    let came = bytes_in c.args.words.now in
    let seen = c.in-Some.ensures in
    let waits = sym (c.is_page_request.ensures.value i refl) ∙ c.if-not-is_page_request.false in
    (ap is_some (read_is i c.in-Some.v waits seen.1 ∙ ap (λ b. srb_asked c.in-Some.v b came) (sym c.lacks_page.ensures.value)) ∙ (sym (c.asks_disk.ensures came (room_of c.args.words.now)) ∙ c.if-asks_disk.true), seen.1)

pub returns-else-asks_disk : goal.returns-else-asks_disk
returns-else-asks_disk c =
    let i = item_of c.args.packet.now c.args.words.now in
    let came = bytes_in c.args.words.now in
    let seen = c.in-Some.ensures in
    let waits = sym (c.is_page_request.ensures.value i refl) ∙ c.if-not-is_page_request.false in
    none_from (page_read (said_item i)) (ap is_some (read_is i c.in-Some.v waits seen.1 ∙ ap (λ b. srb_asked c.in-Some.v b came) (sym c.lacks_page.ensures.value)) ∙ (sym (c.asks_disk.ensures came (room_of c.args.words.now)) ∙ c.if-asks_disk.false))
