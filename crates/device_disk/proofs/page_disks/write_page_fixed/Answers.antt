use Rattle.std.proofs.Common.{refl, sym, ap, ◌∙◌, arith}
use Rattle.std.specs.Prelude.{is_none}
use Rattle.vm_page.specs.Words.{bytes_in}
use Rattle.page_kept.specs.Items.{item_of}
use Rattle.disk_format.specs.PageDisks.{srb_asked, page_fixed_vstor}
use Rattle.device_disk.proofs.PageHeadLaws.{none_if, read_is, has_so, room_of, fixed_goes, none_goes, asked_goes, fixed_packet}
use Rattle.device_disk.proofs.page_disks.write_page_fixed.Goals as goal

pub returns-then-not-is_page_request-clause-value : goal.returns-then-not-is_page_request-clause-value
returns-then-not-is_page_request-clause-value c n =
    let i = item_of c.args.packet.now c.args.words.now in
    none_goes i _ n (sym (c.is_page_request.ensures.value i refl) ∙ c.if-not-is_page_request.true) refl

pub returns-in_default-clause-value : goal.returns-in_default-clause-value
returns-in_default-clause-value c =
    let i = item_of c.args.packet.now c.args.words.now in
    absurd (has_so i (sym (c.is_page_request.ensures.value i refl) ∙ c.if-not-is_page_request.false) c.in_default.ensures)

pub write_done-requires-clause-allowed : goal.write_done-requires-clause-allowed
write_done-requires-clause-allowed c = c.in-Some-fixed.ensures.0

pub returns-in-Some-fixed-clause-value : goal.returns-in-Some-fixed-clause-value
returns-in-Some-fixed-clause-value c n =
    let i = item_of c.args.packet.now c.args.words.now in
    let came = bytes_in c.args.words.now in
    let v = c.in-Some.v in
    let seen = c.in-Some.ensures in
    let waits = sym (c.is_page_request.ensures.value i refl) ∙ c.if-not-is_page_request.false in
    let goes = c.in-Some-fixed.ensures.1 came (room_of c.args.words.now) in
    let none = read_is i v waits seen.1 ∙ ap (λ b. srb_asked v b came) (sym c.lacks_page.ensures.value) ∙ none_if (srb_asked v c.lacks_page.result came) goes.0 in
    let is = c.write_done.ensures.packet ∙ fixed_packet i v c.in-Some-fixed.answer seen.1 (goes.1 ∙ ap (λ b. page_fixed_vstor v b came) c.lacks_page.ensures.value) in
    let two = c.write_done.ensures.is_packet.two in
    fixed_goes i _ n waits none is (omega (arith, two))

pub returns-in-None-clause-value : goal.returns-in-None-clause-value
returns-in-None-clause-value c n =
    let i = item_of c.args.packet.now c.args.words.now in
    let came = bytes_in c.args.words.now in
    let v = c.in-Some.v in
    let seen = c.in-Some.ensures in
    let waits = sym (c.is_page_request.ensures.value i refl) ∙ c.if-not-is_page_request.false in
    asked_goes i _ n (ap is_none (read_is i v waits seen.1 ∙ ap (λ b. srb_asked v b came) (sym c.lacks_page.ensures.value)) ∙ c.in-None.ensures came (room_of c.args.words.now)) refl
