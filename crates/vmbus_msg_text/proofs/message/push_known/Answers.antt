use Rattle.std.proofs.Common.{◌≡◌, List, ◌++◌, length, sym, ap, ◌∙◌, append-nil, append_assoc, subst, arith}
use Rattle.std.specs.Result.{OnOk}
use Rattle.vmbus_msg_text.specs.Layouts.{fields_text}
use Rattle.vmbus_msg_text.proofs.Known.{text_known, text_unknown, room_known, fields_known}
use Rattle.vmbus_msg_text.proofs.message.push_known.Goals as goal

pub push_fields-requires : goal.push_fields-requires
push_fields-requires c = fields_known c.layouts-layouts.result.now c.args.kind (length c.args.bytes.now) c.in-Some.layout.now c.layouts-layouts.ensures c.in-Some.ensures c.requires

pub returns-in_ok-extend_from_slice-in-Some-clause-text : goal.returns-in_ok-extend_from_slice-in-Some-clause-text
returns-in_ok-extend_from_slice-in-Some-clause-text c =
    let old = c.args.text.now.items in
    let name = c.in-Some.layout.now.name.now in
    let fields = fields_text c.in-Some.layout.now.fields.now 4 c.args.bytes.now in
    let told = text_known c.layouts-layouts.result.now c.args.kind c.in-Some.layout.now c.args.bytes.now c.layouts-layouts.ensures c.in-Some.ensures in
    let named = c.in_ok-extend_from_slice-in-Some.ensures.items ∙ ap (λ (t : List _). old ++ t) c.as_bytes.ensures.value in
    subst (λ (t : List _). OnOk c.push_fields.result (c.push_fields.new.text.items ≡ t))
    (ap (λ (t : List _). t ++ fields) named ∙ append_assoc old name fields ∙ ap (λ (t : List _). old ++ t) told) c.push_fields.ensures.text

pub returns-in_ok-extend_from_slice-in-Some-clause-short : goal.returns-in_ok-extend_from_slice-in-Some-clause-short
returns-in_ok-extend_from_slice-in-Some-clause-short c =
    let room = room_known c.layouts-layouts.result.now c.args.kind c.in-Some.layout.now c.layouts-layouts.ensures c.in-Some.ensures in
    grind (arith, room)

pub returns-in-None-clause-text : goal.returns-in-None-clause-text
returns-in-None-clause-text c =
    sym (append-nil c.args.text.now.items) ∙ ap (λ (t : List _). c.args.text.now.items ++ t) (text_unknown c.layouts-layouts.result.now c.args.kind c.args.bytes.now c.layouts-layouts.ensures c.in-None.ensures)
