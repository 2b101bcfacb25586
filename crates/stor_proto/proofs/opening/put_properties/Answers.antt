use Rattle.std.proofs.Common.{ap, ◌∙◌}
use Rattle.stor_proto.specs.Fields.{with_number}
use Rattle.stor_proto.proofs.FieldLaws.{put_is}
use Rattle.stor_proto.proofs.opening.put_properties.Goals as goal

pub returns : goal.returns
returns c =
    let r0 = c.args.rest.now in
    let r1 = c.fields-put.new.bytes in
    let r2 = c.fields-put-2.new.bytes in
    let first = put_is r0 r1 4 2 c.fields-from.result c.fields-put.ensures.front c.fields-put.ensures.rest ∙ ap (λ v. with_number 4 2 v r0) c.fields-from.ensures in
    let second = put_is r1 r2 8 4 c.fields-from-2.result c.fields-put-2.ensures.front c.fields-put-2.ensures.rest ∙ ap (λ v. with_number 8 4 v r1) c.fields-from-2.ensures in
    let third = put_is r2 c.fields-put-3.new.bytes 12 4 c.fields-from-3.result c.fields-put-3.ensures.front c.fields-put-3.ensures.rest ∙ ap (λ v. with_number 12 4 v r2) c.fields-from-3.ensures in
    third ∙ ap (with_number 12 4 4096) (second ∙ ap (with_number 8 4 1) first)
