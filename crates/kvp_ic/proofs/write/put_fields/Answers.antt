use Rattle.std.proofs.Common.{◌≡◌, ◌+◌, ◌-◌, length, take, drop, length-drop, ap, ◌∙◌, arith}
use Rattle.std.proofs.lemmas.List.{length-take-le}
use borrow.Rule.Slice.PartMut.{put_mid}
use Rattle.kvp_ic.specs.Texts.{field_of}
use Rattle.kvp_ic.proofs.TextLaws.{length-field_of}
use Rattle.kvp_ic.proofs.WriteLaws.{length-mid, fields_written}
use Rattle.kvp_ic.proofs.write.put_fields.Goals as goal

pub returns : goal.returns
returns c =
    let m = c.args.message.now in
    let at = c.args.at in
    let k = at + 512 - at in
    let key = c.args.key.now in
    let value = c.args.value.now in
    let width : length (take k (drop at m)) ≡ 512 = omega (arith, length-drop at m, length-take-le k (drop at m) (omega (arith, length-drop at m))) in
    let is_key = c.put_text.ensures ∙ ap (λ n. field_of n key) width in
    let key_len : length c.put_text.new.field ≡ k = ap length is_key ∙ (length-field_of 512 key c.requires.key ∙ omega arith) in
    let m1 = put_mid at k m c.put_text.new.field in
    let whole : length m1 ≡ length m = length-mid at k m c.put_text.new.field (omega arith) key_len in
    let j = length m1 - (at + 512) in
    let rest : length (take j (drop (at + 512) m1)) ≡ 2048 = omega (arith, whole, length-drop (at + 512) m1, length-take-le j (drop (at + 512) m1) (omega (arith, length-drop (at + 512) m1))) in
    let is_value = c.put_text-2.ensures ∙ ap (λ n. field_of n value) rest in
    fields_written at k j m c.put_text.new.field c.put_text-2.new.field key value (omega arith) c.requires.len (omega (arith, whole)) is_key is_value c.requires.key
