use Rattle.std.proofs.Common.{◌≡◌, ◌+◌, ◌-◌, length, take, drop, length-drop, ap, ◌∙◌, arith}
use Rattle.std.proofs.lemmas.List.{length-take-le}
use Rattle.util_ic.specs.Messages.{put}
use Rattle.kvp_ic.specs.Texts.{field_of}
use Rattle.kvp_ic.specs.Answers.{replaced}
use Rattle.kvp_ic.proofs.TextLaws.{length-field_of}
use Rattle.kvp_ic.proofs.ReplyLaws.{mid_replaced}
use Rattle.kvp_ic.proofs.answers.put_units.Goals as goal

pub returns : goal.returns
returns c =
    let us = c.args.units.now in
    let at = c.args.place.at in
    let room = c.args.room in
    let m = c.put_number.new.message in
    let k = at + room - at in
    let is = c.put_number.ensures ∙ ap (λ n. put c.args.place.size_at 4 n c.args.message.now) (c.from.ensures ∙ c.text_size.ensures) in
    let width : length (take k (drop at m)) ≡ room = omega (arith, c.put_number.auto.message, length-drop at m, length-take-le k (drop at m) (omega (arith, c.put_number.auto.message, length-drop at m))) in
    let field = c.put_text.ensures ∙ ap (λ n. field_of n us) width in
    let len : length c.put_text.new.field ≡ k = ap length field ∙ (length-field_of room us c.requires.fits ∙ omega arith) in
    mid_replaced at k m c.put_text.new.field len ∙ (ap (λ l. replaced at l m) field ∙ ap (λ l. replaced at (field_of room us) l) is)
