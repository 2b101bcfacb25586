use Rattle.std.proofs.Common.{◌≡◌, ◌-◌, ◌*◌, ◌++◌, length, get_or, take, drop, length-drop, refl, sym, ap, ◌∙◌, arith}
use Rattle.std.specs.List.{flat_map}
use Rattle.std.proofs.lemmas.List.{length-take-le, take_all}
use Rattle.wire_table.specs.Little.{bytes_of}
use Rattle.util_ic.specs.Messages.{zeros}
use Rattle.util_ic.proofs.ByteLaws.{end_written}
use Rattle.kvp_ic.proofs.TextLaws.{unit_written}
use Rattle.kvp_ic.proofs.text.put_text.Goals as goal

pub loop-i-preserved : goal.loop-i-preserved
loop-i-preserved c =
    unit_written c.loop-i.i (get_or c.args.units.now c.loop-i.i 0) c.args.units.now c.loop-i.field c.put_unit.new.field (omega arith) refl c.loop-i.invariant c.put_unit.ensures.front

pub returns : goal.returns
returns c =
    let field = c.loop-i.field in
    let us = c.args.units.now in
    let at = 2 * length us in
    let k = length field - at in
    let room = length c.args.field.now in
    let same : length field ≡ room = omega arith in
    let size : length (take k (drop at field)) ≡ room - at = omega (arith, same, length-drop at field, length-take-le k (drop at field) (omega (arith, length-drop at field))) in
    let all : take c.loop-i.i us ≡ us = take_all c.loop-i.i us (omega arith) in
    let reached : 2 * c.loop-i.i ≡ at = omega arith in
    let front : take at field ≡ flat_map (bytes_of 2) us = ap (λ n. take n field) (sym reached) ∙ (c.loop-i.invariant ∙ ap (flat_map (bytes_of 2)) all) in
    end_written field c.clear.new.part (zeros (room - at)) at k (omega arith) (c.clear.ensures ∙ ap zeros size) ∙ ap (λ l. l ++ zeros (room - at)) front
