use Rattle.std.proofs.Common.{◌≤◌, [], ◌++◌, length, sym, ap, ◌∙◌, subst, arith}
use Rattle.std.proofs.lemmas.List.{take_all, drop_all}
use Rattle.wire_table.specs.Rows.{spelled_after}
use Rattle.util_ic.proofs.ByteLaws.{front_written}
use Rattle.kvp_ic.specs.declared.message.Kvp.TheVariants.{Get, Set, Delete, Enum}
use Rattle.kvp_ic.specs.Machine.{pool_of}
use Rattle.kvp_ic.specs.Texts.{text_size}
use Rattle.kvp_ic.specs.Messages.{keyed_rows, field_rows, kvp_bytes, Asks}
use Rattle.kvp_ic.proofs.WriteLaws.{bytes_ask}
use Rattle.kvp_ic.proofs.write.encode.Goals as goal

pub returns-in-Get-clause-asks : goal.returns-in-Get-clause-asks
returns-in-Get-clause-asks c five more = subst (λ m. Asks m (kvp_bytes m ++ more)) (sym c.in-Get.is) (bytes_ask (Get c.in-Get.pool c.in-Get.key) c.units.ensures.text (subst (λ m. pool_of m ≤ 4) c.in-Get.is five) more)

pub returns-in-Delete-clause-asks : goal.returns-in-Delete-clause-asks
returns-in-Delete-clause-asks c five more = subst (λ m. Asks m (kvp_bytes m ++ more)) (sym c.in-Delete.is) (bytes_ask (Delete c.in-Delete.pool c.in-Delete.key) c.units-in-Delete.ensures.text (subst (λ m. pool_of m ≤ 4) c.in-Delete.is five) more)

pub returns-in-Get-clause-message : goal.returns-in-Get-clause-message
returns-in-Get-clause-message c =
    let asked = Get c.in-Get.pool c.in-Get.key in
    let is = c.write_keyed.ensures ∙ ap (λ k. kvp_bytes (Get c.in-Get.pool k)) c.units.ensures.value in
    let w = front_written c.args.out.now c.write_keyed.new.message (kvp_bytes asked) 2604 (omega arith) c.write_keyed.auto.message is in
    w.1 ∙ ap kvp_bytes (sym c.in-Get.is)

pub returns-in-Get-clause-rest : goal.returns-in-Get-clause-rest
returns-in-Get-clause-rest c =
    let asked = Get c.in-Get.pool c.in-Get.key in
    let is = c.write_keyed.ensures ∙ ap (λ k. kvp_bytes (Get c.in-Get.pool k)) c.units.ensures.value in
    let w = front_written c.args.out.now c.write_keyed.new.message (kvp_bytes asked) 2604 (omega arith) c.write_keyed.auto.message is in
    w.2

pub returns-in-Delete-clause-message : goal.returns-in-Delete-clause-message
returns-in-Delete-clause-message c =
    let asked = Delete c.in-Delete.pool c.in-Delete.key in
    let is = c.write_keyed-in-Delete.ensures ∙ ap (λ k. kvp_bytes (Delete c.in-Delete.pool k)) c.units-in-Delete.ensures.value in
    let w = front_written c.args.out.now c.write_keyed-in-Delete.new.message (kvp_bytes asked) 2604 (omega arith) c.write_keyed-in-Delete.auto.message is in
    w.1 ∙ ap kvp_bytes (sym c.in-Delete.is)

pub returns-in-Delete-clause-rest : goal.returns-in-Delete-clause-rest
returns-in-Delete-clause-rest c =
    let asked = Delete c.in-Delete.pool c.in-Delete.key in
    let is = c.write_keyed-in-Delete.ensures ∙ ap (λ k. kvp_bytes (Delete c.in-Delete.pool k)) c.units-in-Delete.ensures.value in
    let w = front_written c.args.out.now c.write_keyed-in-Delete.new.message (kvp_bytes asked) 2604 (omega arith) c.write_keyed-in-Delete.auto.message is in
    w.2

pub returns-in-Set-clause-message : goal.returns-in-Set-clause-message
returns-in-Set-clause-message c =
    let asked = Set c.in-Set.pool c.in-Set.key c.in-Set.value in
    let is = c.write_keyed-in-Set.ensures
    ∙ (ap (λ t. spelled_after [] (keyed_rows 1 c.in-Set.pool (text_size (length c.units-in-Set.result.now)) t (field_rows c.units-in-Set.result.now c.units-units.result.now))) c.text_size.ensures
    ∙ (ap (λ k. kvp_bytes (Set c.in-Set.pool k c.units-units.result.now)) c.units-in-Set.ensures.value ∙ ap (λ v. kvp_bytes (Set c.in-Set.pool c.in-Set.key v)) c.units-units.ensures.value)) in
    let w = front_written c.args.out.now c.write_keyed-in-Set.new.message (kvp_bytes asked) 2604 (omega arith) c.write_keyed-in-Set.auto.message is in
    w.1 ∙ ap kvp_bytes (sym c.in-Set.is)

pub returns-in-Set-clause-rest : goal.returns-in-Set-clause-rest
returns-in-Set-clause-rest c =
    let asked = Set c.in-Set.pool c.in-Set.key c.in-Set.value in
    let is = c.write_keyed-in-Set.ensures
    ∙ (ap (λ t. spelled_after [] (keyed_rows 1 c.in-Set.pool (text_size (length c.units-in-Set.result.now)) t (field_rows c.units-in-Set.result.now c.units-units.result.now))) c.text_size.ensures
    ∙ (ap (λ k. kvp_bytes (Set c.in-Set.pool k c.units-units.result.now)) c.units-in-Set.ensures.value ∙ ap (λ v. kvp_bytes (Set c.in-Set.pool c.in-Set.key v)) c.units-units.ensures.value)) in
    let w = front_written c.args.out.now c.write_keyed-in-Set.new.message (kvp_bytes asked) 2604 (omega arith) c.write_keyed-in-Set.auto.message is in
    w.2

pub returns-in-Set-clause-asks : goal.returns-in-Set-clause-asks
returns-in-Set-clause-asks c five more =
    subst (λ m. Asks m (kvp_bytes m ++ more)) (sym c.in-Set.is)
    (bytes_ask (Set c.in-Set.pool c.in-Set.key c.in-Set.value) (c.units-in-Set.ensures.text, c.units-units.ensures.text) (subst (λ m. pool_of m ≤ 4) c.in-Set.is five) more)

pub returns-in-Enum-clause-message : goal.returns-in-Enum-clause-message
returns-in-Enum-clause-message c =
    let len : length c.write_placed.new.message ≤ 2608 = omega (arith, c.write_placed.auto.message) in
    take_all 2608 c.write_placed.new.message len ∙ (c.write_placed.ensures ∙ ap kvp_bytes (sym c.in-Enum.is))

pub returns-in-Enum-clause-rest : goal.returns-in-Enum-clause-rest
returns-in-Enum-clause-rest c =
    let len : length c.write_placed.new.message ≤ 2608 = omega (arith, c.write_placed.auto.message) in
    drop_all 2608 c.write_placed.new.message len ∙ sym (drop_all 2608 c.args.out.now (omega arith))

pub returns-in-Enum-clause-asks : goal.returns-in-Enum-clause-asks
returns-in-Enum-clause-asks c five more =
    subst (λ m. Asks m (kvp_bytes m ++ more)) (sym c.in-Enum.is)
    (bytes_ask (Enum c.in-Enum.pool c.in-Enum.index) (omega arith) (subst (λ m. pool_of m ≤ 4) c.in-Enum.is five) more)
