use Rattle.std.proofs.Common.{◌-◌, length, ◌∙◌, rules}
use Rattle.vm_page.proofs.WordLaws.{eight_number, number_of_zeros}
use Rattle.vm_page.proofs.words.number.Goals as goal

pub returns : goal.returns
returns c =
    let k = 8 - length c.args.part.now in
    c.from_le_bytes.ensures ∙ (eight_number c.padded.result (search rules) ∙ rw c.padded.ensures (number_of_zeros c.args.part.now k))
