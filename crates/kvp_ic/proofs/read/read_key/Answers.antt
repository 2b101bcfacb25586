use Rattle.kvp_ic.specs.Messages.{key_place}
use Rattle.kvp_ic.specs.Faults.{size_fault, text_fault}
use Rattle.kvp_ic.proofs.AskLaws.{told_first}
use Rattle.kvp_ic.proofs.read.read_key.Goals as goal

pub returns-in-Some : goal.returns-in-Some
returns-in-Some c =
    let b = c.args.bytes.now in
    told_first (size_fault 1 255 (key_place 0) b) (text_fault 0 (key_place 0) b) c.in-Some.fault (rw c.key_place-place.ensures at c.in-Some.ensures)
