use Rattle.std.proofs.Common.{◌≡◌, ℕ, List, ◌+◌, false, nat_lt, length, sym, ap, ◌∙◌, arith}
use Rattle.std.specs.Map.{keys_of}
use Rattle.std.proofs.lemmas.Bool.Decides.{nat_tests}
use Rattle.std.proofs.lemmas.List.{length-map}
use Rattle.scsi_disk.specs.DiskModel.{first_written, most_written}
use Rattle.scsi_disk.proofs.SpaceLaws.{first_few}
use Rattle.scsi_disk.proofs.store.Store.overfills.Goals as goal

pub returns-else-len-count-gt-MOST_WRITTEN : goal.returns-else-len-count-gt-MOST_WRITTEN
returns-else-len-count-gt-MOST_WRITTEN c =
    let ks = keys_of c.args.self.now.written in
    let long : length ks ≡ c.len-len.result =
    ap (λ s. length (keys_of s.written)) (sym c.self.view_is) ∙ length-map c.self.inside.written.entries (λ (e : ℕ × List ℕ). e.0) ∙ sym c.len-len.ensures.len in
    let few = first_few ks c.args.count c.args.lba in
    let quick : nat_lt 65536 (c.len-len.result + c.args.count) ≡ false = grind (arith, nat_tests, c.if-len-count-gt-MOST_WRITTEN.false) in
    let none : nat_lt most_written (length ks + length (first_written ks c.args.lba c.args.count)) ≡ false = grind (arith, nat_tests, c.if-len-count-gt-MOST_WRITTEN.false, long, few) in
    quick ∙ sym none
