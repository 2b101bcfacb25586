use Rattle.std.proofs.Common.{◌≡◌, ℕ, List, take, length, min, Option, Some, sym, ap, ◌∙◌}
use Rattle.std.proofs.lemmas.List.{take_min}
use Rattle.scsi_disk.specs.declared.reply.DiskReply.{DiskReply}
use Rattle.scsi_disk.specs.declared.reply.DiskReply.TheVariants.{Good}
use Rattle.stor_proto.proofs.guest.srb_done.Goals as goal

pub returns-in-Some-Done : goal.returns-in-Some-Done
returns-in-Some-Done c =
    let h = rw c.in-Some-Done.field-0-is at (c.in-Some-Done.ensures c.args.back.now) in
    let back = c.args.back.now in
    let is : c.of.result ≡ take (min c.in-Some-Done.moved 4096) back =
    c.of.ensures.value ∙ (ap (λ (n : ℕ). take n back) (c.min.ensures ∙ ap (λ (n : ℕ). min n (length back)) c.min-most.ensures) ∙ take_min (min c.in-Some-Done.moved 4096) back) in
    ap {B = Option DiskReply} (λ (bytes : List ℕ). Some (Good bytes)) is ∙ sym h

pub returns-in-Some-Refused : goal.returns-in-Some-Refused
returns-in-Some-Refused c = let h = rw c.in-Some-Refused.field-0-is at (c.in-Some-Refused.ensures c.args.back.now) in sym h

pub returns-in-None : goal.returns-in-None
returns-in-None c = sym (c.in-None.ensures c.args.back.now)
