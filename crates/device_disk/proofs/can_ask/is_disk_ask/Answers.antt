use Rattle.std.proofs.Common.{◌∙◌, Some, sym, ap, arith}
use Rattle.std.proofs.lemmas.Bool.Decides.{nat_tests}
use Rattle.device_packets.proofs.ByteLaws.{from_all}
use Rattle.device_disk.proofs.AskableLaws.{write_can, other_can}
use Rattle.device_disk.proofs.can_ask.is_disk_ask.Goals as goal

pub returns-in-Some-Write-clause-can : goal.returns-in-Some-Write-clause-can
returns-in-Some-Write-clause-can c h =
    write_can c.args.cdb.now c.args.out.now c.in-Some-Write.field-0-0 c.in-Some-Write.field-0-1 (omega arith) (from_all c.args.cdb.now c.are_bytes.ensures) (λ i. omega (arith, c.type_inv.out i))
    (ap Some (sym c.in-Some-Write.field-0-is) ∙ (sym c.in-Some-Write.is ∙ c.of.ensures)) (grind (arith, nat_tests, h))

pub returns-then-is_empty-clause-can : goal.returns-then-is_empty-clause-can
returns-then-is_empty-clause-can c h =
    other_can c.args.cdb.now c.args.out.now c.in-Some.command (omega arith) (from_all c.args.cdb.now c.are_bytes.ensures) (λ i. omega (arith, c.type_inv.out i))
    (sym c.in-Some.is ∙ c.of.ensures) (grind (arith, nat_tests, c.is_empty.ensures, c.if-is_empty.true)) (c.gives_few.ensures.can h)
