use Rattle.std.proofs.Common.{length, arith}
use Rattle.std.proofs.lemmas.Bool.Decides.{nat_tests}
use Rattle.byteorder.specs.Numbers.{big_from-lt}
use Rattle.scsi_disk.proofs.BigEndianLaws.{as_big, none}
use Rattle.scsi_disk.proofs.big_endian.number.Goals as goal

pub returns-then-is_empty-clause-value : goal.returns-then-is_empty-clause-value
returns-then-is_empty-clause-value c = none c.args.field.now (grind (arith, nat_tests, c.if-is_empty.ensures))

pub returns-clause-value : goal.returns-clause-value
returns-clause-value c = rw (as_big c.args.field.now) c.read_uint.ensures

pub returns-clause-fits : goal.returns-clause-fits
returns-clause-fits c = rw c.read_uint.ensures (big_from-lt 0 (length c.args.field.now) c.args.field.now (λ k. omega (arith, c.type_inv.field k)))
