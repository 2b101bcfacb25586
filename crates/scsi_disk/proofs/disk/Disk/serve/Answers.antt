use Rattle.std.proofs.Common.{length, ap, arith}
use Rattle.scsi_disk.specs.FiniteMap.{stands_for, with_blocks}
use Rattle.scsi_disk.proofs.RefusalLaws.{read_allowed, write_allowed}
use Rattle.scsi_disk.proofs.SpaceLaws.{length-with_blocks}
use Rattle.scsi_disk.proofs.disk.Disk.serve.Goals as goal

pub read-requires-clause-few : goal.read-requires-clause-few
read-requires-clause-few c = (read_allowed (stands_for c.args.self.now) c.in-Read.lba c.in-Read.count c.args.out.now (rw c.in-Read.is at c.requires)).0

pub read-requires-clause-fits : goal.read-requires-clause-fits
read-requires-clause-fits c =
    let may = read_allowed (stands_for c.args.self.now) c.in-Read.lba c.in-Read.count c.args.out.now (rw c.in-Read.is at c.requires) in
    omega (arith, may.1, c.self.invariant, ap (λ k. k.blocks) c.self.view_is)

pub write-requires-clause-len : goal.write-requires-clause-len
write-requires-clause-len c = (write_allowed (stands_for c.args.self.now) c.in-Write.lba c.in-Write.count c.args.out.now (rw c.in-Write.is at c.requires)).1

pub write-requires-clause-within : goal.write-requires-clause-within
write-requires-clause-within c =
    let may = write_allowed (stands_for c.args.self.now) c.in-Write.lba c.in-Write.count c.args.out.now (rw c.in-Write.is at c.requires) in
    omega (arith, may.2, ap (λ k. k.blocks) c.self.view_is)

pub write-requires-clause-fits : goal.write-requires-clause-fits
write-requires-clause-fits c =
    let may = write_allowed (stands_for c.args.self.now) c.in-Write.lba c.in-Write.count c.args.out.now (rw c.in-Write.is at c.requires) in
    omega (arith, may.2, c.self.invariant, ap (λ k. k.blocks) c.self.view_is)

pub write-requires-clause-few : goal.write-requires-clause-few
write-requires-clause-few c =
    let lba = c.in-Write.lba in
    let count = c.in-Write.count in
    let out = c.args.out.now in
    let may = write_allowed (stands_for c.args.self.now) lba count out (rw c.in-Write.is at c.requires) in
    let same = ap (λ k. length (with_blocks k.written lba count out)) c.self.view_is in
    omega (arith, same, length-with_blocks count lba c.args.self.now.written out, may.3)
