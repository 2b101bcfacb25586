use Rattle.std.proofs.Common.{ap, ◌∙◌, ◌+◌, ◌-◌, ◌++◌, arith}
use Rattle.std.specs.List.{flat_map, range_with_len}
use Rattle.scsi_disk.specs.FiniteMap.{block_in}
use Rattle.scsi_disk.proofs.RangeLaws.{gather_step}
use Rattle.scsi_disk.proofs.store.Store.read.Goals as goal

pub loop-i-preserved : goal.loop-i-preserved
loop-i-preserved c =
    let s = c.args.self.now in
    let rest = flat_map (block_in s.written) (range_with_len (c.args.lba + (c.loop-i.i + 1)) (c.args.count - (c.loop-i.i + 1))) in
    record {
      len = omega (arith, c.append_block.ensures.len, c.loop-i.invariant.len);
      all = ap (λ front. front ++ rest) c.append_block.ensures.all ∙ gather_step (block_in s.written) c.args.lba c.loop-i.i c.args.count c.loop-i.chunk _ c.loop-i-test.true c.loop-i.invariant.all;
    }
