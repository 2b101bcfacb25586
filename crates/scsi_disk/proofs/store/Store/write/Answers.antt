use Rattle.std.proofs.Common.{◌≡◌, sym, ap, ◌∙◌, ◌+◌, ◌-◌, ◌*◌, drop, nat_eq, length, slice_range, arith}
use Rattle.indexmap.specs.IndexMap.{insert_entry}
use Rattle.scsi_disk.specs.FiniteMap.{with_blocks}
use Rattle.scsi_disk.proofs.BlockLaws.{with_blocks_step, with_blocks_none}
use Rattle.scsi_disk.proofs.SpaceLaws.{with_blocks_grows}
use Rattle.scsi_disk.proofs.store.Store.write.Goals as goal

pub write_block-requires-clause-few : goal.write_block-requires-clause-few
write_block-requires-clause-few c =
    let i = c.loop-i.i in
    let es = c.loop-i.self.written in
    let out = c.args.out.now in
    let put = insert_entry nat_eq es (c.args.lba + i) (slice_range out (512 * i) (512 * i + 512)) in
    let all = ap length (sym (with_blocks_step es c.args.lba i c.args.count out c.loop-i-test.true) ∙ c.loop-i.invariant.written) in
    omega (arith, with_blocks_grows (c.args.count - (i + 1)) (c.args.lba + (i + 1)) put (drop (512 * (i + 1)) out), all, c.requires.few)

pub loop-i-preserved : goal.loop-i-preserved
loop-i-preserved c =
    let i = c.loop-i.i in
    record {
      blocks = c.write_block.ensures.blocks ∙ c.loop-i.invariant.blocks;
      written =
          ap (λ es. with_blocks es (c.args.lba + (i + 1)) (c.args.count - (i + 1)) (drop (512 * (i + 1)) c.args.out.now)) c.write_block.ensures.written
          ∙ (sym (with_blocks_step c.loop-i.self.written c.args.lba i c.args.count c.args.out.now c.loop-i-test.true) ∙ c.loop-i.invariant.written);
    }

pub returns-clause-written : goal.returns-clause-written
returns-clause-written c =
    let i = c.loop-i.i in
    let none : c.args.count - i ≡ 0 = omega arith in
    sym (with_blocks_none c.loop-i.self.written (c.args.lba + i) (c.args.count - i) (drop (512 * i) c.args.out.now) none) ∙ c.loop-i.invariant.written
