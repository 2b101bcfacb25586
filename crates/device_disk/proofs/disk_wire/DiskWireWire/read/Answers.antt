use Rattle.std.proofs.Common.{sym, ap, ◌∙◌}
use Rattle.std.specs.Prelude.{◌==◌}
use Rattle.stor_proto.specs.Srbs.{data_in}
use Rattle.page_kept.specs.Items.{item_of}
use Rattle.device_disk.proofs.PageHeadLaws.{reads, reads_giving, reads_srb, all_bytes}
use Rattle.device_disk.proofs.disk_wire.DiskWireWire.read.Goals as goal

pub srb_command-requires : goal.srb_command-requires
srb_command-requires c = reads_srb (item_of c.args._packet.now c.args.words.now) c.args.v.now c.requires.head c.requires.asks

pub srb_asks-requires-clause-srb : goal.srb_asks-requires-clause-srb
srb_asks-requires-clause-srb c = reads_srb (item_of c.args._packet.now c.args.words.now) c.args.v.now c.requires.head c.requires.asks

pub srb_asks-requires-clause-reaches : goal.srb_asks-requires-clause-reaches
srb_asks-requires-clause-reaches c =
    let gives = ap (λ k. data_in k == 1) (sym c.srb_command.ensures) ∙ (sym c.is_giving.ensures ∙ c.if-is_giving.true) in
    (reads_giving (item_of c.args._packet.now c.args.words.now) c.args.v.now c.requires.head gives c.requires.asks).reaches

pub returns-then-is_giving : goal.returns-then-is_giving
returns-then-is_giving c =
    let gives = ap (λ k. data_in k == 1) (sym c.srb_command.ensures) ∙ (sym c.is_giving.ensures ∙ c.if-is_giving.true) in
    (reads_giving (item_of c.args._packet.now c.args.words.now) c.args.v.now c.requires.head gives c.requires.asks).is c.srb_asks.result c.srb_asks.ensures

pub srb_asks-requires-2-clause-srb : goal.srb_asks-requires-2-clause-srb
srb_asks-requires-2-clause-srb c = reads_srb (item_of c.args._packet.now c.args.words.now) c.args.v.now c.requires.head c.requires.asks

pub srb_asks-requires-2-clause-reaches : goal.srb_asks-requires-2-clause-reaches
srb_asks-requires-2-clause-reaches c =
    (reads (item_of c.args._packet.now c.args.words.now) c.args.v.now _ c.requires.head (all_bytes c.args.words.now _ c.requires.words c.put_came-len.ensures.bytes) c.requires.asks).reaches

pub returns : goal.returns
returns c =
    (reads (item_of c.args._packet.now c.args.words.now) c.args.v.now _ c.requires.head (all_bytes c.args.words.now _ c.requires.words c.put_came-len.ensures.bytes) c.requires.asks).is c.srb_asks-2.result c.srb_asks-2.ensures
