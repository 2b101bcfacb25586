use Rattle.std.proofs.Common.{sym, ap, ◌∙◌, arith}
use Rattle.std.proofs.lemmas.List.{take_all}
use Rattle.guest_end.specs.Told.{lists_told}
use Rattle.guest_end.proofs.ToldLaws.{told_more}
use Rattle.guest_end.proofs.control.last_lists.Goals as goal

pub loop-m-preserved : goal.loop-m-preserved
loop-m-preserved c =
    told_more c.args.relid c.args.posted.now c.loop-m.m-index c.m-item.result c.loop-m.told c.told_behind-told.result c.loop-m-test.true c.m-item.is c.loop-m.invariant c.told_behind-told.ensures

pub returns : goal.returns
returns c = sym c.loop-m.invariant ∙ ap (lists_told c.args.relid (0, 0)) (take_all c.loop-m.m-index c.args.posted.now (omega arith))
