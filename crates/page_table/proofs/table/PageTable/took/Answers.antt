use Rattle.std.proofs.Common.{List, ap, subst}
use Rattle.page_kept.specs.Kept.{is_lent}
use Rattle.page_kept.specs.declared.owner.Owner.{Owner}
use Rattle.page_kept.specs.declared.owner.Owner.TheVariants.{Has}
use Rattle.page_table.specs.Table.{GoesBack, Table}
use Rattle.pkt_desc.specs.Packets.{id_of}
use Rattle.page_table.proofs.Moves.{brings}
use Rattle.page_table.proofs.table.PageTable.took.Goals as goal

pub returns-then-packet-eq-COMPLETION-clause-takes : goal.returns-then-packet-eq-COMPLETION-clause-takes
returns-then-packet-eq-COMPLETION-clause-takes c = λ k keeps.
    brings k c.args.self.now c.args.packet.now keeps c.bring_back.new.self.owners c.bring_back.result c.if-packet-eq-COMPLETION.true
    (subst (λ (os : List Owner). GoesBack (is_lent (id_of c.args.packet.now)) Has os c.bring_back.new.self.owners c.bring_back.result) (ap (λ (t : Table). t.owners) c.self.view_is) c.bring_back.ensures.brings)
