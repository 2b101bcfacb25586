use Rattle.std.proofs.Common.{List, ap, subst}
use Rattle.page_kept.specs.Kept.{is_held}
use Rattle.page_kept.specs.declared.owner.Owner.{Owner}
use Rattle.page_kept.specs.declared.owner.Owner.TheVariants.{Away}
use Rattle.page_table.specs.Table.{GoesBack, Table}
use Rattle.pkt_desc.specs.Packets.{id_of}
use Rattle.page_table.proofs.Moves.{gives}
use Rattle.page_table.proofs.table.PageTable.sent.Goals as goal

pub returns-then-packet-eq-COMPLETION-clause-sends : goal.returns-then-packet-eq-COMPLETION-clause-sends
returns-then-packet-eq-COMPLETION-clause-sends c = λ k keeps.
    gives k c.args.self.now c.args.packet.now keeps c.give_back.new.self.owners c.give_back.result c.if-packet-eq-COMPLETION.true
    (subst (λ (os : List Owner). GoesBack (is_held (id_of c.args.packet.now)) Away os c.give_back.new.self.owners c.give_back.result) (ap (λ (t : Table). t.owners) c.self.view_is) c.give_back.ensures.gives)
