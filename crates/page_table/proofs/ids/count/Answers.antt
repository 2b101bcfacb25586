use Rattle.page_table.proofs.Balances.{back_asked, back_done, no_completion, a_completion, ways_asked, ways_done}
use Rattle.page_table.proofs.ids.count.Goals as goal

pub returns-then-packet-eq-COMPLETION-clause-ways : goal.returns-then-packet-eq-COMPLETION-clause-ways
returns-then-packet-eq-COMPLETION-clause-ways c = λ xs ys. ways_done c.args.packet.now xs ys c.args.ways.now.entries (a_completion c.args.packet.now c.if-packet-eq-COMPLETION.true)

pub returns-then-packet-eq-COMPLETION-clause-back : goal.returns-then-packet-eq-COMPLETION-clause-back
returns-then-packet-eq-COMPLETION-clause-back c = λ xs ys.
    back_done c.args.packet.now xs ys c.args.back.now.entries c.answer.new.self.entries (a_completion c.args.packet.now c.if-packet-eq-COMPLETION.true) c.answer.ensures.balances

pub returns-else-packet-eq-COMPLETION-clause-ways : goal.returns-else-packet-eq-COMPLETION-clause-ways
returns-else-packet-eq-COMPLETION-clause-ways c = λ xs ys.
    ways_asked c.args.packet.now xs ys c.args.ways.now.entries c.ask.new.self.entries (no_completion c.args.packet.now c.if-packet-eq-COMPLETION.false) c.ask.ensures.balances

pub returns-else-packet-eq-COMPLETION-clause-back : goal.returns-else-packet-eq-COMPLETION-clause-back
returns-else-packet-eq-COMPLETION-clause-back c = λ xs ys. back_asked c.args.packet.now xs ys c.args.back.now.entries (no_completion c.args.packet.now c.if-packet-eq-COMPLETION.false)
