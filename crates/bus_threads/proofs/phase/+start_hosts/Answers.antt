use Rattle.std.proofs.Common.{◌∷◌, [], ◌++◌, ap, sym, ◌∙◌}
use Rattle.bus_threads.proofs.Each.{present_more}
use Rattle.bus_threads.proofs.phase.+start_hosts.Goals as goal

pub returns-clause-all : goal.returns-clause-all
returns-clause-all g t c = present_more c.push.new.self.items c.start_hosts.new.hosted.items c.start.result c.push.ensures.items
    ∙ ap (λ l. l ++ c.start.result ∷ []) c.start_hosts.ensures.all ∙ ap (λ p. c.pop.new.self.items ++ p ∷ []) c.start.ensures ∙ sym c.in-Some.ensures.items
