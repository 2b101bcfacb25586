use Rattle.std.proofs.Common.{◌∷◌, [], ◌++◌, Option, ap, subst, sym, ◌∙◌}
use Rattle.bus_threads.specs.Pairs.{Pairing, EachRuns, present}
use Rattle.bus_threads.proofs.Each.{each_more, present_more, present_blank}
use Rattle.bus_threads.proofs.phase.+end_all.Goals as goal

pub returns-in-None-clause-each : goal.returns-in-None-clause-each
returns-in-None-clause-each g t c =
    let last = c.in-Some.ensures.items ∙ ap (λ (o : Option Pairing). c.pop.new.self.items ++ o ∷ []) c.in-None.is in
    subst (λ l. EachRuns l c.end_all-before.result.items) (sym (present_blank c.args.begun.now.items c.pop.new.self.items last)) c.end_all-before.ensures.each

pub returns-in-Some-one-clause-each : goal.returns-in-Some-one-clause-each
returns-in-Some-one-clause-each g t c =
    let last = c.in-Some.ensures.items ∙ ap (λ (o : Option Pairing). c.pop.new.self.items ++ o ∷ []) c.in-Some-one.is in
    each_more (present c.args.begun.now.items) (present c.pop.new.self.items) c.end_all-before.result.items c.push_reserved.new.self.items c.in-Some-one.begun c.end.result
    (present_more c.args.begun.now.items c.pop.new.self.items c.in-Some-one.begun last) c.push_reserved.ensures.items c.end_all-before.ensures.each c.end.ensures
