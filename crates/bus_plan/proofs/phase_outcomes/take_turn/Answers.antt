use Rattle.bus_plan.proofs.Turning.{taken}
use Rattle.bus_plan.proofs.phase_outcomes.take_turn.Goals as goal

pub returns : goal.returns
returns c =
    taken c.args.channels.now.items c.push_back_reserved.new.self.items c.pop_front.new.self.items c.in-Some.channel c.next.new.self c.in-Some-next.outcome c.in-Some.ensures.items c.in-Some-next.ensures c.push_back_reserved.ensures.items
