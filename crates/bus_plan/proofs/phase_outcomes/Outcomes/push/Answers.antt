use Rattle.bus_plan.proofs.Listed.{seen_pushed}
use Rattle.bus_plan.proofs.phase_outcomes.Outcomes.push.Goals as goal

pub returns : goal.returns
returns c =
    seen_pushed (λ d. d.items) c.args.self.now c.self.inside.devices.items c.args.device c.index_mut.result.now c.push_back.new.self c.args.channel c.self.view_is c.requires c.index_mut.ensures.value c.in_ok-push_back.ensures.items
