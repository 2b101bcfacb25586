use Rattle.std.proofs.Common.{ap, ◌∙◌, subst}
use Rattle.worker_port.specs.Line.{Line}
use Rattle.worker_port.proofs.ItemLaws.{past_same, quiet_lists}
use Rattle.worker_port.proofs.CameLaws.{came_on}
use Rattle.worker_port.proofs.PortLaws.{slept_line}
use Rattle.worker_port.specs.Homes.{KeepsHome}
use Rattle.worker_port.proofs.HomeLaws.{quiet_home}
use Rattle.worker_port.proofs.port.Port.sleep.Goals as goal

pub invariant_of-self : goal.invariant_of-self
invariant_of-self g c = record {
  line = slept_line g.S.Parks.channel g.S.Seatlike.told _ _ c.sleep.ensures.slept (ap (λ (x : Line _). x.state.machine.marked) c.self.view_is ∙ c.requires.unmarked) c.sleep.ensures.awake.1 c.self.invariant.line;
  came = came_on g.S.Seatlike.tale _ _ c.self.invariant.came c.sleep.ensures.came;
}

pub returns-clause-past : goal.returns-clause-past
returns-clause-past g c =
    let s = c.sleep.ensures.slept in
    past_same g.T.Protocol.said c.self.inside.end.state c.sleep.new.e.state s.past s.kept.sent s.kept.got s.kept.pages ∙ ap (λ (x : Line _). x.state.past) c.self.view_is

pub returns-clause-lists : goal.returns-clause-lists
returns-clause-lists g c = quiet_lists g.T.Protocol.said c.self.inside.end c.sleep.new.e _ c.self.view_is c.sleep.ensures.slept.kept

pub returns-clause-home : goal.returns-clause-home
returns-clause-home g c = subst (λ (x : Line _). KeepsHome x.end.state c.sleep.new.e.state) c.self.view_is (quiet_home c.self.inside.end c.sleep.new.e c.sleep.ensures.slept.kept c.sleep.ensures.slept.side)
