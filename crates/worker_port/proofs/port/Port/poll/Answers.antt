use Rattle.std.proofs.Common.{◌∙◌, ap, subst}
use Rattle.worker_port.specs.Line.{Line}
use Rattle.worker_port.proofs.ItemLaws.{poll_past, quiet_lists}
use Rattle.worker_port.proofs.PortLaws.{poll_waits}
use Rattle.worker_port.specs.Homes.{KeepsHome}
use Rattle.worker_port.proofs.HomeLaws.{quiet_home}
use Rattle.ring_machine.specs.Steps.{is_busy_at}
use Rattle.ring_end_history.specs.Calls.{PollCall}
use Rattle.ring_end_history.proofs.Joining.{came_call}
use Rattle.worker_port.proofs.CameLaws.{came_on}
use Rattle.worker_port.proofs.PortLaws.{quiet_call}
use Rattle.ring_machine.specs.EndCalls.{Poll}
use Rattle.worker_port.proofs.port.Port.poll.Goals as goal

pub invariant_of-self : goal.invariant_of-self
invariant_of-self g c =
    let e = c.poll_signal.ensures in
    let idle = c.self.invariant.line.dozes (ap (λ (x : Line _). x.state.machine.asleep) c.self.view_is ∙ c.requires.asleep) in
    record {
      line = quiet_call g.S.Seatlike.told Poll _ _ (λ e. cc) (λ e. cc) (λ e. cc) e.kept e.leaves e.after e.answer.1 e.past (ap (λ (x : Line _). x.state.machine.marked) c.self.view_is ∙ c.requires.unmarked) c.self.invariant.line;
      came = came_on g.S.Seatlike.tale _ _ c.self.invariant.came (came_call g.S.Seatlike.tale g.S.Seatlike.told PollCall _ _ idle e.ran (ap is_busy_at (e.after.idle (λ e. cc) (λ e. cc))));
    }

pub returns-clause-want : goal.returns-clause-want
returns-clause-want g c = λ asleep.
    let idle = c.poll_signal.ensures.after.idle (λ e. cc) (λ e. cc) in
    poll_waits c.self.inside.end.state c.poll_signal.new.self.state _ _ _ _ c.poll_signal.ensures.ran idle asleep ∙ ap (λ (x : Line _). x.state.machine.want) c.self.view_is

pub returns-clause-past : goal.returns-clause-past
returns-clause-past g c =
    let e = c.poll_signal.ensures in
    let n = c.poll_signal.new.self.state in
    poll_past g.T.Protocol.said c.self.inside.end.state n n.machine.ended n.machine.saw e.answer.1 e.past e.kept.sent e.kept.got e.kept.pages ∙ ap (λ (x : Line _). x.state.past) c.self.view_is

pub returns-clause-lists : goal.returns-clause-lists
returns-clause-lists g c = quiet_lists g.T.Protocol.said c.self.inside.end c.poll_signal.new.self _ c.self.view_is c.poll_signal.ensures.kept

pub returns-clause-home : goal.returns-clause-home
returns-clause-home g c = subst (λ (x : Line _). KeepsHome x.end.state c.poll_signal.new.self.state) c.self.view_is (quiet_home c.self.inside.end c.poll_signal.new.self c.poll_signal.ensures.kept c.poll_signal.ensures.leaves.side)
