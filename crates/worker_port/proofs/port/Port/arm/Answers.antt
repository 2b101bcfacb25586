use Rattle.std.proofs.Common.{◌≡◌, sym, ◌∙◌, ap, subst}
use Rattle.worker_port.specs.Line.{Line, look_of, looked}
use Rattle.worker_port.proofs.ItemLaws.{arm_past, quiet_lists}
use Rattle.worker_port.proofs.PortLaws.{arm_waits}
use Rattle.worker_port.specs.Homes.{KeepsHome}
use Rattle.worker_port.proofs.HomeLaws.{quiet_home}
use Rattle.ring_machine.specs.Steps.{is_busy_at}
use Rattle.ring_end_history.specs.Calls.{ArmCall}
use Rattle.ring_end_history.proofs.Joining.{came_call}
use Rattle.worker_port.proofs.CameLaws.{came_on}
use Rattle.worker_port.proofs.PortLaws.{quiet_call}
use Rattle.ring_machine.specs.EndCalls.{Arm}
use Rattle.ring_machine.specs.Endings.{want_of}
use Rattle.worker_port.proofs.port.Port.arm.Goals as goal

pub invariant_of-self : goal.invariant_of-self
invariant_of-self g c =
    let e = c.arm-found.ensures in
    let idle = ap (λ (x : Line _). x.state.machine.stage) c.self.view_is ∙ c.requires.ready.idle in
    record {
      line = quiet_call g.S.Seatlike.told Arm _ _ (λ e. cc) (λ e. cc) (λ e. cc) e.kept e.leaves e.after e.answer.1 e.past (ap (λ (x : Line _). x.state.machine.marked) c.self.view_is ∙ c.requires.ready.unmarked) c.self.invariant.line;
      came = came_on g.S.Seatlike.tale _ _ c.self.invariant.came (came_call g.S.Seatlike.tale g.S.Seatlike.told (ArmCall (want_of c.args.want)) _ _ idle e.ran (ap is_busy_at (e.after.idle (λ e. cc) (λ e. cc))));
    }

pub returns-clause-want : goal.returns-clause-want
returns-clause-want g c =
    let idle = c.arm-found.ensures.after.idle (λ e. cc) (λ e. cc) in
    arm_waits c.args.want c.self.inside.end.state c.arm-found.new.self.state _ _ _ _ (ap (λ (x : Line _). x.state.machine.asleep) c.self.view_is ∙ c.requires.ready.awake) c.arm-found.ensures.ran idle

pub returns-clause-past : goal.returns-clause-past
returns-clause-past g c =
    let e = c.arm-found.ensures in
    let n = c.arm-found.new.self.state in
    let r : c.looked_by.result ≡ look_of c.arm-found.result n.machine.saw = c.looked_by.ensures ∙ ap (look_of c.arm-found.result) c.saw_mark.ensures in
    arm_past g.T.Protocol.said c.self.inside.end.state n n.machine.ended c.arm-found.result n.machine.saw e.answer.1 (e.answer.0 ∙ e.leaves.asleep) e.past e.kept.sent e.kept.got e.kept.pages
    ∙ (λ i. looked (sym r i) (ap (λ (x : Line _). x.state.past) c.self.view_is i))

pub returns-clause-lists : goal.returns-clause-lists
returns-clause-lists g c = quiet_lists g.T.Protocol.said c.self.inside.end c.arm-found.new.self _ c.self.view_is c.arm-found.ensures.kept

pub returns-clause-home : goal.returns-clause-home
returns-clause-home g c = subst (λ (x : Line _). KeepsHome x.end.state c.arm-found.new.self.state) c.self.view_is (quiet_home c.self.inside.end c.arm-found.new.self c.arm-found.ensures.kept c.arm-found.ensures.leaves.side)
