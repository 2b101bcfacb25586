use Rattle.std.proofs.Common.{◌∷◌, sym, ap, ◌∙◌, subst}
use Rattle.channel_trace.specs.declared.event.Event.TheVariants.{Marked}
use Rattle.channel_trace.specs.Runs.{got_of, has_marked}
use Rattle.worker_port.specs.Line.{Line}
use Rattle.worker_port.proofs.ItemLaws.{got_same_as, line_got, line_marked, mark_past, quiet_lists}
use Rattle.worker_port.proofs.PortLaws.{mark_keeps}
use Rattle.worker_port.specs.Homes.{KeepsHome}
use Rattle.worker_port.proofs.HomeLaws.{quiet_home}
use Rattle.ring_machine.specs.Steps.{is_busy_at}
use Rattle.ring_end_history.specs.Calls.{MarkCall}
use Rattle.ring_end_history.proofs.Joining.{came_call}
use Rattle.worker_port.proofs.CameLaws.{came_on}
use Rattle.worker_port.proofs.PortLaws.{quiet_call}
use Rattle.ring_machine.specs.EndCalls.{Mark as MarkCall}
use Rattle.worker_port.proofs.port.Port.mark.Goals as goal

pub invariant_of-self : goal.invariant_of-self
invariant_of-self g c =
    let e = c.mark.ensures in
    let idle = ap (λ (x : Line _). x.state.machine.stage) c.self.view_is ∙ c.requires.ready.idle in
    record {
      line = quiet_call g.S.Seatlike.told MarkCall _ _ (λ e. cc) (λ e. cc) (λ e. cc) e.kept e.leaves e.after e.call e.past (ap (λ (x : Line _). x.state.machine.marked) c.self.view_is ∙ c.requires.ready.unmarked) c.self.invariant.line;
      came = came_on g.S.Seatlike.tale _ _ c.self.invariant.came (came_call g.S.Seatlike.tale g.S.Seatlike.told MarkCall _ _ idle e.ran (ap is_busy_at (e.after.idle (λ e. cc) (λ e. cc))));
    }

pub returns-clause-found : goal.returns-clause-found
returns-clause-found g c =
    let idle = c.mark.ensures.after.idle (λ e. cc) (λ e. cc) in
    let keeps = mark_keeps c.self.inside.end.state c.mark.new.self.state _ _ _ _ c.mark.ensures.ran idle in
    (keeps.0 ∙ ap (λ (x : Line _). x.state.machine.room) c.self.view_is, keeps.1 ∙ ap (λ (x : Line _). x.state.machine.words) c.self.view_is)

pub returns-clause-past : goal.returns-clause-past
returns-clause-past g c =
    let e = c.mark.ensures in
    let n = c.mark.new.self.state in
    mark_past g.T.Protocol.said c.self.inside.end.state n n.machine.ended n.machine.saw e.call e.past e.kept.sent e.kept.got e.kept.pages ∙ ap (λ (x : Line _). Marked ∷ x.state.past) c.self.view_is

pub returns-clause-first : goal.returns-clause-first
returns-clause-first g c =
    ap (λ (x : Line _). has_marked x.state.past) (sym c.self.view_is)
    ∙ (line_marked g.T.Protocol.said c.self.inside.end.state ∙ (sym c.self.invariant.line.mark ∙ (ap (λ (x : Line _). x.state.machine.marked) c.self.view_is ∙ c.requires.ready.unmarked)))

pub returns-clause-got : goal.returns-clause-got
returns-clause-got g c =
    let e = c.mark.ensures in
    let n = c.mark.new.self.state in
    ap got_of (mark_past g.T.Protocol.said c.self.inside.end.state n n.machine.ended n.machine.saw e.call e.past e.kept.sent e.kept.got e.kept.pages)
    ∙ (line_got g.T.Protocol.said c.self.inside.end c.self.invariant.line ∙ sym (got_same_as g.T.Protocol.said c.self.inside.end.state n e.kept.got e.kept.pages))

pub returns-clause-lists : goal.returns-clause-lists
returns-clause-lists g c = quiet_lists g.T.Protocol.said c.self.inside.end c.mark.new.self _ c.self.view_is c.mark.ensures.kept

pub returns-clause-home : goal.returns-clause-home
returns-clause-home g c = subst (λ (x : Line _). KeepsHome x.end.state c.mark.new.self.state) c.self.view_is (quiet_home c.self.inside.end c.mark.new.self c.mark.ensures.kept c.mark.ensures.leaves.side)
