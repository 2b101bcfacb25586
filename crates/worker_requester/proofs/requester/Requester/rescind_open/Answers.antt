use Rattle.std.proofs.Common.{ℕ, ap, sym, ◌∙◌, length, subst, None, Option}
use Rattle.std.proofs.lemmas.List.{length-replicate}
use Rattle.channel_trace.specs.Runs.{is_drained, has_marked, has_seen}
use Rattle.channel_trace.proofs.Pasts.{drained_seen}
use Rattle.worker_requester.proofs.AskSteps.{asked_so_far, leaves_marked, marks_drained}
use Rattle.worker_port.proofs.RoomLaws.{asked_marked}
use Rattle.worker_requester.specs.Asking.{AskedFrom, IsPaced, LeavesAcks}
use Rattle.worker_requester.proofs.requester.Requester.rescind_open.Goals as goal

pub returns-clause-ends : goal.returns-clause-ends
returns-clause-ends g c =
    let v = c.self.view_is in
    let l = c.self.invariant (ap (λ w. w.end.state.machine.marked) v ∙ c.requires.ready.unmarked) in
    let drained = ap (λ w. is_drained w.end.state.past) v ∙ c.requires.drained in (
      marks_drained (g.T.Protocol.format c.self.inside.protocol) (g.T.Protocol.keeps c.self.inside.protocol) (g.T.Protocol.asks c.self.inside.protocol) (record {
        protocol = c.self.inside.protocol;
        end = c.self.inside.port;
        table = c.self.inside.table;
        next = c.self.inside.next;
        waiting = c.self.inside.waiting;
        acked = c.self.inside.acked;
        told = c.self.inside.replies.items;
        starts = c.self.inside.starts;
        seen = c.self.inside.seen;
        hold = c.self.inside.hold;
        relid = c.self.inside.relid;
      }) _ c.mark.ensures.past drained c.mark.ensures.first l.live,
      ap has_marked c.mark.ensures.past,
      ap has_seen c.mark.ensures.past ∙ drained_seen c.self.inside.port.state.past drained,
    )

pub returns-clause-sent : goal.returns-clause-sent
returns-clause-sent g c =
    let v = c.self.view_is in
    let l = c.self.invariant (ap (λ w. w.end.state.machine.marked) v ∙ c.requires.ready.unmarked) in
    let sent = asked_so_far (g.T.Protocol.format c.self.inside.protocol) (g.T.Protocol.keeps c.self.inside.protocol) (g.T.Protocol.asks c.self.inside.protocol) _ l.live l.room.sent.short in
    asked_marked (g.T.Protocol.format c.self.inside.protocol) (length (g.T.Protocol.asks c.self.inside.protocol)) c.self.inside.port _ c.mark.ensures.past sent

pub returns-clause-paced : goal.returns-clause-paced
returns-clause-paced g c =
    let l = c.self.invariant (ap (λ w. w.end.state.machine.marked) c.self.view_is ∙ c.requires.ready.unmarked) in
    subst (IsPaced (g.T.Protocol.format c.self.inside.protocol) c.self.inside.starts (g.T.Protocol.asks c.self.inside.protocol)) (sym c.mark.ensures.past) l.live.paced

pub returns-clause-left : goal.returns-clause-left
returns-clause-left g c =
    let left = subst (λ w. LeavesAcks (g.T.Protocol.format w.protocol) w.end) (sym c.self.view_is) c.requires.left in
    leaves_marked (g.T.Protocol.format c.self.inside.protocol) c.self.inside.port _ c.mark.ensures.past c.mark.ensures.found left

pub returns-clause-ids : goal.returns-clause-ids
returns-clause-ids g c =
    let l = c.self.invariant (ap (λ w. w.end.state.machine.marked) c.self.view_is ∙ c.requires.ready.unmarked) in
    let s = g.T.Protocol.format c.self.inside.protocol in
    let asks = g.T.Protocol.asks c.self.inside.protocol in
    let none : Option ℕ = None in
    let size = ap length c.rescind_all.ensures.none_left ∙ length-replicate (length c.self.inside.table) none in
    subst (AskedFrom s (length c.rescind_all.new.self) asks) (sym c.mark.ensures.past) (subst (λ n. AskedFrom s n asks c.self.inside.port.state.past) (sym size) l.live.from)
