use Rattle.std.proofs.Common.{ap, sym, ◌∙◌, length, subst}
use Rattle.channel_trace.specs.Runs.{has_marked, has_seen}
use Rattle.worker_requester.specs.Asking.{HasSettled}
use Rattle.worker_requester.proofs.AskSteps.{asked_so_far, marks_settled}
use Rattle.worker_port.proofs.RoomLaws.{asked_marked}
use Rattle.worker_requester.specs.Asking.{AskedFrom, IsPaced}
use Rattle.worker_requester.proofs.requester.Requester.finish.Goals as goal

pub returns-clause-ends : goal.returns-clause-ends
returns-clause-ends g c =
    let v = c.self.view_is in
    let l = c.self.invariant (ap (λ w. w.end.state.machine.marked) v ∙ c.requires.ready.unmarked) in (
      marks_settled (g.T.Protocol.format c.self.inside.protocol) (g.T.Protocol.keeps c.self.inside.protocol) (g.T.Protocol.asks c.self.inside.protocol) (record {
        protocol = c.self.inside.protocol;
        end = c.self.inside.port;
        table = c.self.inside.table;
        next = c.self.inside.next;
        waiting = c.self.inside.waiting;
        acked = c.self.inside.acked;
        told = c.self.inside.replies.items;
        starts = c.self.inside.starts;
        seen = c.self.inside.seen;
        hold = c.self.inside.hold;
        relid = c.self.inside.relid;
      }) _ c.mark.ensures.past (subst (λ w. HasSettled (g.T.Protocol.asks w.protocol) w) (sym v) c.requires.settled) l.live,
      ap has_marked c.mark.ensures.past,
      ap has_seen c.mark.ensures.past ∙ (l.live.saw ∙ (ap (λ w. w.seen) v ∙ c.requires.unseen)),
    )

pub returns-clause-sent : goal.returns-clause-sent
returns-clause-sent g c =
    let v = c.self.view_is in
    let l = c.self.invariant (ap (λ w. w.end.state.machine.marked) v ∙ c.requires.ready.unmarked) in
    let sent = asked_so_far (g.T.Protocol.format c.self.inside.protocol) (g.T.Protocol.keeps c.self.inside.protocol) (g.T.Protocol.asks c.self.inside.protocol) _ l.live l.room.sent.short in
    asked_marked (g.T.Protocol.format c.self.inside.protocol) (length (g.T.Protocol.asks c.self.inside.protocol)) c.self.inside.port _ c.mark.ensures.past sent

pub returns-clause-paced : goal.returns-clause-paced
returns-clause-paced g c =
    let l = c.self.invariant (ap (λ w. w.end.state.machine.marked) c.self.view_is ∙ c.requires.ready.unmarked) in
    subst (IsPaced (g.T.Protocol.format c.self.inside.protocol) c.self.inside.starts (g.T.Protocol.asks c.self.inside.protocol)) (sym c.mark.ensures.past) l.live.paced

pub returns-clause-ids : goal.returns-clause-ids
returns-clause-ids g c =
    let l = c.self.invariant (ap (λ w. w.end.state.machine.marked) c.self.view_is ∙ c.requires.ready.unmarked) in
    subst (AskedFrom (g.T.Protocol.format c.self.inside.protocol) (length c.self.inside.table) (g.T.Protocol.asks c.self.inside.protocol)) (sym c.mark.ensures.past) l.live.from
