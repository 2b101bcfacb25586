use Rattle.std.proofs.Common.{ap, ◌∙◌, length, subst}
use Rattle.channel_model.specs.Amounts.{room_of}
use Rattle.channel_model.specs.Channel.{AskerBreaks}
use Rattle.worker_requester.proofs.AskSteps.{asked_so_far, breaks, lacks_by}
use Rattle.worker_port.specs.Rooms.{AskedWithin, KeepsRoom}
use Rattle.worker_requester.specs.Asking.{AskedFrom, IsAsking, IsPaced}
use Rattle.worker_requester.proofs.requester.Requester.out_of_room.Goals as goal

pub returns-clause-breaks : goal.returns-clause-breaks
returns-clause-breaks g c =
    let v = c.self.view_is in
    let l = c.self.invariant (ap (λ w. w.end.state.machine.marked) v ∙ c.requires.unmarked) in
    subst (λ w. AskerBreaks (g.T.Protocol.format w.protocol) (g.T.Protocol.asks w.protocol) w.end.state.past w.told) v (breaks (g.T.Protocol.format c.self.inside.protocol) (g.T.Protocol.keeps c.self.inside.protocol) (g.T.Protocol.asks c.self.inside.protocol) (record {
      protocol = c.self.inside.protocol;
      end = c.self.inside.port;
      table = c.self.inside.table;
      next = c.self.inside.next;
      waiting = c.self.inside.waiting;
      acked = c.self.inside.acked;
      told = c.self.inside.replies.items;
      starts = c.self.inside.starts;
      seen = c.self.inside.seen;
      hold = c.self.inside.hold;
      relid = c.self.inside.relid;
    }) l.live)

pub returns-clause-reserved : goal.returns-clause-reserved
returns-clause-reserved g c =
    let v = c.self.view_is in
    let l = c.self.invariant (ap (λ w. w.end.state.machine.marked) v ∙ c.requires.unmarked) in
    subst (λ w. KeepsRoom (room_of (g.T.Protocol.besides w.protocol) (length (g.T.Protocol.asks w.protocol))) w.end) v l.room

pub returns-clause-over : goal.returns-clause-over
returns-clause-over g c =
    let v = c.self.view_is in
    let w = c.args.self.now in
    let l = c.self.invariant (ap (λ w. w.end.state.machine.marked) v ∙ c.requires.unmarked) in
    let s = g.T.Protocol.format w.protocol in
    let asks = g.T.Protocol.asks w.protocol in
    lacks_by s (g.T.Protocol.keeps w.protocol) asks w (g.T.Protocol.besides w.protocol) c.args.packets c.args.words c.requires.list (subst (λ w. IsAsking (g.T.Protocol.format w.protocol) (g.T.Protocol.asks w.protocol) w) v l.live)
    (subst (λ w. KeepsRoom (room_of (g.T.Protocol.besides w.protocol) (length (g.T.Protocol.asks w.protocol))) w.end) v l.room) c.requires.lacks

pub returns-clause-sent : goal.returns-clause-sent
returns-clause-sent g c =
    let v = c.self.view_is in
    let l = c.self.invariant (ap (λ w. w.end.state.machine.marked) v ∙ c.requires.unmarked) in
    subst (λ w. AskedWithin (g.T.Protocol.format w.protocol) (length (g.T.Protocol.asks w.protocol)) w.end.state.past) v
    (asked_so_far (g.T.Protocol.format c.self.inside.protocol) (g.T.Protocol.keeps c.self.inside.protocol) (g.T.Protocol.asks c.self.inside.protocol) _ l.live l.room.sent.short)

pub returns-clause-paced : goal.returns-clause-paced
returns-clause-paced g c =
    let v = c.self.view_is in
    let l = c.self.invariant (ap (λ w. w.end.state.machine.marked) v ∙ c.requires.unmarked) in
    subst (λ w. IsPaced (g.T.Protocol.format w.protocol) w.starts (g.T.Protocol.asks w.protocol) w.end.state.past) v l.live.paced

pub returns-clause-ids : goal.returns-clause-ids
returns-clause-ids g c =
    let v = c.self.view_is in
    let l = c.self.invariant (ap (λ w. w.end.state.machine.marked) v ∙ c.requires.unmarked) in
    subst (λ w. AskedFrom (g.T.Protocol.format w.protocol) (length w.table) (g.T.Protocol.asks w.protocol) w.end.state.past) v l.live.from
