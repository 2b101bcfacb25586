use Rattle.std.proofs.Common.{ap, ◌∙◌}
use Rattle.worker_requester.proofs.NextLaws.{found_next}
use Rattle.worker_requester.proofs.AskSteps.{acked_all, leaves_none, skipped_kept}
use Rattle.worker_requester.proofs.requester.Requester.find_message.Goals as goal

pub invariant_of-self : goal.invariant_of-self
invariant_of-self g c =
    let v = c.self.view_is in
    let l = c.self.invariant (ap (λ w. w.end.state.machine.marked) v ∙ c.requires.ready.unmarked) in
    λ _. record {
      pages = l.pages;
      home = l.home;
      live = skipped_kept (g.T.Protocol.format c.self.inside.protocol) (g.T.Protocol.keeps c.self.inside.protocol) (g.T.Protocol.asks c.self.inside.protocol) _ c.next_message-self-inside.result c.next_message-self-inside.ensures (ap (λ w. w.end.state.machine.asleep) v ∙ c.requires.ready.awake) l.live;
      replies = l.replies;
      spare = l.spare;
      size = l.size;
      room = l.room;
      side = l.side;
    }

pub returns-clause-message : goal.returns-clause-message
returns-clause-message g c less =
    found_next (g.T.Protocol.format c.self.inside.protocol) c.self.inside.port.state.got c.self.inside.acked c.next_message-self-inside.result c.got_len.result c.got_len.ensures less c.next_message-self-inside.ensures

pub returns-clause-left : goal.returns-clause-left
returns-clause-left g c none =
    let l = c.self.invariant (ap (λ w. w.end.state.machine.marked) c.self.view_is ∙ c.requires.ready.unmarked) in
    leaves_none (g.T.Protocol.format c.self.inside.protocol) (g.T.Protocol.asks c.self.inside.protocol) _ c.next_message-self-inside.result c.got_len.result c.got_len.ensures none c.next_message-self-inside.ensures l.live

pub returns-clause-all : goal.returns-clause-all
returns-clause-all g c none =
    let l = c.self.invariant (ap (λ w. w.end.state.machine.marked) c.self.view_is ∙ c.requires.ready.unmarked) in
    acked_all (g.T.Protocol.format c.self.inside.protocol) (g.T.Protocol.asks c.self.inside.protocol) _ c.next_message-self-inside.result c.got_len.result c.got_len.ensures none c.next_message-self-inside.ensures l.live
