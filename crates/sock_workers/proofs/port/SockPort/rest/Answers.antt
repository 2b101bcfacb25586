use Rattle.std.proofs.Common.{refl, ◌∙◌, subst}
use Rattle.channel_trace.proofs.Pasts.{follows_unmarked}
use Rattle.sock_workers.specs.declared.ended.Ended.TheVariants.{PeerMarked}
use Rattle.sock_workers.specs.declared.ended.Turn.TheVariants.{Ended as TurnEnded}
use Rattle.sock_workers.specs.Ports.{Port, Rests}
use Rattle.sock_workers.proofs.port.SockPort.rest.Goals as goal

pub returns-then-self-clause-rests : goal.returns-then-self-clause-rests
returns-then-self-clause-rests c =
    let p : Port = record { end = c.self.inside.end; room = c.self.inside.room; seen = c.self.inside.seen } in
    let i = c.self.invariant in
    subst (λ (x : Port). Rests c.args.want (TurnEnded PeerMarked) x x) c.self.view_is (refl, refl, c.if-self.true, i.seen_is ∙ c.if-self.true, follows_unmarked p.end.state.past i.unset)
