use Rattle.std.proofs.Common.{length, ap, arith}
use Rattle.sock_workers.specs.Workers.{Guest, packet_at}
use Rattle.sock_workers.proofs.WorkerLaws.{packet_need}
use Rattle.sock_workers.proofs.guest.SockGuest.need.Goals as goal

pub returns-clause-need : goal.returns-clause-need
returns-clause-need c =
    let i = c.self.inside in
    let w : Guest = record { port = i.port; input = i.input.items; at = i.at; output = i.output.items } in
    let e = packet_need w c.min.result (omega (arith, c.min.ensures, c.len.ensures, i.input.ok.0)) in
    omega (arith, c.need_for.ensures.need, e, ap (λ (x : Guest). length (packet_at x)) c.self.view_is)
