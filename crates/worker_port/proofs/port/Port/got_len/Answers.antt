use Rattle.std.proofs.Common.{length, sym, ap, ◌∙◌}
use Rattle.worker_port.specs.Line.{Line}
use Rattle.worker_port.proofs.ItemLaws.{line_long}
use Rattle.worker_port.proofs.port.Port.got_len.Goals as goal

pub returns : goal.returns
returns g c = c.len.ensures ∙ (ap length c.got.ensures.list ∙ (sym (line_long g.T.Protocol.said c.self.inside.end.state) ∙ ap (λ (x : Line _). length x.state.got) c.self.view_is))
