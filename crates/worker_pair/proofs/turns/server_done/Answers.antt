use Rattle.std.proofs.Common.{ap, sym, subst, ◌∙◌}
use Rattle.device_packets.specs.Said.{said_item}
use Rattle.worker_port.specs.Line.{IsLine, line_of}
use Rattle.worker_pair.specs.Leaving.{told_at}
use Rattle.worker_pair.proofs.Going.{server_leaves}
use Rattle.worker_pair.proofs.turns.server_done.Goals as goal

pub returns : goal.returns
returns c =
    let w = c.args.server in
    let e = c.served.ensures in
    let d = c.done.ensures in
    server_leaves w c.args.ended c.served.result c.done.result.seat c.requires (e.end.1 ∙ d.ends.0) (d.line ∙ ap (line_of said_item) (sym e.end.0)) (subst (IsLine told_at) (sym e.end.0) d.stands) e.seat d.same.1 d.calls (e.serials ∙ d.serials) e.others
