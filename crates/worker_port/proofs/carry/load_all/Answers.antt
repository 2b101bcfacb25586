use Rattle.std.proofs.Common.{◌∙◌, arith}
use Rattle.worker_port.proofs.PageLaws.{words_some}
use Rattle.ring_end_history.proofs.Joining.{came_refl}
use Rattle.worker_port.proofs.CameLaws.{loads_came}
use Rattle.worker_port.proofs.carry.load_all.Goals as goal

pub load_in-requires-clause-room : goal.load_in-requires-clause-room
load_in-requires-clause-room g c = omega (arith, c.requires.room, words_some c.args.end.now.state.pages.count 1 (λ z. c.if-pages-ne0.true (c.pages.ensures ∙ z)))

pub returns-then-pages-ne0-clause-came : goal.returns-then-pages-ne0-clause-came
returns-then-pages-ne0-clause-came g c = loads_came g.S.Seatlike.tale g.S.Seatlike.told _ _ c.requires.idle g.S.Seatlike.same c.load_in.ensures.loads

pub returns-else-pages-ne0-clause-came : goal.returns-else-pages-ne0-clause-came
returns-else-pages-ne0-clause-came g c = came_refl g.S.Seatlike.tale _
