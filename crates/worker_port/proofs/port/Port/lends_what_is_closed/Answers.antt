use Rattle.std.proofs.Common.{subst, ◌==◌, ◌≡◌, ℕ, Bool, List, false}
use Rattle.pkt_desc.specs.Packets.{id_of, kind_of}
use Rattle.page_home_laws.specs.Home.{LendsItsOwn}
use Rattle.page_kept.specs.Layouts.{layout}
use Rattle.ring_machine.specs.States.{MayLend}
use Rattle.worker_port.specs.Homes.{HasHome}
use Rattle.worker_port.specs.Line.{Line}
use Rattle.worker_port.proofs.HomeLaws.{home_lends}
use Rattle.worker_port.proofs.port.Port.lends_what_is_closed.Goals as goal

pub returns : goal.returns
returns g c =
    subst (λ (x : Line _). (is_open : ℕ → Bool) (p : List ℕ) → HasHome is_open x.end.state → (kind_of p == 11) ≡ false → is_open (id_of p) ≡ false → LendsItsOwn (layout x.end.state.pages.count) x.end.state.machine.side p → MayLend x.end.state p) c.self.view_is
    (home_lends c.self.inside.end.state c.self.invariant.line.pages.clear)
