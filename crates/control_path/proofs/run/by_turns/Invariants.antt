use Rattle.std.proofs.Common.{◌≡◌}
use Rattle.control_side.specs.Standing.{Stands, IsSame}
use Rattle.control_path.proofs.run.by_turns.Given as goal

abbrev pub invariant-loop : goal.invariant-loop
invariant-loop g l =
    (l.guest.part ≡ l.fn.part) × (l.host.part ≡ l.fn.part) ×
    Stands g.G.Control.seen g.G.Control.follows l.guest ×
    Stands g.H.Control.seen g.H.Control.follows l.host ×
    IsSame (g.G.Control.seen l.fn.guest.control) l.fn.guest.fetch l.fn.guest.post (g.G.Control.seen l.guest.control) l.guest.fetch l.guest.post ×
    IsSame (g.H.Control.seen l.fn.host.control) l.fn.host.fetch l.fn.host.post (g.H.Control.seen l.host.control) l.host.fetch l.host.post
