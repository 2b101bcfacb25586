use Rattle.std.proofs.Common.{◌≡◌}
use Rattle.control_side.specs.Standing.{Stands, IsSame}
use Rattle.control_side.proofs.serving.serve.Given as goal

abbrev pub invariant-loop : goal.invariant-loop
invariant-loop g l =
    (l.serving.part ≡ l.fn.part) ×
    Stands g.C.Control.seen g.C.Control.follows l.serving ×
    IsSame (g.C.Control.seen l.fn.control) l.fn.fetch l.fn.post (g.C.Control.seen l.serving.control) l.serving.fetch l.serving.post
