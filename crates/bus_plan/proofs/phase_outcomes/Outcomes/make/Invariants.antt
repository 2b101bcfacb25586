use Rattle.std.proofs.Common.{◌≡◌, [], replicate}
use Rattle.std.specs.Prelude.{map}
use Rattle.bus_plan.proofs.phase_outcomes.Outcomes.make.Given as goal

abbrev pub invariant-loop : goal.invariant-loop
invariant-loop l = map (λ d. d.items) l.devices.items ≡ replicate l.counter []
