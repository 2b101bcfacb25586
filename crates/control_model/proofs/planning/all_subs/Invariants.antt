use Rattle.std.proofs.Common.{◌≡◌, take, map}
use Rattle.script_phases.specs.Openings.{subs_of}
use Rattle.control_model.proofs.planning.all_subs.Given as goal

abbrev pub invariant-loop-spec : goal.invariant-loop-spec
invariant-loop-spec l = l.subs.items ≡ map subs_of (take l.spec-index l.specs)
