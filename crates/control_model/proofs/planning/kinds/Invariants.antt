use Rattle.std.proofs.Common.{◌≡◌, take, map}
use Rattle.contact.specs.Classes.{offered_kind}
use Rattle.script_lines.specs.Parts.{kind_of}
use Rattle.control_model.proofs.planning.kinds.Given as goal

abbrev pub invariant-loop-spec : goal.invariant-loop-spec
invariant-loop-spec l = l.kinds.items ≡ map (λ spec. offered_kind (kind_of spec)) (take l.spec-index l.specs)
