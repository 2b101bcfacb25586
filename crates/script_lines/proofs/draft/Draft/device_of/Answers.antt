use Rattle.std.proofs.Common.{ap, arith, length}
use Rattle.script_lines.specs.Parts.{offered}
use Rattle.script_lines.proofs.Drafts.{names_length}
use Rattle.script_lines.proofs.draft.Draft.device_of.Goals as goal

pub overflow_cast-result : goal.overflow_cast-result
overflow_cast-result c =
    let s = c.self.inside in
    omega (arith, c.in-Some.ensures.within, ap length c.self.invariant.names, names_length s.lines.items, c.self.invariant.script.few)

pub returns-in-Some-clause-within : goal.returns-in-Some-clause-within
returns-in-Some-clause-within c =
    let s = c.self.inside in
    omega (arith, c.in-Some.ensures.within, ap length c.self.invariant.names, names_length s.lines.items, ap (λ ls. length (offered ls)) c.self.view_is)
