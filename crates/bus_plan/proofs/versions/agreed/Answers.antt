use Rattle.std.proofs.Common.{arith}
use Rattle.script_lines.specs.Parts.{offered}
use Rattle.bus_plan.proofs.Agreeing.{agreed_first}
use Rattle.bus_plan.proofs.versions.agreed.Goals as goal

pub returns-in-Contact : goal.returns-in-Contact
returns-in-Contact c =
    agreed_first (offered c.args.lines.now) c.args.lines.now c.line-item.result c.in-Contact.guest c.in-Contact.host c.agree.result.0 c.requires (omega (arith, c.in-len1-up.len_at_least)) c.line-item.is c.in-Contact.is c.agree.ensures.within c.agree.ensures.greatest
