use Rattle.std.proofs.Common.{refl}
use Rattle.trace_check.proofs.Leads.{call_guest, call_host, step_guest, step_host}
use Rattle.trace_check.proofs.checker.Checker.lead.Goals as goal

pub returns-in-Guest-clause-leads : goal.returns-in-Guest-clause-leads
returns-in-Guest-clause-leads c = call_guest c.args.self.now _ c.args.what _ _ _ c.in-Call.is c.in-Guest.is c.call.ensures.leads refl refl

pub returns-in-Host-clause-leads : goal.returns-in-Host-clause-leads
returns-in-Host-clause-leads c = call_host c.args.self.now _ c.args.what _ _ _ c.in-Call.is c.in-Host.is c.call-in-Host.ensures.leads refl refl

pub returns-in-Guest-side-clause-leads : goal.returns-in-Guest-side-clause-leads
returns-in-Guest-side-clause-leads c = step_guest c.args.self.now _ c.args.what _ _ _ _ c.in-Step.is c.in-Guest-side.is c.step.ensures.leads refl

pub returns-in-Host-side-clause-leads : goal.returns-in-Host-side-clause-leads
returns-in-Host-side-clause-leads c = step_host c.args.self.now _ c.args.what _ _ _ _ c.in-Step.is c.in-Host-side.is c.step-in-Host-side.ensures.leads refl
