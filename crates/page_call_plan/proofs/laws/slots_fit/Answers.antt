use Rattle.page_call_plan.proofs.Fitting.{new_fit, sent_fit, took_fit}
use Rattle.page_call_plan.proofs.laws.slots_fit.Goals as goal

pub returns-clause-new : goal.returns-clause-new
returns-clause-new c = new_fit

pub returns-clause-sent : goal.returns-clause-sent
returns-clause-sent c = sent_fit

pub returns-clause-took : goal.returns-clause-took
returns-clause-took c = took_fit
