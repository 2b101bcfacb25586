use Rattle.trace_model.specs.Traces.{opened_at}
use Rattle.trace_model.proofs.Leading.{lead_join, lead_split}
use Rattle.trace_model.proofs.laws.fronts_are_runs.Goals as goal

pub returns-clause-front : goal.returns-clause-front
returns-clause-front c d first more n run = lead_split first more (opened_at d) n run

pub returns-clause-longer : goal.returns-clause-longer
returns-clause-longer c d first more m n run leads = lead_join first more (opened_at d) m n run leads
