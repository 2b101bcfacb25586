use Rattle.worker_port.proofs.ItemRuns as runs
use Rattle.worker_port.proofs.laws.items_are_one_run.Goals as goal

pub returns-clause-run : goal.returns-clause-run
returns-clause-run g c = λ f guest host h k one to_guest to_host. runs.items_run f guest host h k one to_guest to_host

pub returns-clause-bare : goal.returns-clause-bare
returns-clause-bare g c = λ f guest host h k one none away. runs.bare_run f guest host h k one none away

pub returns-clause-sent : goal.returns-clause-sent
returns-clause-sent g c = λ f e h. runs.items_sent f e h

pub returns-clause-got : goal.returns-clause-got
returns-clause-got g c = λ f e h. runs.items_got f e h

pub returns-clause-packets : goal.returns-clause-packets
returns-clause-packets g c = λ e h. runs.items_packets _ e h

pub returns-clause-none : goal.returns-clause-none
returns-clause-none g c = λ e h z. runs.items_none _ e h z
