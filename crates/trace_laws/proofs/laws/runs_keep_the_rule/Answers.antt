use Rattle.trace_laws.proofs.Keeping.{run_keeps, front_keeps}
use Rattle.trace_laws.proofs.laws.runs_keep_the_rule.Goals as goal

pub returns-clause-run : goal.returns-clause-run
returns-clause-run c d lines n size run = run_keeps c.steps_keep_the_rule.ensures.step c.steps_keep_the_rule.ensures.begin d lines n size run

pub returns-clause-each : goal.returns-clause-each
returns-clause-each c d first more n size run = front_keeps c.steps_keep_the_rule.ensures.step c.steps_keep_the_rule.ensures.begin d first more n size run
