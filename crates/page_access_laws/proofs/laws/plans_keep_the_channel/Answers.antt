use Rattle.page_access_laws.proofs.Turning.{ends_so, exact_so, keeps_rule}
use Rattle.page_access_laws.proofs.laws.plans_keep_the_channel.Goals as goal

pub returns-clause-rule : goal.returns-clause-rule
returns-clause-rule c = λ n m x w z a turns rest some rule shows lets heard. keeps_rule n m x w z a some rule shows lets heard turns rest

pub returns-clause-over : goal.returns-clause-over
returns-clause-over c = λ n m x w z a turns some rule shows lets heard. ends_so n m x w z a some rule shows lets heard turns

pub returns-clause-exact : goal.returns-clause-exact
returns-clause-exact c = λ n m x w z a turns some rule shows lets heard played is exact. exact_so n m x w z a some rule shows lets heard turns played is exact
