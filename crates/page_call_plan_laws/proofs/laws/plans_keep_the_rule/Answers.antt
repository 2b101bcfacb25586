use Rattle.std.proofs.Common.{◌≡◌, ⊎_elim, length}
use Rattle.page_call_plan.specs.Answers.{took, page_due}
use Rattle.page_call_plan.specs.Ends.{took_says}
use Rattle.page_call_plan.proofs.Showing.{call_took, call_due, ids_took, ids_due, stores_may}
use Rattle.page_call_plan_laws.proofs.Keeping.{sends, takes, stored}
use Rattle.page_call_plan_laws.proofs.laws.plans_keep_the_rule.Goals as goal

pub returns-clause-sends : goal.returns-clause-sends
returns-clause-sends c = λ s base ws got k y e ss asks owed n p fit all o sh lets. sends s base ws got k y e ss asks owed fit o sh n p lets

pub returns-clause-takes : goal.returns-clause-takes
returns-clause-takes c = λ s base ws got k y e ss asks owed i more fit all o sh nx lets.
    ⊎_elim (λ (h : took_says e ss owed i.packet ≡ took). takes s base ws got k y e ss asks owed fit o sh i more took nx call_took ids_took h)
    (λ (h : took_says e ss owed i.packet ≡ page_due). takes s base ws got k y e ss asks owed fit o sh i more page_due nx call_due ids_due h) lets

pub returns-clause-stores : goal.returns-clause-stores
returns-clause-stores c = λ s base ws got k y e ss asks owed q w vs fit all o sh lets. stored s base ws got k y q w vs fit all o (stores_may s got k e ss asks owed q w (length vs) sh lets)
