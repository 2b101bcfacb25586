use Rattle.std.proofs.Common.{◌≡◌, ⊎_elim}
use Rattle.page_call_plan.specs.Answers.{took, page_due}
use Rattle.page_call_plan.specs.Ends.{took_says}
use Rattle.page_call_plan.proofs.Showing.{call_took, call_due, ids_took, ids_due, takes_show, takes_exact}
use Rattle.page_call_plan.proofs.laws.takes_keep_the_rule.Goals as goal

pub returns-clause-shows : goal.returns-clause-shows
returns-clause-shows c = λ s got k e ss asks owed p sh says.
    ⊎_elim (λ (h : took_says e ss owed p ≡ took). takes_show s got k e ss asks owed sh p took call_took ids_took h)
    (λ (h : took_says e ss owed p ≡ page_due). takes_show s got k e ss asks owed sh p page_due call_due ids_due h) says

pub returns-clause-exact : goal.returns-clause-exact
returns-clause-exact c = λ s got k e ss asks owed p sh says x opens.
    ⊎_elim (λ (h : took_says e ss owed p ≡ took). takes_exact s got k e ss asks owed sh p took call_took ids_took h x opens)
    (λ (h : took_says e ss owed p ≡ page_due). takes_exact s got k e ss asks owed sh p page_due call_due ids_due h x opens) says
