use Rattle.std.proofs.Common.{◌≡◌, sym, ap, ◌∙◌, subst}
use Rattle.ring_machine.specs.declared.machine.Stage.TheVariants.{Stopped}
use Rattle.ring_machine.specs.declared.state.EndState.{EndState}
use Rattle.ring_machine.specs.Endings.{why_of}
use Rattle.ring_core.specs.Refused.{BreaksIn}
use Rattle.ring_core.proofs.Refused.{caused_in, refused_in}
use Rattle.ring_core.proofs.laws.refuses_by_value.Goals as goal

pub returns-clause-cause : goal.returns-clause-cause
returns-clause-cause c s t told told' tale tale' r busy stopped =
    subst (λ (u : EndState). BreaksIn s r.values (why_of u.machine)) (sym r.state) (caused_in s busy r.values (ap (λ (u : EndState). u.machine.stage) (sym r.state) ∙ stopped))

pub returns-clause-refusal : goal.returns-clause-refusal
returns-clause-refusal c s t told told' tale tale' r why breaks =
    subst (λ (u : EndState). (u.machine.stage ≡ Stopped) × (why_of u.machine ≡ why)) (sym r.state) (refused_in s r.values why breaks)
