use Rattle.std.proofs.Common.{◌≡◌, ◌∙◌, ℕ, List, Option, Some, sym, ap, subst}
use Rattle.vmbus_msg.specs.declared.msg.Msg.TheVariants.{GpadlBody}
use Rattle.gpadl.specs.Assembly.{Partial, Assembly, body_fault, built, Comes}
use Rattle.gpadl.proofs.assembler.Assembler.go_on.Goals as goal

pub returns-clause-took : goal.returns-clause-took
returns-clause-took c =
    let is : c.args.self.now.building ≡ Some c.in-Some.building = sym (ap (λ (s : Assembly). s.building) c.self.view_is) ∙ sym c.take.ensures.value ∙ c.in-Some.is in (
      ap (λ (p : Option Partial). body_fault p c.args.b.now) is ∙ sym c.fault.ensures ∙ c.in_default-fault.is,
      (
        c.go_on.new.self,
        (
          ap (λ (p : Option Partial). built p (GpadlBody c.args.b.now)) is ∙ ap (λ (p : Partial). Some p) (sym c.go_on.ensures),
          subst (λ (live : List ℕ). Comes c.go_on.new.self live c.settle.result (record { building = c.settle.new.slot; live = c.settle.new.live.items })) (ap (λ (s : Assembly). s.live) c.self.view_is) c.settle.ensures.comes,
        ),
      ),
    )
