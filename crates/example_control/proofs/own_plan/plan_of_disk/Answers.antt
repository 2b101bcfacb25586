use Rattle.std.proofs.Common.{◌∷◌, [], ◌++◌, map, ap, ◌∙◌}
use Rattle.contact.specs.declared.kind.Kind.TheVariants.{Disk}
use Rattle.example_control.specs.OwnPlan.{disk_opening}
use Rattle.example_control.proofs.OwnPlanLaws.{plan_is}
use Rattle.example_control.proofs.own_plan.plan_of_disk.Goals as goal

pub new-requires : goal.new-requires
new-requires c =
    let kinds = c.push_reserved.ensures.items ∙ ap (λ l. l ++ Disk ∷ []) c.in_ok-kinds.ensures.items in
    let openings = c.push_reserved-2.ensures.items ∙ ap (λ l. l ++ disk_opening c.args.ring_pages ∷ []) c.in_ok-openings.ensures.items in
    let phases = c.push_reserved-3.ensures.items ∙ ap (λ l. l ++ c.push_reserved-2.new.self ∷ []) c.in_ok-phases.ensures.items in
    record {
      plan = plan_is c.args.ring_pages c.requires.0 c.requires.1 c.push_reserved.new.self.items (map (λ phase. phase.items) c.push_reserved-3.new.self.items)
          kinds (ap (λ l. map (λ phase. phase.items) l) phases ∙ ap (λ os. os ∷ []) openings);
    }
