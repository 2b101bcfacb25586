use Rattle.std.proofs.Common.{◌≡◌, ℕ, ◌++◌, List, sym, subst}
use Rattle.std.specs.Prelude.{codes}
use Rattle.std.specs.Fmt.{decimal}
use Rattle.std.specs.Result.{OnOk}
use Rattle.gpadl.specs.declared.fault.GpadlFault.{GpadlFault}
use Rattle.hostile_decoders.specs.Lists.{gpadl_fault_said}
use Rattle.hostile_decoders.proofs.pages.push_gpadl_fault.Goals as goal

pub returns-in-Count-clause-text : goal.returns-in-Count-clause-text
returns-in-Count-clause-text c =
    subst (λ (f : GpadlFault). OnOk c.push_two.result (c.push_two.new.text.items ≡ c.args.text.now.items ++ gpadl_fault_said f)) (sym c.in-Count.is)
    (subst (λ (z : ℕ × ℕ). OnOk c.push_two.result (c.push_two.new.text.items ≡ c.args.text.now.items ++ ((codes "gpadl count " ++ decimal z.0) ++ (codes " " ++ decimal z.1))))
    (λ j. (c.from.ensures j, c.from-in-Count.ensures j)) c.push_two.ensures.text)
