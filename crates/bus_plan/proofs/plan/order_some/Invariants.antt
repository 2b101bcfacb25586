use Rattle.std.proofs.Common.{◌++◌, List, take}
use Rattle.std.specs.Prelude.{filter}
use Rattle.script_phases.specs.Openings.{Opening, Phase}
use Rattle.phase_plan.specs.Opened.{plain}
use Rattle.bus_plan.specs.Plans.{AreOpened, EachOrdered, is_of}
use Rattle.bus_plan.proofs.plan.order_some.Given as goal

abbrev pub invariant-loop-opening : goal.invariant-loop-opening
invariant-loop-opening l =
    (p : Phase) (os before : List Opening) → AreOpened p os l.openings l.subs l.devices → EachOrdered p before l.fn.plan.items → EachOrdered p (before ++ filter (λ o. is_of l.firsts (plain o)) (take l.opening-index os)) l.plan.items
