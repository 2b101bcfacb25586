use Rattle.std.proofs.Common.{◌++◌, ◌∷◌, [], ◌∙◌, true, false, sym, subst}
use Rattle.std.proofs.lemmas.List.{append-nil}
use Rattle.bus_plan.specs.Plans.{EachOrdered, IsOrdered, is_of}
use Rattle.bus_plan.proofs.Ordering.{each_push, ordered_one}
use Rattle.bus_plan.proofs.plan.order_if.Goals as goal

pub returns-then-not-is_of : goal.returns-then-not-is_of
returns-then-not-is_of c p o before same count dealt each =
    ordered_one (is_of c.args.firsts) false p o c.args.opening before c.args.plan.now.items same (sym c.is_of.ensures ∙ c.if-not-is_of.true) (subst (λ l. EachOrdered p l c.args.plan.now.items) (sym (append-nil before)) each)

pub returns : goal.returns
returns c p o before same count dealt each =
    ordered_one (is_of c.args.firsts) true p o c.args.opening before c.push.new.self.items same (sym c.is_of.ensures ∙ c.if-not-is_of.false)
    (subst (EachOrdered p (before ++ o ∷ [])) (sym c.in_ok-push.ensures.items) (each_push (IsOrdered p) before c.args.plan.now.items o c.in_ok-order.order each (c.in_ok-order.ensures p o same count dealt)))
