use Rattle.std.proofs.Common.{◌∙◌, sym, subst, [], ◌∷◌, ◌++◌}
use Rattle.guest_end.specs.Handles.{AreApart}
use Rattle.guest_end.proofs.HandleLaws.{offered_apart, unknown_apart}
use Rattle.guest_end.proofs.control.change.Goals.{then-is_some, else-is_some}
use Rattle.guest_end.proofs.control.change.Goals as goal

pub returns-after-is_some-clause-apart : goal.returns-after-is_some-clause-apart
returns-after-is_some-clause-apart c = λ apart.
    let joined = c.args.channels.now.items ++ c.in-Offered.channel ∷ [] in
    let after : AreApart c.if-is_some.rising joined = elim c.if-is_some.branch [
      | then-is_some w ↦ unknown_apart c.if-is_some.rising joined w.rising-is
      | else-is_some w ↦ offered_apart c.args.rising.now c.if-is_some.rising c.args.channels.now.items c.in-Offered.channel (sym c.is_some.ensures ∙ w.if-is_some.false) w.rising-is apart
    ] in
    subst (λ l. AreApart c.if-is_some.rising l) (sym c.push_reserved.ensures.items) after
