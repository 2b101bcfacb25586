use Rattle.std.proofs.Common.{◌≡◌, ◌∙◌, sym, subst, Some}
use Rattle.control_model.specs.Channels.{place_of_list}
use Rattle.control_model.specs.Guest.{GuestSeen}
use Rattle.guest_end.proofs.HandleLaws.{there_alone, gpadl_is}
use Rattle.guest_end.proofs.control.GuestControl.has_alone.Goals as goal

pub returns-then-is_some : goal.returns-then-is_some
returns-then-is_some c = λ yes.
    let found = c.in-Some.ensures.lookup in
    let own = gpadl_is c.args.gpadl c.in-Some.channel.now.gpadl (sym c.eq.ensures ∙ yes) in
    let alone = there_alone c.self.inside.rising c.self.inside.channels.items c.deref.result.now c.args.place c.args.gpadl c.in-Some.channel.now c.deref.ensures.value found.3.0 found.1 own (sym c.is_some.ensures ∙ c.if-is_some.true) c.self.invariant.2 in
    subst (λ (seen : GuestSeen). place_of_list seen.channels c.args.gpadl ≡ Some c.args.place) c.self.view_is alone
