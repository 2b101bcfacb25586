use Rattle.std.proofs.Common.{◌∙◌, ◌∷◌, [], List, sym, subst}
use Rattle.chan_state.specs.declared.chan_state.ChanState.{ChanState}
use Rattle.gpadl.specs.Assembly.{Assembly}
use Rattle.control_model.specs.Host.{HostSeen}
use Rattle.host_end.specs.Feeding.{Posts}
use Rattle.host_end.specs.contracts.control.HostControl.{the_view}
use Rattle.host_end.proofs.EndLaws.{released}
use Rattle.host_end.proofs.control.HostControl.hear_release.Goals as goal

pub returns : goal.returns
returns c =
    let mid : HostSeen = the_view c.self.inside in
    let next = c.released_then-next.result in
    let posts : Posts c.args.self.now mid c.and_rescind.result (c.args.m.now ∷ []) c.args.post.now c.send.new.post =
    subst (λ h. Posts c.args.self.now h c.and_rescind.result (c.args.m.now ∷ []) c.args.post.now c.send.new.post) (sym c.self.view_is) c.in_ok-send.ensures.posted in
    let F : List ChanState → Assembly → HostSeen = λ cs ls. record { plan = mid.plan; part = mid.part; awaits = next.awaits; version = mid.version; channels = cs; lists = ls; posted = mid.posted; fed = mid.fed } in
    released c.args.self.now mid (F c.put_rescinded.new.channels.items c.end_list.new.lists) c.args.m.now c.args.post.now c.send.new.post c.args.relid c.in-Some.life c.event.new.self c.in-Ok.field-0 next c.and_rescind.result
    (sym c.life.ensures ∙ c.in-Some.is) c.in-Ok.ensures.taken.0 c.in-Ok.ensures.taken.1 c.in-Ok.ensures.taken.2 c.released_then-next.ensures.next posts c.and_rescind.ensures.burst
    (λ i. F (c.put_rescinded.ensures i) (c.end_list.ensures i))
