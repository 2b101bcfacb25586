use Rattle.std.proofs.Common.{◌≡◌, ◌∙◌, ◌++◌, ◌∷◌, [], List, refl, sym, ap}
use Rattle.vmbus_msg.specs.declared.msg.Msg.{Msg}
use Rattle.control_model.specs.Messages.{created}
use Rattle.control_model.specs.Host.{HostSeen}
use Rattle.host_end.specs.Feeding.{with_mail}
use Rattle.host_end.specs.contracts.control.HostControl.{the_view}
use Rattle.host_end.proofs.ListLaws.{came_whole}
use Rattle.host_end.proofs.control.HostControl.hear_piece.Goals as goal

pub returns-in-Some-made : goal.returns-in-Some-made
returns-in-Some-made c =
    let mail : c.put.new.post ≡ with_mail c.args.post.now (created c.in-Some-made.relid c.in-Some-made.handle ∷ []) =
    c.put.ensures.mail ∙ ap (λ m. with_mail c.args.post.now (m ∷ [])) c.created-answer.ensures in
    let posted : c.put.new.posted.items ≡ c.self.inside.posted.items ++ created c.in-Some-made.relid c.in-Some-made.handle ∷ [] = rw (c.put.ensures.posted, c.reserve.ensures.items, c.created-answer.ensures) refl in
    let fed : c.push_reserved.new.self.items ≡ c.self.inside.fed.items ++ c.args.m.now ∷ [] = rw (c.push_reserved.ensures.items, c.reserve-2.ensures.items) refl in
    let F : List Msg → List Msg → HostSeen = λ p f. record { plan = c.self.inside.plan; part = c.self.inside.part; awaits = c.listed-self-inside.result; version = c.self.inside.version; channels = c.self.inside.channels.items; lists = c.feed.new.self; posted = p; fed = f } in
    let changed : F c.put.new.posted.items c.push_reserved.new.self.items ≡ F (c.self.inside.posted.items ++ created c.in-Some-made.relid c.in-Some-made.handle ∷ []) (c.self.inside.fed.items ++ c.args.m.now ∷ []) =
    ap (λ p. F p c.push_reserved.new.self.items) posted ∙ ap (F (c.self.inside.posted.items ++ created c.in-Some-made.relid c.in-Some-made.handle ∷ [])) fed in
    let whole = came_whole (the_view c.self.inside) c.args.m.now c.in-Ok-feed.progress c.feed.new.self c.in-Some-made.relid c.in-Some-made.handle c.listed-self-inside.result (F c.put.new.posted.items c.push_reserved.new.self.items) c.args.post.now c.put.new.post
    c.in-Ok-feed.ensures.took.0 c.in-Ok-feed.ensures.took.1 c.in-Ok-feed.ensures.next (sym c.list_made-made.ensures ∙ c.in-Some-made.is) c.listed-self-inside.ensures changed mail in
    rw⁻¹ c.self.view_is whole
