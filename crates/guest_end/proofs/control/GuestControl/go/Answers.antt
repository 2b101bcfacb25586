use Rattle.std.proofs.Common.{◌≡◌, ◌≤◌, ◌∙◌, List, length, sym, subst, ap}
use Rattle.control_model.specs.declared.channel.Channel.{Channel}
use Rattle.control_model.specs.Plan.{most_channels}
use Rattle.control_model.specs.Channels.{changed}
use Rattle.control_model.specs.Guest.{GuestSeen, HasRoom}
use Rattle.guest_end.specs.declared.control.GuestControl.TheInside.{Inside}
use Rattle.guest_end.specs.Handles.{AreApart}
use Rattle.guest_end.proofs.RoomLaws.{turn_few}
use Rattle.guest_end.proofs.control.GuestControl.go.Goals.{in-Some, in_default}
use Rattle.guest_end.proofs.control.GuestControl.go.Goals as goal

pub invariant_of-self-2 : goal.invariant_of-self-2
invariant_of-self-2 c =
    let cs : List Channel = c.self.inside.channels.items in
    let heard = c.args.turn.heard in
    let wished = c.args.turn.wished in
    let room : HasRoom cs heard = subst (λ (l : List Channel). HasRoom l heard) (sym (ap (λ (g : GuestSeen). g.channels) c.self.view_is)) c.requires.fits.2 in
    let same : c.reserve-3.new.self.items ≡ cs = c.in_ok-reserve-3.ensures.items in
    let done : c.change-2.new.channels.items ≡ changed (changed cs heard) wished =
    c.change-2.ensures.changed ∙ ap (λ (l : List Channel). changed l wished) (c.change.ensures.changed ∙ ap (λ (l : List Channel). changed l heard) same) in
    let few : length c.change-2.new.channels.items ≤ most_channels = subst (λ (l : List Channel). length l ≤ most_channels) (sym done) (turn_few cs heard wished c.self.invariant.1 room c.requires.fits.3) in
    let apart : AreApart c.change-2.new.rising c.change-2.new.channels.items =
    c.change-2.ensures.apart (c.change.ensures.apart (subst (λ (l : List Channel). AreApart c.self.inside.rising l) (sym same) c.self.invariant.2)) in
    let Kept : Inside → Type 0 = λ i. (length i.channels.items ≤ most_channels) × AreApart i.rising i.channels.items in
    let kept : Kept c.match-fed.self-inside = elim c.match-fed.branch [
      | in-Some w ↦ subst Kept (sym w.self-inside-is) (few, apart)
      | in_default w ↦ subst Kept (sym w.self-inside-is) (few, apart)
    ] in
    (c.requires.fits.1, kept.0, kept.1)
