use Rattle.std.proofs.Common.{◌+◌, ◌∙◌, ap, arith, sym}
use Rattle.worker_port.specs.Line.{Line, LineState, page_places, page_words}
use Rattle.worker_port.proofs.ItemLaws.{got_new, past_new}
use Rattle.worker_port.proofs.RoomLaws.{room_new}
use Rattle.std.proofs.Common.{subst, false}
use Rattle.worker_port.specs.Homes.{HasHome}
use Rattle.worker_port.proofs.HomeLaws.{home_new}
use Rattle.worker_port.proofs.port.Port.with_room.Goals as goal

pub returns-in-Ok-clause-room : goal.returns-in-Ok-clause-room
returns-in-Ok-clause-room g c =
    let said = g.T.Protocol.said in
    let e = c.reserve.ensures.state.1 ∙ ap (λ (x : Line _). x.state) c.over-port.ensures in
    let f = c.requires.fresh in
    let r = c.in-Ok.ensures.room in
    let k = c.cells-cells.ensures.value in
    let n = ap (λ s. s.pages.count) c.reserve.ensures.state.0 in
    let p = c.pages-pages.ensures in
    let n' = p ∙ sym n in
    room_new c.args.packets c.reserve.new.self (ap (λ (s : LineState). s.past) e ∙ past_new said c.args.end.state (ap (λ s. s.past) f)) (ap (λ (s : LineState). s.got) e ∙ got_new said c.args.end.state (ap (λ s. s.got) f) (ap (λ s. s.pages.got) f)) (omega (arith, r.0))
    (omega (arith, r.1, c.words_of_pages.ensures.value, ap (λ q. page_words q c.args.packets) n')) (omega (arith, r.2, c.places_of_pages.ensures.value, ap (λ q. page_places q (c.args.packets + 1)) n'))
    (omega (arith, r.3, k, ap (λ (s : LineState). s.machine.cells) c.reserve.ensures.state.1, c.words_of_pages-2.ensures.value, ap (λ q. page_words q (c.args.packets + 1)) n'))

pub returns-in-Ok-clause-new : goal.returns-in-Ok-clause-new
returns-in-Ok-clause-new g c =
    let said = g.T.Protocol.said in
    let e = c.reserve.ensures.state.1 ∙ ap (λ (x : Line _). x.state) c.over-port.ensures in
    let f = c.requires.fresh in (
      ap (λ (s : LineState). s.past) e ∙ past_new said c.args.end.state (ap (λ s. s.past) f),
      ap (λ (s : LineState). s.got) e ∙ got_new said c.args.end.state (ap (λ s. s.got) f) (ap (λ s. s.pages.got) f),
      ap (λ (s : LineState). s.machine) e,
    )

pub returns-in-Ok-clause-home : goal.returns-in-Ok-clause-home
returns-in-Ok-clause-home g c =
    subst (HasHome (λ t. false)) (sym (c.reserve.ensures.state.0 ∙ ap (λ (x : Line _). x.end.state) c.over-port.ensures)) (home_new c.args.end.state c.requires.fresh)
