use Rattle.std.proofs.Common.{◌≡◌, ◌≤◌, true, false, take, [], List, ℕ, length, ap, drop, subst, ◌+◌, sym, ◌∙◌, refl}
use Rattle.channel_model.specs.Amounts.{room_of}
use Rattle.page_kept.specs.Items.{item_of}
use Rattle.channel_protocol.specs.Paged.{Lays}
use Rattle.ring_core.specs.Pages.{along}
use Rattle.worker_port.specs.Line.{CanLay, item_sent}
use Rattle.worker_port.specs.Rooms.{KeepsRoom}
use Rattle.worker_port.proofs.ItemSteps.{past_is, room_item}
use Rattle.worker_port.proofs.RoomLaws.{got_same, room_quiet}
use Rattle.channel_trace.specs.Runs.{sent_of}
use Rattle.worker_server.specs.Serving.{FirstFull, ServesOn}
use Rattle.worker_port.specs.Homes.{HasHome, SendsHome}
use Rattle.worker_port.specs.declared.found.Tried.TheVariants.{Sent as TriedSent, Full as TriedFull, Broken as TriedBroken}
use Rattle.worker_server.specs.Sheets.{is_own_open, item_on}
use Rattle.worker_server.proofs.PageSteps.{broken_unsent, can_give, first_full, full_unsent, has_room, met_full, on_port, pages_gave, pages_on}
use Rattle.worker_server.proofs.ServeSteps.{gave_by, still_kept}
use Rattle.worker_server.proofs.server.Server.give.Goals as goal

pub send-requires-clause-lays : goal.send-requires-clause-lays
send-requires-clause-lays g c =
    let t = c.self.inside.responder.protocol in
    let o = c.first-sheet.result.now in
    let law = c.stands_on_pages.ensures in
    let le = subst (λ (l : List ℕ). length l ≤ o.lent) c.page.ensures.value c.page.ensures.most.0 in
    let given = can_give g.E.Seatlike.told g.T.Protocol.said (g.T.Protocol.format t) (g.T.Protocol.besides t) (record {
      responder = c.self.inside.responder;
      end = c.self.inside.port;
      serve = c.self.inside.serve;
      stops = c.self.inside.stops;
      starts = c.self.inside.starts;
      come = c.self.inside.come;
      missing = c.self.inside.missing;
      served = c.self.inside.served;
      seen = c.self.inside.seen;
      want = c.self.inside.want;
    }) o c.first-sheet.ensures.sheets (g.T.Protocol.lends t) (g.T.Protocol.keeps t) (g.T.Protocol.paged t) g.T.Protocol.said_packet g.T.Protocol.said_few le c.first-sheet.ensures.read
    c.self.invariant.live.kept (c.self.invariant.live.own (ap (λ w. w.end.state.machine.marked) c.self.view_is ∙ c.requires.ready.unmarked)) c.self.invariant.live.from c.self.invariant.live.places law.clear law.items law.read law.listed law.got law.told c.self.invariant.pages in
    subst (λ (z : List ℕ × List ℕ). CanLay c.self.inside.port.end z.0 z.1) (λ i. (sym c.packet-2.ensures.value i, sym c.page.ensures.value i)) given.can

pub invariant_of-self : goal.invariant_of-self
invariant_of-self g c =
    let t = c.self.inside.responder.protocol in
    let o = c.first-sheet.result.now in
    let law = c.stands_on_pages.ensures in
    let le = subst (λ (l : List ℕ). length l ≤ o.lent) c.page.ensures.value c.page.ensures.most.0 in
    let given = can_give g.E.Seatlike.told g.T.Protocol.said (g.T.Protocol.format t) (g.T.Protocol.besides t) (record {
      responder = c.self.inside.responder;
      end = c.self.inside.port;
      serve = c.self.inside.serve;
      stops = c.self.inside.stops;
      starts = c.self.inside.starts;
      come = c.self.inside.come;
      missing = c.self.inside.missing;
      served = c.self.inside.served;
      seen = c.self.inside.seen;
      want = c.self.inside.want;
    }) o c.first-sheet.ensures.sheets (g.T.Protocol.lends t) (g.T.Protocol.keeps t) (g.T.Protocol.paged t) g.T.Protocol.said_packet g.T.Protocol.said_few le c.first-sheet.ensures.read
    c.self.invariant.live.kept (c.self.invariant.live.own (ap (λ w. w.end.state.machine.marked) c.self.view_is ∙ c.requires.ready.unmarked)) c.self.invariant.live.from c.self.invariant.live.places law.clear law.items law.read law.listed law.got law.told c.self.invariant.pages in
    let sent = item_sent c.self.inside.port c.packet-2.result.now c.page.result.now in
    let read = g.T.Protocol.said (item_on o) in
    let lays = subst (λ (z : List ℕ × List ℕ). Lays z.0 z.1 (along c.self.inside.port.end.state.pages z.0) sent) (λ i. (c.packet-2.ensures.value i, c.page.ensures.value i)) c.send.ensures.lays in
    let made = given.reads sent lays (λ zero. c.send.ensures.bare zero ∙ ap (λ (p : List ℕ). item_of p []) c.packet-2.ensures.value) in
    let past = past_is _ _ _ read made c.in-Sent.ensures.past in
    record {
      live = gave_by g.T.Protocol.format g.T.Protocol.keeps g.T.Protocol.besides _ _ _ read past c.first-sheet.ensures.value c.pop.ensures c.send.ensures.got.0 c.in-Sent.ensures.tries.awake (ap (λ w. w.end.state.machine.marked) c.self.view_is ∙ c.requires.ready.unmarked) c.self.invariant.live;
      room = subst (λ d. KeepsRoom (room_of (g.T.Protocol.besides d.protocol) (c.self.inside.starts + c.self.inside.come)) c.send.new.self) (sym c.pop.ensures)
          (room_item _ read c.packet-2.result.now _ _ (g.T.Protocol.said_packet (item_on o) ∙ sym c.packet-2.ensures.value) c.packet-2.ensures.most (got_same _ _ c.send.ensures.stays.same.pages c.send.ensures.got.0 c.send.ensures.got.1) c.send.ensures.stays.cells c.send.ensures.into past c.self.invariant.room);
      pages = pages_gave g.E.Seatlike.told g.T.Protocol.said g.T.Protocol.format g.T.Protocol.lends g.T.Protocol.besides _ _ (ap (λ d. d.protocol) c.pop.ensures) (ap (λ d. d.sheets) c.pop.ensures) refl c.send.ensures.got.0 c.send.ensures.stays.same.pages c.send.ensures.stays.same.side c.send.ensures.stays.tells
          (λ l. let own = ap (λ d. d.protocol) c.pop.ensures in subst (λ (z : _ × _). HasHome (is_own_open (g.T.Protocol.format z.0) z.1) c.send.new.self.end.state) (λ i. (sym own i, sym past i)) (given.home (ap g.T.Protocol.lends (sym own) ∙ l) TriedSent c.send.new.self.end.state (subst (λ (p : List ℕ). SendsHome TriedSent p c.self.inside.port.end.state c.send.new.self.end.state) c.packet-2.ensures.value c.in-Sent.ensures.home))) c.self.invariant.pages;
      side = ap (λ d. d.side) c.pop.ensures ∙ (c.self.invariant.side ∙ sym c.send.ensures.stays.side);
    }

-- a try that sent nothing keeps the pages under their ids
pub invariant_of-self-in-Full : goal.invariant_of-self-in-Full
invariant_of-self-in-Full g c =
    let t = c.self.inside.responder.protocol in
    let o = c.first-sheet.result.now in
    let law = c.stands_on_pages.ensures in
    let le = subst (λ (l : List ℕ). length l ≤ o.lent) c.page.ensures.value c.page.ensures.most.0 in
    let given = can_give g.E.Seatlike.told g.T.Protocol.said (g.T.Protocol.format t) (g.T.Protocol.besides t) (record {
      responder = c.self.inside.responder;
      end = c.self.inside.port;
      serve = c.self.inside.serve;
      stops = c.self.inside.stops;
      starts = c.self.inside.starts;
      come = c.self.inside.come;
      missing = c.self.inside.missing;
      served = c.self.inside.served;
      seen = c.self.inside.seen;
      want = c.self.inside.want;
    }) o c.first-sheet.ensures.sheets (g.T.Protocol.lends t) (g.T.Protocol.keeps t) (g.T.Protocol.paged t) g.T.Protocol.said_packet g.T.Protocol.said_few le c.first-sheet.ensures.read
    c.self.invariant.live.kept (c.self.invariant.live.own (ap (λ w. w.end.state.machine.marked) c.self.view_is ∙ c.requires.ready.unmarked)) c.self.invariant.live.from c.self.invariant.live.places law.clear law.items law.read law.listed law.got law.told c.self.invariant.pages in
    let unmarked = ap (λ w. w.end.state.machine.marked) c.self.view_is ∙ c.requires.ready.unmarked in
    record {
      live = still_kept (g.T.Protocol.format t) (g.T.Protocol.keeps t) (g.T.Protocol.besides t) _ _ c.self.inside.want c.in-Full.ensures.past c.send.ensures.got.0 (λ z. absurd (let bad : true ≡ false = sym z ∙ c.in-Full.ensures.tries.awake in cc)) unmarked c.self.invariant.live;
      room = room_quiet _ _ _ (got_same _ _ c.send.ensures.stays.same.pages c.send.ensures.got.0 c.send.ensures.got.1) c.send.ensures.stays.cells (c.in-Full.ensures.unsent full_unsent) (ap sent_of c.in-Full.ensures.past) c.self.invariant.room;
      pages = pages_on g.E.Seatlike.told g.T.Protocol.said g.T.Protocol.format g.T.Protocol.lends g.T.Protocol.besides _ _ refl refl (ap (take c.self.inside.served) c.send.ensures.got.0) c.send.ensures.stays.same.pages c.send.ensures.stays.same.side c.send.ensures.stays.tells
          (λ l. subst (λ q. HasHome (is_own_open (g.T.Protocol.format t) q) c.send.new.self.end.state) (sym c.in-Full.ensures.past) (given.home l TriedFull c.send.new.self.end.state (subst (λ (p : List ℕ). SendsHome TriedFull p c.self.inside.port.end.state c.send.new.self.end.state) c.packet-2.ensures.value c.in-Full.ensures.home))) c.self.invariant.pages;
      side = c.self.invariant.side ∙ sym c.send.ensures.stays.side;
    }

-- a try that sent nothing keeps the pages under their ids
pub invariant_of-self-in-Broken : goal.invariant_of-self-in-Broken
invariant_of-self-in-Broken g c =
    let t = c.self.inside.responder.protocol in
    let o = c.first-sheet.result.now in
    let law = c.stands_on_pages.ensures in
    let le = subst (λ (l : List ℕ). length l ≤ o.lent) c.page.ensures.value c.page.ensures.most.0 in
    let given = can_give g.E.Seatlike.told g.T.Protocol.said (g.T.Protocol.format t) (g.T.Protocol.besides t) (record {
      responder = c.self.inside.responder;
      end = c.self.inside.port;
      serve = c.self.inside.serve;
      stops = c.self.inside.stops;
      starts = c.self.inside.starts;
      come = c.self.inside.come;
      missing = c.self.inside.missing;
      served = c.self.inside.served;
      seen = c.self.inside.seen;
      want = c.self.inside.want;
    }) o c.first-sheet.ensures.sheets (g.T.Protocol.lends t) (g.T.Protocol.keeps t) (g.T.Protocol.paged t) g.T.Protocol.said_packet g.T.Protocol.said_few le c.first-sheet.ensures.read
    c.self.invariant.live.kept (c.self.invariant.live.own (ap (λ w. w.end.state.machine.marked) c.self.view_is ∙ c.requires.ready.unmarked)) c.self.invariant.live.from c.self.invariant.live.places law.clear law.items law.read law.listed law.got law.told c.self.invariant.pages in
    let unmarked = ap (λ w. w.end.state.machine.marked) c.self.view_is ∙ c.requires.ready.unmarked in
    record {
      live = still_kept (g.T.Protocol.format t) (g.T.Protocol.keeps t) (g.T.Protocol.besides t) _ _ c.self.inside.want c.in-Broken.ensures.past c.send.ensures.got.0 (λ z. absurd (let bad : true ≡ false = sym z ∙ c.in-Broken.ensures.tries.awake in cc)) unmarked c.self.invariant.live;
      room = room_quiet _ _ _ (got_same _ _ c.send.ensures.stays.same.pages c.send.ensures.got.0 c.send.ensures.got.1) c.send.ensures.stays.cells (c.in-Broken.ensures.unsent broken_unsent) (ap sent_of c.in-Broken.ensures.past) c.self.invariant.room;
      pages = pages_on g.E.Seatlike.told g.T.Protocol.said g.T.Protocol.format g.T.Protocol.lends g.T.Protocol.besides _ _ refl refl (ap (take c.self.inside.served) c.send.ensures.got.0) c.send.ensures.stays.same.pages c.send.ensures.stays.same.side c.send.ensures.stays.tells
          (λ l. subst (λ q. HasHome (is_own_open (g.T.Protocol.format t) q) c.send.new.self.end.state) (sym c.in-Broken.ensures.past) (given.home l TriedBroken c.send.new.self.end.state (subst (λ (p : List ℕ). SendsHome TriedBroken p c.self.inside.port.end.state c.send.new.self.end.state) c.packet-2.ensures.value c.in-Broken.ensures.home))) c.self.invariant.pages;
      side = c.self.invariant.side ∙ sym c.send.ensures.stays.side;
    }

pub returns-in-Sent-clause-on : goal.returns-in-Sent-clause-on
returns-in-Sent-clause-on g c =
    subst (λ w. ServesOn g.S.Device.same g.E.Parks.channel g.E.Seatlike.told w (record {
      responder = c.pop.new.self;
      end = c.send.new.self;
      serve = c.self.inside.serve;
      stops = c.self.inside.stops;
      starts = c.self.inside.starts;
      come = c.self.inside.come;
      missing = c.self.inside.missing;
      served = c.self.inside.served;
      seen = c.self.inside.seen;
      want = c.self.inside.want;
    })) c.self.view_is
    (on_port g.S.Device.same g.E.Parks.channel g.E.Seatlike.told g.S.Device.same_refl _ (record {
      responder = c.pop.new.self;
      end = c.send.new.self;
      serve = c.self.inside.serve;
      stops = c.self.inside.stops;
      starts = c.self.inside.starts;
      come = c.self.inside.come;
      missing = c.self.inside.missing;
      served = c.self.inside.served;
      seen = c.self.inside.seen;
      want = c.self.inside.want;
    }) (drop 1 c.self.inside.responder.owed) (drop 1 c.self.inside.responder.sheets) c.pop.ensures refl refl refl refl c.send.ensures.stays.same c.send.ensures.stays.tells)

pub returns-in-Full-clause-on : goal.returns-in-Full-clause-on
returns-in-Full-clause-on g c =
    subst (λ w. ServesOn g.S.Device.same g.E.Parks.channel g.E.Seatlike.told w (record {
      responder = c.self.inside.responder;
      end = c.send.new.self;
      serve = c.self.inside.serve;
      stops = c.self.inside.stops;
      starts = c.self.inside.starts;
      come = c.self.inside.come;
      missing = c.self.inside.missing;
      served = c.self.inside.served;
      seen = c.self.inside.seen;
      want = c.self.inside.want;
    })) c.self.view_is
    (on_port g.S.Device.same g.E.Parks.channel g.E.Seatlike.told g.S.Device.same_refl _ (record {
      responder = c.self.inside.responder;
      end = c.send.new.self;
      serve = c.self.inside.serve;
      stops = c.self.inside.stops;
      starts = c.self.inside.starts;
      come = c.self.inside.come;
      missing = c.self.inside.missing;
      served = c.self.inside.served;
      seen = c.self.inside.seen;
      want = c.self.inside.want;
    }) (c.self.inside.responder.owed) (c.self.inside.responder.sheets) refl refl refl refl refl c.send.ensures.stays.same c.send.ensures.stays.tells)

pub returns-in-Broken-clause-on : goal.returns-in-Broken-clause-on
returns-in-Broken-clause-on g c =
    subst (λ w. ServesOn g.S.Device.same g.E.Parks.channel g.E.Seatlike.told w (record {
      responder = c.self.inside.responder;
      end = c.send.new.self;
      serve = c.self.inside.serve;
      stops = c.self.inside.stops;
      starts = c.self.inside.starts;
      come = c.self.inside.come;
      missing = c.self.inside.missing;
      served = c.self.inside.served;
      seen = c.self.inside.seen;
      want = c.self.inside.want;
    })) c.self.view_is
    (on_port g.S.Device.same g.E.Parks.channel g.E.Seatlike.told g.S.Device.same_refl _ (record {
      responder = c.self.inside.responder;
      end = c.send.new.self;
      serve = c.self.inside.serve;
      stops = c.self.inside.stops;
      starts = c.self.inside.starts;
      come = c.self.inside.come;
      missing = c.self.inside.missing;
      served = c.self.inside.served;
      seen = c.self.inside.seen;
      want = c.self.inside.want;
    }) (c.self.inside.responder.owed) (c.self.inside.responder.sheets) refl refl refl refl refl c.send.ensures.stays.same c.send.ensures.stays.tells)

pub returns-in-Full-clause-gave : goal.returns-in-Full-clause-gave
returns-in-Full-clause-gave g c =
    let v = c.self.view_is in
    let o = c.first-sheet.result.now in
    let read = g.T.Protocol.said (item_on o) in
    let same = g.T.Protocol.said_packet (item_on o) in (
      ap (λ w. w.responder) v,
      ap (λ w. w.served) v,
      c.send.ensures.got.0 ∙ ap (λ w. w.end.state.got) v,
      ap (λ w. w.seen) v,
      c.in-Full.ensures.past ∙ ap (λ w. w.end.state.past) v,
      met_full c.self.inside.responder.owed read c.packet-2.result.now c.send.new.self c.first-sheet.ensures.value (same ∙ sym c.packet-2.ensures.value) (c.in-Full.ensures.found refl),
      has_room c.self.inside.responder.owed read c.packet.result.now c.self.inside.port c.send.new.self c.first-sheet.ensures.value (same ∙ sym c.packet.ensures.value) c.send.ensures.stays.same.pages (c.in-Full.ensures.unsent full_unsent) c.in_default.ensures.lacks,
    )

pub returns-in-Full-clause-tried : goal.returns-in-Full-clause-tried
returns-in-Full-clause-tried g c = λ _.
    let t = c.self.inside.responder.protocol in
    let o = c.first-sheet.result.now in
    let law = c.stands_on_pages.ensures in
    let le = subst (λ (l : List ℕ). length l ≤ o.lent) c.page.ensures.value c.page.ensures.most.0 in
    let given = can_give g.E.Seatlike.told g.T.Protocol.said (g.T.Protocol.format t) (g.T.Protocol.besides t) (record {
      responder = c.self.inside.responder;
      end = c.self.inside.port;
      serve = c.self.inside.serve;
      stops = c.self.inside.stops;
      starts = c.self.inside.starts;
      come = c.self.inside.come;
      missing = c.self.inside.missing;
      served = c.self.inside.served;
      seen = c.self.inside.seen;
      want = c.self.inside.want;
    }) o c.first-sheet.ensures.sheets (g.T.Protocol.lends t) (g.T.Protocol.keeps t) (g.T.Protocol.paged t) g.T.Protocol.said_packet g.T.Protocol.said_few le c.first-sheet.ensures.read
    c.self.invariant.live.kept (c.self.invariant.live.own (ap (λ w. w.end.state.machine.marked) c.self.view_is ∙ c.requires.ready.unmarked)) c.self.invariant.live.from c.self.invariant.live.places law.clear law.items law.read law.listed law.got law.told c.self.invariant.pages in
    let told = g.E.Seatlike.told in
    let tale = g.E.Seatlike.tale in
    let owed = c.self.inside.responder.owed in
    let fits = subst (λ (z : List ℕ × List ℕ). CanLay c.self.inside.port.end z.0 z.1) (λ i. (sym c.packet-2.ensures.value i, sym c.page.ensures.value i)) given.can in
    let first = first_full told tale owed (g.T.Protocol.said (item_on o)) c.packet-2.result.now c.page.result.now c.self.inside.port.end c.send.new.self.end c.first-sheet.ensures.value (g.T.Protocol.said_packet (item_on o) ∙ sym c.packet-2.ensures.value) fits.fits c.send.ensures.tried (c.in-Full.ensures.full refl) in
    subst (λ w. FirstFull told tale owed w.end.end c.send.new.self.end) c.self.view_is first
