use Rattle.std.proofs.Common.{arith, None, false, is_some, ◌≡◌, ◌+◌, refl, ap, sym, ◌∙◌, subst}
use Rattle.worker_port.specs.Rooms.{KeepsRoom}
use Rattle.channel_model.specs.Amounts.{room_of}
use Rattle.worker_server.proofs.ServeSteps.{new_kept}
use Rattle.worker_server.specs.Sheets.{HasPages}
use Rattle.worker_server.proofs.PageSteps.{pages_new}
use Rattle.worker_server.proofs.server.Server.make.Goals as goal

pub invariant_of-result : goal.invariant_of-result
invariant_of-result g c =
    let d = c.in-Ok-make.ensures in
    let e = c.in-Ok.ensures.new in
    let m = e.2 ∙ ap (λ s. s.machine) c.requires.fresh in
    let p : c.room_of-packets.result ≡ room_of (g.T.Protocol.besides c.in-Ok-make.responder.protocol) (c.args.starts + c.args.come) =
    c.room_of-packets.ensures.value ∙ (ap (λ b. room_of b (c.args.starts + c.args.come)) c.besides.ensures ∙ ap (λ x. room_of (g.T.Protocol.besides x.protocol) (c.args.starts + c.args.come)) (sym d)) in
    let count = ap (λ s. s.pages.count) c.in-Ok.ensures.end.0 in
    record {
      live = new_kept (g.T.Protocol.format c.in-Ok-make.responder.protocol) (g.T.Protocol.keeps c.in-Ok-make.responder.protocol) (g.T.Protocol.besides c.in-Ok-make.responder.protocol) _ e.0 e.1 (ap (λ d. d.calls) d) (ap (λ d. d.table) d) (ap (λ d. d.owed) d) (ap (λ d. d.left) d) refl refl refl
          (ap (λ m. m.asleep) m);
      room = subst (λ n. KeepsRoom n c.in-Ok.port) p c.in-Ok.ensures.room;
      pages = subst (λ z. HasPages g.E.Seatlike.told g.T.Protocol.said (g.T.Protocol.format z.protocol) (g.T.Protocol.lends z.protocol) (g.T.Protocol.besides z.protocol) (record {
        responder = z;
        end = c.in-Ok.port;
        serve = c.args.serve;
        stops = c.args.stops;
        starts = c.args.starts;
        come = c.args.come;
        missing = c.args.starts;
        served = 0;
        seen = false;
        want = None;
      })) (sym d) (pages_new g.E.Seatlike.told g.T.Protocol.said g.T.Protocol.format g.T.Protocol.lends g.T.Protocol.besides _ refl e.0 (λ l. count ∙ c.requires.none l) (λ l z. c.requires.some l (sym count ∙ z)) (λ l. ap (λ s. s.machine.side) c.in-Ok.ensures.end.0 ∙ c.requires.host l) (λ l b. omega (arith, count, c.requires.enough l b)) (λ l. ap (λ z. is_some (g.E.Seatlike.told z)) c.in-Ok.ensures.end.2 ∙ c.requires.tells l) c.requires.lawful c.in-Ok.ensures.home);
      side = ap (λ d. d.side) d ∙ (c.requires.side ∙ sym (ap (λ m. m.side) e.2));
    }
