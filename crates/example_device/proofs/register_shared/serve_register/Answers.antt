use Rattle.std.proofs.Common.{◌≡◌, [], ◌∷◌, false, refl, ap, ◌∙◌, subst}
use Rattle.hist_lock.specs.History.{entries_of}
use Rattle.worker_server.specs.Serving.{calls_behind}
use Rattle.worker_copy_laws.specs.Copies.{ServesCopies}
use Rattle.worker_copy_laws.proofs.Copying.{serves}
use Rattle.example_device.specs.Registers.{register_items}
use Rattle.example_device.specs.RegisterLaws.{items_keep}
use Rattle.example_device.specs.declared.register_seat.RegisterSeat.{RegisterSeat}
use Rattle.example_device.proofs.Storing.{Place, stores}
use Rattle.example_device.proofs.register_shared.serve_register.Goals as goal

pub returns : goal.returns
returns g c =
    let tale = g.E.Seatlike.tale in
    let done = c.run-done.result in
    let ran = c.run-done.ensures in
    let a = c.in-Some.seat in
    let b = done.seat.seat in
    let made = c.in_ok-server.ensures.protocol in
    let lock : b.lock ≡ a.lock = ran.seat.0 ∙ (ap (λ (x : RegisterSeat). x.seat.lock) made.1 ∙ ap (λ (x : Place). x.lock) c.over.ensures) in
    let before : c.in_ok-server.server.responder.before ≡ a.calls = made.2 ∙ ap (λ (x : Place). x.calls) c.over.ensures in
    stores tale c.make.result (c.args.count ∷ []) c.args.count c.in_ok-seats.seats.items c.pop.new.self.items c.push_reserved.new.self.items a b done.end (entries_of c.close-history.result.1)
    c.make.ensures refl c.in_ok-seats.ensures c.in-Some.ensures.items lock c.push_reserved.ensures.items c.close-history.ensures.closes
    (subst (λ l. ServesCopies register_items.read (λ i. i) tale done.end (calls_behind l b.calls)) before
    (serves g.E.Seatlike.told tale (λ i. i) register_items items_keep false done.ended c.in_ok-server.server done.end (calls_behind c.in_ok-server.server.responder.before b.calls) ran.stands ran.came ran.ends))
