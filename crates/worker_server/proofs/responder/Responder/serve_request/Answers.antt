use Rattle.std.proofs.Common.{◌≡◌, ◌-◌, ◌++◌, ◌∷◌, [], suc, refl, ap, sym, ◌∙◌, subst, arith}
use Rattle.page_kept.specs.Items.{item_of}
use Rattle.channel_model.specs.Workers.{Owes}
use Rattle.worker_server.specs.Serving.{own_in}
use Rattle.worker_server.specs.Sheets.{read_all}
use Rattle.hist_lock.specs.Seat.{Call}
use Rattle.worker_server.proofs.OwedLaws.{bare_clear, goes_clear}
use Rattle.worker_server.proofs.ResponderLaws.{value_of, calls_grow, given_goes, given_back, owes_by, serves_past, serves_held, serves_given}
use Rattle.worker_server.proofs.responder.Responder.serve_request.Goals as goal

pub returns-then-count-eq0-clause-serves : goal.returns-then-count-eq0-clause-serves
returns-then-count-eq0-clause-serves g c =
    let v = c.self.view_is in
    let asked = value_of ((g.T.Protocol.format c.args.self.now.protocol).read (g.T.Protocol.said (item_of c.args.packet.now c.args.words.now))) c.requires.reads in
    serves_past (g.T.Protocol.format c.self.inside.protocol) c.self.inside.held (g.T.Protocol.said (item_of c.args.packet.now c.args.words.now)) asked.0 c.args.count c.args.self.now.calls _ (read_all g.T.Protocol.said c.self.inside.owed) c.if-count-eq0.true (ap (λ d. (g.T.Protocol.format d.protocol).read (g.T.Protocol.said (item_of c.args.packet.now c.args.words.now))) v ∙ asked.1) (ap (λ d. d.owed) v ∙ c.requires.owed) (ap (λ d. d.calls) v)

pub returns-then-is_held_back-clause-serves : goal.returns-then-is_held_back-clause-serves
returns-then-is_held_back-clause-serves g c =
    let v = c.self.view_is in
    let k = c.args.count - 1 in
    let made : Call g.row.T-Request.Denot g.row.T-Reply.Denot = (record { serial = c.call-serial.result.0; request = c.read-request.result; reply = c.call-serial.result.1 }) in
    let is : c.args.count ≡ suc k = omega (arith, c.if-count-eq0.false) in
    serves_held (g.T.Protocol.format c.self.inside.protocol) c.self.inside.held (g.T.Protocol.said (item_of c.args.packet.now c.args.words.now)) c.read-request.result made c.args.count k c.args.self.now.calls _ (read_all g.T.Protocol.said c.self.inside.owed) is (sym (c.is_held_back.ensures k is) ∙ c.if-is_held_back.true) c.read-request.ensures (record { asked = refl; fits = c.call-serial.ensures.fits })
    (ap (λ d. d.owed) v ∙ c.requires.owed) (calls_grow _ _ made _ _ c.call-serial.result.0 c.self.invariant.made c.call-serial.ensures.calls c.push_reserved.ensures.items ∙ ap (λ l. l ++ made ∷ []) (ap (λ d. d.calls) v))

pub returns-clause-serves : goal.returns-clause-serves
returns-clause-serves g c =
    let v = c.self.view_is in
    let k = c.args.count - 1 in
    let made : Call g.row.T-Request.Denot g.row.T-Reply.Denot = (record { serial = c.call-serial.result.0; request = c.read-request.result; reply = c.call-serial.result.1 }) in
    let is : c.args.count ≡ suc k = omega (arith, c.if-count-eq0.false) in
    serves_given (g.T.Protocol.format c.self.inside.protocol) c.self.inside.held (g.T.Protocol.said (item_of c.args.packet.now c.args.words.now)) c.read-request.result made c.args.count k c.open_own-own.result c.args.self.now.calls _ (read_all g.T.Protocol.said c.owe_reply.new.self) _ is refl (sym (c.is_held_back.ensures k is) ∙ c.if-is_held_back.false) c.read-request.ensures (record { asked = refl; fits = c.call-serial.ensures.fits })
    c.owe_reply.ensures.value (calls_grow _ _ made _ _ c.call-serial.result.0 c.self.invariant.made c.call-serial.ensures.calls c.push_reserved.ensures.items ∙ ap (λ l. l ++ made ∷ []) (ap (λ d. d.calls) v))

pub returns-clause-owes : goal.returns-clause-owes
returns-clause-owes g c =
    let v = c.self.view_is in
    let s = g.T.Protocol.format c.self.inside.protocol in
    let back = s.gives (g.T.Protocol.said (item_of c.args.packet.now c.args.words.now)) c.call-serial.result.1 in
    let owes =
    owes_by s (g.T.Protocol.keeps c.self.inside.protocol) (s.id_of (g.T.Protocol.said (item_of c.args.packet.now c.args.words.now))) c.open_own-own.result back c.self.inside.table c.open_own-own.new.table c.has_message-besides.result c.open_own-own.ensures.fits
    (given_back s (g.T.Protocol.keeps c.self.inside.protocol) (g.T.Protocol.said (item_of c.args.packet.now c.args.words.now)) c.read-request.result c.call-serial.result.1 c.read-request.ensures) (sym c.has_message-besides.ensures) c.open_own-own.ensures.free c.open_own-own.ensures.set c.open_own-own.ensures.same in
    subst (λ t. Owes s (read_all g.T.Protocol.said c.owe_reply.new.self) (own_in t) (own_in c.open_own-own.new.table)) (ap (λ d. d.table) v)
    (subst (λ l. Owes s l (own_in c.self.inside.table) (own_in c.open_own-own.new.table)) (sym c.owe_reply.ensures.value) owes)

pub returns-clause-back : goal.returns-clause-back
returns-clause-back g c = λ lends.
    let t = c.self.inside.protocol in
    let s = g.T.Protocol.format t in
    let p = g.T.Protocol.said (item_of c.args.packet.now c.args.words.now) in
    given_goes s (g.T.Protocol.keeps t) (g.T.Protocol.paged t lends) g.T.Protocol.said g.T.Protocol.said_packet (g.T.Protocol.besides t) (g.T.Protocol.may t) p c.read-request.result c.call-serial.result.1 c.open_own-own.result c.owe_reply.new.self c.open_own-own.ensures.fits c.read-request.ensures c.owe_reply.ensures.value (c.owe_reply.ensures.back lends)

pub returns-then-count-eq0-clause-bare : goal.returns-then-count-eq0-clause-bare
returns-then-count-eq0-clause-bare g c = λ none. bare_clear g.T.Protocol.said c.self.inside.owed (ap (λ d. d.owed) c.self.view_is ∙ c.requires.owed)

pub returns-then-is_held_back-clause-bare : goal.returns-then-is_held_back-clause-bare
returns-then-is_held_back-clause-bare g c = λ none. bare_clear g.T.Protocol.said c.self.inside.owed (ap (λ d. d.owed) c.self.view_is ∙ c.requires.owed)

pub returns-then-count-eq0-clause-back : goal.returns-then-count-eq0-clause-back
returns-then-count-eq0-clause-back g c = λ lends.
    goes_clear g.T.Protocol.said (g.T.Protocol.format c.self.inside.protocol) (g.T.Protocol.besides c.self.inside.protocol) (g.T.Protocol.said (item_of c.args.packet.now c.args.words.now)) c.self.inside.owed (ap (λ d. d.owed) c.self.view_is ∙ c.requires.owed)

pub returns-then-is_held_back-clause-back : goal.returns-then-is_held_back-clause-back
returns-then-is_held_back-clause-back g c = λ lends.
    goes_clear g.T.Protocol.said (g.T.Protocol.format c.self.inside.protocol) (g.T.Protocol.besides c.self.inside.protocol) (g.T.Protocol.said (item_of c.args.packet.now c.args.words.now)) c.self.inside.owed (ap (λ d. d.owed) c.self.view_is ∙ c.requires.owed)
