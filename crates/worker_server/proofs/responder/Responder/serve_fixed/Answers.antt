use Rattle.std.proofs.Common.{refl, ap, sym, ◌∙◌, subst}
use Rattle.page_kept.specs.Items.{item_of}
use Rattle.channel_model.specs.Workers.{Owes}
use Rattle.worker_server.specs.Serving.{own_in}
use Rattle.worker_server.specs.Sheets.{read_all}
use Rattle.worker_server.proofs.ResponderLaws.{fixed_goes, serves_fixed, owes_fixed}
use Rattle.worker_server.proofs.responder.Responder.serve_fixed.Goals as goal

pub returns-clause-serves : goal.returns-clause-serves
returns-clause-serves g c =
    let v = c.self.view_is in
    serves_fixed (g.T.Protocol.format c.self.inside.protocol) c.self.inside.held (g.T.Protocol.said (item_of c.args.packet.now c.args.words.now)) _ c.self.inside.left c.args.count c.open_own-own.result c.args.self.now.calls _ (read_all g.T.Protocol.said c.owe_fixed.new.self) refl
    (ap (λ d. d.left) v ∙ c.requires.count) (ap (λ d. d.calls) v) (ap (λ d. (g.T.Protocol.format d.protocol).read (g.T.Protocol.said (item_of c.args.packet.now c.args.words.now))) v ∙ c.requires.reads) c.owe_fixed.ensures.value

pub returns-clause-owes : goal.returns-clause-owes
returns-clause-owes g c =
    let v = c.self.view_is in
    let s = g.T.Protocol.format c.self.inside.protocol in
    let owes =
    owes_fixed s (g.T.Protocol.keeps c.self.inside.protocol) (g.T.Protocol.said (item_of c.args.packet.now c.args.words.now)) c.open_own-own.result c.self.inside.table c.open_own-own.new.table c.has_fixed_message-besides.result c.open_own-own.ensures.fits
    (ap (λ d. (g.T.Protocol.format d.protocol).read (g.T.Protocol.said (item_of c.args.packet.now c.args.words.now))) v ∙ c.requires.reads) c.has_fixed_message-besides.ensures c.open_own-own.ensures.free c.open_own-own.ensures.set c.open_own-own.ensures.same in
    subst (λ t. Owes s (read_all g.T.Protocol.said c.owe_fixed.new.self) (own_in t) (own_in c.open_own-own.new.table)) (ap (λ d. d.table) v)
    (subst (λ l. Owes s l (own_in c.self.inside.table) (own_in c.open_own-own.new.table)) (sym c.owe_fixed.ensures.value) owes)

pub returns-clause-back : goal.returns-clause-back
returns-clause-back g c = λ lends.
    let v = c.self.view_is in
    let t = c.self.inside.protocol in
    let s = g.T.Protocol.format t in
    let p = g.T.Protocol.said (item_of c.args.packet.now c.args.words.now) in
    fixed_goes s (g.T.Protocol.keeps t) (g.T.Protocol.paged t lends) g.T.Protocol.said g.T.Protocol.said_packet (g.T.Protocol.besides t) (g.T.Protocol.may t) p c.open_own-own.result c.owe_fixed.new.self c.open_own-own.ensures.fits (ap (λ d. (g.T.Protocol.format d.protocol).read p) v ∙ c.requires.reads) c.owe_fixed.ensures.value (c.owe_fixed.ensures.back lends)
