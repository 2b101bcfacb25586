use Rattle.std.proofs.Common.{◌≡◌, ap, ◌∙◌, subst, true, false}
use Rattle.worker_server.specs.Serving.{Responder}
use Rattle.page_kept.specs.Items.{item_of}
use Rattle.worker_server.specs.Sheets.{AreBare, GoesBack}
use Rattle.worker_server.proofs.OwedLaws.{bare_clear, goes_clear}
use Rattle.worker_server.proofs.responder.Responder.serve.Goals as goal

pub returns-in_default-clause-bare : goal.returns-in_default-clause-bare
returns-in_default-clause-bare g c =
    let v = c.self.view_is in
    subst (λ (d : Responder _ _ _ _). g.T.Protocol.lends d.protocol ≡ false → AreBare d.sheets) v (λ none. bare_clear g.T.Protocol.said c.self.inside.owed (ap (λ d. d.owed) v ∙ c.requires.owed))

pub returns-in_default-clause-back : goal.returns-in_default-clause-back
returns-in_default-clause-back g c =
    let v = c.self.view_is in
    let p = g.T.Protocol.said (item_of c.args.packet.now c.args.words.now) in
    subst (λ (d : Responder _ _ _ _). g.T.Protocol.lends d.protocol ≡ true → GoesBack g.T.Protocol.said (g.T.Protocol.format d.protocol) (g.T.Protocol.besides d.protocol) p d.sheets) v
    (λ lends. goes_clear g.T.Protocol.said (g.T.Protocol.format c.self.inside.protocol) (g.T.Protocol.besides c.self.inside.protocol) p c.self.inside.owed (ap (λ d. d.owed) v ∙ c.requires.owed))
