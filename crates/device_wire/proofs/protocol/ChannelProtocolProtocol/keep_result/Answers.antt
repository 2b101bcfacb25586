use Rattle.std.proofs.Common.{◌++◌, refl, sym, ap, ◌∙◌, arith}
use Rattle.std.proofs.lemmas.List.{append-nil}
use Rattle.channel_model.specs.WireFormat.{listed}
use Rattle.device_wire.proofs.ProtocolLaws.{first_says, then_says}
use Rattle.device_wire.proofs.protocol.ChannelProtocolProtocol.keep_result.Goals as goal

-- a step of the start-up is told nothing
pub returns-then-k-count_starts-clause-told : goal.returns-then-k-count_starts-clause-told
returns-then-k-count_starts-clause-told g c a h =
    let t = c.args.self.now in
    let none = first_says g.W.Wire.model g.W.Wire.can g.W.Wire.kept t t refl c.args.k c.count_starts.result a c.count_starts.ensures.value (omega (arith, c.if-k-count_starts.true)) h _ _ in
    sym (ap (λ o. c.args.replies.now.items ++ listed o) none ∙ append-nil c.args.replies.now.items)

-- a request what the answer says, where it says something
pub returns-in-Some-clause-told : goal.returns-in-Some-clause-told
returns-in-Some-clause-told g c a h =
    let says = then_says g.W.Wire.model g.W.Wire.can g.W.Wire.kept _ c.args.self.now c.self.view_is c.args.k c.count_starts.result a c.self.invariant.0.can c.count_starts.ensures.value (omega (arith, c.if-k-count_starts.false)) h _ _ in
    c.push_reserved.ensures.items ∙ ap (λ o. c.args.replies.now.items ++ listed o) (sym c.reply.ensures ∙ says)

pub returns-in_default-clause-told : goal.returns-in_default-clause-told
returns-in_default-clause-told g c a h =
    let says = then_says g.W.Wire.model g.W.Wire.can g.W.Wire.kept _ c.args.self.now c.self.view_is c.args.k c.count_starts.result a c.self.invariant.0.can c.count_starts.ensures.value (omega (arith, c.if-k-count_starts.false)) h _ _ in
    sym (ap (λ o. c.args.replies.now.items ++ listed o) (sym says ∙ c.in_default.ensures) ∙ append-nil c.args.replies.now.items)
