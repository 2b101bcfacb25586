use Rattle.std.proofs.Common.{◌∙◌, ap, subst, sym}
use Rattle.device_kinds.specs.Formats.{ChannelScript}
use Rattle.worker_pair.specs.Plans.{IsMade, planned, silent}
use Rattle.worker_pair.specs.declared.worker.Worker.TheVariants.{Serves}
use Rattle.worker_pair.proofs.Opening.{made_for}
use Rattle.worker_pair.proofs.making.make_worker.Goals as goal

pub returns-in_ok-server-in-Some-clause-made : goal.returns-in_ok-server-in-Some-clause-made
returns-in_ok-server-in-Some-clause-made c =
    let protocol = c.make-protocol-in-Some.ensures in
    let e = c.in_ok-server-in-Some.ensures in
    subst (λ s. IsMade (planned c.args.plan c.args.asks.items) s (Serves c.in_ok-server-in-Some.server)) (sym c.in-Some.is)
    (made_for c.args.plan c.args.asks.items c.in-Some.seat c.make-protocol-in-Some.result c.in_ok-server-in-Some.server _ _ _ _ _ (ap (λ (t : ChannelScript). t.kind) protocol ∙ c.of-wire.ensures) (ap (λ (t : ChannelScript). t.sub) protocol ∙ c.from-sub.ensures)
    (ap (λ (t : ChannelScript). t.subs) protocol) c.starts-all.ensures (c.count_silent-silent.ensures.value ∙ ap (silent c.args.plan.kind) c.from-sub.ensures) c.serve_count.ensures.value c.is_held.ensures c.is_some.ensures e.protocol e.relid e.orders)
