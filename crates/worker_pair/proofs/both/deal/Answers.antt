use Rattle.std.proofs.Common.{◌∙◌, Some, ap, sym}
use Rattle.io_edge.specs.declared.side.Side.TheVariants.{Guest, Host}
use Rattle.worker_pair.specs.Pairs.{dealt}
use Rattle.worker_pair.proofs.both.deal.Goals as goal

pub returns-in-Guest-clause-guest : goal.returns-in-Guest-clause-guest
returns-in-Guest-clause-guest c = ap (λ s. dealt s Guest c.args.seat c.args.asks.items) (sym c.in-Guest.is)

pub returns-in-Guest-clause-host : goal.returns-in-Guest-clause-host
returns-in-Guest-clause-host c = (λ i. (Some c.args.seat, c.new.ensures.items i)) ∙ ap (λ s. dealt s Host c.args.seat c.args.asks.items) (sym c.in-Guest.is)

pub returns-in-Host-clause-guest : goal.returns-in-Host-clause-guest
returns-in-Host-clause-guest c = (λ i. (Some c.args.seat, c.new-in-Host.ensures.items i)) ∙ ap (λ s. dealt s Guest c.args.seat c.args.asks.items) (sym c.in-Host.is)

pub returns-in-Host-clause-host : goal.returns-in-Host-clause-host
returns-in-Host-clause-host c = ap (λ s. dealt s Host c.args.seat c.args.asks.items) (sym c.in-Host.is)
