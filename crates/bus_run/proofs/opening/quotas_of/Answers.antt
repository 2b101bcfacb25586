use Rattle.std.proofs.Common.{◌∙◌, ◌≤◌, ap, sym, subst, arith, length}
use Rattle.std.proofs.lemmas.List.{take_all}
use Rattle.bus_plan.specs.declared.opening.ChannelOrder.{ChannelOrder}
use Rattle.bus_run.specs.Opening.{quotas_of}
use Rattle.bus_run.proofs.Opened.{quotas_taken}
use Rattle.bus_run.proofs.opening.quotas_of.Goals as goal

pub add_quota-requires : goal.add_quota-requires
add_quota-requires c =
    subst (λ (x : ChannelOrder). length x.asks.items ≤ 4096) (sym c.channel-item.is) (c.requires c.loop-channel.channel-index c.channel-item.result c.loop-channel-test.true)

pub loop-channel-preserved : goal.loop-channel-preserved
loop-channel-preserved c =
    quotas_taken c.args.device c.loop-channel.channel-index c.args.plan.now c.channel-item.result c.loop-channel.quotas.items c.add_quota.new.quotas.items c.loop-channel-test.true c.channel-item.is c.loop-channel.invariant c.in_ok-add_quota.ensures

pub returns : goal.returns
returns c = c.loop-channel.invariant ∙ ap (quotas_of c.args.device) (take_all c.loop-channel.channel-index c.args.plan.now (omega (arith, c.loop-channel-test.false)))
