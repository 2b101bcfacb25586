use Rattle.std.proofs.Common.{◌≡◌, map, take}
use Rattle.script_phases.specs.Shares.{share}
use Rattle.bus_plan.proofs.plan.share_of.Given as goal

abbrev pub invariant-loop-number : goal.invariant-loop-number
invariant-loop-number l = l.own.items ≡ share l.many l.channel 0 (map (λ a. a.now) (take l.number l.asks))
