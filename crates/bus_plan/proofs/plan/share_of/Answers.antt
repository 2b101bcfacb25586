use Rattle.std.proofs.Common.{◌∙◌, ◌++◌, ◌∷◌, [], map, ap, sym, arith}
use Rattle.std.proofs.lemmas.List.{take_all}
use Rattle.script_phases.specs.Shares.{share}
use Rattle.bus_plan.proofs.Sharing.{share_more}
use Rattle.bus_plan.proofs.plan.share_of.Goals as goal

pub loop-number-preserved : goal.loop-number-preserved
loop-number-preserved c =
    let i = c.loop-number.number in
    c.in_ok-push_own.ensures ∙ ap (λ l. l ++ share c.args.many c.args.channel i (c.index-asks-number.result.now ∷ [])) c.loop-number.invariant
    ∙ sym (share_more c.args.asks.now (λ a. a.now) c.args.many c.args.channel i c.index-asks-number.result c.loop-number-test.true c.index-asks-number.is)

pub returns : goal.returns
returns c = c.loop-number.invariant ∙ ap (λ l. share c.args.many c.args.channel 0 (map (λ a. a.now) l)) (take_all c.loop-number.number c.args.asks.now (omega (arith, c.loop-number-test.false)))
