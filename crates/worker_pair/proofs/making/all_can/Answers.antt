use Rattle.std.proofs.Common.{◌∙◌, ap, subst, sym, arith}
use Rattle.std.proofs.lemmas.List.{take_all}
use Rattle.std.specs.List.{AllByRecursion}
use Rattle.script_lines.specs.Parts.{kind_asked}
use Rattle.script_lines.specs.WellFormed.{CanGo}
use Rattle.device_kinds.specs.Kinds.{IsAskable}
use Rattle.worker_pair.proofs.Opening.{all_more, carried_at}
use Rattle.worker_pair.proofs.making.all_can.Goals as goal

pub ask_can-requires-clause-kind : goal.ask_can-requires-clause-kind
ask_can-requires-clause-kind c = ap kind_asked c.ask-item.is ∙ (carried_at c.args.kind c.args.asks.now c.loop-ask.ask-index c.ask-item.result c.requires c.loop-ask-test.true).0

pub ask_can-requires-clause-goes : goal.ask_can-requires-clause-goes
ask_can-requires-clause-goes c = subst CanGo (sym c.ask-item.is) (carried_at c.args.kind c.args.asks.now c.loop-ask.ask-index c.ask-item.result c.requires c.loop-ask-test.true).1

pub loop-ask-preserved : goal.loop-ask-preserved
loop-ask-preserved c = all_more (IsAskable c.args.kind) c.args.asks.now c.loop-ask.ask-index c.ask-item.result c.loop-ask-test.true c.ask-item.is c.loop-ask.invariant c.ask_can.ensures

pub returns : goal.returns
returns c = subst (AllByRecursion (IsAskable c.args.kind)) (take_all c.loop-ask.ask-index c.args.asks.now (omega arith)) c.loop-ask.invariant
