use Rattle.std.proofs.Common.{◌≤◌, ap, arith, length, length-drop}
use Rattle.bus_run.proofs.Phases.{histories_end, history_more, kept_next}
use Rattle.bus_run.proofs.runner.histories_of.Goals as goal

pub into_history-requires : goal.into_history-requires
into_history-requires c = kept_next c.args.boxes.items _ _ (length c.loop-own.histories.items) c.in-Some.own c.requires c.loop-own.invariant.left c.in-Some.ensures.steps.0

pub loop-own-preserved : goal.loop-own-preserved
loop-own-preserved c =
    let more = history_more c.args.boxes.items _ _ c.loop-own.histories.items c.push.new.self.items c.in-Some.own c.into_history.result c.loop-own.invariant.so_far c.loop-own.invariant.left c.in-Some.ensures.steps.0 c.into_history.ensures.log c.into_history.ensures.legal c.in_ok-push.ensures.items in
    record { so_far = more.0; left = more.1; count = omega (arith, ap length c.in-Some.ensures.steps.0, c.in-Some.ensures.steps.1, c.loop-own.invariant.count) }

pub returns-clause-legal : goal.returns-clause-legal
returns-clause-legal c =
    let i = length c.loop-own.histories.items in
    let all : length c.args.boxes.items ≤ i = omega (arith, c.in-None.ensures.steps.0, c.loop-own.invariant.count, ap length c.loop-own.invariant.left, length-drop i c.args.boxes.items) in
    (histories_end i c.args.boxes.items c.loop-own.histories.items c.loop-own.invariant.so_far all).1
