use Rattle.std.proofs.Common.{◌∙◌, List, ap, sym, subst, length, arith, Some}
use Rattle.bus_model.specs.declared.channel_run.ChannelRun.{ChannelRun}
use Rattle.device_kinds.specs.declared.history.DeviceHistory.{DeviceHistory}
use Rattle.bus_script.specs.declared.outcome.LineResult.{LineResult}
use Rattle.std.proofs.lemmas.List.Sums.{count_by-le-length}
use Rattle.script_lines.specs.WellFormed.{IsScript}
use Rattle.bus_script.specs.Report.{prints}
use Rattle.bus_model.specs.Run.{IsBusRun}
use Rattle.script_generator.specs.Load.{load_lines}
use Rattle.script_generator.specs.Counts.{load_output}
use Rattle.vmbus_main.specs.Controls.{HasControls}
use Rattle.vmbus_main.proofs.answer.answer_load.Goals as goal

pub load_line-requires : goal.load_line-requires
load_line-requires g c =
    let lines = c.in_ok-script.script in
    let right : IsScript lines = subst IsScript c.script.view_is c.script.invariant in
    omega (arith, c.in_ok-ran.ensures.each, count_by-le-length prints lines, right.short, ap length c.deref.ensures.value, ap (λ v. length v.items) c.into_lists-settled.ensures.results)

pub returns-clause-answer : goal.returns-clause-answer
returns-clause-answer g c =
    let ran = c.in_ok-ran.ran in
    let lists = c.into_lists-settled in
    let same = c.in_ok-script.ensures.lines in
    let run = subst (λ ls. IsBusRun ls ran.run.settled.items ran.run.histories.items ran.run.results.items) same c.in_ok-ran.ensures.run in
    record {
      controls_are = subst (λ ls. HasControls ls (Some ran.controls)) same c.in_ok-ran.ensures.controls;
      results = lists.result.2.items;
      run = subst (λ (z : List ChannelRun × List DeviceHistory × List LineResult). IsBusRun (load_lines c.args.seed c.args.count) z.0 z.1 z.2)
          (λ i. ((sym lists.ensures.settled i).items, (sym lists.ensures.histories i).items, (sym lists.ensures.results i).items)) run;
      line = c.in_ok-text.ensures.text ∙ ap (load_output c.args.count) c.deref.ensures.value;
    }
