use Rattle.std.proofs.Common.{◌∙◌, ◌≤◌, ◌+◌, List, length, ap, sym, subst, arith}
use Rattle.bus_model.specs.Run.{IsBusRun}
use Rattle.bus_model.specs.declared.channel_run.ChannelRun.{ChannelRun}
use Rattle.device_kinds.specs.declared.history.DeviceHistory.{DeviceHistory}
use Rattle.bus_script.specs.declared.outcome.LineResult.{LineResult}
use Rattle.bus_script.specs.Report.{report_of, room_back}
use Rattle.script_lines.specs.WellFormed.{IsScript}
use Rattle.bus_report_bound.proofs.FewBack.{report_fits_lem}
use Rattle.vmbus_main.proofs.answer.run_input.Goals as goal

pub returns-in-Ok-report : goal.returns-in-Ok-report
returns-in-Ok-report g c =
    let lines = c.in_ok-script.script in
    let ran = c.in-Ok.ran in
    let lists = c.into_lists-settled in
    let reads = c.in_ok-script.ensures in
    let right : IsScript lines = subst IsScript c.script.view_is c.script.invariant in
    let run = subst (λ (z : List ChannelRun × List DeviceHistory × List LineResult). IsBusRun lines z.0 z.1 z.2)
    (λ i. ((sym lists.ensures.settled i).items, (sym lists.ensures.histories i).items, (sym lists.ensures.results i).items)) c.in-Ok.ensures.run in
    let fits = report_fits_lem c.args.input.now lines lists.result.0.items lists.result.1.items lists.result.2.items reads c.requires right run in
    let has_room = subst (λ rs. 12000000 + room_back rs ≤ 67108864) (sym c.deref.ensures.value) fits in
    let short : length c.in-Ok-report.text.items ≤ 67108864 = omega (arith, c.in-Ok-report.ensures.short, has_room) in (
      record {
        lines = lines;
        script = reads;
        controls_are = c.in-Ok.ensures.controls;
        results = lists.result.2.items;
        run = run;
        report = c.in-Ok-report.ensures.text ∙ ap (report_of lines) c.deref.ensures.value;
      },
      short,
    )
