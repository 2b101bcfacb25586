use Rattle.std.proofs.Common.{count_by}
use Rattle.std.specs.Prelude.{codes}
use Rattle.std.specs.Fmt.{decimal}
use Rattle.bus_script.specs.Report.{is_done, is_rescinded}
use Rattle.bus_script.proofs.Short.{pushed_seven}
use Rattle.bus_script.proofs.writing.push_end.Goals as goal

pub returns-clause-text : goal.returns-clause-text
returns-clause-text c =
    let results = c.args.results.now in
    let whole = pushed_seven c.args.text.now.items (codes "end requests ") (decimal c.args.asks) (codes " done ") (decimal (count_by is_done results))
    (codes " rescinded ") (decimal (count_by is_rescinded results)) (codes "\n") in
    cc (
      whole,
      c.count_done-done.ensures,
      c.count_rescinded-rescinded.ensures,
      c.in_ok-extend_from_slice.ensures.items,
      c.in_ok-push_decimal.ensures.text,
      c.in_ok-extend_from_slice-2.ensures.items,
      c.in_ok-push_decimal-2.ensures.text,
      c.in_ok-extend_from_slice-3.ensures.items,
      c.in_ok-push_decimal-3.ensures.text,
      c.in_ok-extend_from_slice-4.ensures.items,
    )
