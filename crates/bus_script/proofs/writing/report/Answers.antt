use Rattle.std.proofs.Common.{sym, subst}
use Rattle.script_lines.specs.Parts.{offered}
use Rattle.script_lines.specs.WellFormed.{AllRight}
use Rattle.bus_script.proofs.Told.{version_at}
use Rattle.bus_script.proofs.writing.report.Goals as goal

pub push_line-requires : goal.push_line-requires
push_line-requires c =
    let all = subst (AllRight (offered c.args.script.now)) (sym c.lines-line-items.ensures.lines) c.lines-line-items.ensures.script.right in
    version_at (offered c.args.script.now) c.lines-line-items.result.now c.loop-line.line-index c.line-item.result all c.loop-line-test.true c.line-item.is
