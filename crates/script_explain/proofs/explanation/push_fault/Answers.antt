use Rattle.std.proofs.Common.{arith, ap, ◌∙◌, ◌++◌}
use Rattle.script_explain.proofs.LineLaws.{is_line, tells_lem}
use Rattle.script_explain.specs.Explained.{head_text}
use Rattle.script_explain.proofs.explanation.push_fault.Goals as goal

pub line_at-requires : goal.line_at-requires
line_at-requires c = (is_line c.args.bytes.now c.args.fault c.requires.fault).0

pub unreachable-requires : goal.unreachable-requires
unreachable-requires c = omega (arith, (is_line c.args.bytes.now c.args.fault c.requires.fault).1, c.in_default.ensures)

pub push_help-requires : goal.push_help-requires
push_help-requires c = (is_line c.args.bytes.now c.args.fault c.requires.fault).0

pub returns : goal.returns
returns c = tells_lem c.in-Some.ensures (c.in_ok-push_head.ensures ∙ ap (λ t. t ++ head_text c.args.fault c.in-Some.line.now) c.requires.empty) c.mark_at.ensures c.in_ok-push_mark.ensures c.in_ok-push_help.ensures
