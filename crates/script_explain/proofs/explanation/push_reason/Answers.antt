use Rattle.std.proofs.Common.{ap, ◌∙◌, ◌++◌}
use Rattle.std.specs.Prelude.{codes}
use Rattle.std.specs.Fmt.{decimal}
use Rattle.script_explain.specs.Explained.{why_text}
use Rattle.script_explain.proofs.LineLaws.{four_parts}
use Rattle.script_explain.proofs.explanation.push_reason.Goals as goal

pub returns : goal.returns
returns c = four_parts c.args.text.now.items (codes "script line ") (decimal c.args.fault.line) (codes ": ") (why_text c.args.fault.why) c.in_ok-extend_from_slice.ensures.items (c.in_ok-push_decimal.ensures.text ∙ ap (λ n. c.extend_from_slice.new.self.items ++ decimal n) c.from.ensures)
    c.in_ok-extend_from_slice-2.ensures.items (c.in_ok-extend_from_slice-3.ensures.items ∙ ap (λ t. c.extend_from_slice-2.new.self.items ++ t) c.why_text.ensures)
