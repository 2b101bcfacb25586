use Rattle.std.proofs.Common.{ap, sym, ◌∙◌, ◌++◌}
use Rattle.std.specs.Prelude.{codes}
use Rattle.std.specs.Fmt.{decimal}
use Rattle.script_explain.specs.Help.{said_text}
use Rattle.script_explain.proofs.LineLaws.{three_parts}
use Rattle.script_explain.proofs.explanation.push_said.Goals as goal

pub returns-in_ok-extend_from_slice-2 : goal.returns-in_ok-extend_from_slice-2
returns-in_ok-extend_from_slice-2 c =
    three_parts c.args.text.now.items (codes "    said in line ") (decimal c.in-Some.number) (codes " already\n") c.in_ok-extend_from_slice.ensures.items
    (c.in_ok-push_decimal.ensures.text ∙ ap (λ n. c.extend_from_slice.new.self.items ++ decimal n) c.from.ensures) c.in_ok-extend_from_slice-2.ensures.items
    ∙ ap (λ f. c.args.text.now.items ++ said_text f) (sym c.in-Some.is)
