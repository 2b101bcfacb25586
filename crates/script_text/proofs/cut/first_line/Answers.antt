use Rattle.std.proofs.Common.{◌∷◌, ◌∙◌, ap, sym}
use Rattle.std.specs.Str.Lines.{lines}
use Rattle.script_text.proofs.Cutting.{line_here}
use Rattle.script_text.proofs.cut.first_line.Goals as goal

pub returns-in-Some-clause-line : goal.returns-in-Some-clause-line
returns-in-Some-clause-line c =
    line_here c.args.bytes.now c.in-Some.line.now c.in-Some.rest.now c.in-Some.ensures.parts
    ∙ ap (λ l. l ∷ lines c.in-Some.rest.now) (sym c.without_return.ensures)
