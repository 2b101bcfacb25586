use Rattle.std.proofs.Common.{◌∙◌, ◌*◌, arith}
use Rattle.std.proofs.lemmas.List.{take-replicate}
use Rattle.script_lines.proofs.request.filled.Goals as goal

pub returns : goal.returns
returns c = c.of.ensures.value ∙ take-replicate (512 * c.args.count) 4096 c.args.byte (omega (arith, c.requires))
