use Rattle.std.proofs.Common.{◌∷◌, ◌∙◌, ap}
use Rattle.script_text.proofs.Cutting.{no_pair, some_part}
use Rattle.script_text.proofs.version.dotted.Goals as goal

pub returns-in-Some : goal.returns-in-Some
returns-in-Some c = no_pair _ _ _ _ (some_part c.in-Some.field-0.1.now 46) (c.in_ok-major.ensures.parts ∙ ap (λ l. c.in_ok-major.major.now ∷ l) c.in-Some.ensures.parts)
