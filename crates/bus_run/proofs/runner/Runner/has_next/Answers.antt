use Rattle.std.proofs.Common.{◌≡◌, nat_lt, length, arith, ◌∙◌}
use Rattle.std.proofs.lemmas.Bool.Decides.{nat_tests}
use Rattle.script_lines.specs.Parts.{parts}
use Rattle.bus_run.proofs.Phases.{next_is}
use Rattle.bus_run.proofs.runner.Runner.has_next.Goals as goal

pub returns : goal.returns
returns c lines so_far =
    let is : c.is_some.result ≡ nat_lt c.args.self.now.phase (length (parts lines)) = c.is_some.ensures ∙ next_is lines c.args.self.now.phase c.args.self.now.next so_far.left in
    (λ yes. grind (arith, nat_tests, is, yes), λ less. grind (arith, nat_tests, is, less))
