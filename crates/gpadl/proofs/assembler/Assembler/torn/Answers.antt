use Rattle.std.proofs.Common.{rules, ◌∙◌, ◌==◌, ap, filter, not}
use Rattle.std.proofs.lemmas.Fn.{filter_same}
use Rattle.gpadl.specs.Assembly.{Assembly}
use Rattle.gpadl.proofs.assembler.Assembler.torn.Goals as goal

pub returns-clause-left : goal.returns-clause-left
returns-clause-left c =
    filter_same _ (λ h. not (h == c.args.handle)) _ (λ x b f' k. search rules) _ _ c.retain.ensures.filtered
    ∙ ap (λ (s : Assembly). filter (λ h. not (h == c.args.handle)) s.live) c.self.view_is
