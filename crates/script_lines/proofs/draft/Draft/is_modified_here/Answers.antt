use Rattle.std.proofs.Common.{◌<◌, length, sym, ap, ◌∙◌, subst}
use Rattle.script_lines.specs.Parts.{offered, modified_here}
use Rattle.script_lines.specs.Faults.{is_now}
use Rattle.script_lines.proofs.Drafts.{seen_at}
use Rattle.script_lines.proofs.draft.Draft.is_modified_here.Goals as goal

pub returns : goal.returns
returns c =
    let s = c.self.inside in
    let d = c.args.device in
    let less = subst (λ ls. d < length (offered ls)) (sym c.self.view_is) c.requires in
    let seen = seen_at s.lines.items s.names.keys s.seen.items s.channels s.asks s.phase s.settings s.bad.keys c.self.invariant d c.index.result.now less c.index.ensures in
    c.is_now.ensures ∙ ap (λ n. is_now n c.index.result.now.modified) c.self.invariant.over ∙ seen.modified
    ∙ ap (modified_here d) c.self.view_is
