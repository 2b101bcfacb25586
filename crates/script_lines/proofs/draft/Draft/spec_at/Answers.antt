use Rattle.std.proofs.Common.{◌<◌, length, sym, ap, ◌∙◌, subst}
use Rattle.std.specs.Prelude.{slice_get}
use Rattle.script_lines.specs.Parts.{offered}
use Rattle.script_lines.proofs.Drafts.{seen_at}
use Rattle.script_lines.proofs.draft.Draft.spec_at.Goals as goal

pub returns : goal.returns
returns c =
    let s = c.self.inside in
    let d = c.args.device in
    let less = subst (λ ls. d < length (offered ls)) (sym c.self.view_is) c.requires in
    let seen = seen_at s.lines.items s.names.keys s.seen.items s.channels s.asks s.phase s.settings s.bad.keys c.self.invariant d c.index.result.now less c.index.ensures in
    ap (λ ls. slice_get (offered ls) d) (sym c.self.view_is) ∙ seen.spec
