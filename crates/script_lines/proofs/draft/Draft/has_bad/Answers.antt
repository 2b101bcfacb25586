use Rattle.std.proofs.Common.{◌∙◌, ap}
use Rattle.std.specs.List.{list_any}
use Rattle.script_lines.specs.Parts.{has_bad}
use Rattle.script_lines.proofs.Drafts.{any_places, is_place}
use Rattle.script_lines.proofs.draft.Draft.has_bad.Goals as goal

pub returns : goal.returns
returns c =
    let s = c.self.inside in
    let d = c.args.device in
    let l = c.args.lba in
    c.contains.ensures ∙ ap (list_any (is_place d l)) c.self.invariant.bad_places ∙ any_places d l s.lines.items ∙ ap (has_bad d l) c.self.view_is
