use Rattle.std.proofs.Common.{sym, subst}
use Rattle.script_lines.specs.declared.line.What.TheVariants.{Modify}
use Rattle.script_lines.specs.WellFormed.{Fits}
use Rattle.script_lines.proofs.Drafts.{keeps_modify}
use Rattle.script_lines.proofs.draft.Draft.push_modify.Goals as goal

pub invariant_of-self-2 : goal.invariant_of-self-2
invariant_of-self-2 c =
    let s = c.self.inside in
    let fits = subst (λ ls. Fits ls (Modify c.args.device c.args.vp)) (sym c.self.view_is) c.requires in
    rw (c.in_ok-push.ensures.items) (keeps_modify s.lines.items s.names.keys s.seen.items s.channels s.asks s.phase s.settings s.bad.keys c.self.invariant c.args.number c.args.device c.args.vp c.index_mut.result.now fits c.index_mut.ensures.value)
