use Rattle.std.proofs.Common.{sym, subst}
use Rattle.script_lines.specs.declared.line.What.TheVariants.{Rescind}
use Rattle.script_lines.specs.WellFormed.{Fits}
use Rattle.script_lines.proofs.Drafts.{keeps_rescind}
use Rattle.script_lines.proofs.draft.Draft.push_rescind.Goals as goal

pub invariant_of-self-2 : goal.invariant_of-self-2
invariant_of-self-2 c =
    let s = c.self.inside in
    let fits = subst (λ ls. Fits ls (Rescind c.args.device c.args.after c.args.held)) (sym c.self.view_is) c.requires in
    rw (c.in_ok-push.ensures.items) (keeps_rescind s.lines.items s.names.keys s.seen.items s.channels s.asks s.phase s.settings s.bad.keys c.self.invariant c.args.number c.args.device c.args.after c.args.held c.index_mut.result.now fits c.index_mut.ensures.value)
