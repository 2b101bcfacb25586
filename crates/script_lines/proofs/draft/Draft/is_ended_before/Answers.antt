use Rattle.std.proofs.Common.{◌<◌, ◌||◌, length, sym, ap, ◌∙◌, subst}
use Rattle.script_lines.specs.Parts.{offered, phases_over, closed_in}
use Rattle.script_lines.specs.Faults.{is_over, is_ended_before}
use Rattle.script_lines.proofs.Drafts.{seen_at}
use Rattle.script_lines.proofs.draft.Draft.is_ended_before.Goals as goal

pub returns-then-is_over : goal.returns-then-is_over
returns-then-is_over c =
    let s = c.self.inside in
    let d = c.args.device in
    let kept = c.index-seen.result.now in
    let now = phases_over s.lines.items in
    let less = subst (λ ls. d < length (offered ls)) (sym c.self.view_is) c.requires in
    let seen = seen_at s.lines.items s.names.keys s.seen.items s.channels s.asks s.phase s.settings s.bad.keys c.self.invariant d kept less c.index-seen.ensures in
    let same = c.is_over.ensures ∙ ap (λ n. is_over n kept.rescinded) c.self.invariant.over ∙ ap (is_over now) seen.rescinded in
    let yes = sym same ∙ c.if-is_over.true in
    c.if-is_over.true ∙ sym (ap (λ b. b || is_over now (closed_in d s.lines.items)) yes) ∙ ap (λ ls. is_ended_before ls d) c.self.view_is

pub returns-else-is_over : goal.returns-else-is_over
returns-else-is_over c =
    let s = c.self.inside in
    let d = c.args.device in
    let kept = c.index-seen.result.now in
    let now = phases_over s.lines.items in
    let less = subst (λ ls. d < length (offered ls)) (sym c.self.view_is) c.requires in
    let seen = seen_at s.lines.items s.names.keys s.seen.items s.channels s.asks s.phase s.settings s.bad.keys c.self.invariant d kept less c.index-seen.ensures in
    let not = sym (ap (is_over now) seen.rescinded) ∙ sym (ap (λ n. is_over n kept.rescinded) c.self.invariant.over) ∙ sym c.is_over.ensures ∙ c.if-is_over.false in
    c.is_over-else-is_over.ensures ∙ ap (λ n. is_over n kept.closed) c.self.invariant.over ∙ ap (is_over now) seen.closed
    ∙ sym (ap (λ b. b || is_over now (closed_in d s.lines.items)) not) ∙ ap (λ ls. is_ended_before ls d) c.self.view_is
