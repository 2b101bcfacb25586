use Rattle.std.proofs.Common.{rules, ap, ◌∙◌, sym, Bool}
use Rattle.std.specs.Prelude.{if◌then◌else◌, Some}
use Rattle.std.specs.Str.Lines.{lines}
use Rattle.script_explain.proofs.EarlierLaws.{goes_by}
use Rattle.script_explain.proofs.place.earlier.Goals as goal
use Rattle.script_explain.proofs.place.earlier.Goals.{then-says_again, else-says_again}

pub loop-n-preserved : goal.loop-n-preserved
loop-n-preserved c = elim c.if-says_again.branch [
  | then-says_again w ↦ goes_by c.args.line.now c.in-Some.text.now c.args.number c.loop-n.n (lines c.loop-n.rest.now) (lines c.in-Some.after.now) c.loop-n.found c.if-says_again.found _ c.says_again.result c.in-Some.ensures.line (search rules) c.says_again.ensures (w.found-is ∙ ap (λ (b : Bool). if b then Some c.loop-n.n else c.loop-n.found) (sym w.if-says_again.true)) c.loop-n.invariant
  | else-says_again w ↦ goes_by c.args.line.now c.in-Some.text.now c.args.number c.loop-n.n (lines c.loop-n.rest.now) (lines c.in-Some.after.now) c.loop-n.found c.if-says_again.found _ c.says_again.result c.in-Some.ensures.line (search rules) c.says_again.ensures (w.found-is ∙ ap (λ (b : Bool). if b then Some c.loop-n.n else c.loop-n.found) (sym w.if-says_again.false)) c.loop-n.invariant
]
