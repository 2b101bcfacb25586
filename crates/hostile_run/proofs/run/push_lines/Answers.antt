use Rattle.std.proofs.Common.{◌≡◌, ℕ, drop, length, subst, arith}
use Rattle.hostile_run.proofs.Going.{GoesOn, gone_through}
use Rattle.hostile_run.proofs.run.push_lines.Goals as goal

pub returns-clause-says : goal.returns-clause-says
returns-clause-says c =
    let end = c.loop-i.auto.i-end in
    let over = c.loop-i-test.false in
    let all : c.loop-i.i ≡ length c.args.lines.now = omega (arith, end, over) in
    gone_through c.args.lines.now c.args.bench.now c.args.text.now.items c.loop-i.bench c.loop-i.text.items
    (subst (λ (k : ℕ). GoesOn c.args.lines.now c.args.bench.now c.args.text.now.items (drop k c.args.lines.now) c.loop-i.bench c.loop-i.text.items) all c.loop-i.invariant.says)
