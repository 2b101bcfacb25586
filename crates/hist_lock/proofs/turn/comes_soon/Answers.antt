use Rattle.std.proofs.Common.{arith, ◌∙◌}
use Rattle.hist_lock.specs.Sitting.{terms_of}
use Rattle.hist_lock.proofs.Asked.{looks_at}
use Rattle.hist_lock.proofs.turn.comes_soon.Goals as goal

pub load-serving-requires : goal.load-serving-requires
load-serving-requires g c =
    let m = g.M.Machine in
    let at = c.requires.table in
    let h = c.requires.sits in
    (c.loop.invariant.same ∙ at.same, omega (arith, at.words), looks_at m.after m.reply_to (terms_of m.first c.args.shared.now.key) _ _ _ at.slots c.args.ticket (h.0, c.loop.invariant.waits ∙ h.1))
