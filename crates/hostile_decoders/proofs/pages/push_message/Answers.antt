use Rattle.std.proofs.Common.{◌≡◌, ℕ, ◌++◌, List, sym, subst, refl, ◌∙◌}
use Rattle.std.specs.Result.{OnOk}
use Rattle.gpadl.specs.Assembly.{Assembly}
use Rattle.hostile_decoders.specs.Lists.{gpadl_fault_said, SaysMessage}
use Rattle.hostile_decoders.proofs.Told.{on_ok_both, says_refused}
use Rattle.hostile_decoders.proofs.pages.push_message.Goals as goal

pub returns-in-Err-clause-says : goal.returns-in-Err-clause-says
returns-in-Err-clause-says c =
    let refused = c.in-Err.ensures.refused in
    on_ok_both c.push_gpadl_fault.result (λ other text. (gpadl_fault_said c.in-Err.fault, subst (λ (t : Assembly). SaysMessage c.args.m.now c.args.lists.now t (gpadl_fault_said c.in-Err.fault)) (sym refused.1) (says_refused c.args.m.now c.args.lists.now c.in-Err.fault (sym c.is_piece.ensures.value ∙ c.if-not-is_piece.false) refused.0 other), text))
    c.push_gpadl_fault.ensures.memory c.push_gpadl_fault.ensures.text
