use Rattle.std.proofs.Common.{ap, ◌∙◌}
use Rattle.ring_machine.specs.declared.machine.EndMachine.{EndMachine}
use Rattle.ring_machine.specs.declared.state.EndState.{EndState}
use Rattle.ring_machine.proofs.Lengths.{send_len}
use Rattle.ring_core.proofs.Calls.{send_lacks}
use Rattle.ring_core.proofs.lean_end.LeanEnd.send.Goals as goal

pub returns-clause-room : goal.returns-clause-room
returns-clause-room g c =
    send_lacks _ _ _ _ _ _ _ _ _ _ _ _ c.make_call.ensures.left.ran (ap (λ (m : EndMachine). m.stage) c.begin_send.ensures.machine) (ap (λ (m : EndMachine). m.len) c.begin_send.ensures.machine) c.make_call.ensures.idle c.send_answered.ensures

pub returns-clause-len : goal.returns-clause-len
returns-clause-len g c = λ _.
    ap (λ (e : EndState). e.machine.len) c.make_call.ensures.left.ran.state
    ∙ (send_len _ c.make_call.ensures.left.ran.values (ap (λ (m : EndMachine). m.stage) c.begin_send.ensures.machine) ∙ ap (λ (m : EndMachine). m.len) c.begin_send.ensures.machine)
