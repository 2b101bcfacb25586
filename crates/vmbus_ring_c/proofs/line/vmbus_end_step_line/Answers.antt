use Rattle.std.specs.Prelude.{drop}
use Rattle.std.proofs.Common.{◌≡◌, ◌∙◌, ap, sym, refl, ℕ, List, ◌++◌, length, Option, Some, None}
use Rattle.ring_machine.specs.declared.machine.EndMachine.{EndMachine}
use Rattle.ring_machine.specs.declared.page_core.PageCore.{PageCore}
use Rattle.ring_machine.specs.declared.place.Op.{Op}
use Rattle.ring_machine.specs.PageCalls.{or_else, next_in}
use Rattle.ring_machine.specs.Steps.{next_of}
use Rattle.trace_text.specs.Steps.{step_text}
use Rattle.vmbus_ring_c.proofs.line.vmbus_end_step_line.Goals as goal

or_none : (o : Option Op) → or_else o None ≡ o
or_none None = refl
or_none (Some op) = refl

pub returns-clause-writes : goal.returns-clause-writes
returns-clause-writes c some =
    let is = c.in-Some.ensures.some in
    let text = c.bytes-bytes.ensures.value ∙ c.step_line-text.ensures.text ∙ ap (λ (m : EndMachine). step_text m.side c.in-Some-next.op c.args.value) is.1 in
    record {
      op = c.in-Some-next.op;
      is_end = is.0;
      next = ap (λ (m : EndMachine). next_of m c.args.packet.now) (sym is.1) ∙ sym (or_none (next_of c.in-Some.core.machine c.args.packet.now))
          ∙ sym (ap (λ (k : PageCore). next_in c.in-Some.core.machine k.call c.args.packet.now) is.2) ∙ sym c.in-Some-next.ensures.whole;
      line = ap (λ (l : List ℕ). l ++ drop (length c.bytes-bytes.result.now) c.args.line.now) (c.copy_from_slice.ensures.after ∙ text);
      is_len = ap length text;
    }
