use Rattle.std.proofs.Common.{ℕ, ap, ◌∙◌}
use Rattle.ring_machine.specs.Places.{len8_of}
use Rattle.ring_call_plan.specs.Numbers.{send_says, send_end, send_planned}
use Rattle.ring_call_plan.proofs.Sends.{begun_as, inside_as}
use Rattle.ring_call_plan.proofs.send.send_plan.Goals as goal

pub returns-clause-inside : goal.returns-clause-inside
returns-clause-inside c =
    let e = c.args.end.now in
    let k = c.packet_len.ensures.value in
    inside_as e (len8_of c.args.head) c.args.read c.args.plan.now c.plan_send.result c.plan_send.new.plan
    (c.plan_send.ensures.says ∙ ap (λ (x : ℕ). send_says e x c.args.read) k)
    (c.plan_send.ensures.plan ∙ ap (λ (x : ℕ). send_planned e x c.args.read c.args.plan.now) k)

pub returns-clause-machine : goal.returns-clause-machine
returns-clause-machine c =
    let e = c.args.end.now in
    let k = c.packet_len.ensures.value in
    begun_as e (len8_of c.args.head) c.args.read c.args.plan.now c.plan_send.result c.plan_send.new.end c.plan_send.new.plan
    (c.plan_send.ensures.says ∙ ap (λ (x : ℕ). send_says e x c.args.read) k)
    (c.plan_send.ensures.end ∙ ap (λ (x : ℕ). send_end e x c.args.read) k)
    (c.plan_send.ensures.plan ∙ ap (λ (x : ℕ). send_planned e x c.args.read c.args.plan.now) k)
