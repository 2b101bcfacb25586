use Rattle.std.proofs.Common.{rules, ◌≡◌, ◌∙◌, Some, length, sym, ap, arith}
use Rattle.vmbus_net_c.specs.Network.{rndis_fields}
use Rattle.vmbus_net_c.specs.RndisWriting.{rndis_of}
use Rattle.vmbus_net_c.proofs.RndisLaws.{own_body}
use Rattle.vmbus_net_c.proofs.write_rndis.message_of.Goals as goal

pub returns-then-are_same-clause-whose : goal.returns-then-are_same-clause-whose
returns-then-are_same-clause-whose c =
    let fields : rndis_fields c.in_ok-m.m ≡ c.args.v.now = sym c.rndis_fields.ensures ∙ c.are_same.ensures.same c.if-are_same.true in
    let is : rndis_of c.args.v.now c.args.body.now ≡ Some c.in_ok-m.m = search rules in
    let few : length c.args.body.now ≡ c.args.v.now.body_len = omega (arith, c.if-body-v.false) in
    (fields, own_body c.in_ok-m.m c.args.body.now (ap (λ w. rndis_of w c.args.body.now) fields ∙ is) (few ∙ sym (ap (λ w. w.body_len) fields)))
