use Rattle.std.proofs.Common.{◌∙◌, ℕ, List, ap, arith}
use Rattle.std.proofs.lemmas.List.{take_all}
use Rattle.stor_proto.specs.declared.vstor.Vstor.{Vstor}
use Rattle.vmbus_stor_c.proofs.storage.packet_of.Goals as goal

pub returns : goal.returns
returns c =
    let of_rest : List ℕ → Vstor = λ r. record { operation = c.args.v.now.operation; flags = c.args.v.now.flags; status = c.args.v.now.status; rest = r } in
    ap of_rest (c.array_at.ensures ∙ take_all 52 c.args.bytes.now (omega (arith, c.requires)))
