use Rattle.std.proofs.Common.{◌∙◌, length, sym, ap, arith}
use Rattle.std.proofs.lemmas.List.{length-take-le}
use Rattle.vmbus_net_c.proofs.write_rndis.encoded.Goals as goal

pub returns-clause-count : goal.returns-clause-count
returns-clause-count c = sym (length-take-le c.encode.result c.encode.new.out (omega (arith, c.encode.ensures.most, c.encode.type_inv))) ∙ ap length c.encode.ensures.written
