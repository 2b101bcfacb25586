use Rattle.std.proofs.Common.{zero, suc, refl, arith}
use Rattle.stor_proto.specs.Fields.{with_number}
use Rattle.wire_table.specs.Little.{number_of, bytes_of}
use Rattle.disk_format.proofs.laws.asks_for_sub_channels.Goals as goal

pub returns : goal.returns
unfolding number_of with_number bytes_of
returns c zero some few = absurd (omega (arith, some))
returns c (suc zero) some few = record { last = refl; operation = refl; asked = refl; status = refl; granted = refl }
returns c (suc (suc zero)) some few = record { last = refl; operation = refl; asked = refl; status = refl; granted = refl }
returns c (suc (suc (suc zero))) some few = record { last = refl; operation = refl; asked = refl; status = refl; granted = refl }
returns c (suc (suc (suc (suc n)))) some few = absurd (omega (arith, few))
