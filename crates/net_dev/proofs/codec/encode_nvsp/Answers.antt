use Rattle.std.proofs.Common.{◌++◌, subst, sym, arith}
use Rattle.net_dev.specs.Nvsp.{IsNvsp}
use Rattle.net_dev.proofs.NvspLaws.{written, written_is}
use Rattle.net_dev.proofs.codec.encode_nvsp.Goals as goal

pub returns-clause-written : goal.returns-clause-written
returns-clause-written c = written_is c.args.m.now c.write.new.out c.size_of.result (omega arith) c.size_of.ensures.value c.write.ensures.bytes

pub returns-clause-message : goal.returns-clause-message
returns-clause-message c = λ more. subst (λ b. IsNvsp c.args.m.now (b ++ more)) (sym (returns-clause-written c)) (written c.args.m.now more c.write.ensures.form)
