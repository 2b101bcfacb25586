use Rattle.std.proofs.Common.{◌≡◌, length, take, ◌++◌, drop, subst, sym, arith}
use Rattle.std.proofs.lemmas.List.{length-take-le}
use Rattle.rndis_msg.specs.Grammar.{IsRndis}
use Rattle.rndis_msg.proofs.WriteLaws.{written, padded, written_front}
use Rattle.rndis_msg.proofs.write.encode.Goals as goal

pub returns-clause-written : goal.returns-clause-written
returns-clause-written c =
    let n = c.length-len.result in
    let len : length c.write.new.out ≡ n = omega (arith, length-take-le n c.args.out.now (omega (arith, c.requires, c.length-len.ensures.most))) in
    written_front c.args.m.now c.write.new.out (drop n c.args.out.now) n len c.length-len.ensures.value c.write.ensures.bytes

pub returns-clause-message : goal.returns-clause-message
returns-clause-message c =
    let m = c.args.m.now in
    subst (IsRndis m) (sym (returns-clause-written c)) (written m c.write.ensures.form)

pub returns-clause-padded : goal.returns-clause-padded
returns-clause-padded c =
    let n = c.length-len.result in
    λ more. padded c.args.m.now (take n (c.write.new.out ++ drop n c.args.out.now)) more (returns-clause-message c)
