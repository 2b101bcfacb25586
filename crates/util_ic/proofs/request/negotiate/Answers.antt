use Rattle.std.proofs.Common.{sym, arith}
use Rattle.std.proofs.lemmas.List.{length-take-le}
use Rattle.util_ic.specs.Messages.{negotiate_bytes}
use Rattle.util_ic.proofs.ByteLaws.{front_written}
use Rattle.util_ic.proofs.PacketLaws.{negotiate_carries}
use Rattle.util_ic.proofs.request.negotiate.Goals as goal

pub slice_bounds-write_negotiate-end-2 : goal.slice_bounds-write_negotiate-end-2
slice_bounds-write_negotiate-end-2 c = sym (length-take-le 52 c.args.out.now (omega (arith, c.requires.room)))

pub write_negotiate-requires : goal.write_negotiate-requires
write_negotiate-requires c = length-take-le 52 c.args.out.now (omega (arith, c.requires.room))

pub returns-clause-count : goal.returns-clause-count
returns-clause-count c =
    let w = front_written c.args.out.now c.write_negotiate.new.message negotiate_bytes 52 (omega (arith, c.requires.room)) c.write_negotiate.auto.message c.write_negotiate.ensures in
    w.0

pub returns-clause-message : goal.returns-clause-message
returns-clause-message c =
    let w = front_written c.args.out.now c.write_negotiate.new.message negotiate_bytes 52 (omega (arith, c.requires.room)) c.write_negotiate.auto.message c.write_negotiate.ensures in
    w.1

pub returns-clause-rest : goal.returns-clause-rest
returns-clause-rest c =
    let w = front_written c.args.out.now c.write_negotiate.new.message negotiate_bytes 52 (omega (arith, c.requires.room)) c.write_negotiate.auto.message c.write_negotiate.ensures in
    w.2

pub returns-clause-packet : goal.returns-clause-packet
returns-clause-packet c id = negotiate_carries id
