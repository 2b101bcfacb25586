use Rattle.std.proofs.Common.{length, ap, sym, ◌∙◌, arith}
use Rattle.std.proofs.lemmas.List.{length-take-le}
use Rattle.util_ic.specs.declared.ic.IcAsk.TheVariants.{Beat, Down}
use Rattle.util_ic.specs.Messages.{ask_bytes}
use Rattle.util_ic.proofs.ByteLaws.{front_written}
use Rattle.util_ic.proofs.AskLaws.{read_back}
use Rattle.util_ic.proofs.PacketLaws.{ask_carries}
use Rattle.util_ic.proofs.request.ask.Goals as goal

pub slice_bounds-write_beat-end-in-Beat : goal.slice_bounds-write_beat-end-in-Beat
slice_bounds-write_beat-end-in-Beat c = sym (length-take-le 68 c.args.out.now (omega (arith, c.requires)))

pub write_beat-requires : goal.write_beat-requires
write_beat-requires c = length-take-le 68 c.args.out.now (omega (arith, c.requires))

pub slice_bounds-write_down-end-in-Down : goal.slice_bounds-write_down-end-in-Down
slice_bounds-write_down-end-in-Down c = sym (length-take-le 2088 c.args.out.now (omega (arith, c.requires)))

pub write_down-requires : goal.write_down-requires
write_down-requires c = length-take-le 2088 c.args.out.now (omega (arith, c.requires))

pub returns-in-Beat-clause-count : goal.returns-in-Beat-clause-count
returns-in-Beat-clause-count c =
    let w = front_written c.args.out.now c.write_beat.new.message (ask_bytes (Beat c.in-Beat.seq)) 68 (omega (arith, c.requires)) c.write_beat.auto.message c.write_beat.ensures in
    w.0 ∙ ap (λ k. length (ask_bytes k)) (sym c.in-Beat.is)

pub returns-in-Beat-clause-message : goal.returns-in-Beat-clause-message
returns-in-Beat-clause-message c =
    let w = front_written c.args.out.now c.write_beat.new.message (ask_bytes (Beat c.in-Beat.seq)) 68 (omega (arith, c.requires)) c.write_beat.auto.message c.write_beat.ensures in
    w.1 ∙ ap ask_bytes (sym c.in-Beat.is)

pub returns-in-Beat-clause-rest : goal.returns-in-Beat-clause-rest
returns-in-Beat-clause-rest c =
    let w = front_written c.args.out.now c.write_beat.new.message (ask_bytes (Beat c.in-Beat.seq)) 68 (omega (arith, c.requires)) c.write_beat.auto.message c.write_beat.ensures in
    w.2

pub returns-in-Beat-clause-read_back : goal.returns-in-Beat-clause-read_back
returns-in-Beat-clause-read_back c more = rw c.in-Beat.is (read_back (Beat c.in-Beat.seq) more (omega arith))

pub returns-in-Down-clause-count : goal.returns-in-Down-clause-count
returns-in-Down-clause-count c =
    let asked = Down c.in-Down.reason c.in-Down.timeout c.in-Down.flags in
    let w = front_written c.args.out.now c.write_down.new.message (ask_bytes asked) 2088 (omega (arith, c.requires)) c.write_down.auto.message c.write_down.ensures in
    w.0 ∙ ap (λ k. length (ask_bytes k)) (sym c.in-Down.is)

pub returns-in-Down-clause-message : goal.returns-in-Down-clause-message
returns-in-Down-clause-message c =
    let asked = Down c.in-Down.reason c.in-Down.timeout c.in-Down.flags in
    let w = front_written c.args.out.now c.write_down.new.message (ask_bytes asked) 2088 (omega (arith, c.requires)) c.write_down.auto.message c.write_down.ensures in
    w.1 ∙ ap ask_bytes (sym c.in-Down.is)

pub returns-in-Down-clause-rest : goal.returns-in-Down-clause-rest
returns-in-Down-clause-rest c =
    let asked = Down c.in-Down.reason c.in-Down.timeout c.in-Down.flags in
    let w = front_written c.args.out.now c.write_down.new.message (ask_bytes asked) 2088 (omega (arith, c.requires)) c.write_down.auto.message c.write_down.ensures in
    w.2

pub returns-in-Down-clause-read_back : goal.returns-in-Down-clause-read_back
returns-in-Down-clause-read_back c more = rw c.in-Down.is (read_back (Down c.in-Down.reason c.in-Down.timeout c.in-Down.flags) more (omega arith, omega arith, omega arith))

pub returns-in-Beat-clause-packet : goal.returns-in-Beat-clause-packet
returns-in-Beat-clause-packet c id = rw c.in-Beat.is (ask_carries id (Beat c.in-Beat.seq) (omega arith))

pub returns-in-Down-clause-packet : goal.returns-in-Down-clause-packet
returns-in-Down-clause-packet c id = rw c.in-Down.is (ask_carries id (Down c.in-Down.reason c.in-Down.timeout c.in-Down.flags) (omega arith, omega arith, omega arith))
