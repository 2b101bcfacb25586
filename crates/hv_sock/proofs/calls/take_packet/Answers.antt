use Rattle.std.proofs.Common.{Option, ap, subst}
use Rattle.ring_core.specs.Taking.{Takes}
use Rattle.ring_machine.specs.declared.last.TakeRefusal.{TakeRefusal}
use Rattle.ring_machine.specs.Endings.{refused}
use Rattle.hv_sock.proofs.CallLaws.{refused_away, took_rests}
use Rattle.hv_sock.proofs.calls.take_packet.Goals as goal

pub give_back-requires-clause-idle : goal.give_back-requires-clause-idle
give_back-requires-clause-idle g c =
    let told = g.S.Seatlike.told in
    let tale = g.S.Seatlike.tale in
    let same = g.S.Seatlike.same in
    let old = c.args.end.now in
    let new = c.take_in.new.self in
    took_rests told tale same old new c.requires.rests (subst (λ (o : Option TakeRefusal). Takes _ told tale same old new o) (ap refused c.in-Ok.is) c.take_in.ensures.takes)

pub returns-in-Err-clause-takes : goal.returns-in-Err-clause-takes
returns-in-Err-clause-takes g c =
    let told = g.S.Seatlike.told in
    let tale = g.S.Seatlike.tale in
    let same = g.S.Seatlike.same in
    let old = c.args.end.now in
    let new = c.take_in.new.self in
    refused_away told tale same old new c.in-Err.refusal c.requires.rests (subst (λ (o : Option TakeRefusal). Takes _ told tale same old new o) (ap refused c.in-Err.is) c.take_in.ensures.takes)

pub returns-in-Ok-clause-takes : goal.returns-in-Ok-clause-takes
returns-in-Ok-clause-takes g c =
    let told = g.S.Seatlike.told in
    let tale = g.S.Seatlike.tale in
    let same = g.S.Seatlike.same in
    let old = c.args.end.now in
    let new = c.take_in.new.self in
    record {
      between = new;
      takes = subst (λ (o : Option TakeRefusal). Takes _ told tale same old new o) (ap refused c.in-Ok.is) c.take_in.ensures.takes;
      refused = λ r is. absurd (cc);
      commits = λ _. c.give_back.ensures.commits;
    }
