use Rattle.std.proofs.Common.{◌≡◌, ◌-◌, ◌<◌, ◌++◌, ◌∷◌, [], List, ℕ, length, take, length-append, ap, sym, ◌∙◌, subst, arith}
use Rattle.std.proofs.lemmas.List.{take_at}
use Rattle.ring_core.proofs.CutLaws.{last_split}
use Rattle.ring_machine.specs.Endings.{refused}
use Rattle.ring_machine.specs.States.{IsPacket}
use Rattle.hv_sock.proofs.PacketLaws.{last_is}
use Rattle.hv_sock.proofs.calls.read_next.Goals as goal

pub returns-in-Ok-clause-reads : goal.returns-in-Ok-clause-reads
returns-in-Ok-clause-reads g c =
    let told = g.S.Seatlike.told in
    let tale = g.S.Seatlike.tale in
    let same = g.S.Seatlike.same in
    let old = c.args.end.now in
    let new = c.take_packet.new.end in
    let last = c.last_got.result.now in
    let none = ap refused c.in-Ok.is in
    let t = c.take_packet.ensures.took none in
    let more : 0 < length new.state.got = omega (arith, ap length t.2, length-append old.state.got (t.0 ∷ [])) in
    let split = last_split _ new.state.got last (omega (arith, more)) c.last_got.ensures in
    let front : take (length new.state.got - 1) new.state.got ≡ old.state.got = ap (take (length new.state.got - 1)) t.2 ∙ take_at old.state.got (t.0 ∷ []) (length new.state.got - 1) (omega (arith, ap length t.2, length-append old.state.got (t.0 ∷ []))) in
    let got : new.state.got ≡ old.state.got ++ last ∷ [] = split ∙ ap (λ (l : List (List ℕ)). l ++ last ∷ []) front in
    record {
      refusal = refused c.take_packet.result;
      takes = c.take_packet.ensures.takes;
      refused = λ r is. let no = sym none ∙ is in absurd (cc);
      read = λ _. record {
        packet = last;
        is_packet = subst IsPacket (last_is old.state.got t.0 last (sym t.2 ∙ got)) t.1;
        got = got;
        answer = c.read_packet.ensures.answer;
        out_is = c.read_packet.ensures.out;
      };
    }
