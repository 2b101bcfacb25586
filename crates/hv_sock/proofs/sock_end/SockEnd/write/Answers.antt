use Rattle.std.proofs.Common.{◌≡◌, ◌++◌, ◌∷◌, [], List, ℕ, None, OnOk, OnErr, length, ap, sym, ◌∙◌, subst, arith}
use Rattle.ring_core.specs.Seen.{Seen}
use Rattle.ring_machine.specs.States.{IsPacket}
use Rattle.hv_sock.specs.Packets.{Said, sock_packet}
use Rattle.hv_sock.specs.Streams.{IsOpen, fault_by, is_closed, stream_of}
use Rattle.hv_sock.specs.Ends.{Sends}
use Rattle.hv_sock.proofs.CallLaws.{sent_err, sent_ok, sent_open, sent_stands, sent_stream, sent_whole}
use Rattle.hv_sock.proofs.PacketLaws.{says_data, sock_is_packet, sock_length}
use Rattle.hv_sock.proofs.sock_end.SockEnd.write.Goals as goal

pub send_packet-requires-clause-packet : goal.send_packet-requires-clause-packet
send_packet-requires-clause-packet g c =
    let bytes = c.args.bytes.now in
    let is = c.put_packet-words.ensures.packet in
    let few = c.requires.bytes.1 in
    (subst IsPacket (sym is) (sock_is_packet bytes few (λ i. omega (arith, c.type_inv.bytes i))), omega (arith, ap length is, sock_length bytes few, c.self.invariant.size, few))

pub invariant_of-self : goal.invariant_of-self
invariant_of-self g c =
    let told = g.S.Seatlike.told in
    let tale = g.S.Seatlike.tale in
    let same = g.S.Seatlike.same in
    let old = c.self.inside.end in
    let new = c.send_packet.new.end in
    let result = c.send_packet.result in
    let s = c.self.invariant in
    let p = sock_packet c.args.bytes.now in
    let sends = subst (λ (q : List ℕ). Sends _ told tale same q old new result) c.put_packet-words.ensures.packet c.send_packet.ensures.sends in
    let can : IsOpen old.state.sent = record { unclosed = ap (λ (x : Seen _). is_closed x.state.sent) c.self.view_is ∙ c.requires.open; whole = s.whole } in
    let said = says_data c.args.bytes.now c.requires.bytes.0 c.requires.bytes.1 (λ i. omega (arith, c.type_inv.bytes i)) in
    sent_stands told tale same p old new result c.self.inside.shut c.self.inside.shut c.self.inside.ended c.self.inside.fault s sends c.send_packet.ensures.bare
    (s.shut_is ∙ (can.unclosed ∙ sym (sent_open told tale same p c.args.bytes.now old new result s.rests sends can said)))
    (sent_whole told tale same p old new result s.rests sends can (ap (λ (x : Said). fault_by x None) said))

pub returns : goal.returns
returns g c =
    let told = g.S.Seatlike.told in
    let tale = g.S.Seatlike.tale in
    let same = g.S.Seatlike.same in
    let old = c.self.inside.end in
    let new = c.send_packet.new.end in
    let result = c.send_packet.result in
    let s = c.self.invariant in
    let p = sock_packet c.args.bytes.now in
    let sends = subst (λ (q : List ℕ). Sends _ told tale same q old new result) c.put_packet-words.ensures.packet c.send_packet.ensures.sends in
    let can : IsOpen old.state.sent = record { unclosed = ap (λ (x : Seen _). is_closed x.state.sent) c.self.view_is ∙ c.requires.open; whole = s.whole } in
    let said = says_data c.args.bytes.now c.requires.bytes.0 c.requires.bytes.1 (λ i. omega (arith, c.type_inv.bytes i)) in
    record {
      sends = subst (λ (x : Seen _). Sends _ told tale same p x new result) c.self.view_is sends;
      sent = subst (λ (x : Seen _). OnOk result (new.state.sent ≡ x.state.sent ++ p ∷ [])) c.self.view_is (sent_ok told tale same p old new result s.rests sends);
      unsent = subst (λ (x : Seen _). OnErr result ((new.state.sent ≡ x.state.sent) × (new.spare_sent ≡ x.spare_sent))) c.self.view_is (sent_err told tale same p old new result s.rests sends);
      stream = subst (λ (x : Seen _). OnOk result (stream_of new.state.sent ≡ stream_of x.state.sent ++ c.args.bytes.now)) c.self.view_is (sent_stream told tale same p c.args.bytes.now old new result s.rests sends can said);
      «open» = sent_open told tale same p c.args.bytes.now old new result s.rests sends can said;
    }
