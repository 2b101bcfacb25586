use Rattle.std.proofs.Common.{◌≡◌, ◌++◌, ◌∷◌, [], List, ℕ, None, OnOk, OnErr, ap, sym, ◌∙◌, subst}
use Rattle.ring_core.specs.Seen.{Seen}
use Rattle.hv_sock.specs.Packets.{Said, sock_packet}
use Rattle.hv_sock.specs.Streams.{IsOpen, fault_by, is_closed, stream_of}
use Rattle.hv_sock.specs.Ends.{Sends}
use Rattle.hv_sock.proofs.CallLaws.{ended_closed, ended_stream, on_ok, sent_err, sent_ok, sent_stands, sent_whole}
use Rattle.hv_sock.proofs.PacketLaws.{end_words, says_end}
use Rattle.hv_sock.proofs.sock_end.SockEnd.shut.Goals as goal

pub invariant_of-self : goal.invariant_of-self
invariant_of-self g c =
    let told = g.S.Seatlike.told in
    let tale = g.S.Seatlike.tale in
    let same = g.S.Seatlike.same in
    let old = c.self.inside.end in
    let new = c.send_packet-answer.new.end in
    let result = c.send_packet-answer.result in
    let s = c.self.invariant in
    let p = sock_packet [] in
    let sends = subst (λ (q : List ℕ). Sends _ told tale same q old new result) end_words c.send_packet-answer.ensures.sends in
    let can : IsOpen old.state.sent = record { unclosed = ap (λ (x : Seen _). is_closed x.state.sent) c.self.view_is ∙ c.requires.open; whole = s.whole } in
    sent_stands told tale same p old new result c.self.inside.shut c.is_ok-self-inside.result c.self.inside.ended c.self.inside.fault s sends c.send_packet-answer.ensures.bare
    (c.is_ok-self-inside.ensures.value ∙ sym (ended_closed told tale same p old new result s.rests sends can says_end))
    (sent_whole told tale same p old new result s.rests sends can (ap (λ (x : Said). fault_by x None) says_end))

pub returns : goal.returns
returns g c =
    let told = g.S.Seatlike.told in
    let tale = g.S.Seatlike.tale in
    let same = g.S.Seatlike.same in
    let old = c.self.inside.end in
    let new = c.send_packet-answer.new.end in
    let result = c.send_packet-answer.result in
    let s = c.self.invariant in
    let p = sock_packet [] in
    let sends = subst (λ (q : List ℕ). Sends _ told tale same q old new result) end_words c.send_packet-answer.ensures.sends in
    let can : IsOpen old.state.sent = record { unclosed = ap (λ (x : Seen _). is_closed x.state.sent) c.self.view_is ∙ c.requires.open; whole = s.whole } in
    record {
      sends = subst (λ (x : Seen _). Sends _ told tale same p x new result) c.self.view_is sends;
      sent = subst (λ (x : Seen _). OnOk result (new.state.sent ≡ x.state.sent ++ p ∷ [])) c.self.view_is (sent_ok told tale same p old new result s.rests sends);
      unsent = subst (λ (x : Seen _). OnErr result ((new.state.sent ≡ x.state.sent) × (new.spare_sent ≡ x.spare_sent))) c.self.view_is (sent_err told tale same p old new result s.rests sends);
      stream = ended_stream told tale same p old new result s.rests sends can says_end ∙ ap (λ (x : Seen _). stream_of x.state.sent) c.self.view_is;
      closed = on_ok result (is_closed new.state.sent) (ended_closed told tale same p old new result s.rests sends can says_end);
    }
