use Rattle.std.proofs.Common.{take, drop, sym, ap, ◌∙◌, arith}
use Rattle.stor_proto.specs.Srbs.{done_of}
use Rattle.pkt_desc.specs.declared.desc.Desc.{Desc}
use Rattle.example_packets.proofs.disk.answer_in.Goals as goal

pub returns-in-Some-clause-answer : goal.returns-in-Some-clause-answer
returns-in-Some-clause-answer c =
    let d = c.in_ok-desc.ensures.packet in
    let came = c.in_ok-desc.ensures.payload in
    let found = c.in-Ok.ensures.found in
    record {
      is_packet = d.0;
      kind_is = sym (ap (λ (e : Desc). e.kind) d.1) ∙ omega (arith, c.if-desc-ne11.false);
      id_is = sym (ap (λ (e : Desc). e.tid) d.1);
      long = omega (arith, c.if-len-lt64.false, came.1);
      packet = c.in-Ok.packet;
      in_form = found.0;
      allowed = found.1;
      begins = sym (ap (take 64) came.2) ∙ found.2;
      answer = omega (arith, c.if-packet-eq1.true);
      says = sym (ap (λ b. done_of c.in-Ok.packet (drop 64 b)) came.2) ∙ (sym (ap (done_of c.in-Ok.packet) c.split_at.ensures.back) ∙ (sym c.srb_done.ensures ∙ c.in-Some.is));
    }
