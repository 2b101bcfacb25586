use Rattle.std.proofs.Common.{◌≡◌, ◌≤◌, ◌+◌, ◌*◌, ◌++◌, ℕ, length, take, drop, sym, ap, ◌∙◌, arith}
use Rattle.std.proofs.lemmas.List.{take-append-le, take_all, length-take-le, length-drop}
use Rattle.vm_page.specs.Words.{bytes_in}
use Rattle.vm_page.proofs.WordLaws.{length-bytes_in}
use Rattle.pkt_desc.specs.Packets.{payload_of}
use Rattle.pkt_desc.specs.declared.desc.Desc.{Desc}
use Rattle.example_packets.proofs.payload.read_packet.Goals as goal

pub returns-clause-payload : goal.returns-clause-payload
returns-clause-payload c =
    let w = c.args.words.now in
    let d = c.in-Ok.ensures.desc in
    let p = c.split_at.result.1.now in
    let p_is : p ≡ payload_of w = c.split_at.ensures.back ∙ ap (λ (e : Desc). drop e.offset8 w) d.2 in
    let few : length p + 2 ≤ length w = omega (arith, ap length c.split_at.ensures.back, length-drop c.in-Ok.desc.offset8 w, ap (λ (e : Desc). e.offset8) d.2, d.0.past_descriptor, d.0.within) in
    let n : ℕ = 8 * length p in
    let long : length (bytes_in p) ≡ n = length-bytes_in p in
    let room : length (take n c.args.bytes.now) ≡ n = length-take-le n c.args.bytes.now (omega (arith, few, c.requires, c.fits-bytes)) in
    let is : c.bytes_of.new.out ≡ bytes_in p = c.bytes_of.ensures ∙ (ap (λ k. take k (bytes_in p)) room ∙ take_all n (bytes_in p) (omega (arith, long))) in (
      omega (arith, few, c.requires),
      sym long ∙ ap (λ q. length (bytes_in q)) p_is,
      ap (λ l. take n (l ++ drop n c.args.bytes.now)) is
          ∙ (take-append-le n (bytes_in p) (drop n c.args.bytes.now) (omega (arith, long))
          ∙ (take_all n (bytes_in p) (omega (arith, long)) ∙ ap bytes_in p_is)),
    )
