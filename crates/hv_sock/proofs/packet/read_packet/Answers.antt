use Rattle.std.proofs.Common.{◌≡◌, ◌-◌, length, take, drop, length-take, length-drop, length-take-le, ◌∙◌, arith}
use Rattle.std.proofs.lemmas.List.{take_all}
use Rattle.vm_page.specs.Words.{bytes_in}
use Rattle.vm_page.proofs.WordLaws.{length-bytes_in}
use Rattle.hv_sock.proofs.PacketLaws.{allowed, read_out}
use Rattle.hv_sock.proofs.packet.read_packet.Goals as goal

pub bytes_of-requires : goal.bytes_of-requires
bytes_of-requires c =
    let ws = c.payload-payload.result.now in
    let size = c.in_ok-size.size in
    let a = allowed (bytes_in ws) c.in_ok-size.ensures.0 in
    omega (arith, a.1, a.2, c.in_ok-size.ensures.1, length-bytes_in ws, length-take size c.args.out.now, length-take (length ws - 1) (drop 1 ws), length-drop 1 ws)

pub returns-clause-out : goal.returns-clause-out
returns-clause-out c =
    let ws = c.payload-payload.result.now in
    let size = c.in_ok-size.size in
    let out = c.args.out.now in
    let a = allowed (bytes_in ws) c.in_ok-size.ensures.0 in
    let few : length (take size out) ≡ size = length-take-le size out (omega (arith, a.1, c.in_ok-size.ensures.1, c.told-out)) in
    let all : take (length ws - 1) (drop 1 ws) ≡ drop 1 ws = take_all (length ws - 1) (drop 1 ws) (omega (arith, length-drop 1 ws)) in
    let new = c.bytes_of.ensures ∙ (λ i. take (few i) (bytes_in (all i))) in
    read_out c.args.packet.now ws out c.bytes_of.new.out size c.payload-payload.ensures.payload c.in_ok-size.ensures.0 c.in_ok-size.ensures.1 (λ e. omega (arith, e)) new
