use Rattle.std.proofs.Common.{◌≡◌, ℕ, ◌*◌, ◌++◌, length, take, drop, ap, ◌∙◌, arith}
use Rattle.std.proofs.lemmas.List.{take-append-le, take_all, length-take-le}
use Rattle.vm_page.specs.Words.{bytes_in}
use Rattle.vm_page.proofs.WordLaws.{length-bytes_in}
use Rattle.device_packets.specs.Packets.{content_of}
use Rattle.device_packets.proofs.packets.content.Goals as goal

pub returns-clause-bytes : goal.returns-clause-bytes
unfolding content_of
returns-clause-bytes c =
    let p = c.payload-payload.result.now in
    let n : ℕ = 8 * length p in
    let long : length (bytes_in p) ≡ n = length-bytes_in p in
    let room : length (take n c.args.bytes.now) ≡ n = length-take-le n c.args.bytes.now (omega (arith, c.payload-payload.ensures.within, c.requires.short, c.requires.room)) in
    let is : c.bytes_of.new.out ≡ bytes_in p = c.bytes_of.ensures ∙ (ap (λ k. take k (bytes_in p)) room ∙ take_all n (bytes_in p) (omega (arith, long))) in
    ap (λ l. take n (l ++ drop n c.args.bytes.now)) is
    ∙ (take-append-le n (bytes_in p) (drop n c.args.bytes.now) (omega (arith, long))
    ∙ (take_all n (bytes_in p) (omega (arith, long)) ∙ ap bytes_in c.payload-payload.ensures.value))
