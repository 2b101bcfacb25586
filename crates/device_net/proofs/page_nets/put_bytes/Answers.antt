use Rattle.std.proofs.Common.{◌≡◌, ℕ, ◌*◌, ◌++◌, length, take, drop, ap, ◌∙◌, arith}
use Rattle.std.proofs.lemmas.List.{take-append-le, take_all, length-take-le}
use Rattle.vm_page.specs.Words.{bytes_in}
use Rattle.vm_page.proofs.WordLaws.{length-bytes_in}
use Rattle.device_net.proofs.page_nets.put_bytes.Goals as goal

pub returns-clause-bytes : goal.returns-clause-bytes
returns-clause-bytes c =
    let w = c.args.words.now in
    let n : ℕ = 8 * length w in
    let long : length (bytes_in w) ≡ n = length-bytes_in w in
    let room : length (take n c.args.bytes.now) ≡ n = length-take-le n c.args.bytes.now (omega (arith, c.requires)) in
    let is : c.bytes_of.new.out ≡ bytes_in w = c.bytes_of.ensures ∙ (ap (λ k. take k (bytes_in w)) room ∙ take_all n (bytes_in w) (omega (arith, long))) in
    ap (λ l. take n (l ++ drop n c.args.bytes.now)) is
    ∙ (take-append-le n (bytes_in w) (drop n c.args.bytes.now) (omega (arith, long)) ∙ take_all n (bytes_in w) (omega (arith, long)))
