use Rattle.std.proofs.Common.{◌≡◌, ◌≤◌, ◌*◌, ◌++◌, length, take, drop, min, ap, ◌∙◌, arith}
use Rattle.std.proofs.lemmas.List.{take-append-le, take_all, take_min, length-take-le}
use Rattle.vm_page.specs.Words.{bytes_in}
use Rattle.vm_page.proofs.WordLaws.{length-bytes_in}
use Rattle.device_disk.proofs.page_disks.put_came.Goals as goal

pub returns-clause-bytes : goal.returns-clause-bytes
returns-clause-bytes c =
    let w = c.args.words.now in
    let len = c.min-len.result in
    let long : length (bytes_in w) ≡ 8 * length w = length-bytes_in w in
    let most : len ≤ 4096 = omega (arith, c.min-len.ensures, c.requires) in
    let room : length (take len c.args.bytes.now) ≡ len = length-take-le len c.args.bytes.now (omega (arith, most)) in
    let is : c.bytes_of.new.out ≡ take len (bytes_in w) = c.bytes_of.ensures ∙ ap (λ k. take k (bytes_in w)) room in
    let cut : length (take len (bytes_in w)) ≡ len = length-take-le len (bytes_in w) (omega (arith, long, c.min-len.ensures)) in
    ap (λ l. take len (l ++ drop len c.args.bytes.now)) is
    ∙ (take-append-le len (take len (bytes_in w)) (drop len c.args.bytes.now) (omega (arith, cut))
    ∙ (take_all len (take len (bytes_in w)) (omega (arith, cut))
    ∙ (ap (λ k. take k (bytes_in w)) (omega (arith, c.min-len.ensures, long, c.requires)) ∙ take_min (min c.args.moved 4096) (bytes_in w))))
