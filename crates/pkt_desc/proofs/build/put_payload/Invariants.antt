use Rattle.std.proofs.Common.{◌≡◌, ◌-◌, ◌*◌, ◌++◌, length, take, drop}
use Rattle.vm_page.specs.Words.{words_for, words_of, words_from}
use Rattle.pkt_desc.proofs.build.put_payload.Given as goal

abbrev pub invariant-loop-i : goal.invariant-loop-i
invariant-loop-i l =
    let n = words_for (length l.payload) in
    (take l.i l.out ++ words_from (n - l.i) (drop (8 * l.i) l.payload) ≡ words_of l.payload)
    × (drop n l.out ≡ drop n l.fn.out)
