use Rattle.std.proofs.Common.{◌≡◌, ◌-◌, ◌*◌, ◌++◌, length, take, drop}
use Rattle.vm_page.specs.Words.{words_for, words_of, words_from}
use Rattle.device_packets.proofs.packets.put_words.Given as goal

abbrev pub invariant-loop-i : goal.invariant-loop-i
invariant-loop-i l =
    let n = words_for (length l.bytes) in
    (take l.i l.page ++ words_from (n - l.i) (drop (8 * l.i) l.bytes) ≡ words_of l.bytes)
    × (length l.page ≡ 512)
