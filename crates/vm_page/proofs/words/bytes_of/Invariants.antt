use Rattle.std.proofs.Common.{◌≡◌, ◌*◌, take}
use Rattle.vm_page.specs.Words.{bytes_in}
use Rattle.vm_page.proofs.words.bytes_of.Given as goal

abbrev pub invariant-loop-i : goal.invariant-loop-i
invariant-loop-i l = take (8 * l.i) l.out ≡ take (8 * l.i) (bytes_in l.words)
