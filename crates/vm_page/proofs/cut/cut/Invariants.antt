use Rattle.std.proofs.Common.{◌≡◌, ◌+◌, ◌<◌, ◌/◌, ◌++◌, length, take, drop}
use Rattle.vm_page.proofs.CutLaws.{parts_of}
use Rattle.vm_page.proofs.cut.cut.Given as goal

abbrev pub invariant-loop-i : goal.invariant-loop-i
invariant-loop-i l =
    (l.from < 4096)
    × ((l.from + l.left + 4095) / 4096 + l.i ≡ length l.pages)
    × (l.i < length l.pages → 0 < l.left)
    × (take l.i l.out ++ parts_of l.from l.left (drop l.i l.pages) ≡ parts_of l.offset l.len l.pages)
    × (drop (length l.pages) l.out ≡ drop (length l.pages) l.fn.out)
