use Rattle.std.proofs.Common.{◌≡◌, ◌+◌, ◌-◌, ◌*◌, ◌/◌, ◌%◌, length, take, get_or, sym, ap, ◌∙◌, arith}
use Rattle.std.proofs.lemmas.List.{take_all}
use Rattle.vm_page.specs.Words.{low_bytes}
use Rattle.vm_page.proofs.WordLaws.{eight_bytes, put_front, length-low_bytes, length-put_front}
use Rattle.vm_page.proofs.words.bytes_of.Goals as goal

pub loop-i-preserved : goal.loop-i-preserved
loop-i-preserved c =
    let i = c.loop-i.i in
    let word = get_or c.args.words.now i 0 in
    let part : c.copy_from_slice.new.self ≡ take 8 (low_bytes 8 word) = c.copy_from_slice.ensures.after ∙ (c.to_le_bytes.ensures ∙ (eight_bytes word ∙ sym (take_all 8 (low_bytes 8 word) (omega (arith, length-low_bytes 8 word))))) in
    put_front c.args.words.now c.loop-i.out c.copy_from_slice.new.self i 8 (8 * i + 8 - 8 * i) (8 * (i + 1)) (omega arith) (omega arith) (omega arith) (omega arith) (omega arith) c.loop-i.invariant part

pub returns-then-left-gt0 : goal.returns-then-left-gt0
returns-then-left-gt0 c =
    let size = length c.args.out.now in
    let i = size / 8 in
    let out = c.loop-i.out in
    let part = c.copy_from_slice-then-left-gt0.new.self in
    let k = length out % 8 in
    let word = get_or c.args.words.now i 0 in
    let at : c.loop-i.i ≡ i = omega arith in
    let new : part ≡ take k (low_bytes 8 word) = c.copy_from_slice-then-left-gt0.ensures.after ∙ ap (take k) (c.to_le_bytes-last.ensures ∙ eight_bytes word) in
    let m = length out - 8 * i in
    let all = put_front c.args.words.now out part i k m size (omega arith) (omega arith) (omega arith) (omega arith) (omega arith) (rw at at c.loop-i.invariant) new in
    let len = length-put_front out part (8 * i) m (omega arith) (omega arith) in
    sym (take_all size _ (omega (arith, len))) ∙ all

pub returns-else-left-gt0 : goal.returns-else-left-gt0
returns-else-left-gt0 c =
    let size = length c.args.out.now in
    let at : 8 * c.loop-i.i ≡ size = omega arith in
    sym (take_all size c.loop-i.out (omega arith)) ∙ rw at at c.loop-i.invariant
