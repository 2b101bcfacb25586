use Rattle.std.proofs.Common.{◌≡◌, ℕ, ◌+◌, ◌-◌, ◌*◌, ◌/◌, ◌<◌, length, take, drop, length-set, ap, ◌∙◌, arith}
use Rattle.vm_page.specs.Words.{number_of, word_at, words_for, words_of}
use Rattle.vm_page.proofs.WordLaws.{eight_number}
use Rattle.pkt_desc.proofs.PayloadLaws.{words_all, words_more}
use Rattle.hv_sock.proofs.packet.put_words.Goals as goal

pub loop-i-preserved : goal.loop-i-preserved
loop-i-preserved c =
    let bytes = c.args.bytes.now in
    let n = words_for (length bytes) in
    let i = c.loop-i.i in
    let piece = c.copy_from_slice.new.self in
    let eight : 8 * i + 8 - 8 * i ≡ 8 = omega arith in
    let cut : take (8 * i + 8 - 8 * i) (drop (8 * i) bytes) ≡ take 8 (drop (8 * i) bytes) = ap (λ (k : ℕ). take k (drop (8 * i) bytes)) eight in
    let word : c.from_le_bytes.result ≡ word_at bytes i = c.from_le_bytes.ensures ∙ (eight_number piece (omega (arith, c.copy_from_slice.ensures.len)) ∙ ap number_of (c.copy_from_slice.ensures.after ∙ cut)) in
    let lt : i < n = omega arith in
    (words_more n i c.loop-i.out (words_of bytes) bytes c.from_le_bytes.result lt (omega (arith, c.loop-i.invariant.1)) word c.loop-i.invariant.0, simp (length-set) c.loop-i.invariant.1)

pub returns-then-whole-bytes : goal.returns-then-whole-bytes
returns-then-whole-bytes c =
    let bytes = c.args.bytes.now in
    let n = words_for (length bytes) in
    let i = length bytes / 8 in
    let at : c.loop-i.i ≡ i = omega arith in
    let word = c.word_of.result in
    let more = words_more n i c.loop-i.out (words_of bytes) bytes word (omega arith) (omega (arith, c.loop-i.invariant.1)) c.word_of.ensures (rw at at c.loop-i.invariant.0) in
    record { words = words_all n (i + 1) _ (words_of bytes) bytes (omega arith) more }

pub returns-else-whole-bytes : goal.returns-else-whole-bytes
returns-else-whole-bytes c =
    let bytes = c.args.bytes.now in
    let n = words_for (length bytes) in
    record { words = words_all n c.loop-i.i c.loop-i.out (words_of bytes) bytes (omega arith) c.loop-i.invariant.0 }
