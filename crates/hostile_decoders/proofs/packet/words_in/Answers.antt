use Rattle.std.proofs.Common.{◌≡◌, ◌∙◌, map, ◌++◌, ◌∷◌, [], ℕ, List, length, length-append, sym, ap, arith}
use Rattle.std.proofs.lemmas.List.FromFn.{map-range_with_len_more}
use Rattle.std.specs.List.{range_with_len}
use Rattle.vm_page.specs.Words.{word_at}
use Rattle.hostile_decoders.proofs.packet.words_in.Goals as goal

pub loop-i-preserved : goal.loop-i-preserved
loop-i-preserved c =
    let n = c.loop-i.i in
    let long = c.loop-i.invariant.len in
    record {
      items = c.in_ok-push.ensures.items ∙ ((λ j. c.loop-i.invariant.items j ++ c.word_of.ensures j ∷ []) ∙ sym (map-range_with_len_more (word_at c.args.bytes.now) 0 n n (omega arith)));
      len = ap length c.in_ok-push.ensures.items ∙ (length-append c.loop-i.words.items (c.word_of.result ∷ []) ∙ omega (arith, long));
    }
