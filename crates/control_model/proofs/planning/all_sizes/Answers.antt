use Rattle.std.proofs.Common.{◌∙◌, map, ◌++◌, ◌∷◌, [], ℕ, List, sym, ap, arith}
use Rattle.std.proofs.lemmas.List.FromFn.{map-range_with_len_more}
use Rattle.std.specs.List.{range_with_len}
use Rattle.script_lines.specs.Parts.{ring_pages_of}
use Rattle.control_model.proofs.planning.all_sizes.Goals as goal

pub loop-device-preserved : goal.loop-device-preserved
loop-device-preserved c =
    let n = c.loop-device.device in
    let pages : ℕ → ℕ = λ device. ring_pages_of device c.args.lines.now in
    record {
      sizes = c.push_reserved.ensures.items ∙ ap (λ (ns : List ℕ). ns ++ c.ring_pages.result ∷ []) c.loop-device.invariant.sizes ∙ ap (λ p. map pages (range_with_len 0 n) ++ p ∷ []) c.ring_pages.ensures
          ∙ sym (map-range_with_len_more pages 0 n n (omega arith));
      len = omega (arith, c.push_reserved.ensures.len, c.loop-device.invariant.len);
      capacity = omega (arith, c.push_reserved.ensures.capacity, c.loop-device.invariant.capacity);
    }
