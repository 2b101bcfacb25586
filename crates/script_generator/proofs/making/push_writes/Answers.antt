use Rattle.std.proofs.Common.{◌∙◌, map, ◌++◌, ◌∷◌, [], List, sym, ap, arith, append_assoc}
use Rattle.std.proofs.lemmas.List.FromFn.{map-range_with_len_more}
use Rattle.std.specs.List.{range_with_len}
use Rattle.script_lines.specs.declared.line.Line.{Line}
use Rattle.script_generator.specs.Load.{write_line}
use Rattle.script_generator.proofs.making.push_writes.Goals as goal

pub loop-block-preserved : goal.loop-block-preserved
loop-block-preserved c =
    let n = c.loop-block.block in
    let before = map (write_line c.args.seed) (range_with_len 0 n) in
    c.in_ok-push.ensures.items ∙ ap (λ (ls : List Line). ls ++ c.write_line.result ∷ []) c.loop-block.invariant
    ∙ append_assoc c.args.lines.now.items before (c.write_line.result ∷ [])
    ∙ ap (λ (l : Line). c.args.lines.now.items ++ (before ++ l ∷ [])) c.write_line.ensures
    ∙ ap (λ (ls : List Line). c.args.lines.now.items ++ ls) (sym (map-range_with_len_more (write_line c.args.seed) 0 n n (omega arith)))
