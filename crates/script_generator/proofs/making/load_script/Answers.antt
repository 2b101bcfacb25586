use Rattle.std.proofs.Common.{◌∙◌, ◌++◌, ◌∷◌, [], List, sym, ap, subst}
use Rattle.std.specs.Prelude.{◌/◌}
use Rattle.script_lines.specs.declared.line.Line.{Line}
use Rattle.script_lines.specs.Parts.{asks_in}
use Rattle.script_lines.specs.WellFormed.{IsScript}
use Rattle.script_generator.proofs.Legal.{load_is_script, load_asks, in_order}
use Rattle.script_generator.proofs.making.load_script.Goals as goal

pub of-requires : goal.of-requires
of-requires c =
    subst IsScript
    (sym (in_order c.args.seed (c.args.count / 2) _ _ _ _ _ _ (c.in_ok-push.ensures.items ∙ ap (λ (ls : List Line). ls ++ c.offer_line.result ∷ []) c.in_ok-lines.ensures.items) c.offer_line.ensures c.in_ok-push_writes.ensures c.in_ok-push-2.ensures.items c.phase_line.ensures c.in_ok-push_reads.ensures))
    (load_is_script c.args.seed c.args.count c.requires.most)

pub returns-clause-requests : goal.returns-clause-requests
returns-clause-requests c =
    ap asks_in c.of.ensures
    ∙ ap asks_in
    (in_order c.args.seed (c.args.count / 2) _ _ _ _ _ _ (c.in_ok-push.ensures.items ∙ ap (λ (ls : List Line). ls ++ c.offer_line.result ∷ []) c.in_ok-lines.ensures.items) c.offer_line.ensures c.in_ok-push_writes.ensures c.in_ok-push-2.ensures.items c.phase_line.ensures c.in_ok-push_reads.ensures)
    ∙ load_asks c.args.seed c.args.count c.requires.even
