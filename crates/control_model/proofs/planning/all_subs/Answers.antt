use Rattle.std.proofs.Common.{◌≡◌, ◌≤◌, ◌∙◌, map, sym, ap, subst, arith}
use Rattle.std.specs.Prelude.{All}
use Rattle.std.proofs.lemmas.List.{take_all, length-map, get_or-map}
use Rattle.script_lines.specs.declared.line.DeviceSpec.TheVariants.{Beat}
use Rattle.script_phases.specs.Openings.{subs_of}
use Rattle.control_model.proofs.planning.all_subs.Goals as goal

pub returns-clause-most : goal.returns-clause-most
returns-clause-most c =
    let specs = c.args.specs.now in
    let all : c.loop-spec.subs.items ≡ map subs_of specs = c.loop-spec.invariant ∙ ap (map subs_of) (take_all c.loop-spec.spec-index specs (omega (arith, c.loop-spec-test.false))) in
    subst (All (λ n. n ≤ 3)) (sym all)
    (λ k d less. let long = length-map specs subs_of in subst (λ n. n ≤ 3) (sym (get_or-map subs_of specs k Beat d (omega (arith, less, long)))) (c.requires k Beat (omega (arith, less, long))))
