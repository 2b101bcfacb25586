use Rattle.std.proofs.Common.{◌≡◌, ◌<◌, ◌+◌, ◌∷◌, ℕ, List, length, get_or, drop, refl, ap, sym, ◌∙◌, arith}
use Rattle.std.proofs.lemmas.Bool.Decides.{nat_tests}
use Rattle.script_text.specs.Runs.{run, runs_of, front_len}
use Rattle.script_text.proofs.Steps.{runs_none, runs_split}
use Rattle.script_text.proofs.run.split_run.Goals as goal

pub returns-then-is_empty-clause-runs : goal.returns-then-is_empty-clause-runs
returns-then-is_empty-clause-runs c = let none : length c.args.bytes.now ≡ 0 = grind (arith, nat_tests, c.if-is_empty.ensures) in runs_none c.args.bytes.now none

pub returns-clause-runs : goal.returns-clause-runs
returns-clause-runs c =
    let bytes = c.args.bytes.now in
    let byte = get_or bytes 0 0 in
    let more = c.front_len-more.result in
    let some : 0 < length bytes = grind (arith, nat_tests, c.if-is_empty.ensures) in
    let rest : c.split_at.result.1.now ≡ drop 1 bytes = c.split_at.ensures.back in
    let count : more ≡ front_len byte (drop 1 bytes) = c.front_len-more.ensures.value ∙ ap (front_len byte) rest in
    runs_split bytes byte some refl
    ∙ ap (λ (n : ℕ). run byte (n + 1) ∷ runs_of (drop n (drop 1 bytes))) (sym count)
    ∙ ap (λ (l : List ℕ). run byte (more + 1) ∷ runs_of (drop more l)) (sym rest)
    ∙ ap (λ (l : List ℕ). run byte (more + 1) ∷ runs_of l) (sym c.split_at-2.ensures.back)
