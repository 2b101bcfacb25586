use Rattle.std.proofs.Common.{◌≡◌, ◌+◌, ◌-◌, ◌*◌, suc, ◌<◌, length, drop, replicate, None, sym, ap, subst, ◌∙◌, arith, rules, ℕ, List}
use Rattle.std.specs.Prelude.{option_map}
use Rattle.std.specs.List.{AllByRecursion}
use Rattle.std.proofs.lemmas.List.{take_at}
use Rattle.wire_table.specs.Rows.{numbers_in}
use Rattle.kvp_ic.specs.declared.fault.KvpFault.TheVariants.{Text}
use Rattle.kvp_ic.specs.Texts.{wrong_unit}
use Rattle.kvp_ic.proofs.TextLaws.{right_units}
use Rattle.kvp_ic.proofs.text.read_text.Goals as goal

pub first-requires : goal.first-requires
first-requires g c =
    let d : List ℕ = drop c.args.place.at c.args.bytes.now in
    let n = c.count_in-n.result - 1 in
    let count : c.count_in-n.result ≡ suc n = omega arith in
    let none : wrong_unit 0 (numbers_in 2 c.count_in-n.result d) ≡ None = sym c.in_default.ensures.value in
    let right = right_units n 0 d (ap (λ k. wrong_unit 0 (numbers_in 2 k d)) (sym count) ∙ none) in
    let len : length c.read_units.new.units ≡ n = search rules in
    let read : c.read_units.new.units ≡ numbers_in 2 n d = search rules in
    let front = take_at c.read_units.new.units (drop n (replicate g.row.MAX 0)) n len ∙ read in
    (search rules, (search rules, (omega arith, (omega arith, subst (λ (us : List ℕ). AllByRecursion (λ u. 0 < u) us) (sym front) right.0))))

pub returns : goal.returns
returns g c =
    let d : List ℕ = drop c.args.place.at c.args.bytes.now in
    let n = c.count_in-n.result - 1 in
    let none : wrong_unit 0 (numbers_in 2 c.count_in-n.result d) ≡ None = sym c.in_default.ensures.value in
    let len : length c.read_units.new.units ≡ n = search rules in
    let read : c.read_units.new.units ≡ numbers_in 2 n d = search rules in
    let front = take_at c.read_units.new.units (drop n (replicate g.row.MAX 0)) n len ∙ read in
    let value = c.count_in-n.ensures.value in (
      ap (λ k. option_map (λ i. Text (c.args.before + 2 * i)) (wrong_unit 0 (numbers_in 2 k d))) (sym value) ∙ ap (option_map (λ i. Text (c.args.before + 2 * i))) none,
      c.first.ensures.value ∙ (front ∙ ap (λ k. numbers_in 2 (k - 1) d) value),
    )
