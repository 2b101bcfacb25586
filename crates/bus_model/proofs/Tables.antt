-- The table of outcomes, row by row.
use Rattle.std.proofs.Common.{◌≡◌, ℕ, zero, suc, ◌-◌, ◌≤◌, Bool, true, false, List, [], ◌∷◌, ◌++◌, length, refl, ap, ◌∙◌, arith, Some, None}
use Rattle.std.specs.Prelude.{map, nat_le, take, drop, replicate, if◌then◌else◌}
use Rattle.std.proofs.lemmas.Bool.Decides.{nat_tests}
use Rattle.bus_script.specs.declared.outcome.LineResult.TheVariants.{Unserved, Gone, Closed}
use Rattle.channel_model.specs.Channel.{count_of}
use Rattle.device_kinds.specs.Served.{Served, done_of}
use Rattle.script_phases.specs.Says.{asks_of, is_shut}
use Rattle.bus_model.specs.Orders.{Order}
use Rattle.bus_model.specs.Channel.{rescinded_of, outcomes_by, outcomes_of}
use Rattle.bus_model.specs.Run.{Source, Known, AskedOf, known_or, modified_by}
use Rattle.bus_model.specs.Laws.{Table, TableOfOutcomes, RowsOfEnded}
use Rattle.bus_model.proofs.Arriving.{serves_each_lem}

-- a list of n + 1 is its first n, and one
record Split (n : ℕ) (xs : List Served) : Type 0 where
  pub last : Served
  pub is : xs ≡ take n xs ++ last ∷ []
  pub rest : drop n xs ≡ last ∷ []
  pub count : length (take n xs) ≡ n

split : (n : ℕ) (xs : List Served) → length xs ≡ suc n → Split n xs
split n [] e = absurd (omega (arith, e))
split zero (x ∷ []) e = record { last = x; is = refl; rest = refl; count = refl }
split zero (x ∷ y ∷ xs) e = absurd (omega (arith, e))
split (suc n) (x ∷ xs) e =
    let s = split n xs (omega (arith, e)) in
    record { last = s.last; is = ap (λ (l : List Served). x ∷ l) s.is; rest = s.rest; count = ap suc s.count }

module _ (order : Order) (served : List Served) (count : length served ≡ count_of order.stop (length order.asks)) where
  abbrev m : ℕ
  m = length order.asks

  held_row : (k : ℕ) → order.stop ≡ Some (k, true) → 1 ≤ k → k ≤ m
      → (first : List Served) × (last : Served) × (served ≡ first ++ last ∷ []) × (length first ≡ k - 1) × (outcomes_of order served ≡ map done_of first ++ rescinded_of last ∷ replicate (m - k) Unserved)
  held_row k is one few =
      let n = k - 1 in
      let all : length served ≡ suc n = count ∙ (ap (λ s. count_of s m) is ∙ omega (arith, one, few)) in
      let s = split n served all in
      let yes : nat_le k m ≡ true = grind (arith, nat_tests, few) in
      let here : outcomes_of order served ≡ map done_of (take n served) ++ (map rescinded_of (drop n served) ++ replicate (m - k) Unserved) =
      ap (λ s. outcomes_by s m served) is
      ∙ ap (λ b. if b then map done_of (take n served) ++ (map rescinded_of (drop n served) ++ replicate (m - k) Unserved) else map done_of served) yes in
      (take n served, s.last, s.is, s.count, here ∙ ap (λ (l : List Served). map done_of (take n served) ++ (map rescinded_of l ++ replicate (m - k) Unserved)) s.rest)

  rows : Table m order served
  rows = record {
    not_rescinded = λ is. (count ∙ ap (λ s. count_of s m) is, ap (λ s. outcomes_by s m served) is);
    rescinded = λ k is. (count ∙ ap (λ s. count_of s m) is, ap (λ s. outcomes_by s m served) is);
    held = held_row;
    too_few = λ k is more.
        let no : nat_le k m ≡ false = grind (arith, nat_tests, more) in (
          count ∙ (ap (λ s. count_of s m) is ∙ omega (arith, more)),
          ap (λ s. outcomes_by s m served) is
              ∙ ap (λ b. if b then map done_of (take (k - 1) served) ++ (map rescinded_of (drop (k - 1) served) ++ replicate (m - k) Unserved) else map done_of served) no,
        );
  }

pub table_lem : TableOfOutcomes
table_lem order lists served run = rows order served (serves_each_lem order lists served run)

abbrev either : Bool → Bool → Source → List Source
either gone shut source = known_or (if gone then Some Gone else if shut then Some Closed else None) source ∷ []

pub ended_lem : RowsOfEnded
ended_lem p device = record {
  gone = λ is before ask. ap (λ b. either b (is_shut device p.earlier) (AskedOf device (length (asks_of device before)))) is;
  gone_unmoved = λ is before vp. ap (λ b. either b (is_shut device p.earlier) (Known (modified_by p.version vp))) is;
  closed_unmoved = λ no is before vp.
      ap (λ b. either b (is_shut device p.earlier) (Known (modified_by p.version vp))) no ∙ ap (λ b. either false b (Known (modified_by p.version vp))) is;
  closed = λ no is before ask.
      ap (λ b. either b (is_shut device p.earlier) (AskedOf device (length (asks_of device before)))) no ∙ ap (λ b. either false b (AskedOf device (length (asks_of device before)))) is;
}
