-- Blocks put into the finite map, and the total map for which it stands.
use Rattle.std.proofs.Common.{◌≡◌, ℕ, zero, suc, ◌+◌, ◌-◌, ◌*◌, ◌<◌, ◌≤◌, true, false, cond, ◌&&◌, ◌≢◌, subst, nat_eq, List, [], ◌∷◌, take, drop, Some, is_some, unwrap_or, nat_lt, nat_le, refl, sym, ap, ◌∙◌, arith}
use Rattle.std.specs.Map.{lookup, set_value}
use Rattle.std.specs.Prelude.{slice_range}
use Rattle.std.proofs.lemmas.Bool.Decides.{nat_tests}
use Rattle.std.proofs.lemmas.List.{drop-drop}
use Rattle.indexmap.specs.IndexMap.{insert_entry}
use Rattle.scsi_disk.specs.DiskModel.{overwritten, zero_block}
use Rattle.scsi_disk.specs.FiniteMap.{block_in, with_blocks}
use Rattle.scsi_disk.proofs.RoomLaws.{by_test}

-- a value written in the place of an old one
pub set_value-present : (k : ℕ) (v : List ℕ) (es : List (ℕ × List ℕ)) → is_some (lookup (nat_eq k) es) ≡ true → set_value (nat_eq k) es v ≡ insert_entry nat_eq es k v
set_value-present k v [] there = cc
set_value-present k v (e ∷ es) there =
    by_test (nat_eq k e.0)
    (λ is. rw is refl)
    (λ is. rw is (ap (λ fs. e ∷ fs) (set_value-present k v es (rw is at there))))

-- one more block
pub with_blocks_step : (es : List (ℕ × List ℕ)) (lba i n : ℕ) (out : List ℕ) → i < n
    → with_blocks es (lba + i) (n - i) (drop (512 * i) out) ≡ with_blocks (insert_entry nat_eq es (lba + i) (slice_range out (512 * i) (512 * i + 512))) (lba + (i + 1)) (n - (i + 1)) (drop (512 * (i + 1)) out)
unfolding with_blocks
with_blocks_step es lba i n out lt =
    let m = n - (i + 1) in
    let o = drop (512 * i) out in
    let front = λ (k : ℕ). insert_entry nat_eq es (lba + i) (take k o) in
    let e : n - i ≡ suc m = omega arith in
    let f : lba + i + 1 ≡ lba + (i + 1) = omega arith in
    let g : 512 ≡ 512 * i + 512 - 512 * i = omega arith in
    let d : drop 512 o ≡ drop (512 * (i + 1)) out = drop-drop 512 (512 * i) out ∙ ap (λ k. drop k out) (omega arith) in
    ap (λ k. with_blocks es (lba + i) k o) e ∙ ap (λ k. with_blocks (front 512) k m (drop 512 o)) f ∙ ap (λ k. with_blocks (front k) (lba + (i + 1)) m (drop 512 o)) g
    ∙ ap (λ r. with_blocks (front (512 * i + 512 - 512 * i)) (lba + (i + 1)) m r) d

-- no block is left
pub with_blocks_none : (es : List (ℕ × List ℕ)) (lba n : ℕ) (out : List ℕ) → n ≡ 0 → with_blocks es lba n out ≡ es
unfolding with_blocks
with_blocks_none es lba n out none = rw none refl

-- what a look-up finds after a block was put
pub lookup-insert_entry : (q k : ℕ) (v : List ℕ) (es : List (ℕ × List ℕ)) → lookup (nat_eq q) (insert_entry nat_eq es k v) ≡ cond (nat_eq q k) (Some v) (lookup (nat_eq q) es)
lookup-insert_entry q k v [] = refl
lookup-insert_entry q k v (e ∷ es) =
    by_test (nat_eq k e.0)
    (λ is. let same : k ≡ e.0 = grind (arith, nat_tests, is) in rw is (by_test (nat_eq q k) (λ here. rw (← same, here) refl) (λ no. rw (← same, no) refl)))
    (λ is. rw is (by_test (nat_eq q e.0)
    (λ here. let other : nat_eq q k ≡ false = grind (arith, nat_tests, here, is) in rw (here, other) refl)
    (λ no. rw no (lookup-insert_entry q k v es))))

-- the total map after one block was put
block_put : (q k : ℕ) (v : List ℕ) (es : List (ℕ × List ℕ)) → block_in (insert_entry nat_eq es k v) q ≡ cond (nat_eq q k) v (block_in es q)
block_put q k v es =
    ap (λ o. unwrap_or o zero_block) (lookup-insert_entry q k v es) ∙ by_test (nat_eq q k) (λ is. rw is refl) (λ is. rw is refl)

module _ (old : ℕ → List ℕ) (lba count : ℕ) (out : List ℕ) (q : ℕ) where
  -- a place that is written
  pub overwritten_inside : lba ≤ q → q < lba + count → overwritten old lba count out q ≡ slice_range out (512 * (q - lba)) (512 * (q - lba) + 512)
  overwritten_inside low high = let t : (nat_le lba q && nat_lt q (lba + count)) ≡ true = grind (arith, nat_tests) in rw t refl

  -- a place that isn't
  pub overwritten_outside : (lba ≤ q → q < lba + count → ⊥) → overwritten old lba count out q ≡ old q
  overwritten_outside apart =
      by_test (nat_le lba q && nat_lt q (lba + count))
      (λ is. let low : lba ≤ q = grind (arith, nat_tests, is) in let high : q < lba + count = grind (arith, nat_tests, is) in absurd (apart low high))
      (λ is. rw is refl)

-- the part of a list that begins in another place of a longer one
part_of_rest : (out : List ℕ) (a b : ℕ) → b ≡ a + 512 → slice_range (drop 512 out) a (a + 512) ≡ slice_range out b (b + 512)
part_of_rest out a b is =
    let e : a + 512 - a ≡ b + 512 - b = omega arith in
    ap (λ k. take k (drop a (drop 512 out))) e ∙ ap (take (b + 512 - b)) (drop-drop a 512 out ∙ ap (λ k. drop k out) (omega arith))

first_part : (out : List ℕ) (a : ℕ) → a ≡ 0 → take 512 out ≡ slice_range out (512 * a) (512 * a + 512)
first_part out a is =
    let P : ℕ → Type 0 = λ k. take 512 out ≡ slice_range out (512 * k) (512 * k + 512) in subst P (sym is) refl

-- the finite map after a write stands for the total map after it, place by place
pub block_in-with_blocks : (n lba : ℕ) (es : List (ℕ × List ℕ)) (out : List ℕ) (q : ℕ) → block_in (with_blocks es lba n out) q ≡ overwritten (block_in es) lba n out q
unfolding with_blocks
block_in-with_blocks zero lba es out q = sym (overwritten_outside (block_in es) lba 0 out q (λ low high. omega arith))
block_in-with_blocks (suc n) lba es out q =
    let put = insert_entry nat_eq es lba (take 512 out) in
    let rest = block_in-with_blocks n (lba + 1) put (drop 512 out) q in
    let here = block_put q lba (take 512 out) es in
    by_test (nat_eq q lba)
    (λ is. let same : q ≡ lba = grind (arith, nat_tests, is) in
    rest ∙ overwritten_outside (block_in put) (lba + 1) n (drop 512 out) q (λ low high. omega arith)
    ∙ (here ∙ ap (λ b. cond b (take 512 out) (block_in es q)) is)
    ∙ first_part out (q - lba) (omega arith)
    ∙ sym (overwritten_inside (block_in es) lba (suc n) out q (omega arith) (omega arith)))
    (λ is. let other : q ≢ lba = grind (arith, nat_tests, is) in
    by_test (nat_lt lba q && nat_lt q (lba + suc n))
    (λ inside.
    let low : lba < q = grind (arith, nat_tests, inside) in
    let high : q < lba + suc n = grind (arith, nat_tests, inside) in
    rest ∙ overwritten_inside (block_in put) (lba + 1) n (drop 512 out) q (omega arith) (omega arith)
    ∙ part_of_rest out (512 * (q - (lba + 1))) (512 * (q - lba)) (omega arith)
    ∙ sym (overwritten_inside (block_in es) lba (suc n) out q (omega arith) (omega arith)))
    (λ outside.
    let apart : lba < q → q < lba + suc n → ⊥ = λ low high. grind (arith, nat_tests, outside, low, high) in
    rest ∙ overwritten_outside (block_in put) (lba + 1) n (drop 512 out) q (λ low high. apart (omega arith) (omega arith))
    ∙ (here ∙ ap (λ b. cond b (take 512 out) (block_in es q)) is)
    ∙ sym (overwritten_outside (block_in es) lba (suc n) out q (λ low high. apart (omega arith) high))))
