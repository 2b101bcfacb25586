-- Bad places, each kept once.
use Rattle.std.proofs.Common.{◌≡◌, ℕ, Bool, true, false, cond, ◌||◌, nat_eq, List, [], ◌∷◌, ◌++◌, fold, refl, sym, ap, ◌∙◌, arith}
use Rattle.std.specs.List.{list_any}
use Rattle.std.proofs.lemmas.Bool.Decides.{nat_tests}
use Rattle.indexmap.specs.IndexSet.{insert_key}
use Rattle.scsi_disk.specs.DiskModel.{new_disk, zero_block}
use Rattle.scsi_disk.specs.FiniteMap.{made, stands_for}
use Rattle.scsi_disk.proofs.RoomLaws.{by_test}

or_assoc : (a b c : Bool) → ((a || b) || c) ≡ (a || (b || c))
or_assoc true b c = refl
or_assoc false b c = refl

or_absorbs : (a b : Bool) → (b ≡ true → a ≡ true) → (a || b) ≡ a
or_absorbs true b h = refl
or_absorbs false true h = sym (h refl)
or_absorbs false false h = refl

-- one more place at the end
pub any_pushed : (q k : ℕ) (ks : List ℕ) → list_any (nat_eq q) (ks ++ k ∷ []) ≡ (list_any (nat_eq q) ks || nat_eq q k)
any_pushed q k [] = by_test (nat_eq q k) (λ is. rw is refl) (λ is. rw is refl)
any_pushed q k (x ∷ ks) = ap (λ b. nat_eq q x || b) (any_pushed q k ks) ∙ sym (or_assoc (nat_eq q x) (list_any (nat_eq q) ks) (nat_eq q k))

any_inserted : (q k : ℕ) (ks : List ℕ) → list_any (nat_eq q) (insert_key nat_eq ks k) ≡ (list_any (nat_eq q) ks || nat_eq q k)
any_inserted q k ks =
    by_test (list_any (nat_eq k) ks)
    (λ is. ap (λ b. list_any (nat_eq q) (cond b ks (ks ++ k ∷ []))) is
    ∙ sym (or_absorbs (list_any (nat_eq q) ks) (nat_eq q k) (λ e. let same : q ≡ k = grind (arith, nat_tests, e) in ap (λ p. list_any (nat_eq p) ks) same ∙ is)))
    (λ is. ap (λ b. list_any (nat_eq q) (cond b ks (ks ++ k ∷ []))) is ∙ any_pushed q k ks)

any_of_all : (q : ℕ) (ks places : List ℕ) → list_any (nat_eq q) (fold (insert_key nat_eq) ks places) ≡ (list_any (nat_eq q) ks || list_any (nat_eq q) places)
any_of_all q ks [] = by_test (list_any (nat_eq q) ks) (λ is. rw is refl) (λ is. rw is refl)
any_of_all q ks (k ∷ places) =
    any_of_all q (insert_key nat_eq ks k) places ∙ ap (λ b. b || list_any (nat_eq q) places) (any_inserted q k ks)
    ∙ or_assoc (list_any (nat_eq q) ks) (nat_eq q k) (list_any (nat_eq q) places)

-- what is kept of a new disk stands for it
pub stands_for-made : (blocks : ℕ) (bad : List ℕ) → stands_for (made blocks bad) ≡ new_disk blocks bad
stands_for-made blocks bad = λ i. record { blocks = blocks; bytes_at = λ _. zero_block; written = []; is_bad = λ q. any_of_all q [] bad i }
