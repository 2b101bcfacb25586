-- A block that was never written has room, where fewer were written than can be.
use Rattle.std.proofs.Common.{◌≡◌, ℕ, ◌+◌, ◌<◌, ◌≤◌, List, [], ◌∷◌, length, Bool, true, false, ◌||◌, nat_eq, eqb, None, is_some, refl, sym, ap, ◌∙◌, subst, arith}
use Rattle.std.specs.List.{AllByRecursion, list_any, IsDistinct}
use Rattle.std.specs.Map.{keys_of}
use Rattle.std.proofs.lemmas.List.{length-map}
use Rattle.std.proofs.lemmas.Bool.Decides.{nat_tests}
use Rattle.std.proofs.lemmas.Map.Keys.{IsDistinct-cons}
use Rattle.std.proofs.lemmas.Map.Made.{is_some-lookup}
use Rattle.std.proofs.lemmas.Map.Steps.{length-le_from_distinct_below}
use Rattle.indexmap.specs.IndexMap.{spare, get, insert_entry}
use Rattle.scsi_disk.specs.DiskModel.{most_written}
use Rattle.scsi_disk.specs.Room.{Written, HasRoom}

-- by either outcome of a test
pub by_test : {P : Type 0} (b : Bool) → (b ≡ true → P) → (b ≡ false → P) → P
by_test true f g = f refl
by_test false f g = g refl

or_false : (a b : Bool) → (a || b) ≡ false → (a ≡ false) × (b ≡ false)
or_false true b e = cc
or_false false b e = (refl, e)

none_equal : (k : ℕ) (ks : List ℕ) → list_any (nat_eq k) ks ≡ false → AllByRecursion (λ y. nat_eq k y ≡ false) ks
none_equal k [] h = tt
none_equal k (x ∷ ks) h = let p = or_false (nat_eq k x) (list_any (nat_eq k) ks) h in (p.0, none_equal k ks p.1)

below : (n q : ℕ) (ks : List ℕ) → AllByRecursion (λ k. k < n) ks → list_any (eqb q) ks ≡ true → q < n
below n q [] h e = cc
below n q (x ∷ ks) h e =
    by_test (eqb q x) (λ is. let same : q ≡ x = grind (arith, nat_tests, is) in omega (arith, same, h.0)) (λ is. below n q ks h.1 (sym (ap (λ c. c || list_any (eqb q) ks) is) ∙ e))

-- a key below n that is not among distinct keys below n: there are fewer than n
pub fewer : (n k : ℕ) (ks : List ℕ) → IsDistinct nat_eq ks → AllByRecursion (λ k. k < n) ks → k < n → list_any (nat_eq k) ks ≡ false → length ks + 1 ≤ n
fewer n k ks apart all lt absent =
    let more = length-le_from_distinct_below (k ∷ ks) n (IsDistinct-cons nat_eq k ks (none_equal k ks absent) apart) (λ q e. below n q (k ∷ ks) (lt, all) e) in
    omega (arith, more)

pub has_room : (m : Written) (n k : ℕ) → HasRoom n m → k < n → length m.entries < most_written → get nat_eq m k ≡ None → 0 < spare m
has_room m n k h lt few none =
    let absent : list_any (nat_eq k) (keys_of m.entries) ≡ false = sym (is_some-lookup (nat_eq k) m.entries) ∙ ap is_some none in
    omega (arith, fewer n k (keys_of m.entries) h.apart h.within lt absent, h.room, length-map m.entries (λ (e : ℕ × List ℕ). e.0))

pub within_more : (n k : ℕ) (v : List ℕ) (es : List (ℕ × List ℕ)) → k < n → AllByRecursion (λ q. q < n) (keys_of es) → AllByRecursion (λ q. q < n) (keys_of (insert_entry nat_eq es k v))
within_more n k v [] lt h = (lt, tt)
within_more n k v (e ∷ es) lt h =
    let P : List (ℕ × List ℕ) → Type 0 = λ fs. AllByRecursion (λ q. q < n) (keys_of fs) in
    by_test (nat_eq k e.0)
    (λ is. subst P (let same : (e.0, v) ∷ es ≡ insert_entry nat_eq (e ∷ es) k v = rw is refl in same) h)
    (λ is. subst P (let same : e ∷ insert_entry nat_eq es k v ≡ insert_entry nat_eq (e ∷ es) k v = rw is refl in same) (h.0, within_more n k v es lt h.1))
