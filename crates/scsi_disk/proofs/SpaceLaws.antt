-- The places that were written, before and after more blocks are put into the finite map.
use Rattle.std.proofs.Common.{◌≡◌, ℕ, zero, suc, ◌+◌, ◌<◌, ◌≤◌, Bool, true, false, cond, not, ◌||◌, nat_eq, List, [], ◌∷◌, ◌++◌, length, take, drop, filter, None, refl, sym, ap, ◌∙◌, append_assoc, length-append, arith}
use Rattle.std.specs.List.{list_any, range_with_len}
use Rattle.std.specs.Map.{keys_of, lookup}
use Rattle.std.proofs.lemmas.Bool.Decides.{nat_tests}
use Rattle.std.proofs.lemmas.List.{append-nil, length-map}
use Rattle.std.proofs.lemmas.List.Elements.{filter-append}
use Rattle.indexmap.specs.IndexMap.{insert_entry}
use Rattle.scsi_disk.specs.DiskModel.{first_written}
use Rattle.scsi_disk.specs.FiniteMap.{with_blocks}
use Rattle.scsi_disk.proofs.RoomLaws.{by_test}
use Rattle.scsi_disk.proofs.SetupLaws.{any_pushed}

-- a block that wasn't there is one more
pub length-insert_entry : (k : ℕ) (v : List ℕ) (es : List (ℕ × List ℕ)) → lookup (nat_eq k) es ≡ None → length (insert_entry nat_eq es k v) ≡ length es + 1
length-insert_entry k v [] none = omega arith
length-insert_entry k v (e ∷ es) none =
    by_test (nat_eq k e.0)
    (λ is. let no = rw is at none in cc)
    (λ is. let more = length-insert_entry k v es (rw is at none) in rw is (omega (arith, more)))

put_grows : (k : ℕ) (v : List ℕ) (es : List (ℕ × List ℕ)) → length es ≤ length (insert_entry nat_eq es k v)
put_grows k v [] = omega arith
put_grows k v (e ∷ es) = by_test (nat_eq k e.0) (λ is. rw is (omega arith)) (λ is. let more = put_grows k v es in rw is (omega (arith, more)))

-- no block is taken out
pub with_blocks_grows : (n lba : ℕ) (es : List (ℕ × List ℕ)) (out : List ℕ) → length es ≤ length (with_blocks es lba n out)
unfolding with_blocks
with_blocks_grows zero lba es out = omega arith
with_blocks_grows (suc n) lba es out =
    let put = insert_entry nat_eq es lba (take 512 out) in
    omega (arith, put_grows lba (take 512 out) es, with_blocks_grows n (lba + 1) put (drop 512 out))

cons_cond : (x : ℕ) (b : Bool) (xs ys : List ℕ) → x ∷ cond b xs ys ≡ cond b (x ∷ xs) (x ∷ ys)
cons_cond x true xs ys = refl
cons_cond x false xs ys = refl

-- the places after one block was put
keys_put : (k : ℕ) (v : List ℕ) (es : List (ℕ × List ℕ)) → keys_of (insert_entry nat_eq es k v) ≡ cond (list_any (nat_eq k) (keys_of es)) (keys_of es) (keys_of es ++ k ∷ [])
keys_put k v [] = refl
keys_put k v (e ∷ es) =
    by_test (nat_eq k e.0)
    (λ is. rw is refl)
    (λ is. rw is (ap (λ ks. e.0 ∷ ks) (keys_put k v es) ∙ cons_cond e.0 (list_any (nat_eq k) (keys_of es)) (keys_of es) (keys_of es ++ k ∷ [])))

or_false : (b : Bool) → (b || false) ≡ b
or_false true = refl
or_false false = refl

-- one more place before these changes nothing of them
first_pushed : (ks : List ℕ) (k n from : ℕ) → k < from → first_written (ks ++ k ∷ []) from n ≡ first_written ks from n
first_pushed ks k zero from lt = refl
first_pushed ks k (suc n) from lt =
    let other : nat_eq from k ≡ false = grind (arith, nat_tests, lt) in
    let old = list_any (nat_eq from) ks in
    let same : list_any (nat_eq from) (ks ++ k ∷ []) ≡ old = any_pushed from k ks ∙ ap (λ b. old || b) other ∙ or_false old in
    let rest = first_written (ks ++ k ∷ []) (from + 1) n in
    ap (λ b. cond (not b) (from ∷ rest) rest) same ∙ ap (λ fs. cond (not old) (from ∷ fs) fs) (first_pushed ks k n (from + 1) (omega arith))

-- the places after a write: those that weren't there stand behind the others, in order
pub keys_with_blocks : (n lba : ℕ) (es : List (ℕ × List ℕ)) (out : List ℕ) → keys_of (with_blocks es lba n out) ≡ keys_of es ++ first_written (keys_of es) lba n
unfolding with_blocks
keys_with_blocks zero lba es out = sym (append-nil (keys_of es))
keys_with_blocks (suc n) lba es out =
    let put = insert_entry nat_eq es lba (take 512 out) in
    let ks = keys_of es in
    let more = first_written ks (lba + 1) n in
    let rest = keys_with_blocks n (lba + 1) put (drop 512 out) in
    let placed = keys_put lba (take 512 out) es in
    by_test (list_any (nat_eq lba) ks)
    (λ is.
    let same : keys_of put ≡ ks = placed ∙ ap (λ b. cond b ks (ks ++ lba ∷ [])) is in
    rest ∙ ap (λ qs. qs ++ first_written qs (lba + 1) n) same ∙ ap (λ b. ks ++ cond (not b) (lba ∷ more) more) (sym is))
    (λ is.
    let same : keys_of put ≡ ks ++ lba ∷ [] = placed ∙ ap (λ b. cond b ks (ks ++ lba ∷ [])) is in
    rest ∙ ap (λ qs. qs ++ first_written qs (lba + 1) n) same ∙ ap (λ fs. (ks ++ lba ∷ []) ++ fs) (first_pushed ks lba n (lba + 1) (omega arith))
    ∙ append_assoc ks (lba ∷ []) more ∙ ap (λ b. ks ++ cond (not b) (lba ∷ more) more) (sym is))

-- how many blocks there are after a write
pub length-with_blocks : (n lba : ℕ) (es : List (ℕ × List ℕ)) (out : List ℕ) → length (with_blocks es lba n out) ≡ length (keys_of es) + length (first_written (keys_of es) lba n)
length-with_blocks n lba es out =
    let all = with_blocks es lba n out in
    sym (length-map all (λ (e : ℕ × List ℕ). e.0)) ∙ ap length (keys_with_blocks n lba es out) ∙ length-append (keys_of es) (first_written (keys_of es) lba n)

few_kept : (b : Bool) (k : ℕ) (ks : List ℕ) (n : ℕ) → length ks ≤ n → length (cond b (k ∷ ks) ks) ≤ n + 1
few_kept true k ks n few = omega (arith, few)
few_kept false k ks n few = omega (arith, few)

-- no more places than were asked for
pub first_few : (ks : List ℕ) (n lba : ℕ) → length (first_written ks lba n) ≤ n
first_few ks zero lba = omega arith
first_few ks (suc n) lba =
    let few = few_kept (not (list_any (nat_eq lba) ks)) lba (first_written ks (lba + 1) n) n (first_few ks n (lba + 1)) in
    omega (arith, few)

last_one : (b : Bool) (k : ℕ) → length (cond (not b) (k ∷ []) []) ≡ cond b 0 1
last_one true k = refl
last_one false k = refl

-- the last place of a range
range_more : (n lba : ℕ) → range_with_len lba (suc n) ≡ range_with_len lba n ++ (lba + n) ∷ []
range_more zero lba = let same : lba ≡ lba + 0 = omega arith in ap (λ k. k ∷ []) same
range_more (suc n) lba =
    let same : lba + 1 + n ≡ lba + suc n = omega arith in
    ap (λ ks. lba ∷ ks) (range_more n (lba + 1)) ∙ ap (λ k. lba ∷ (range_with_len (lba + 1) n ++ k ∷ [])) same

-- one more place is counted where it wasn't written
pub first_more : (ks : List ℕ) (lba i : ℕ) → length (first_written ks lba (i + 1)) ≡ length (first_written ks lba i) + cond (list_any (nat_eq (lba + i)) ks) 0 1
first_more ks lba i =
    let test = λ (place : ℕ). not (list_any (nat_eq place) ks) in
    let before = first_written ks lba i in
    let one = filter test ((lba + i) ∷ []) in
    let all : first_written ks lba (i + 1) ≡ before ++ one =
    (let next : i + 1 ≡ suc i = omega arith in ap (λ n. filter test (range_with_len lba n)) next) ∙ ap (filter test) (range_more i lba) ∙ filter-append test (range_with_len lba i) ((lba + i) ∷ []) in
    ap length all ∙ length-append before one ∙ ap (λ n. length before + n) (last_one (list_any (nat_eq (lba + i)) ks) (lba + i))
