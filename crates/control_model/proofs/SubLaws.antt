-- The sub-channels of a device, and the order in which a phase's channels are closed.
use Rattle.std.proofs.Common.{◌≡◌, ◌∙◌, ℕ, zero, suc, ◌+◌, ◌-◌, ◌<◌, ◌≤◌, ◌==◌, nat_lt, Bool, true, false, not, cond, if◌then◌else◌, List, [], ◌∷◌, ◌++◌, length, take, drop, slice_get, Some, None, refl, sym, ap, subst, append_assoc, length-append, length-drop, arith}
use Rattle.std.proofs.lemmas.Option.{slice_get_past}
use Rattle.std.proofs.lemmas.Bool.{eqb-true}
use Rattle.std.proofs.lemmas.Bool.Decides.{nat_tests}
use Rattle.std.specs.List.{position, position_or_len}
use Rattle.control_model.specs.declared.opening.Opening.{Opening}
use Rattle.control_model.specs.Plan.{is_sub, is_of_sub, first_subs, subs_next, behind_subs, in_closing_order, Seated}
use Rattle.control_model.specs.Places.{sub_at, is_first_at, closing_place}

-- the place of the first one that is no sub-channel
abbrev is_first : Opening → Bool
is_first o = o.sub == 0

take_one : (o : Opening) (os : List Opening) (n : ℕ) (b : Bool) → first_subs os ≡ take n os → (if not b then o ∷ first_subs os else []) ≡ take (cond (not b) (1 + n) 0) (o ∷ os)
take_one o os n true e = refl
take_one o os n false e = let one : suc n ≡ 1 + n = omega arith in ap (λ (xs : List Opening). o ∷ xs) e ∙ ap (λ k. take k (o ∷ os)) one

pub first_is : (os : List Opening) → first_subs os ≡ take (position_or_len is_first os) os
first_is [] = refl
first_is (o ∷ os) = take_one o os (position_or_len is_first os) (o.sub == 0) (first_is os)

place_found : (k len n : ℕ) (b : Bool) → cond b (Some k) None ≡ Some n → k ≡ n
place_found k len n true e = cc
place_found k len n false e = absurd (cc)

place_none : (k len : ℕ) (b : Bool) → nat_lt k len ≡ b → cond b (Some k) None ≡ None → len ≤ k
place_none k len true test e = absurd (cc)
place_none k len false test e = grind (arith, nat_tests, test)

-- as far as the first one that is no sub-channel
pub first_some : (os : List Opening) (n : ℕ) → position is_first os ≡ Some n → take n os ≡ first_subs os
first_some os n e =
    let k = position_or_len is_first os in
    let same : k ≡ n = place_found k (length os) n (nat_lt k (length os)) e in
    ap (λ m. take m os) (sym same) ∙ sym (first_is os)

take_whole : (os : List Opening) (n : ℕ) → length os ≤ n → take n os ≡ os
take_whole [] zero long = refl
take_whole [] (suc n) long = refl
take_whole (o ∷ os) zero long = absurd (omega (arith, long))
take_whole (o ∷ os) (suc n) long = ap (λ (xs : List Opening). o ∷ xs) (take_whole os n (omega (arith, long)))

pub first_all : (os : List Opening) → position is_first os ≡ None → os ≡ first_subs os
first_all os e =
    let k = position_or_len is_first os in
    let long : length os ≤ k = place_none k (length os) (nat_lt k (length os)) refl e in
    sym (take_whole os k long) ∙ sym (first_is os)

first_few : (os : List Opening) → length (first_subs os) ≤ length os
first_few [] = omega arith
first_few (o ∷ os) = few_one o os (is_sub o) (first_few os)
  where
    few_one : (o : Opening) (os : List Opening) (b : Bool) → length (first_subs os) ≤ length os → length (if b then o ∷ first_subs os else []) ≤ suc (length os)
    few_one o os true few = omega (arith, few)
    few_one o os false few = omega arith

rest_whole : (os : List Opening) (n : ℕ) → take (length os - n) (drop n os) ≡ drop n os
rest_whole os n = let long = length-drop n os in take_whole (drop n os) (length os - n) (omega (arith, long))

-- up to the next first channel, or to the end
pub behind_some : (os : List Opening) (start count : ℕ) → position is_first (take (length os - start) (drop start os)) ≡ Some count → take count (take (length os - start) (drop start os)) ≡ first_subs (drop start os)
behind_some os start count found =
    let whole = rest_whole os start in
    ap (take count) whole ∙ first_some (drop start os) count (ap (position is_first) (sym whole) ∙ found)

pub behind_all : (os : List Opening) (start : ℕ) → position is_first (take (length os - start) (drop start os)) ≡ None → take (length os - start) (drop start os) ≡ first_subs (drop start os)
behind_all os start found =
    let whole = rest_whole os start in
    whole ∙ first_all (drop start os) (ap (position is_first) (sym whole) ∙ found)

-- behind a first channel
next_law : (os : List Opening) (place : ℕ) → is_first_at os place ≡ true → first_subs (drop (place + 1) os) ≡ subs_next (drop place os)
next_law [] place e = absurd (let wrong : false ≡ true = e in cc)
next_law (o ∷ os) zero e = sym (ap (λ b. if b then [] else first_subs os) (ap not e))
next_law (o ∷ os) (suc n) e = let one : suc n + 1 ≡ suc (n + 1) = omega arith in ap (λ k. first_subs (drop k (o ∷ os))) one ∙ next_law os n e

next_none : (os : List Opening) (place : ℕ) → is_first_at os place ≡ false → [] ≡ subs_next (drop place os)
next_none [] zero e = refl
next_none [] (suc n) e = refl
next_none (o ∷ os) zero e = sym (ap (λ b. if b then [] else first_subs os) (ap not e))
next_none (o ∷ os) (suc n) e = next_none os n e

pub next_is : (r os : List Opening) (place : ℕ) (b : Bool) → r ≡ first_subs (drop (place + 1) os) → b ≡ is_first_at os place → b ≡ true → r ≡ subs_next (drop place os)
next_is r os place b is test yes_so = is ∙ next_law os place (sym test ∙ yes_so)

pub none_is : (os : List Opening) (place : ℕ) (b : Bool) → b ≡ is_first_at os place → b ≡ false → [] ≡ subs_next (drop place os)
none_is os place b test not_so = next_none os place (sym test ∙ not_so)

next_few_one : (os : List Opening) → length (subs_next os) ≤ length os
next_few_one [] = omega arith
next_few_one (o ∷ os) = one os (is_sub o) (first_few os)
  where
    one : (os : List Opening) (b : Bool) → length (first_subs os) ≤ length os → length (if b then [] else first_subs os) ≤ suc (length os)
    one os true few = omega arith
    one os false few = omega (arith, few)

pub next_few : (os : List Opening) (n : ℕ) → length (subs_next (drop n os)) ≤ length os
next_few os n = let few = next_few_one (drop n os) in let long = length-drop n os in omega (arith, few, long)

-- closing order
pub by_test : {P : Type 0} (b : Bool) → (b ≡ true → P) → (b ≡ false → P) → P
by_test true f g = f refl
by_test false f g = g refl

pub none_by : (n : ℕ) → not (n == 0) ≡ false → n ≡ 0
none_by n e = by_test {P = n ≡ 0} (n == 0) (λ t. eqb-true n 0 t) (λ f. let wrong : true ≡ false = sym (ap not f) ∙ e in absurd (cc))

pub some_by : (n : ℕ) → not (n == 0) ≡ true → 1 ≤ n
some_by n e = by_test {P = 1 ≤ n} (n == 0) (λ t. let wrong : false ≡ true = sym (ap not t) ∙ e in absurd (cc)) (λ f. grind (arith, nat_tests, f))

get_at : (front : List Opening) (o : Opening) (back : List Opening) (n : ℕ) → n ≡ length front → slice_get (front ++ o ∷ back) n ≡ Some o
get_at [] o back zero is = refl
get_at [] o back (suc n) is = absurd (omega (arith, is))
get_at (p ∷ front) o back zero is = absurd (omega (arith, is))
get_at (p ∷ front) o back (suc n) is = get_at front o back n (omega (arith, is))

-- the device's first channel stands where its sub-channels end
no_next : (whole : List Opening) (place n : ℕ) (last : Opening) → is_of_sub (slice_get whole (place + 1)) ≡ false → slice_get whole place ≡ Some last → place - last.sub ≡ n → closing_place whole place ≡ n
no_next whole place n last none is at = ap (λ b. if b then place + 1 else place - sub_at (slice_get whole place)) none ∙ ap (λ x. place - sub_at x) is ∙ at

abbrev ClosesSo : List Opening → ℕ → List Opening → Type 0
ClosesSo whole place os =
    (before : List Opening) (first : Opening) (passed : List Opening) (last : Opening) (i : ℕ) → whole ≡ before ++ (first ∷ (passed ++ os)) → place ≡ length before + length passed + i → i ≤ length os
    → slice_get whole (length before + length passed) ≡ Some last → last.sub ≡ length passed → Seated (length passed + 1) os → slice_get (behind_subs first os) i ≡ slice_get whole (closing_place whole place)

closes_last : (whole : List Opening) (place : ℕ) → ClosesSo whole place []
closes_last whole place before first passed last zero is at less here numbered seated =
    let long = ap length is in
    let a = length-append before (first ∷ (passed ++ [])) in
    let b = length-append passed [] in
    let past : slice_get whole (place + 1) ≡ None = slice_get_past whole (place + 1) (omega (arith, long, a, b, at)) in
    let same : place ≡ length before + length passed = omega (arith, at) in
    let target : closing_place whole place ≡ length before = no_next whole place (length before) last (ap is_of_sub past) (ap (slice_get whole) same ∙ here) (omega (arith, at, numbered)) in
    sym (ap (slice_get whole) target ∙ ap (λ (w : List Opening). slice_get w (length before)) is ∙ get_at before first (passed ++ []) (length before) refl)
closes_last whole place before first passed last (suc i) is at less here numbered seated = absurd (omega (arith, less))

sub_case : (whole : List Opening) (place : ℕ) (o : Opening) (os : List Opening) → ClosesSo whole place os → (before : List Opening) (first : Opening) (passed : List Opening) (i : ℕ) → whole ≡ before ++ (first ∷ (passed ++ (o ∷ os))) → place ≡ length before + length passed + i → i ≤ suc (length os)
    → is_sub o ≡ true → slice_get whole (length before + length passed + 1) ≡ Some o → Seated (length passed + 1) (o ∷ os) → slice_get (o ∷ behind_subs first os) i ≡ slice_get whole (closing_place whole place)
sub_case whole place o os again before first passed zero is at less e next seated =
    let same : place + 1 ≡ length before + length passed + 1 = omega (arith, at) in
    let there : slice_get whole (place + 1) ≡ Some o = ap (slice_get whole) same ∙ next in
    let target : closing_place whole place ≡ place + 1 = ap (λ b. if b then place + 1 else place - sub_at (slice_get whole place)) (ap is_of_sub there ∙ e) in
    sym (ap (slice_get whole) target ∙ there)
sub_case whole place o os again before first passed (suc i) is at less e next seated =
    let more = length-append passed (o ∷ []) in
    let mid : passed ++ (o ∷ os) ≡ (passed ++ (o ∷ [])) ++ os = sym (append_assoc passed (o ∷ []) os) in
    let number : o.sub ≡ length passed + 1 = seated.0 e in
    let spot : length before + length (passed ++ (o ∷ [])) ≡ length before + length passed + 1 = omega (arith, more) in
    let one : o.sub + 1 ≡ length (passed ++ (o ∷ [])) + 1 = omega (arith, number, more) in
    again before first (passed ++ (o ∷ [])) o i (is ∙ ap (λ (xs : List Opening). before ++ (first ∷ xs)) mid) (omega (arith, at, more)) (omega (arith, less)) (ap (slice_get whole) spot ∙ next) (omega (arith, number, more)) (subst (λ n. Seated n os) one seated.1)

first_case : (whole : List Opening) (place : ℕ) (o : Opening) (os : List Opening) → ClosesSo whole place os → (before : List Opening) (first : Opening) (passed : List Opening) (last : Opening) (i : ℕ) → whole ≡ before ++ (first ∷ (passed ++ (o ∷ os))) → place ≡ length before + length passed + i → i ≤ suc (length os)
    → is_sub o ≡ false → slice_get whole (length before + length passed + 1) ≡ Some o → slice_get whole (length before + length passed) ≡ Some last → last.sub ≡ length passed → Seated (o.sub + 1) os → slice_get (first ∷ behind_subs o os) i ≡ slice_get whole (closing_place whole place)
first_case whole place o os again before first passed last zero is at less e next here numbered seated =
    let same : place ≡ length before + length passed = omega (arith, at) in
    let behind : place + 1 ≡ length before + length passed + 1 = omega (arith, at) in
    let target : closing_place whole place ≡ length before = no_next whole place (length before) last (ap is_of_sub (ap (slice_get whole) behind ∙ next) ∙ e) (ap (slice_get whole) same ∙ here) (omega (arith, at, numbered)) in
    sym (ap (slice_get whole) target ∙ ap (λ (w : List Opening). slice_get w (length before)) is ∙ get_at before first (passed ++ (o ∷ os)) (length before) refl)
first_case whole place o os again before first passed last (suc i) is at less e next here numbered seated =
    let join : before ++ (first ∷ (passed ++ (o ∷ os))) ≡ (before ++ (first ∷ passed)) ++ (o ∷ os) = sym (append_assoc before (first ∷ passed) (o ∷ os)) in
    let front = length-append before (first ∷ passed) in
    let none : o.sub ≡ 0 = none_by o.sub e in
    let spot : length (before ++ (first ∷ passed)) + 0 ≡ length before + length passed + 1 = omega (arith, front) in
    let one : o.sub + 1 ≡ 0 + 1 = omega (arith, none) in
    again (before ++ (first ∷ passed)) o [] o i (is ∙ join) (omega (arith, at, front)) (omega (arith, less)) (ap (slice_get whole) spot ∙ next) none (subst (λ n. Seated n os) one seated)

closes : (whole : List Opening) (place : ℕ) (os : List Opening) → ClosesSo whole place os
closes whole place [] = closes_last whole place
closes whole place (o ∷ os) = λ before first passed last i is at less here numbered seated.
    let join : before ++ (first ∷ (passed ++ (o ∷ os))) ≡ (before ++ (first ∷ passed)) ++ (o ∷ os) = sym (append_assoc before (first ∷ passed) (o ∷ os)) in
    let front = length-append before (first ∷ passed) in
    let next : slice_get whole (length before + length passed + 1) ≡ Some o = ap (λ (w : List Opening). slice_get w (length before + length passed + 1)) (is ∙ join) ∙ get_at (before ++ (first ∷ passed)) o os (length before + length passed + 1) (omega (arith, front)) in
    by_test {P = slice_get (behind_subs first (o ∷ os)) i ≡ slice_get whole (closing_place whole place)} (is_sub o)
    (λ e. ap (λ b. slice_get (if b then o ∷ behind_subs first os else first ∷ behind_subs o os) i) e ∙ sub_case whole place o os (closes whole place os) before first passed i is at less e next seated)
    (λ e. ap (λ b. slice_get (if b then o ∷ behind_subs first os else first ∷ behind_subs o os) i) e ∙ first_case whole place o os (closes whole place os) before first passed last i is at less e next here numbered seated.1)

behind_length : (first : Opening) (os : List Opening) → length (behind_subs first os) ≡ suc (length os)
behind_length first [] = refl
behind_length first (o ∷ os) = one first o os (is_sub o) (behind_length first os) (behind_length o os)
  where
    one : (first o : Opening) (os : List Opening) (b : Bool) → length (behind_subs first os) ≡ suc (length os) → length (behind_subs o os) ≡ suc (length os) → length (if b then o ∷ behind_subs first os else first ∷ behind_subs o os) ≡ suc (suc (length os))
    one first o os true e f = ap (λ n. suc n) e
    one first o os false e f = ap (λ n. suc n) f

first_none : (o : Opening) → (is_sub o ≡ true → o.sub ≡ 0) → o.sub ≡ 0
first_none o numbered = by_test {P = o.sub ≡ 0} (o.sub == 0) (λ t. eqb-true o.sub 0 t) (λ f. numbered (ap not f))

-- the opening with a place in closing order stands at its closing place
pub closing_law : (os : List Opening) (place : ℕ) → Seated 0 os → slice_get (in_closing_order os) place ≡ slice_get os (closing_place os place)
closing_law [] place seated = slice_get_past [] place (omega arith) ∙ sym (slice_get_past [] (closing_place [] place) (omega arith))
closing_law (o ∷ os) place seated =
    let none : o.sub ≡ 0 = first_none o seated.0 in
    let chain : Seated (0 + 1) os = subst (λ n. Seated n os) (let s : o.sub + 1 ≡ 0 + 1 = omega (arith, none) in s) seated.1 in
    by_test {P = slice_get (behind_subs o os) place ≡ slice_get (o ∷ os) (closing_place (o ∷ os) place)} (nat_lt place (suc (length os)))
    (λ e. let less : place < suc (length os) = grind (arith, nat_tests, e) in closes (o ∷ os) place os [] o [] o place refl (omega arith) (omega (arith, less)) refl none chain)
    (λ e.
    let long : suc (length os) ≤ place = grind (arith, nat_tests, e) in
    let here : slice_get (o ∷ os) place ≡ None = slice_get_past (o ∷ os) place long in
    let next : slice_get (o ∷ os) (place + 1) ≡ None = slice_get_past (o ∷ os) (place + 1) (omega (arith, long)) in
    let target : closing_place (o ∷ os) place ≡ place = ap (λ x. if is_of_sub x then place + 1 else place - sub_at (slice_get (o ∷ os) place)) next ∙ ap (λ x. place - sub_at x) here ∙ (let all : place - 0 ≡ place = omega arith in all) in
    slice_get_past (behind_subs o os) place (let l = behind_length o os in omega (arith, l, long)) ∙ sym (ap (slice_get (o ∷ os)) target ∙ here))

-- past the end there is none
pub closing_none : (os : List Opening) (place : ℕ) → length os ≤ place → None ≡ slice_get (in_closing_order os) place
closing_none [] place long = sym (slice_get_past [] place (omega arith))
closing_none (o ∷ os) place long = let l = behind_length o os in sym (slice_get_past (behind_subs o os) place (omega (arith, l, long)))
