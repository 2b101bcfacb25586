-- Channels that are marked, and lists of channels that stand so.
use Rattle.std.proofs.Common.{◌||◌, ◌&&◌, ◌≡◌, ◌≢◌, ◌∙◌, ℕ, zero, suc, ◌+◌, ◌-◌, ◌<◌, ◌≤◌, ◌==◌, nat_le, Bool, true, false, List, [], ◌∷◌, ◌++◌, length, replicate, slice_get, slice_set, Some, if◌then◌else◌, refl, sym, ap, subst, ⊎_elim, length-append, arith}
use Rattle.std.specs.List.{AllByRecursion}
use Rattle.std.proofs.lemmas.Bool.{eq-eqb, eqb-true, cases_eq}
use Rattle.std.proofs.lemmas.Bool.Decides.{nat_tests}
use Rattle.std.proofs.lemmas.List.{length-set, length-replicate}
use Rattle.control_laws.proofs.Words.{Opening}
use Rattle.control_model.specs.Channels.{by_relid}
use Rattle.control_model.specs.Stand.{marked, Stand}

pub by_place : {P : Type 0} (a b : ℕ) → (a ≡ b → P) → (a ≢ b → P) → P
by_place a b f g = ⊎_elim f g (cases_eq a b)

pub by_test : {P : Type 0} (b : Bool) → (b ≡ true → P) → (b ≡ false → P) → P
by_test true f g = f refl
by_test false f g = g refl

pub or_true : (a : Bool) → (a || true) ≡ true
or_true true = refl
or_true false = refl

pub or_false : (a : Bool) → (a || false) ≡ a
or_false true = refl
or_false false = refl

pub and_none : (a : Bool) → (a && false) ≡ false
and_none true = refl
and_none false = refl

pub same : (n : ℕ) → (n == n) ≡ true
same n = eq-eqb n n refl

pub differ : (a b : ℕ) → a ≢ b → (a == b) ≡ false
differ a b off = grind (arith, nat_tests, off)

module _ {X : Type 0} (so : Opening → X) where
  pub marked_apart : (os : List Opening) (before : ℕ → X) (relid : ℕ) → AllByRecursion (λ o. o.relid ≢ relid) os → marked so os before relid ≡ before relid
  marked_apart [] before relid apart = refl
  marked_apart (o ∷ os) before relid apart = rw (differ o.relid relid apart.0) (marked_apart os before relid apart.1)

  pub marked_like : (os : List Opening) (before after : ℕ → X) (relid : ℕ) → before relid ≡ after relid → marked so os before relid ≡ marked so os after relid
  marked_like [] before after relid like = like
  marked_like (o ∷ os) before after relid like = ap (λ x. if o.relid == relid then so o else x) (marked_like os before after relid like)

  pub marked_append : (os ps : List Opening) (before : ℕ → X) (relid : ℕ) → marked so (os ++ ps) before relid ≡ marked so os (marked so ps before) relid
  marked_append [] ps before relid = refl
  marked_append (o ∷ os) ps before relid = ap (λ x. if o.relid == relid then so o else x) (marked_append os ps before relid)

  pub marked_has : (P : X → Type 0) (os : List Opening) (before : ℕ → X) (relid : ℕ) → AllByRecursion (λ o. P (so o)) os → P (before relid) → P (marked so os before relid)
  marked_has P [] before relid all rest = rest
  marked_has P (o ∷ os) before relid all rest = by_test {P = P (if o.relid == relid then so o else marked so os before relid)} (o.relid == relid) (λ e. rw e all.0) (λ e. rw e (marked_has P os before relid all.1 rest))

  pub marked_at : (P : X → Type 0) (os : List Opening) (before : ℕ → X) (relid : ℕ) → AllByRecursion (λ o. o.relid ≡ relid → P (so o)) os → P (before relid) → P (marked so os before relid)
  marked_at P [] before relid all rest = rest
  marked_at P (o ∷ os) before relid all rest = by_test {P = P (if o.relid == relid then so o else marked so os before relid)} (o.relid == relid)
      (λ e. rw e (all.0 (eqb-true o.relid relid e)))
      (λ e. rw e (marked_at P os before relid all.1 rest))

  pub marked_here : (o : Opening) (os : List Opening) (before : ℕ → X) → marked so (o ∷ os) before o.relid ≡ so o
  marked_here o os before = rw (same o.relid) refl

  pub marked_there : (o : Opening) (os : List Opening) (before : ℕ → X) (relid : ℕ) → relid ≢ o.relid → marked so (o ∷ os) before relid ≡ marked so os before relid
  marked_there o os before relid off = rw (differ o.relid relid (λ e. off (sym e))) refl

-- what is set is read, and the others stay
pub get_set : {X : Type 0} (xs : List X) (i : ℕ) (x : X) → i < length xs → slice_get (slice_set xs i x) i ≡ Some x
get_set [] i x within = absurd (omega (arith, within))
get_set (y ∷ ys) zero x within = refl
get_set (y ∷ ys) (suc i) x within = get_set ys i x (omega (arith, within))

pub get_set_other : {X : Type 0} (xs : List X) (i j : ℕ) (x : X) → j ≢ i → slice_get (slice_set xs i x) j ≡ slice_get xs j
get_set_other [] i j x off = refl
get_set_other (y ∷ ys) zero zero x off = absurd (off refl)
get_set_other (y ∷ ys) zero (suc j) x off = refl
get_set_other (y ∷ ys) (suc i) zero x off = refl
get_set_other (y ∷ ys) (suc i) (suc j) x off = get_set_other ys i j x (λ e. off (ap (λ n. suc n) e))

-- a relid is a place
pub at_relid : {X : Type 0} (channels : List X) (relid : ℕ) → 1 ≤ relid → by_relid channels relid ≡ slice_get channels (relid - 1)
at_relid channels relid some = rw (differ relid 0 (λ e. absurd (omega (arith, some, e)))) refl

-- one channel stands otherwise now
pub stand_now : {X : Type 0} (channels : List X) (count : ℕ) (stands after : ℕ → X) (relid : ℕ) (x : X) → Stand channels count stands → 1 ≤ relid → relid ≤ count → after relid ≡ x → ((q : ℕ) → q ≢ relid → after q ≡ stands q)
    → Stand (slice_set channels (relid - 1) x) count after
stand_now channels count stands after relid x old some within here there = record {
  many = length-set channels (relid - 1) x ∙ old.many;
  each = λ q one few. by_place q relid
      (λ e. let many = old.many in let fits : relid - 1 < length channels = omega (arith, many, some, within) in
      let P : ℕ → Type 0 = λ r. by_relid (slice_set channels (relid - 1) x) r ≡ Some (after r) in
      subst P (sym e) (at_relid (slice_set channels (relid - 1) x) relid some ∙ get_set channels (relid - 1) x fits ∙ ap Some (sym here)))
      (λ off. let apart : q - 1 ≢ relid - 1 = λ e. off (omega (arith, e, one, some)) in
      at_relid (slice_set channels (relid - 1) x) q one ∙ get_set_other channels (relid - 1) (q - 1) x apart ∙ sym (at_relid channels q one) ∙ old.each q one few ∙ ap Some (sym (there q off)));
}

-- the same, told otherwise
pub stand_like : {X : Type 0} (channels : List X) (count : ℕ) (stands after : ℕ → X) → Stand channels count stands → ((q : ℕ) → after q ≡ stands q) → Stand channels count after
stand_like channels count stands after old like = record { many = old.many; each = λ q one few. old.each q one few ∙ ap Some (sym (like q)) }

-- behind marked channels, one more is marked
pub stand_mark : {X : Type 0} (channels : List X) (count : ℕ) (a b : Opening → X) (done : List Opening) (o : Opening) (before base : ℕ → X) → Stand channels count (marked a done before) → 1 ≤ o.relid → o.relid ≤ count
    → AllByRecursion (λ p. p.relid ≢ o.relid) done → ((q : ℕ) → q ≢ o.relid → base q ≡ before q) → Stand (slice_set channels (o.relid - 1) (b o)) count (marked a done (marked b (o ∷ []) base))
stand_mark channels count a b done o before base old some within apart like =
    stand_now channels count (marked a done before) (marked a done (marked b (o ∷ []) base)) o.relid (b o) old some within
    (marked_apart a done (marked b (o ∷ []) base) o.relid apart ∙ marked_here b o [] base)
    (λ q off. marked_like a done (marked b (o ∷ []) base) before q (marked_there b o [] base q off ∙ like q off))

-- and it joins those before it
pub stand_join : {X : Type 0} (channels : List X) (count : ℕ) (a : Opening → X) (done : List Opening) (o : Opening) (before base : ℕ → X) → Stand channels count (marked a done before) → 1 ≤ o.relid → o.relid ≤ count
    → AllByRecursion (λ p. p.relid ≢ o.relid) done → ((q : ℕ) → q ≢ o.relid → base q ≡ before q) → Stand (slice_set channels (o.relid - 1) (a o)) count (marked a (done ++ o ∷ []) base)
stand_join channels count a done o before base old some within apart like =
    stand_like (slice_set channels (o.relid - 1) (a o)) count (marked a done (marked a (o ∷ []) base)) (marked a (done ++ o ∷ []) base) (stand_mark channels count a a done o before base old some within apart like) (λ q. marked_append a done (o ∷ []) base q)

-- the channel of an opening
pub stand_at : {X : Type 0} (channels : List X) (count : ℕ) (a : Opening → X) (done : List Opening) (o : Opening) (before : ℕ → X) (x : X) → Stand channels count (marked a done before) → 1 ≤ o.relid → o.relid ≤ count
    → AllByRecursion (λ p. p.relid ≢ o.relid) done → before o.relid ≡ x → by_relid channels o.relid ≡ Some x
stand_at channels count a done o before x old some within apart is = old.each o.relid some within ∙ ap Some (marked_apart a done before o.relid apart ∙ is)

-- channels that are offered stand behind the others
get_front : {X : Type 0} (xs ys : List X) (i : ℕ) → i < length xs → slice_get (xs ++ ys) i ≡ slice_get xs i
get_front [] ys i less = absurd (omega (arith, less))
get_front (x ∷ xs) ys zero less = refl
get_front (x ∷ xs) ys (suc i) less = get_front xs ys i (omega (arith, less))

get_back : {X : Type 0} (xs ys : List X) (i j : ℕ) → i ≡ length xs + j → slice_get (xs ++ ys) i ≡ slice_get ys j
get_back [] ys i j is = let same_place : i ≡ j = omega (arith, is) in ap (slice_get ys) same_place
get_back (x ∷ xs) ys zero j is = absurd (omega (arith, is))
get_back (x ∷ xs) ys (suc i) j is = get_back xs ys i j (omega (arith, is))

get_same : {X : Type 0} (n i : ℕ) (x : X) → i < n → slice_get (replicate n x) i ≡ Some x
get_same zero i x less = absurd (omega (arith, less))
get_same (suc n) zero x less = refl
get_same (suc n) (suc i) x less = get_same n i x (omega (arith, less))

pub stand_add : {X : Type 0} (channels : List X) (count n : ℕ) (stands : ℕ → X) (x : X) → Stand channels count stands → ((q : ℕ) → count < q → q ≤ count + n → stands q ≡ x) → Stand (channels ++ replicate n x) (count + n) stands
stand_add channels count n stands x old offered =
    let many = old.many in
    record {
      many = omega (arith, length-append channels (replicate n x), length-replicate n x, many);
      each = λ q one few. by_test {P = by_relid (channels ++ replicate n x) q ≡ Some (stands q)} (nat_le q count)
          (λ e.
          let within : q ≤ count = grind (arith, nat_tests, e) in
          at_relid (channels ++ replicate n x) q one ∙ get_front channels (replicate n x) (q - 1) (omega (arith, one, within, many)) ∙ sym (at_relid channels q one) ∙ old.each q one within)
          (λ e.
          let behind : count < q = grind (arith, nat_tests, e) in
          let place : q - 1 ≡ length channels + (q - 1 - count) = omega (arith, one, behind, many) in
          at_relid (channels ++ replicate n x) q one ∙ get_back channels (replicate n x) (q - 1) (q - 1 - count) place ∙ get_same n (q - 1 - count) x (omega (arith, one, behind, few)) ∙ ap Some (sym (offered q behind few)));
    }
