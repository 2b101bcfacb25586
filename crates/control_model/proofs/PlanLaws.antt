-- What a plan's phases keep, phase by phase.
use Rattle.std.proofs.Common.{◌≡◌, ◌∙◌, ℕ, zero, suc, take, drop, ◌+◌, ◌<◌, ◌≤◌, All, List, [], ◌∷◌, length, map, get_or, slice_get, None, refl, sym, ap, subst, arith, length-drop, ◌++◌}
use Rattle.std.proofs.lemmas.List.Elements.{All-get_or}
use Rattle.std.proofs.lemmas.Option.{slice_get_past}
use Rattle.std.proofs.Math.ListN.{get_or-map}
use Rattle.std.proofs.lemmas.List.{length-map, length-take, get_or-map as get_or-map_in}
use Rattle.std.specs.List.{range_with_len}
use native.Mathlib.Numerals.{unary_clauses}
use Rattle.vmbus_msg.specs.declared.msg.Msg.{Msg}
use Rattle.vmbus_msg.specs.declared.msg.Msg.TheVariants.{GpadlBody}
use Rattle.gpadl.specs.Cut.{AreMessagesOf}
use Rattle.contact.specs.declared.kind.Kind.{Kind}
use Rattle.contact.specs.Classes.{offers_from}

-- what holds of all openings of all phases holds of each
pub all_of : {X V : Type 0} (P : X → Type 0) (f : V → List X) (phases : List V) (i j : ℕ) (v : V) (x : X) → i < length phases → v ≡ get_or phases i v → j < length (f v) → x ≡ get_or (f v) j x → All (λ os. All P os) (map f phases) → P x
all_of P f phases i j v x i_in is j_in item all =
    let here : get_or (map f phases) i (f v) ≡ f v = get_or-map f phases i v ∙ ap f (sym is) in
    let phase : All P (f v) = subst (λ os. All P os) here (All-get_or (λ os. All P os) (map f phases) i (f v) (omega (arith, i_in, length-map phases f)) all) in
    subst P (sym item) (All-get_or P (f v) j x j_in phase)

-- what holds of each phase holds of this one
pub one_of : {X V : Type 0} (P : List X → Type 0) (f : V → List X) (phases : List V) (i : ℕ) (v : V) → i < length phases → v ≡ get_or phases i v → All P (map f phases) → P (f v)
one_of P f phases i v i_in is all =
    let here : get_or (map f phases) i (f v) ≡ f v = get_or-map f phases i v ∙ ap f (sym is) in
    subst P here (All-get_or P (map f phases) i (f v) (omega (arith, i_in, length-map phases f)) all)

-- past the end of a phase there is no opening
pub none_past : {X V : Type 0} (f : V → List X) (phases : List V) (i j : ℕ) (v : V) → i < length phases → v ≡ get_or phases i v → length (f v) ≤ j → slice_get (get_or (map f phases) i []) j ≡ None
none_past f phases i j v i_in is past =
    let here : get_or (map f phases) i [] ≡ f v = get_or-map_in f phases i v [] i_in ∙ ap f (sym is) in
    subst (λ os. slice_get os j ≡ None) (sym here) (slice_get_past (f v) j past)

-- there is an offer for each kind
pub offers_length : (relid : ℕ) (kinds : List Kind) → length (offers_from relid kinds) ≡ length kinds
offers_length relid [] = refl
offers_length relid (kind ∷ kinds) = ap (λ n. suc n) (offers_length (relid + 1) kinds)

-- one number more
pub range_more : (a n : ℕ) → range_with_len a (n + 1) ≡ range_with_len a n ++ (a + n) ∷ []
range_more a zero = simp unary_clauses refl
range_more a (suc n) =
    let one : suc n + 1 ≡ suc (n + 1) = omega arith in
    let last : (a + 1) + n ≡ a + suc n = omega arith in
    ap (range_with_len a) one ∙ ap (λ xs. a ∷ xs) (range_more (a + 1) n) ∙ ap (λ k. a ∷ (range_with_len (a + 1) n ++ k ∷ [])) last

-- a list of 54 pages at most has a header and a body, and one of 82 at most has a body more
nothing_past : (xs : List ℕ) → length xs ≤ 54 → length (take 28 (drop 28 (drop 26 xs))) ≡ 0
nothing_past xs few =
    let a = length-take 28 (drop 28 (drop 26 xs)) in
    let b = length-drop 28 (drop 26 xs) in
    let c = length-drop 26 xs in
    omega (arith, a, b, c, few)

pub messages_few : (relid gpadl : ℕ) (pages : List ℕ) (ms : List Msg) → length pages ≤ 54 → AreMessagesOf relid gpadl pages ms → length ms ≤ 2
messages_few relid gpadl pages [] few are = omega arith
messages_few relid gpadl pages (m ∷ []) few are = omega arith
messages_few relid gpadl pages (m ∷ (n ∷ [])) few are = omega arith
messages_few relid gpadl pages (m ∷ (n ∷ (GpadlBody b ∷ ms))) few are =
    let some = b.in_form.0 in
    let none : length b.frames ≡ 0 = ap length are.1.1.0.3 ∙ nothing_past pages few in
    absurd (omega (arith, some, none))
messages_few relid gpadl pages (m ∷ (n ∷ (_ ∷ ms))) few are = absurd are.1.1.0

nothing_more : (xs : List ℕ) → length xs ≤ 82 → length (take 28 (drop 28 (drop 28 (drop 26 xs)))) ≡ 0
nothing_more xs few =
    let a = length-take 28 (drop 28 (drop 28 (drop 26 xs))) in
    let b = length-drop 28 (drop 28 (drop 26 xs)) in
    let c = length-drop 28 (drop 26 xs) in
    let d = length-drop 26 xs in
    omega (arith, a, b, c, d, few)

pub messages_three : (relid gpadl : ℕ) (pages : List ℕ) (ms : List Msg) → length pages ≤ 82 → AreMessagesOf relid gpadl pages ms → length ms ≤ 3
messages_three relid gpadl pages [] few are = omega arith
messages_three relid gpadl pages (m ∷ []) few are = omega arith
messages_three relid gpadl pages (m ∷ (n ∷ [])) few are = omega arith
messages_three relid gpadl pages (m ∷ (n ∷ (l ∷ []))) few are = omega arith
messages_three relid gpadl pages (m ∷ (n ∷ (l ∷ (GpadlBody d ∷ ms)))) few are =
    let some = d.in_form.0 in
    let none : length d.frames ≡ 0 = ap length are.1.1.1.0.3 ∙ nothing_more pages few in
    absurd (omega (arith, some, none))
messages_three relid gpadl pages (m ∷ (n ∷ (l ∷ (_ ∷ ms)))) few are = absurd are.1.1.1.0
