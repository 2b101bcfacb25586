-- Handles that rise stay apart.
use Rattle.std.proofs.Common.{◌≡◌, ◌≢◌, ◌<◌, ◌≤◌, ◌+◌, ℕ, zero, suc, List, [], ◌∷◌, ◌++◌, length, set, get_or, eqb, Option, Some, None, Bool, true, false, is_some, cond, nat_lt, nat_le, refl, sym, ap, ◌∙◌, subst, ⊎_elim, arith}
use Rattle.std.proofs.lemmas.Bool.{cases_eq}
use Rattle.std.proofs.lemmas.Bool.Decides.{nat_tests}
use Rattle.std.proofs.lemmas.List.{get_or-set_same, get_or-set_other, get_or_default}
use Rattle.std.proofs.lemmas.List.Sums.{position_or_len_is}
use Rattle.std.specs.List.{position_or_len}
use Rattle.std.specs.Option.{option_eq}
use Rattle.control_model.specs.declared.channel.Channel.{Channel}
use Rattle.control_model.specs.Channels.{is_handle, place_of_list}
use Rattle.control_model.specs.Guest.{offered_channel}
use Rattle.guest_end.specs.Handles.{handle_at, IsApart, AreApart, behind, next_handle}

by_place : {P : Type 0} (a b : ℕ) → (a ≡ b → P) → (a ≢ b → P) → P
by_place a b f g = ⊎_elim f g (cases_eq a b)

-- the handles behind a change of one channel
at_same : (cs : List Channel) (p i : ℕ) (c : Channel) → p < length cs → i ≡ p → handle_at (set cs p c) i ≡ c.gpadl
at_same cs p i c within is = ap (λ k. handle_at (set cs p c) k) is ∙ ap (λ (d : Channel). d.gpadl) (get_or-set_same cs p c offered_channel within)

at_other : (cs : List Channel) (p i : ℕ) (c : Channel) → i ≢ p → handle_at (set cs p c) i ≡ handle_at cs i
at_other cs p i c off = ap (λ (d : Channel). d.gpadl) (get_or-set_other cs p i c offered_channel off)

-- where all handles are as before
apart_as : (next : ℕ) (cs ds : List Channel) → ((i : ℕ) → handle_at ds i ≡ handle_at cs i) → IsApart next cs → IsApart next ds
apart_as next cs ds same apart i j handle is = let it = apart i j handle (sym (same i) ∙ is) in (it.0, λ other. it.1 (sym (same j) ∙ other))

are_as : (rising : Option ℕ) (cs ds : List Channel) → ((i : ℕ) → handle_at ds i ≡ handle_at cs i) → AreApart rising cs → AreApart rising ds
are_as None cs ds same apart = tt
are_as (Some next) cs ds same apart = apart_as next cs ds same apart

kept_at : (cs : List Channel) (p : ℕ) (c : Channel) → p < length cs → c.gpadl ≡ handle_at cs p → (i : ℕ) → handle_at (set cs p c) i ≡ handle_at cs i
kept_at cs p c within same i = by_place i p (λ is. at_same cs p i c within is ∙ (same ∙ ap (handle_at cs) (sym is))) (λ off. at_other cs p i c off)

-- where the channel has no handle any more
none_some : {X : Type 0} (o : Option ℕ) (handle : ℕ) → o ≡ None → o ≡ Some handle → X
none_some o handle none some = absurd (cc (none, some))

apart_none : (next : ℕ) (cs : List Channel) (p : ℕ) (c : Channel) → p < length cs → c.gpadl ≡ None → IsApart next cs → IsApart next (set cs p c)
apart_none next cs p c within none apart i j handle is =
    by_place i p (λ e. none_some c.gpadl handle none (sym (at_same cs p i c within e) ∙ is))
    (λ off. let it = apart i j handle (sym (at_other cs p i c off) ∙ is) in
    (it.0, λ other. by_place j p (λ e. none_some c.gpadl handle none (sym (at_same cs p j c within e) ∙ other)) (λ off'. it.1 (sym (at_other cs p j c off') ∙ other))))

-- where it has a handle above all before
one_of : (a b : ℕ) → (let o : Option ℕ = Some a in o) ≡ Some b → a ≡ b
one_of a b e = cc e

apart_above : (next : ℕ) (cs : List Channel) (p new : ℕ) (c : Channel) → p < length cs → c.gpadl ≡ Some new → next ≤ new → IsApart next cs → IsApart (new + 1) (set cs p c)
apart_above next cs p new c within gets above apart i j handle is =
    by_place i p
    (λ e. let mine : new ≡ handle = one_of new handle (sym gets ∙ (sym (at_same cs p i c within e) ∙ is)) in (
      omega (arith, mine),
      λ other. by_place j p (λ e'. e' ∙ sym e) (λ off'.
          let low = (apart j j handle (sym (at_other cs p j c off') ∙ other)).0 in absurd (omega (arith, low, above, mine))),
    ))
    (λ off. let it = apart i j handle (sym (at_other cs p i c off) ∙ is) in (
      omega (arith, it.0, above),
      λ other. by_place j p
          (λ e'. let mine : new ≡ handle = one_of new handle (sym gets ∙ (sym (at_same cs p j c within e') ∙ other)) in absurd (omega (arith, it.0, above, mine)))
          (λ off'. it.1 (sym (at_other cs p j c off') ∙ other)),
    ))

are_none : (rising : Option ℕ) (cs : List Channel) (p : ℕ) (c : Channel) → p < length cs → c.gpadl ≡ None → AreApart rising cs → AreApart rising (set cs p c)
are_none None cs p c within none apart = tt
are_none (Some next) cs p c within none apart = apart_none next cs p c within none apart

are_behind : (rising : Option ℕ) (cs : List Channel) (p new : ℕ) (c : Channel) → p < length cs → c.gpadl ≡ Some new → AreApart rising cs → AreApart (behind rising new) (set cs p c)
are_behind None cs p new c within gets apart = tt
are_behind (Some next) cs p new c within gets apart = by_test (nat_le next new) refl
  where
    by_test : (b : Bool) → nat_le next new ≡ b → AreApart (cond b (Some (new + 1)) None) (set cs p c)
    by_test true e = apart_above next cs p new c within gets (grind (arith, nat_tests, e)) apart
    by_test false e = tt

held_is : (handle : ℕ) (o : Option ℕ) → is_handle handle o ≡ true → o ≡ Some handle
held_is handle None e = absurd (cc e)
held_is handle (Some k) e = let is : k ≡ handle = grind (arith, nat_tests, e) in ap Some is

pub put_apart : (rising : Option ℕ) (cs : List Channel) (p : ℕ) (c : Channel) → p < length cs → AreApart rising cs → AreApart (next_handle rising (handle_at cs p) c.gpadl) (set cs p c)
put_apart rising cs p c within apart = by_now c.gpadl refl
  where
    by_held : (new : ℕ) (b : Bool) → c.gpadl ≡ Some new → is_handle new (handle_at cs p) ≡ b → AreApart (cond b rising (behind rising new)) (set cs p c)
    by_held new true gets e = are_as rising cs (set cs p c) (kept_at cs p c within (gets ∙ sym (held_is new (handle_at cs p) e))) apart
    by_held new false gets e = are_behind rising cs p new c within gets apart

    by_now : (now : Option ℕ) → c.gpadl ≡ now → AreApart (next_handle rising (handle_at cs p) now) (set cs p c)
    by_now None none = are_none rising cs p c within none apart
    by_now (Some new) gets = by_held new (is_handle new (handle_at cs p)) gets refl

-- a channel without a handle joins
at_more : (cs : List Channel) (c : Channel) → c.gpadl ≡ None → (i : ℕ) → handle_at (cs ++ c ∷ []) i ≡ handle_at cs i
at_more [] c none zero = none
at_more [] c none (suc i) = refl
at_more (x ∷ cs) c none zero = refl
at_more (x ∷ cs) c none (suc i) = at_more cs c none i

pub more_apart : (rising : Option ℕ) (cs : List Channel) (c : Channel) → c.gpadl ≡ None → AreApart rising cs → AreApart rising (cs ++ c ∷ [])
more_apart rising cs c none apart = are_as rising cs (cs ++ c ∷ []) (at_more cs c none) apart

-- so the channel with a handle is the first one that has it
not_true : (b : Bool) → (b ≡ true → ⊥) → b ≡ false
not_true true never = absurd (never refl)
not_true false never = refl

apart_first : (next : ℕ) (cs : List Channel) (p handle : ℕ) → IsApart next cs → p < length cs → handle_at cs p ≡ Some handle → place_of_list cs handle ≡ Some p
apart_first next cs p handle apart within here =
    let test : Channel → Bool = λ channel. is_handle handle channel.gpadl in
    let mine : is_handle handle (handle_at cs p) ≡ true = ap (is_handle handle) here ∙ grind (arith, nat_tests) in
    let first : position_or_len test cs ≡ p = position_or_len_is test cs p offered_channel (omega (arith, within))
    (λ k less. not_true (is_handle handle (handle_at cs k)) (λ held. let same : k ≡ p = (apart p k handle here).1 (held_is handle (handle_at cs k) held) in absurd (omega (arith, same, less)))) (λ less. mine) in
    let fits : nat_lt p (length cs) ≡ true = grind (arith, nat_tests, within) in
    ap (λ n. cond (nat_lt n (length cs)) (Some n) None) first ∙ (rw fits refl)

pub alone_first : (rising : Option ℕ) (cs : List Channel) (p handle : ℕ) → is_some rising ≡ true → AreApart rising cs → p < length cs → handle_at cs p ≡ Some handle → place_of_list cs handle ≡ Some p
alone_first None cs p handle some apart within here = absurd (cc some)
alone_first (Some next) cs p handle some apart within here = apart_first next cs p handle apart within here

-- as it is found at a place
pub gpadl_is : (handle : ℕ) (o : Option ℕ) → option_eq eqb o (Some handle) ≡ true → o ≡ Some handle
gpadl_is handle None e = absurd (cc)
gpadl_is handle (Some k) e = let is : k ≡ handle = grind (arith, nat_tests, e) in ap Some is

pub there_alone : (rising : Option ℕ) (cs ds : List Channel) (place handle : ℕ) (c : Channel) → ds ≡ cs → place < length ds → c ≡ get_or ds place c → c.gpadl ≡ Some handle → is_some rising ≡ true → AreApart rising cs → place_of_list cs handle ≡ Some place
there_alone rising cs ds place handle c same within is own some apart =
    let low : place < length cs = subst (λ (l : List Channel). place < length l) same within in
    let here : handle_at ds place ≡ Some handle = ap (λ (d : Channel). d.gpadl) (get_or_default ds place offered_channel c within ∙ sym is) ∙ own in
    alone_first rising cs place handle some apart low (subst (λ (l : List Channel). handle_at l place ≡ Some handle) same here)

pub put_with : (rising new : Option ℕ) (cs : List Channel) (p : ℕ) (c d : Channel) → p < length cs → new ≡ next_handle rising (get_or cs p d).gpadl c.gpadl → AreApart rising cs → AreApart new (set cs p c)
put_with rising new cs p c d within is apart =
    subst (λ (r : Option ℕ). AreApart r (set cs p c)) (sym (is ∙ ap (λ (x : Channel). next_handle rising x.gpadl c.gpadl) (get_or_default cs p d offered_channel within))) (put_apart rising cs p c within apart)

-- a channel joins: without a handle, or nothing is known of handles any more
none_is : (o : Option ℕ) → is_some o ≡ false → o ≡ None
none_is None e = refl
none_is (Some k) e = absurd (cc)

pub offered_apart : (rising new : Option ℕ) (cs : List Channel) (c : Channel) → is_some c.gpadl ≡ false → new ≡ rising → AreApart rising cs → AreApart new (cs ++ c ∷ [])
offered_apart rising new cs c none is apart = subst (λ (r : Option ℕ). AreApart r (cs ++ c ∷ [])) (sym is) (more_apart rising cs c (none_is c.gpadl none) apart)

pub unknown_apart : (new : Option ℕ) (cs : List Channel) → new ≡ None → AreApart new cs
unknown_apart new cs is = subst (λ (r : Option ℕ). AreApart r cs) (sym is) tt
