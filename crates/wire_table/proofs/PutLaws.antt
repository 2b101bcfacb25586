-- What a field that is put leaves of the others.
use Rattle.std.proofs.Common.{◌≡◌, ℕ, zero, suc, ◌+◌, ◌-◌, ◌^◌, ◌<◌, ◌≤◌, List, [], ◌∷◌, ◌++◌, length, take, drop, slice_range, Bool, true, false, cond, nat_lt, Option, Some, None, inl, inr, ⊎_elim, refl, sym, ap, ◌∙◌, arith}
use Rattle.std.specs.Prelude.{◌⊎◌}
use Rattle.std.proofs.lemmas.List.{drop-drop, drop-take, take_at, drop_at, length-take-le}
use Rattle.std.proofs.lemmas.Bool.Decides.{nat_tests}
use Rattle.wire_table.specs.Little.{number_of, bytes_of}
use Rattle.wire_table.proofs.LittleLemmas.{number_of-bytes_of}
use Rattle.wire_table.specs.declared.field.Field.{Field}
use Rattle.wire_table.specs.declared.field.LayoutFault.{LayoutFault}
use Rattle.wire_table.specs.Tables.{share, shared_by, as_overlap, overlap_of, past_end_of, or_else, fault_of, field_of, at_of, end_of}

pub by_test : {P : Type 0} (b : Bool) → (b ≡ true → P) → (b ≡ false → P) → P
by_test true f g = f refl
by_test false f g = g refl

take_take : (n m : ℕ) (xs : List ℕ) → n ≤ m → take n (take m xs) ≡ take n xs
take_take zero m xs h = refl
take_take (suc n) zero xs h = absurd (omega arith)
take_take (suc n) (suc m) [] h = refl
take_take (suc n) (suc m) (x ∷ xs) h = ap (λ (zs : List ℕ). x ∷ zs) (take_take n m xs (omega arith))

part_after : (xs ys : List ℕ) (e a w : ℕ) → drop e xs ≡ drop e ys → e ≤ a → take w (drop a xs) ≡ take w (drop a ys)
part_after xs ys e a w h le =
    let split : (zs : List ℕ) → drop a zs ≡ drop (a - e) (drop e zs) = λ zs. ap (λ k. drop k zs) (omega arith) ∙ sym (drop-drop (a - e) e zs) in
    ap (take w) (split xs ∙ (ap (drop (a - e)) h ∙ sym (split ys)))

part_before : (xs ys : List ℕ) (at b w : ℕ) → take at xs ≡ take at ys → b + w ≤ at → take w (drop b xs) ≡ take w (drop b ys)
part_before xs ys at b w h le =
    let cut : (zs : List ℕ) → take w (drop b zs) ≡ drop b (take (b + w) (take at zs)) = λ zs. sym (drop-take b w zs) ∙ ap (drop b) (sym (take_take (b + w) at zs le)) in
    cut xs ∙ (ap (λ zs. drop b (take (b + w) zs)) h ∙ sym (cut ys))

-- a field that was put is read
pub put_value : (old new : List ℕ) (at w v : ℕ) → at ≤ length old → v < 256 ^ w → take (at + w) new ≡ take at old ++ bytes_of w v → number_of (slice_range new at (at + w)) ≡ v
put_value old new at w v le fits front =
    let len : at + w - at ≡ w = omega arith in
    let part : take w (drop at new) ≡ bytes_of w v = sym (drop-take at w new) ∙ (ap (drop at) front ∙ drop_at (take at old) (bytes_of w v) at (length-take-le at old le)) in
    rw len (ap number_of part ∙ number_of-bytes_of w v fits)

-- another field is as it was
pub put_other : (old new : List ℕ) (at w v b x : ℕ) → at ≤ length old → take (at + w) new ≡ take at old ++ bytes_of w v → drop (at + w) new ≡ drop (at + w) old
    → (b + x ≤ at) ⊎ (at + w ≤ b) → slice_range new b (b + x) ≡ slice_range old b (b + x)
put_other old new at w v b x le front rest apart =
    let len : b + x - b ≡ x = omega arith in
    let before : take at new ≡ take at old = sym (take_take at (at + w) new (omega arith)) ∙ (ap (take at) front ∙ take_at (take at old) (bytes_of w v) at (length-take-le at old le)) in
    rw len (⊎_elim (λ h. part_before new old at b x before h) (λ h. part_after new old (at + w) b x rest h) apart)

none_first : (k : ℕ) (o : Option ℕ) (p : Option LayoutFault) → as_overlap k o p ≡ None → (o ≡ None) × (p ≡ None)
none_first k (Some j) p h = cc
none_first k None p h = (refl, h)

pub first_none : (a b : Option LayoutFault) → or_else a b ≡ None → a ≡ None
first_none None b h = refl
first_none (Some e) b h = cc

none_here : (b : Bool) (x : ℕ) (y : Option ℕ) → cond b (Some x) y ≡ None → (b ≡ false) × (y ≡ None)
none_here true x y h = cc
none_here false x y h = (refl, h)

pub none_shared : (f : Field) (k : ℕ) (gs : List Field) (j : ℕ) → shared_by f k gs ≡ None → j < length gs → share f (field_of gs j) ≡ false
none_shared f k [] j h lt = absurd (omega arith)
none_shared f k (g ∷ gs) zero h lt = (none_here (share f g) k (shared_by f (k + 1) gs) h).0
none_shared f k (g ∷ gs) (suc j) h lt = none_shared f (k + 1) gs j (none_here (share f g) k (shared_by f (k + 1) gs) h).1 (omega arith)

pub none_share : (k : ℕ) (fs : List Field) (i j : ℕ) → overlap_of k fs ≡ None → i < j → j < length fs → share (field_of fs i) (field_of fs j) ≡ false
none_share k [] i j h lt len = absurd (omega arith)
none_share k (f ∷ fs) i zero h lt len = absurd (omega arith)
none_share k (f ∷ fs) zero (suc j) h lt len = none_shared f (k + 1) fs j (none_first k (shared_by f (k + 1) fs) (overlap_of (k + 1) fs) h).0 (omega arith)
none_share k (f ∷ fs) (suc i) (suc j) h lt len = none_share (k + 1) fs i j (none_first k (shared_by f (k + 1) fs) (overlap_of (k + 1) fs) h).1 (omega arith) (omega arith)

one_side : (f g : Field) → share f g ≡ false → (f.at + f.width ≤ g.at) ⊎ (g.at + g.width ≤ f.at)
one_side f g h = by_test (nat_lt g.at (f.at + f.width))
    (λ t. inr (by_test (nat_lt f.at (g.at + g.width)) (λ u. let both : true ≡ false = rw (t, u) at h in cc) (λ u. grind (arith, nat_tests, u))))
    (λ t. inl (grind (arith, nat_tests, t)))

swap_sides : {A B : Type 0} → A ⊎ B → B ⊎ A
swap_sides (inl a) = inr a
swap_sides (inr b) = inl b

-- two fields of a sound layout lie apart
pub fields_apart : (size : ℕ) (fs : List Field) (i j : ℕ) → fault_of size fs ≡ None → i < length fs → j < length fs → (j ≡ i → ⊥) → (end_of fs j ≤ at_of fs i) ⊎ (end_of fs i ≤ at_of fs j)
fields_apart size fs i j h li lj ne =
    let none = first_none (overlap_of 0 fs) (past_end_of size 0 fs) h in
    by_test (nat_lt j i)
    (λ t. let lt : j < i = grind (arith, nat_tests, t) in one_side (field_of fs j) (field_of fs i) (none_share 0 fs j i none lt li))
    (λ t. let le : i ≤ j = grind (arith, nat_tests, t) in
    let lt : i < j = by_test (nat_lt i j) (λ u. grind (arith, nat_tests, u)) (λ u. let eq : j ≡ i = grind (arith, nat_tests, u, le) in absurd (ne eq)) in
    swap_sides (one_side (field_of fs i) (field_of fs j) (none_share 0 fs i j none lt lj)))
