-- Versions among those that are offered.
use Rattle.std.proofs.Common.{◌≡◌, ℕ, suc, ◌+◌, ◌-◌, ◌*◌, ◌<◌, ◌≤◌, Bool, true, false, ◌||◌, List, ◌∷◌, drop, sym, ap, ◌∙◌, arith}
use Rattle.std.proofs.lemmas.List.{drop-drop}
use Rattle.util_ic.specs.declared.version.Version.{Version}
use Rattle.util_ic.specs.Versions.{version_at, versions_in, same, is_offered}

next : (count i : ℕ) (b : List ℕ) → i < count → versions_in (count - i) (drop (4 * i) b) ≡ version_at (drop (4 * i) b) ∷ versions_in (count - (i + 1)) (drop (4 * (i + 1)) b)
unfolding versions_in
next count i b lt =
    let k : count - i ≡ suc (count - (i + 1)) = omega arith in
    let at : 4 * i + 4 ≡ 4 * (i + 1) = omega arith in
    rw k (ap (λ l. version_at (drop (4 * i) b) ∷ versions_in (count - (i + 1)) l) (drop-drop 4 (4 * i) b ∙ ap (λ j. drop j b) at))

either : (x y : Bool) (all : Bool) → x || y ≡ all → x ≡ true → true ≡ all
either true y all h is = h
either false y all h is = cc

other : (x y : Bool) (all : Bool) → x || y ≡ all → x ≡ false → y ≡ all
other true y all h is = cc
other false y all h is = h

pub offered_here : (count i : ℕ) (b : List ℕ) (v : Version) (all : Bool) → i < count → is_offered (versions_in (count - i) (drop (4 * i) b)) v ≡ all → same v (version_at (drop (4 * i) b)) ≡ true → true ≡ all
offered_here count i b v all lt h is = either (same v (version_at (drop (4 * i) b))) (is_offered (versions_in (count - (i + 1)) (drop (4 * (i + 1)) b)) v) all (sym (ap (λ l. is_offered l v) (next count i b lt)) ∙ h) is

pub offered_later : (count i : ℕ) (b : List ℕ) (v : Version) (all : Bool) → i < count → is_offered (versions_in (count - i) (drop (4 * i) b)) v ≡ all → same v (version_at (drop (4 * i) b)) ≡ false → is_offered (versions_in (count - (i + 1)) (drop (4 * (i + 1)) b)) v ≡ all
offered_later count i b v all lt h is = other (same v (version_at (drop (4 * i) b))) (is_offered (versions_in (count - (i + 1)) (drop (4 * (i + 1)) b)) v) all (sym (ap (λ l. is_offered l v) (next count i b lt)) ∙ h) is

pub offered_nowhere : (count i : ℕ) (b : List ℕ) (v : Version) (all : Bool) → count ≤ i → is_offered (versions_in (count - i) (drop (4 * i) b)) v ≡ all → false ≡ all
unfolding versions_in
offered_nowhere count i b v all le h = let k : count - i ≡ 0 = omega arith in rw k at h
