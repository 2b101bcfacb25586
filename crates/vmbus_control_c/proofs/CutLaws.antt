-- The messages of a page list, one by one.
use Rattle.std.proofs.Common.{◌≡◌, ◌∙◌, ℕ, zero, suc, ◌+◌, ◌-◌, ◌*◌, ◌<◌, ◌≤◌, List, [], ◌∷◌, length, take, drop, slice_get, Option, Some, None, IfSome, sym, ap, subst, length-drop, arith}
use Rattle.std.proofs.lemmas.List.{drop-drop}
use Rattle.vmbus_msg.specs.declared.msg.Msg.{Msg}
use Rattle.gpadl.specs.Cut.{IsHeaderOf, IsBodyOf, bodies, cut}
use Rattle.gpadl.proofs.Cutting.{body_is, header_is}

-- the first message is the header
pub header_at : (relid handle : ℕ) (pages : List ℕ) (m : Msg) → 1 ≤ length pages → IsHeaderOf relid handle pages m → slice_get (cut relid handle pages) 0 ≡ Some m
header_at relid handle [] m some is = absurd (omega (arith, some))
header_at relid handle (page ∷ pages) m some is = ap Some (sym (header_is relid handle page pages m is))

-- a body that has the frames of its place is the one there
body_at : (most handle number k : ℕ) (frames : List ℕ) (m : Msg) → length frames ≤ most → 28 * k < length frames → IsBodyOf handle (number + k) (take 28 (drop (28 * k) frames)) m → slice_get (bodies most handle number frames) k ≡ Some m
body_at most handle number k [] m few here is = absurd (omega (arith, here))
body_at zero handle number k (frame ∷ frames) m few here is = absurd (omega (arith, few))
body_at (suc most) handle number zero (frame ∷ frames) m few here is =
    ap Some (sym (body_is handle number frame frames m (subst (λ n. IsBodyOf handle n (take 28 (frame ∷ frames)) m) (omega arith) is)))
body_at (suc most) handle number (suc k) (frame ∷ frames) m few here is =
    let left = length-drop 28 (frame ∷ frames) in
    let there : drop (28 * suc k) (frame ∷ frames) ≡ drop (28 * k) (drop 28 (frame ∷ frames)) = ap (λ n. drop n (frame ∷ frames)) (omega arith) ∙ sym (drop-drop (28 * k) 28 (frame ∷ frames)) in
    let one : IsBodyOf handle (number + 1 + k) (take 28 (drop (28 * suc k) (frame ∷ frames))) m = subst (λ n. IsBodyOf handle n (take 28 (drop (28 * suc k) (frame ∷ frames))) m) (omega arith) is in
    let again : IsBodyOf handle (number + 1 + k) (take 28 (drop (28 * k) (drop 28 (frame ∷ frames)))) m = subst (λ fs. IsBodyOf handle (number + 1 + k) (take 28 fs) m) there one in
    body_at most handle (number + 1) k (drop 28 (frame ∷ frames)) m (omega (arith, left, few)) (omega (arith, left, here)) again

-- where a body is, frames are left
body_within : (most handle number k : ℕ) (frames : List ℕ) → length frames ≤ most → k < length (bodies most handle number frames) → 28 * k < length frames
body_within zero handle number k frames few within = absurd (omega (arith, within))
body_within (suc most) handle number k [] few within = absurd (omega (arith, within))
body_within (suc most) handle number zero (frame ∷ frames) few within = omega arith
body_within (suc most) handle number (suc k) (frame ∷ frames) few within =
    let left = length-drop 28 (frame ∷ frames) in
    let less = body_within most handle (number + 1) k (drop 28 (frame ∷ frames)) (omega (arith, left, few)) (omega (arith, within)) in
    omega (arith, left, less)

-- the message with a number above 0 is the body before it
later : (relid handle k : ℕ) (pages : List ℕ) (m : Msg) → 26 + 28 * k < length pages → IsBodyOf handle k (take 28 (drop (26 + 28 * k) pages)) m → slice_get (cut relid handle pages) (suc k) ≡ Some m
later relid handle k [] m here is = absurd (omega (arith, here))
later relid handle k (page ∷ pages) m here is =
    let left = length-drop 26 (page ∷ pages) in
    let there : drop (26 + 28 * k) (page ∷ pages) ≡ drop (28 * k) (drop 26 (page ∷ pages)) = ap (λ n. drop n (page ∷ pages)) (omega arith) ∙ sym (drop-drop (28 * k) 26 (page ∷ pages)) in
    body_at (length pages) handle 0 k (drop 26 (page ∷ pages)) m (omega (arith, left)) (omega (arith, left, here)) (subst (λ n. IsBodyOf handle n (take 28 (drop (28 * k) (drop 26 (page ∷ pages)))) m) (omega arith) (subst (λ fs. IsBodyOf handle k (take 28 fs) m) there is))

pub later_at : (relid handle number : ℕ) (pages : List ℕ) (o : Option Msg) → 1 ≤ number
    → IfSome o (λ m. (26 + 28 * (number - 1) < length pages) × IsBodyOf handle (number - 1) (take 28 (drop (26 + 28 * (number - 1)) pages)) m)
    → IfSome o (λ m. slice_get (cut relid handle pages) number ≡ Some m)
later_at relid handle number pages None some is = tt
later_at relid handle zero pages (Some m) some is = absurd (omega (arith, some))
later_at relid handle (suc k) pages (Some m) some is =
    let before : suc k - 1 ≡ k = omega arith in
    later relid handle k pages m (omega (arith, is.0)) (subst (λ n. IsBodyOf handle n (take 28 (drop (26 + 28 * n) pages)) m) before is.1)

-- where a message is behind the header, frames are left
pub later_within : (relid handle number : ℕ) (pages : List ℕ) → 1 ≤ number → number < length (cut relid handle pages) → 26 + 28 * (number - 1) < length pages
later_within relid handle number [] some within = absurd (omega (arith, within))
later_within relid handle zero (page ∷ pages) some within = absurd (omega (arith, some))
later_within relid handle (suc k) (page ∷ pages) some within =
    let left = length-drop 26 (page ∷ pages) in
    let less = body_within (length pages) handle 0 k (drop 26 (page ∷ pages)) (omega (arith, left)) (omega (arith, within)) in
    omega (arith, left, less)
