-- Lists of openings, and all openings of a plan, cut at a place.
use Rattle.std.proofs.Common.{◌≡◌, ◌∙◌, ℕ, zero, suc, ◌+◌, ◌<◌, ◌≤◌, List, [], ◌∷◌, ◌++◌, length, take, drop, slice_index_or, All, refl, sym, ap, subst, append_assoc, length-append, arith}
use Rattle.std.specs.List.{AllByRecursion}
use Rattle.std.proofs.lemmas.List.{append-nil}
use Rattle.std.proofs.lemmas.List.Elements.{All-head, All-tail}
use Rattle.std.proofs.Math.Seq.{get_or-append_seam}
use Rattle.control_laws.proofs.Words.{Opening}
use Rattle.control_model.specs.Plan.{Rising, all_openings}

pub all_weaker : {X : Type 0} (P Q : X → Type 0) → ((x : X) → P x → Q x) → (xs : List X) → AllByRecursion P xs → AllByRecursion Q xs
all_weaker P Q f [] all = tt
all_weaker P Q f (x ∷ xs) all = (f x all.0, all_weaker P Q f xs all.1)

pub mid : (P : Opening → Type 0) (done : List Opening) (o : Opening) (left : List Opening) → All P (done ++ o ∷ left) → P o
mid P done o left all = subst P (get_or-append_seam done o left o) (all (length done) o (omega (arith, length-append done (o ∷ left))))

pub both : (P Q R : Opening → Type 0) → ((o : Opening) → P o → Q o → R o) → (os : List Opening) → AllByRecursion P os → AllByRecursion Q os → AllByRecursion R os
both P Q R f [] p q = tt
both P Q R f (o ∷ os) p q = (f o p.0 q.0, both P Q R f os p.1 q.1)

pub all_front : {X : Type 0} (P : X → Type 0) (xs ys : List X) → AllByRecursion P (xs ++ ys) → AllByRecursion P xs × AllByRecursion P ys
all_front P [] ys all = (tt, all)
all_front P (x ∷ xs) ys all = let rest = all_front P xs ys all.1 in ((all.0, rest.0), rest.1)

pub all_snoc : {X : Type 0} (P : X → Type 0) (xs : List X) (x : X) → AllByRecursion P xs → P x → AllByRecursion P (xs ++ x ∷ [])
all_snoc P [] x all here = (here, tt)
all_snoc P (y ∷ xs) x all here = (all.0, all_snoc P xs x all.1 here)

pub mid_all : {X : Type 0} (P : X → Type 0) (done : List X) (o : X) (left : List X) → AllByRecursion P (done ++ o ∷ left) → P o
mid_all P [] o left all = all.0
mid_all P (x ∷ done) o left all = mid_all P done o left all.1

-- relids rise
pub above : (n least : ℕ) (os : List Opening) → n ≤ least → Rising least os → AllByRecursion (λ p. n ≤ p.relid) os
above n least [] less rises = tt
above n least (o ∷ os) less rises = let r = rises.0 in (omega (arith, less, r), above n (o.relid + 1) os (omega (arith, less, r)) rises.1)

-- all openings, cut at a phase
pub openings_more : (phases : List (List Opening)) (k : ℕ) → k < length phases → all_openings (take (suc k) phases) ≡ all_openings (take k phases) ++ slice_index_or phases k []
openings_more [] k less = absurd (omega (arith, less))
openings_more (os ∷ phases) zero less = append-nil os
openings_more (os ∷ phases) (suc k) less = ap (λ xs. os ++ xs) (openings_more phases k (omega (arith, less))) ∙ sym (append_assoc os (all_openings (take k phases)) (slice_index_or phases k []))

pub openings_cut : (phases : List (List Opening)) (k : ℕ) → k < length phases → all_openings phases ≡ all_openings (take k phases) ++ (slice_index_or phases k [] ++ all_openings (drop (suc k) phases))
openings_cut [] k less = absurd (omega (arith, less))
openings_cut (os ∷ phases) zero less = refl
openings_cut (os ∷ phases) (suc k) less =
    ap (λ xs. os ++ xs) (openings_cut phases k (omega (arith, less))) ∙ sym (append_assoc os (all_openings (take k phases)) (slice_index_or phases k [] ++ all_openings (drop (suc k) phases)))

pub by_all : (P : Opening → Type 0) (xs : List Opening) → All P xs → AllByRecursion P xs
by_all P [] all = tt
by_all P (x ∷ xs) all = (All-head P x xs all, by_all P xs (All-tail P x xs all))
