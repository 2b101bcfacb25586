-- The numbers of a new end show a new end of a channel with data pages.
use Rattle.std.proofs.Common.{◌≡◌, ℕ, zero, suc, ◌+◌, ◌-◌, ◌<◌, ◌≤◌, ◌==◌, Bool, true, false, cond, ltb, min, List, [], ◌∷◌, ◌++◌, length, replicate, append-nil, append_assoc, length-append, refl, sym, ap, ◌∙◌, arith}
use Rattle.std.proofs.lemmas.Bool.Decides.{nat_tests}
use Rattle.io_edge.specs.declared.side.Side.{Side}
use Rattle.io_edge.specs.declared.side.Side.TheVariants.{Guest, Host}
use Rattle.page_kept.specs.declared.owner.Owner.{Owner}
use Rattle.page_kept.specs.Kept.{first_owner}
use Rattle.page_table.specs.Table.{first_owners}
use Rattle.ring_machine.specs.Steps.{machine_new}
use Rattle.ring_core.specs.Pages.{first_kept}
use Rattle.ring_seat.specs.Whole.{new_paged}
use Rattle.ring_call_plan.specs.declared.end.PlanEnd.{PlanEnd as RingEnd}
use Rattle.ring_call_plan.specs.Shown.{Shows as RingShows}
use Rattle.page_call_plan.specs.declared.slot.PageSlot.{PageSlot}
use Rattle.page_call_plan.specs.Ends.{new_end, new_slots, no_requests}
use Rattle.page_call_plan.specs.Ids.{ids_in}
use Rattle.page_call_plan.specs.Shown.{Shows}
use Rattle.page_call_plan.specs.Slots.{away, has, owner_of, owners_of}
use Rattle.page_call_plan.proofs.Fitting.{new_fit}
use Rattle.page_access_laws.specs.Calls.{IsExactIn, IsShown, is_host, new_by}

by_test : {P : Type 0} (b : Bool) → (b ≡ true → P) → (b ≡ false → P) → P
by_test true f g = f refl
by_test false f g = g refl

one_more : (n : ℕ) (x : PageSlot) → replicate (n + 1) x ≡ replicate n x ++ x ∷ []
one_more n x = ap (λ (k : ℕ). replicate k x) (let z : n + 1 ≡ suc n = omega arith in z) ∙ snoc n
  where
    snoc : (n : ℕ) → replicate (suc n) x ≡ replicate n x ++ x ∷ []
    snoc zero = refl
    snoc (suc n) = ap (λ (ss : List PageSlot). x ∷ ss) (snoc n)

owners_more : (xs ys : List PageSlot) → owners_of (xs ++ ys) ≡ owners_of xs ++ owners_of ys
owners_more [] ys = refl
owners_more (s ∷ xs) ys = ap (λ (os : List Owner). owner_of s ∷ os) (owners_more xs ys)

-- one page more
slots_more : (host : Bool) (n : ℕ) → new_slots host (suc n) ≡ new_slots host n ++ cond (ltb n 64) (cond host away has) (cond host has away) ∷ []
slots_more host n = by_test (ltb n 64) small large
  where
    small : ltb n 64 ≡ true → new_slots host (suc n) ≡ new_slots host n ++ cond (ltb n 64) (cond host away has) (cond host has away) ∷ []
    small h =
        let less : n < 64 = grind (arith, nat_tests, h) in
        let all : min 64 (suc n) ≡ n + 1 = grind (arith, less) in
        let none : suc n - min 64 (suc n) ≡ 0 = omega (arith, all) in
        let all' : min 64 n ≡ n = grind (arith, less) in
        let none' : n - min 64 n ≡ 0 = omega (arith, all') in
        (λ i. replicate (all i) (cond host away has) ++ replicate (none i) (cond host has away))
        ∙ append-nil (replicate (n + 1) (cond host away has))
        ∙ one_more n (cond host away has)
        ∙ (λ i. sym (append-nil (replicate n (cond host away has))) i ++ cond (sym h i) (cond host away has) (cond host has away) ∷ [])
        ∙ (λ i. (replicate (sym all' i) (cond host away has) ++ replicate (sym none' i) (cond host has away)) ++ cond (ltb n 64) (cond host away has) (cond host has away) ∷ [])

    large : ltb n 64 ≡ false → new_slots host (suc n) ≡ new_slots host n ++ cond (ltb n 64) (cond host away has) (cond host has away) ∷ []
    large h =
        let past : 64 ≤ n = grind (arith, nat_tests, h) in
        let first : min 64 (suc n) ≡ 64 = grind (arith, past) in
        let rest : suc n - min 64 (suc n) ≡ n - 64 + 1 = omega (arith, first, past) in
        let first' : min 64 n ≡ 64 = grind (arith, past) in
        let rest' : n - min 64 n ≡ n - 64 = omega (arith, first', past) in
        (λ i. replicate (first i) (cond host away has) ++ replicate (rest i) (cond host has away))
        ∙ (λ i. replicate 64 (cond host away has) ++ one_more (n - 64) (cond host has away) i)
        ∙ sym (append_assoc (replicate 64 (cond host away has)) (replicate (n - 64) (cond host has away)) (cond host has away ∷ []))
        ∙ (λ i. (replicate (sym first' i) (cond host away has) ++ replicate (sym rest' i) (cond host has away)) ++ cond (sym h i) (cond host away has) (cond host has away) ∷ [])

owner_at : (x : Side) (b : Bool) → owner_of (cond b (cond (is_host x) away has) (cond (is_host x) has away)) ≡ first_owner x (cond b Guest Host)
owner_at Guest true = refl
owner_at Guest false = refl
owner_at Host true = refl
owner_at Host false = refl

owners_are : (x : Side) (n : ℕ) → first_owners x n ≡ owners_of (new_slots (is_host x) n)
owners_are x zero = refl
owners_are x (suc n) =
    (λ i. owners_are x n i ++ sym (owner_at x (ltb n 64)) i ∷ [])
    ∙ sym (owners_more (new_slots (is_host x) n) (cond (ltb n 64) (cond (is_host x) away has) (cond (is_host x) has away) ∷ []))
    ∙ ap owners_of (sym (slots_more (is_host x) n))

slots_long : (host : Bool) (n : ℕ) → length (new_slots host n) ≡ n
slots_long host zero = refl
slots_long host (suc n) =
    ap length (slots_more host n) ∙ (let l = length-append (new_slots host n) (cond (ltb n 64) (cond host away has) (cond host has away) ∷ []) in let r = slots_long host n in omega (arith, l, r))

none_of : (b : Bool) → cond {A = ℕ} b 0 0 ≡ 0
none_of true = refl
none_of false = refl

no_ids : (t n : ℕ) → ids_in t (no_requests n) ≡ 0
no_ids t zero = refl
no_ids t (suc n) = (λ i. none_of (0 == t) i + no_ids t n i)

new_pages : (c i j : ℕ) (x : Side) → Shows x [] (first_kept x c) new_end (new_slots (is_host x) c) (no_requests i) (no_requests j)
new_pages c i j x = record {
  count = sym (slots_long (is_host x) c);
  owners = owners_are x c;
  due = refl;
  asks_of = λ t. omega arith;
  owed_of = λ t. (let e = no_ids t j in omega (arith, e));
}

pub new_shown : (n c i j : ℕ) (x : Side) (r : RingEnd) → RingShows r (machine_new x n) → IsShown (new_by r x c i j) (new_paged n c x)
new_shown n c i j x r ring = record { ring = ring; pages = new_pages c i j x; between = refl; idle = refl; copied = refl; call = refl; fit = new_fit (is_host x) c }

pub new_exact : (n c i : ℕ) (x : Side) → IsExactIn (new_paged n c x) (no_requests i)
new_exact n c i x t = let e = no_ids t i in omega (arith, e)
