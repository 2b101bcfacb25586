-- The version that is tried after one that the host does not know.
use Rattle.std.proofs.Common.{◌≡◌, ◌≢◌, ℕ, ◌<◌, ◌≤◌, ◌==◌, Bool, true, false, List, [], ◌∷◌, nat_le, nat_lt, Some, refl, arith}
use Rattle.std.specs.List.{AllByRecursion, list_any}
use Rattle.std.proofs.lemmas.Bool.{eqb-true}
use Rattle.std.proofs.lemmas.Bool.Decides.{nat_tests}
use Rattle.control_laws.proofs.Words.{Version, versions, IsVersion}
use Rattle.control_model.specs.Plan.{BusPlan, IsPlan}
use Rattle.control_model.specs.Channels.{first_below, version_below, accepts}
use Rattle.control_model.specs.Stand.{Tries}
use Rattle.control_laws.proofs.Marks.{by_test, by_place, same, differ}

abbrev pub Falling : List ℕ → Type 0
Falling [] = Unit {0}
Falling (x ∷ xs) = AllByRecursion (λ y. y < x) xs × Falling xs

unfoldable pub listed : ℕ → List ℕ → Bool
listed u xs = list_any (λ w. w == u) xs

pub under : (x u : ℕ) (xs : List ℕ) → AllByRecursion (λ y. y < x) xs → listed u xs ≡ true → u < x
unfolding listed
under x u [] all is = absurd (let off : false ≡ true = is in cc)
under x u (y ∷ ys) all is = by_test {P = u < x} (y == u)
    (λ e. let less = all.0 in let eq = eqb-true y u e in omega (arith, less, eq))
    (λ e. under x u ys all.1 (rw e at is))

record Found (v : ℕ) (xs : List ℕ) : Type 0 where
  below : Version
  is : first_below v xs ≡ Some below
  in_list : listed below.0 xs ≡ true
  less : below.0 < v
  greatest : (u : ℕ) → listed u xs ≡ true → u < v → u ≤ below.0

find : (v m : ℕ) (xs : List ℕ) → Falling xs → listed m xs ≡ true → m < v → Found v xs
unfolding listed
find v m [] falls is less = absurd (let off : false ≡ true = is in cc)
find v m (x ∷ xs) falls is less = by_test {P = Found v (x ∷ xs)} (nat_lt x v)
    (λ e. record {
      below = record { 0 = x };
      is = rw e refl;
      in_list = rw (same x) refl;
      less = grind (arith, nat_tests, e);
      greatest = λ u any small. by_place x u (λ eq. omega (arith, eq)) (λ off. let more = under x u xs falls.0 (rw (differ x u off) at any) in omega (arith, more));
    })
    (λ e. let over : v ≤ x = grind (arith, nat_tests, e) in
    let off : x ≢ m = λ eq. absurd (omega (arith, eq, over, less)) in
    let rest = find v m xs falls.1 (rw (differ x m off) at is) less in
    record {
      below = rest.below;
      is = rw e rest.is;
      in_list = by_test {P = listed rest.below.0 (x ∷ xs) ≡ true} (x == rest.below.0) (λ t. rw t refl) (λ t. rw t rest.in_list);
      less = rest.less;
      greatest = λ u any small. let other : x ≢ u = λ eq. absurd (omega (arith, eq, over, small)) in rest.greatest u (rw (differ x u other) at any) small;
    })

pub falling : Falling versions
falling = ((omega arith, (omega arith, (omega arith, (omega arith, (omega arith, (omega arith, (omega arith, tt))))))), ((omega arith, (omega arith, (omega arith, (omega arith, (omega arith, (omega arith, tt)))))), ((omega arith, (omega arith, (omega arith, (omega arith, (omega arith, tt))))), ((omega arith, (omega arith, (omega arith, (omega arith, tt)))), ((omega arith, (omega arith, (omega arith, tt))), ((omega arith, (omega arith, tt)), ((omega arith, tt), (tt, tt))))))))

-- the next version to try, where the host does not know this one
pub record Lower (plan : BusPlan) (v : Version) : Type 0 where
  pub lower : Version
  pub is : version_below v ≡ Some lower
  pub tries : Tries plan lower
  pub less : lower.0 < v.0
  pub greatest : (u : ℕ) → IsVersion u → u < v.0 → u ≤ lower.0

pub lower_one : (plan : BusPlan) (v : Version) → IsPlan plan → Tries plan v → plan.host.0 < v.0 → Lower plan v
unfolding listed
lower_one plan v planned tries above =
    let found = find v.0 plan.host.0 versions falling planned.host above in
    let less = found.less in
    let within = tries.within in
    record {
      lower = found.below;
      is = found.is;
      tries = record { listed = found.in_list; within = omega (arith, less, within); greatest = λ u known at_guest at_host. found.greatest u known (omega (arith, at_host, above)) };
      less = less;
      greatest = λ u known small. found.greatest u known small;
    }

-- the guest tries its highest version first
pub tries_first : (plan : BusPlan) → IsPlan plan → Tries plan plan.guest
tries_first plan planned = record { listed = planned.guest; within = omega arith; greatest = λ u known at_guest at_host. at_guest }

-- the host accepts a version that is tried exactly where it is not above its highest one
pub accepts_it : (plan : BusPlan) (v : Version) → Tries plan v → v.0 ≤ plan.host.0 → accepts plan.host v.0 ≡ true
accepts_it plan v tries within = let yes : nat_le v.0 plan.host.0 ≡ true = grind (arith, nat_tests, within) in rw yes tries.listed

pub refuses_it : (plan : BusPlan) (v : Version) → plan.host.0 < v.0 → accepts plan.host v.0 ≡ false
refuses_it plan v above = let off : nat_le v.0 plan.host.0 ≡ false = grind (arith, nat_tests, above) in rw off refl
