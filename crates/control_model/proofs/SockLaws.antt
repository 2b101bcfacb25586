-- The plan of a socket is one.
use Rattle.std.proofs.Common.{◌≡◌, ℕ, ◌<◌, ◌≤◌, ◌^◌, true, false, All, [], ◌∷◌, length, refl, arith}
use Rattle.std.proofs.lemmas.List.Elements.{All-nil, All-cons}
use Rattle.control_model.specs.declared.opening.Opening.{Opening}
use Rattle.control_model.specs.Plan.{IsPlan, IsOpening, HasPort, Seated, Bare, Rising, OpensAgain, is_later, firsts}
use Rattle.control_model.specs.Sock.{dialed_at, sock_plan}

all_one : {X : Type 0} (P : X → Type 0) (x : X) → P x → All P (x ∷ [])
all_one P x here = All-cons P x [] here (All-nil P)

opening_fits : (port : ℕ) → port < 2 ^ 32 → IsOpening (dialed_at port)
opening_fits port small = record {
  named = omega arith;
  few = omega arith;
  some_pages = omega arith;
  few_pages = omega arith;
  numbered = omega arith;
  handled = omega arith;
  alone = λ e. refl;
  port = small;
}

pub sock_is : (port : ℕ) → port < 2 ^ 32 → IsPlan (sock_plan port)
sock_is port small =
    let o : Opening = dialed_at port in
    record {
      guest = refl;
      host = refl;
      few = omega arith;
      ports = All-nil HasPort;
      some = omega arith;
      short = omega arith;
      fits = all_one (λ os. All (λ o. IsOpening o) os) (o ∷ []) (all_one (λ o. IsOpening o) o (opening_fits port small));
      small = all_one (λ os. length os ≤ 16) (o ∷ []) (omega arith);
      seated = all_one (λ os. Seated 0 os) (o ∷ []) ((λ e. refl), tt);
      bare = all_one (λ os. Bare os) (o ∷ []) ((λ e. refl), tt);
      offered = all_one (λ os. All (λ o. is_later o ≡ false → o.relid ≤ 0) os) (o ∷ []) (all_one (λ o. is_later o ≡ false → o.relid ≤ 0) o (λ e. absurd (let wrong : true ≡ false = e in cc)));
      rising = all_one (λ os. Rising 1 (firsts os)) (o ∷ []) tt;
      later = refl;
      follow = (refl, refl, tt);
      ends = (all_one (OpensAgain []) o (All-nil (λ os. All (λ p. p.relid ≡ o.relid → o.rescinded ≡ false) os)), tt);
    }
