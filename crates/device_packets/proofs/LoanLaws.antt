-- The page that a packet lends, by its tests.
use Rattle.std.proofs.Common.{◌≡◌, ℕ, zero, suc, ◌≤◌, Bool, true, false, cond, ◌&&◌, List, take, Option, Some, None, refl, ap, ◌∙◌, arith}
use Rattle.std.specs.Prelude.{nat_le, slice_index}
use Rattle.std.proofs.lemmas.Bool.Decides.{nat_tests}
use Rattle.vm_page.specs.Words.{words_from, number_of}
use Rattle.pkt_desc.specs.Packets.{offset8_of, kind_of}
use Rattle.pkt_desc.specs.Ranges.{ranges_end}
use Rattle.pkt_desc.specs.Lending.{loan, lent_by, lent_of}
use Rattle.pkt_desc.specs.declared.loan.Lent.{Lent}

pub loan_true : (a b c d : Bool) (page bytes : ℕ) → a ≡ true → b ≡ true → c ≡ true → d ≡ true → loan (a && (b && (c && d))) page bytes ≡ Some (record { page = page; bytes = bytes })
loan_true true true true true page bytes a b c d = refl
loan_true true true true false page bytes a b c d = cc
loan_true true true false d page bytes a b c e = cc
loan_true true false c d page bytes a b e f = cc
loan_true false b c d page bytes a e f g = cc

pub lent_ended : (kind off stop : ℕ) (p : List ℕ) (l : Option Lent) → kind_of p ≡ kind → offset8_of (slice_index p 0) ≡ off → ranges_end kind p ≡ stop → stop ≤ off → lent_by kind p ≡ l → lent_of p ≡ l
lent_ended kind off stop p l k o e le is =
    let holds : nat_le stop off ≡ true = grind (arith, nat_tests, le) in
    ap (λ x. cond (nat_le (ranges_end x p) (offset8_of (slice_index p 0))) (lent_by x p) None) k
    ∙ ap (λ x. cond (nat_le (ranges_end kind p) x) (lent_by kind p) None) o
    ∙ ap (λ x. cond (nat_le x off) (lent_by kind p) None) e
    ∙ ap (λ b. cond b (lent_by kind p) None) holds ∙ is

pub first_of : (n : ℕ) (bs : List ℕ) → 1 ≤ n → slice_index (words_from n bs) 0 ≡ number_of (take 8 bs)
unfolding words_from
first_of zero bs some = absurd (omega (arith, some))
first_of (suc n) bs some = refl

pub loan_not : (a b c : Bool) (page bytes : ℕ) → b ≡ false → loan (a && (b && c)) page bytes ≡ None
loan_not true true c page bytes h = cc
loan_not true false c page bytes h = refl
loan_not false b c page bytes h = refl
