-- Lines that were done, and those that are left.
use Rattle.std.proofs.Common.{◌≡◌, ℕ, List, [], ◌∷◌, ◌++◌, zero, suc, ◌+◌, ◌<◌, length, drop, get_or, refl, sym, ap, ◌∙◌, subst, append_assoc, append-nil, arith}
use Rattle.hostile_lines.specs.declared.command.CommandLine.{CommandLine}
use Rattle.hostile_run.specs.Run.{Stand, SaysCommand, SaysLines, line_text}

-- what was said so far stands behind the text, and goes on with what the lines that are left say
pub record GoesOn (lines : List CommandLine) (start : Stand) (before : List ℕ) (rest : List CommandLine) (now : Stand) (text : List ℕ) : Type 0 where
  pub done : List ℕ
  pub text_is : text ≡ before ++ done
  pub on : (last : Stand) (more : List ℕ) → SaysLines rest now last more → SaysLines lines start last (done ++ more)

pub begins : (lines : List CommandLine) (start : Stand) (before : List ℕ) → GoesOn lines start before lines start before
begins lines start before = record { done = []; text_is = sym (append-nil before); on = λ last more says. says }

pub goes_by_a_line : (lines : List CommandLine) (start : Stand) (before : List ℕ) (rest after : List CommandLine) (l : CommandLine) (now mid : Stand) (text text' said : List ℕ) → GoesOn lines start before rest now text → rest ≡ l ∷ after
    → SaysCommand l.number l.command now mid said → text' ≡ text ++ line_text l.number said → GoesOn lines start before after mid text'
goes_by_a_line lines start before rest after l now mid text text' said g split says is = record {
  done = g.done ++ line_text l.number said;
  text_is = is ∙ (ap (λ (t : List ℕ). t ++ line_text l.number said) g.text_is ∙ append_assoc before g.done (line_text l.number said));
  on = λ last more others. subst (SaysLines lines start last) (sym (append_assoc g.done (line_text l.number said) more))
      (g.on last (line_text l.number said ++ more) (subst (λ (r : List CommandLine). SaysLines r now last (line_text l.number said ++ more)) (sym split) (mid, said, more, says, refl, others)));
}

pub gone : (lines : List CommandLine) (start : Stand) (before : List ℕ) (now : Stand) (text : List ℕ) → GoesOn lines start before [] now text → (said : List ℕ) × SaysLines lines start now said × (text ≡ before ++ said)
gone lines start before now text g = (g.done ++ [], g.on now [] (refl, refl), g.text_is ∙ ap (λ (d : List ℕ). before ++ d) (sym (append-nil g.done)))

drop_at : (xs : List CommandLine) (i : ℕ) (l : CommandLine) → i < length xs → get_or xs i l ≡ l → drop i xs ≡ l ∷ drop (i + 1) xs
drop_at [] i l within is = absurd (omega (arith, within))
drop_at (x ∷ xs) zero l within is = ap (λ (y : CommandLine). y ∷ xs) is
drop_at (x ∷ xs) (suc i) l within is = drop_at xs i l (omega (arith, within)) is ∙ ap (λ (k : ℕ). l ∷ drop k (x ∷ xs)) (let z : suc (i + 1) ≡ suc i + 1 = omega arith in z)

pub goes_by_place : (lines : List CommandLine) (start : Stand) (before : List ℕ) (i : ℕ) (l : CommandLine) (now mid : Stand) (text text' said : List ℕ) → GoesOn lines start before (drop i lines) now text → i < length lines → get_or lines i l ≡ l
    → SaysCommand l.number l.command now mid said → text' ≡ text ++ line_text l.number said → GoesOn lines start before (drop (i + 1) lines) mid text'
goes_by_place lines start before i l now mid text text' said g within is says text_is =
    goes_by_a_line lines start before (drop i lines) (drop (i + 1) lines) l now mid text text' said g (drop_at lines i l within is) says text_is

drop_all : (xs : List CommandLine) → drop (length xs) xs ≡ []
drop_all [] = refl
drop_all (x ∷ xs) = drop_all xs

pub gone_through : (lines : List CommandLine) (start : Stand) (before : List ℕ) (now : Stand) (text : List ℕ) → GoesOn lines start before (drop (length lines) lines) now text → (said : List ℕ) × SaysLines lines start now said × (text ≡ before ++ said)
gone_through lines start before now text g = gone lines start before now text (subst (λ (r : List CommandLine). GoesOn lines start before r now text) (drop_all lines) g)
