-- The first wrong line of an input.
use Rattle.std.proofs.Common.{◌≡◌, ◌⊎◌, inl, inr, ⊎_elim, Bool, true, false, ℕ, ◌+◌, List, [], ◌∷◌, ◌++◌, length, Option, Some, None, Ok, Err, refl, ap, sym, ◌∙◌, arith}
use Rattle.std.specs.Str.Lines.{lines}
use Rattle.script_text.specs.declared.fault.Why6.{Why6}
use Rattle.script_text.specs.declared.fault.ScriptFault.{ScriptFault}
use Rattle.script_text.specs.declared.fault.Why6.TheVariants.{Limit}
use Rattle.hostile_lines.specs.Inputs.{Input, fault_at, with_line, or_fault, read_from, no_input, is_short, hostile_of}
use Rattle.hostile_lines.specs.First.{Reads, FindsFirstWrong, RefusesNothing, AcceptsRight}

-- the same, of lines numbered from n on
record WrongFrom (n : ℕ) (before : Input) (ls : List (List ℕ)) (fault : ScriptFault) : Type 0 where
  good : List (List ℕ)
  bad : List ℕ
  rest : List (List ℕ)
  said : Input
  split : ls ≡ good ++ bad ∷ rest
  line : fault.line ≡ length good + n
  right : Reads n before good said
  why : fault_at fault.line said bad ≡ Some fault.why

here_or_on : (n : ℕ) (before : Input) (line : List ℕ) (ls : List (List ℕ)) (fault : ScriptFault) (why : Option Why6) → fault_at n before line ≡ why
    → or_fault why n (read_from (n + 1) (with_line n before line) ls) ≡ Err fault
    → (read_from (n + 1) (with_line n before line) ls ≡ Err fault → WrongFrom (n + 1) (with_line n before line) ls fault) → WrongFrom n before (line ∷ ls) fault
here_or_on n before line ls fault None none is on =
    let more = on is in
    record {
      good = line ∷ more.good;
      bad = more.bad;
      rest = more.rest;
      said = more.said;
      split = ap (λ (l : List (List ℕ)). line ∷ l) more.split;
      line = omega (arith, more.line);
      right = (none, more.right);
      why = more.why;
    }
here_or_on n before line ls fault (Some why) some is on =
    let same : record { line = n; why = why } ≡ fault = cc (is) in
    let number : n ≡ fault.line = ap (λ (f : ScriptFault). f.line) same in
    let reason : why ≡ fault.why = ap (λ (f : ScriptFault). f.why) same in
    record {
      good = [];
      bad = line;
      rest = ls;
      said = before;
      split = refl;
      line = omega (arith, number);
      right = refl;
      why = ap (λ (k : ℕ). fault_at k before line) (sym number) ∙ some ∙ ap (λ (w : Why6). Some w) reason;
    }

wrong_from : (ls : List (List ℕ)) (n : ℕ) (before : Input) (fault : ScriptFault) → read_from n before ls ≡ Err fault → WrongFrom n before ls fault
wrong_from [] n before fault is = absurd (cc (is))
wrong_from (line ∷ ls) n before fault is = here_or_on n before line ls fault (fault_at n before line) refl is (wrong_from ls (n + 1) (with_line n before line) fault)

short_or_not : (bytes : List ℕ) (short : Bool) (fault : ScriptFault) → is_short bytes ≡ short → hostile_of bytes ≡ Err fault
    → ((is_short bytes ≡ false) × (fault ≡ record { line = 0; why = Limit })) ⊎ ((is_short bytes ≡ true) × WrongFrom 1 no_input (lines bytes) fault)
short_or_not bytes true fault short is = inr (short, wrong_from (lines bytes) 1 no_input fault (rw short at is))
short_or_not bytes false fault long is = inl (long, cc (rw long at is))

pub finds_lem : FindsFirstWrong
finds_lem bytes fault is = ⊎_elim inl (λ w. let wrong = w.1 in inr (
  w.0,
  record {
    good = wrong.good;
    bad = wrong.bad;
    rest = wrong.rest;
    input = wrong.said;
    split = wrong.split;
    line = wrong.line;
    right = wrong.right;
    why = wrong.why;
  },
)) (short_or_not bytes (is_short bytes) fault refl is)

right_or_on : (n : ℕ) (before : Input) (line : List ℕ) (ls : List (List ℕ)) (said : Input) (why : Option Why6) → fault_at n before line ≡ why
    → or_fault why n (read_from (n + 1) (with_line n before line) ls) ≡ Ok said
    → (read_from (n + 1) (with_line n before line) ls ≡ Ok said → Reads (n + 1) (with_line n before line) ls said) → Reads n before (line ∷ ls) said
right_or_on n before line ls said None none is on = (none, on is)
right_or_on n before line ls said (Some why) some is on = absurd (cc (is))

reads_from : (ls : List (List ℕ)) (n : ℕ) (before said : Input) → read_from n before ls ≡ Ok said → Reads n before ls said
reads_from [] n before said is = cc (is)
reads_from (line ∷ ls) n before said is = right_or_on n before line ls said (fault_at n before line) refl is (reads_from ls (n + 1) (with_line n before line) said)

reads_short : (bytes : List ℕ) (short : Bool) (said : Input) → is_short bytes ≡ short → hostile_of bytes ≡ Ok said → (is_short bytes ≡ true) × Reads 1 no_input (lines bytes) said
reads_short bytes true said short is = (short, reads_from (lines bytes) 1 no_input said (rw short at is))
reads_short bytes false said long is = absurd (cc (rw long at is))

pub refuses_lem : RefusesNothing
refuses_lem bytes said is = reads_short bytes (is_short bytes) said refl is

accepts_from : (ls : List (List ℕ)) (n : ℕ) (before said : Input) → Reads n before ls said → read_from n before ls ≡ Ok said
accepts_from [] n before said is = ap Ok is
accepts_from (line ∷ ls) n before said is =
    ap (λ (f : Option Why6). or_fault f n (read_from (n + 1) (with_line n before line) ls)) is.0 ∙ accepts_from ls (n + 1) (with_line n before line) said is.1

pub accepts_lem : AcceptsRight
accepts_lem bytes said short is = rw short (accepts_from (lines bytes) 1 no_input said is)
