-- What a line says is kept.
use Rattle.std.proofs.Common.{◌≡◌, ℕ, ◌+◌, ◌≤◌, Bool, true, false, List, [], ◌∷◌, ◌++◌, Option, Some, None, refl, sym, ◌∙◌, ap, subst, arith}
use Rattle.std.specs.Prelude.{nat_le, is_some}
use Rattle.std.specs.Option.{option_or}
use Rattle.std.proofs.lemmas.Bool.Decides.{nat_tests}
use Rattle.script_text.specs.declared.fault.Why6.{Why6}
use Rattle.trace_model.specs.Traces.{TraceLine}
use Rattle.trace_model.specs.declared.what.TraceWhat.{TraceWhat}
use Rattle.trace_lines.specs.declared.said.Said.{Said}
use Rattle.trace_lines.specs.declared.said.Said.TheVariants.{Nothing, Ring, Says}
use Rattle.trace_lines.specs.Rows.{said_in}
use Rattle.trace_lines.specs.Faults.{unless, data_of, line_limit, order_fault, range_fault, row_fault, fault_of, IsRead}
use Rattle.trace_lines.specs.Traces.{Trace, is_first, starts, size_of, said_at, fault_at, with_said, with_line}
use Rattle.trace_check.specs.declared.reading.Reading.{Reading}
use Rattle.trace_check.specs.declared.watch.Watch.{Watch}
use Rattle.trace_check.specs.Following.{Follows}
use Rattle.trace_check.specs.Reading.{Keeps}

neither : (a b : Option Why6) → option_or a b ≡ None → (a ≡ None) × (b ≡ None)
neither None b is = (refl, is)
neither (Some why) b is = absurd (cc (is))

holds : (b : Bool) (why : Why6) → unless b why ≡ None → b ≡ true
holds true why is = refl
holds false why is = absurd (cc (is))

-- nothing stands against a row
pub row_right : (number : ℕ) (first : Bool) (said : Said) → row_fault number first said ≡ None → (number ≤ 20000) × (order_fault first said ≡ None) × (range_fault said ≡ None)
row_right number first said is =
    let outer = neither (option_or (line_limit number) (order_fault first said)) (range_fault said) is in
    let inner = neither (line_limit number) (order_fault first said) outer.0 in
    let few : nat_le number 20000 ≡ true = holds (nat_le number 20000) _ inner.0 in
    (grind (arith, nat_tests, few), inner.1, outer.1)

-- the line is right behind the trace so far, and says this there
pub line_right : (number : ℕ) (t : Trace) (r : Reading) (line : List ℕ) (said : Said) → Keeps t r → IsRead number r.ring r.first line said
    → (fault_at number t line ≡ None) × (with_line number t line ≡ with_said number t (Some said))
line_right number t r line said k read =
    let said_is : said_at t line ≡ Some said = ap (λ (g : Option ℕ). said_in (data_of g) line) (sym k.ring) ∙ read.0 in
    let right : row_fault number (starts t) said ≡ None = subst (λ (f : Bool). row_fault number f said ≡ None) k.first read.1 in
    (ap (fault_of number (starts t)) said_is ∙ right, ap (with_said number t) said_is)

no_lines : (ring : Option ℕ) (ls : List TraceLine) → is_first ring ls ≡ true → ls ≡ []
no_lines None [] is = refl
no_lines None (l ∷ ls) is = absurd (cc (is))
no_lines (Some n) ls is = absurd (cc (is))

not_first : (ring : Option ℕ) (ls : List TraceLine) (l : TraceLine) → is_first ring (ls ++ l ∷ []) ≡ false
not_first None [] l = refl
not_first None (x ∷ xs) l = refl
not_first (Some n) ls l = refl

said_pages : (pages : Option ℕ) (ls : List TraceLine) → is_some pages ≡ true → is_first pages ls ≡ false
said_pages None ls is = absurd (cc (is))
said_pages (Some n) ls is = refl

pub keeps_nothing : (number : ℕ) (t : Trace) (r : Reading) (line : List ℕ) → Keeps t r → IsRead number r.ring r.first line Nothing
    → (fault_at number t line ≡ None) × Keeps (with_line number t line) r
keeps_nothing number t r line k read =
    let right = line_right number t r line Nothing k read in
    (right.0, subst (λ (u : Trace). Keeps u r) (sym right.1) k)

pub keeps_ring : (number : ℕ) (t : Trace) (r s : Reading) (line : List ℕ) (pages : Option ℕ) → Keeps t r → IsRead number r.ring r.first line (Ring pages)
    → s.ring ≡ pages → s.first ≡ false → Follows (data_of pages) [] s.watch
    → (fault_at number t line ≡ None) × Keeps (with_line number t line) s
keeps_ring number t r s line pages k read ring first follows =
    let right = line_right number t r line (Ring pages) k read in
    let row = row_right number r.first (Ring pages) read.1 in
    let none : t.lines ≡ [] = no_lines t.ring t.lines (sym k.first ∙ holds r.first _ row.1) in (
      right.0,
      subst (λ (u : Trace). Keeps u s) (sym right.1) (record {
        ring = ring;
        first = first ∙ sym (said_pages pages t.lines (holds (is_some pages) _ row.2));
        follows = subst (λ (ls : List TraceLine). Follows (data_of pages) ls s.watch) (sym none) follows;
      }),
    )

pub keeps_says : (number : ℕ) (t : Trace) (r s : Reading) (line : List ℕ) (what : TraceWhat) → Keeps t r → IsRead number r.ring r.first line (Says (Some what))
    → s.ring ≡ r.ring → s.first ≡ false
    → ((d : ℕ) (lines : List TraceLine) → Follows d lines r.watch → Follows d (lines ++ record { number = number; what = what } ∷ []) s.watch)
    → (fault_at number t line ≡ None) × Keeps (with_line number t line) s
keeps_says number t r s line what k read ring first follows =
    let right = line_right number t r line (Says (Some what)) k read in (
      right.0,
      subst (λ (u : Trace). Keeps u s) (sym right.1) (record {
        ring = ring ∙ k.ring;
        first = first ∙ sym (not_first t.ring t.lines (record { number = number; what = what }));
        follows = follows (size_of t) t.lines k.follows;
      }),
    )

pub says_something : (number : ℕ) (ring : Option ℕ) (first : Bool) (line : List ℕ) → IsRead number ring first line (Says None) → ⊥
says_something number ring first line read = let row = row_right number first (Says None) read.1 in cc (row.2)
