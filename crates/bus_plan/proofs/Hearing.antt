-- What lines say to a device, line by line.
use Rattle.std.proofs.Common.{◌≡◌, ℕ, zero, suc, arith, subst, ◌+◌, ◌<◌, List, [], ◌∷◌, ◌++◌, length, take, drop, get_or, ap, sym, ◌∙◌}
use Rattle.std.specs.List.{flat_map}
use Rattle.std.proofs.lemmas.List.{drop_more, take-append-drop}
use Rattle.std.proofs.lemmas.Grind.{flat_map-append}
use Rattle.script_lines.specs.declared.line.Line.{Line}
use Rattle.script_lines.specs.Lines.{Says, said}
use Rattle.script_phases.specs.Says.{heard_by, said_to}
use Rattle.phase_plan.proofs.Hearing.{said_taken}
use Rattle.bus_plan.specs.Heard.{IsBelow, AllBelow}

-- one more line
pub told_taken : {X : Type 0} (f : Says → List X) (device : ℕ) (part : List Line) (i : ℕ) (line : Line) → i < length part → line ≡ get_or part i line
    → flat_map f (said_to device (take (i + 1) part)) ≡ flat_map f (said_to device (take i part)) ++ flat_map f (heard_by device (said line.what))
told_taken f device part i line less is = ap (flat_map f) (said_taken device part i line less is) ∙ flat_map-append f (said_to device (take i part)) (heard_by device (said line.what))

-- the lines before one, it, and those behind it
said_cut : (device : ℕ) (part : List Line) (i : ℕ) (line : Line) → i < length part → line ≡ get_or part i line → said_to device part ≡ said_to device (take i part) ++ (heard_by device (said line.what) ++ said_to device (drop (i + 1) part))
said_cut device part i line less is =
    ap (said_to device) (sym (take-append-drop i part) ∙ ap (λ l. take i part ++ l) (drop_more part i line less ∙ ap (λ x. x ∷ drop (i + 1) part) (sym is)))
    ∙ flat_map-append (λ l. heard_by device (said l.what)) (take i part) (line ∷ drop (i + 1) part)

pub told_cut : {X : Type 0} (f : Says → List X) (device : ℕ) (part : List Line) (i : ℕ) (line : Line) → i < length part → line ≡ get_or part i line
    → flat_map f (said_to device part) ≡ flat_map f (said_to device (take i part)) ++ (flat_map f (heard_by device (said line.what)) ++ flat_map f (said_to device (drop (i + 1) part)))
told_cut f device part i line less is =
    let rest = said_to device (drop (i + 1) part) in
    ap (flat_map f) (said_cut device part i line less is)
    ∙ (flat_map-append f (said_to device (take i part)) (heard_by device (said line.what) ++ rest)
    ∙ ap (λ l. flat_map f (said_to device (take i part)) ++ l) (flat_map-append f (heard_by device (said line.what)) rest))

-- a line among lines that speak of devices below a count
pub below_at : (count : ℕ) (part : List Line) (i : ℕ) (line : Line) → AllBelow count part → i < length part → line ≡ get_or part i line → IsBelow count line.what
below_at count [] i line all less is = absurd (omega (arith, less))
below_at count (l ∷ part) zero line all less is = subst (λ x. IsBelow count x.what) (sym is) all.0
below_at count (l ∷ part) (suc i) line all less is = below_at count part i line all.1 (omega (arith, less)) is
