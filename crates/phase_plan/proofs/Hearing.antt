-- What lines say to a device, line by line.
use Rattle.std.proofs.Common.{◌≡◌, ℕ, ◌+◌, ◌<◌, ◌||◌, Bool, List, [], ◌∷◌, ◌++◌, length, take, get_or, ap, sym, ◌∙◌}
use Rattle.std.specs.List.{list_any}
use Rattle.std.proofs.lemmas.List.{take_more, append-nil}
use Rattle.std.proofs.lemmas.List.Folds.{list_any-append}
use Rattle.std.proofs.lemmas.Grind.{flat_map-append}
use Rattle.script_lines.specs.declared.line.Line.{Line}
use Rattle.script_lines.specs.Lines.{Says, said}
use Rattle.script_phases.specs.Says.{heard_by, said_to}

-- one more line
pub said_taken : (device : ℕ) (part : List Line) (i : ℕ) (line : Line) → i < length part → line ≡ get_or part i line → said_to device (take (i + 1) part) ≡ said_to device (take i part) ++ heard_by device (said line.what)
said_taken device part i line less is =
    ap (said_to device) (take_more part i line less ∙ ap (λ x. take i part ++ x ∷ []) (sym is))
    ∙ flat_map-append (λ l. heard_by device (said l.what)) (take i part) (line ∷ [])
    ∙ ap (λ (l : List Says). said_to device (take i part) ++ l) (append-nil (heard_by device (said line.what)))

-- of lines behind others
pub any_said : (f : Says → Bool) (device : ℕ) (xs ys : List Line) → list_any f (said_to device (xs ++ ys)) ≡ (list_any f (said_to device xs) || list_any f (said_to device ys))
any_said f device xs ys = ap (list_any f) (flat_map-append (λ l. heard_by device (said l.what)) xs ys) ∙ list_any-append f (said_to device xs) (said_to device ys)
