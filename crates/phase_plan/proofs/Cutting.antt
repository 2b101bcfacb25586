-- Cutting a script at a line that begins a phase.
use Rattle.std.proofs.Common.{◌≡◌, ℕ, ◌+◌, ◌<◌, true, false, List, ◌∷◌, ◌++◌, length, take, drop, get_or, ap, sym, ◌∙◌}
use Rattle.std.specs.Prelude.{All}
use Rattle.std.specs.List.{slice_split}
use Rattle.std.proofs.lemmas.List.{drop_more, take-append-drop}
use Rattle.std.proofs.lemmas.List.Splits.{slice_split_at}
use Rattle.script_lines.specs.declared.line.Line.{Line}
use Rattle.script_lines.specs.Parts.{ends_part, parts}

pub split_here : (lines : List Line) (i : ℕ) (line : Line) → i < length lines → line ≡ get_or lines i line → ends_part line ≡ true → All (λ x. ends_part x ≡ false) (take i lines)
    → parts lines ≡ take i lines ∷ parts (drop (i + 1) lines)
split_here lines i line less is ends none =
    let cut : lines ≡ take i lines ++ line ∷ drop (i + 1) lines = sym (take-append-drop i lines) ∙ ap (λ l. take i lines ++ l) (drop_more lines i line less ∙ ap (λ x. x ∷ drop (i + 1) lines) (sym is)) in
    ap (slice_split ends_part) cut ∙ slice_split_at ends_part (take i lines) line (drop (i + 1) lines) none ends
