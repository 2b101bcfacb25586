-- The lines behind so many.
use Rattle.std.proofs.Common.{◌≡◌, ℕ, zero, suc, ◌+◌, ◌-◌, ◌≤◌, List, [], ◌∷◌, ◌++◌, length, drop, sym, ap, ◌∙◌, arith, append_assoc}
use Rattle.std.specs.Prelude.{Some, Err, slice_get}
use Rattle.std.specs.Str.Lines.{lines}
use Rattle.std.proofs.lemmas.List.{drop-drop, length-drop, length-append}
use Rattle.script_text.specs.declared.fault.ScriptFault.{ScriptFault}
use Rattle.script_lines.specs.Grammar.{script_of}
use Rattle.script_lines.proofs.Firsts.{finds_lem}
use Rattle.script_explain.specs.Explained.{Tells, head_text, mark_text}
use Rattle.script_explain.specs.declared.mark.Mark.{Mark}
use Rattle.script_explain.specs.Help.{help_text}
use Rattle.script_explain.specs.Marks.{mark_at}

-- none is left behind the last
pub past : {X : Type 0} (ls rest : List X) (i : ℕ) → rest ≡ drop i ls → rest ≡ [] → length ls ≤ i
past ls rest i is none = omega (arith, length-drop i ls, ap length (sym is ∙ none))

at_front : {X : Type 0} (ls rest : List X) (i : ℕ) (x : X) → drop i ls ≡ x ∷ rest → slice_get ls i ≡ Some x
at_front {X} [] rest i x is = absurd (omega (arith, ap length is, length-drop {A = X} i []))
at_front (y ∷ ls) rest zero x is = cc
at_front (y ∷ ls) rest (suc i) x is = at_front ls rest i x is

-- the first that is left
pub here : {X : Type 0} (ls left rest : List X) (i : ℕ) (x : X) → left ≡ drop i ls → left ≡ x ∷ rest → slice_get ls i ≡ Some x
here ls left rest i x is front = at_front ls rest i x (sym is ∙ front)

-- and those behind it
pub behind : {X : Type 0} (ls left rest : List X) (i : ℕ) (x : X) → left ≡ drop i ls → left ≡ x ∷ rest → rest ≡ drop (i + 1) ls
behind ls left rest i x is front = ap (drop 1) (sym front ∙ is) ∙ drop-drop 1 i ls

-- the fault of a script is of one of its lines
pub is_line : (bytes : List ℕ) (fault : ScriptFault) → script_of bytes ≡ Err fault → (1 ≤ fault.line) × (fault.line ≤ length (lines bytes))
is_line bytes fault is =
    let w = finds_lem bytes fault is in
    (omega (arith, w.line), omega (arith, w.line, ap length w.split, length-append w.good (w.bad ∷ w.rest)))

-- what is told of a fault in three parts
pub tells_lem : {fault : ScriptFault} {bytes line head marked text : List ℕ} {mark : Mark} → slice_get (lines bytes) (fault.line - 1) ≡ Some line
    → head ≡ head_text fault line → mark ≡ mark_at line fault.why → marked ≡ head ++ mark_text mark → text ≡ marked ++ help_text bytes fault.line line fault.why → Tells fault bytes text
tells_lem {fault} {bytes} {line} {head} {marked} {text} {mark} found first there second third = record {
  line = line;
  line_is = found;
  is = third ∙ ap (λ t. t ++ help_text bytes fault.line line fault.why) (second ∙ ap (λ m. head ++ mark_text m) there ∙ ap (λ t. t ++ mark_text (mark_at line fault.why)) first) ∙ append_assoc (head_text fault line) (mark_text (mark_at line fault.why)) (help_text bytes fault.line line fault.why);
}

-- four parts behind a text, one by one
pub four_parts : {X : Type 0} {t u v w : List X} (s a b c d : List X) → t ≡ s ++ a → u ≡ t ++ b → v ≡ u ++ c → w ≡ v ++ d → w ≡ s ++ (a ++ (b ++ (c ++ d)))
four_parts {X} {t} {u} {v} {w} s a b c d first second third fourth =
    fourth ∙ ap (λ l. l ++ d) (third ∙ ap (λ l. l ++ c) (second ∙ ap (λ l. l ++ b) first))
    ∙ append_assoc ((s ++ a) ++ b) c d ∙ append_assoc (s ++ a) b (c ++ d) ∙ append_assoc s a (b ++ (c ++ d))

-- three
pub three_parts : {X : Type 0} {t u v : List X} (s a b c : List X) → t ≡ s ++ a → u ≡ t ++ b → v ≡ u ++ c → v ≡ s ++ (a ++ (b ++ c))
three_parts {X} {t} {u} {v} s a b c first second third =
    third ∙ ap (λ l. l ++ c) (second ∙ ap (λ l. l ++ b) first) ∙ append_assoc (s ++ a) b c ∙ append_assoc s a (b ++ c)
