-- How devices end, line by line.
use Rattle.std.proofs.Common.{◌≡◌, ℕ, ◌+◌, ◌<◌, ◌==◌, Bool, true, false, cond, List, [], ◌∷◌, ◌++◌, length, take, get_or, append_assoc, refl, ap, sym, ◌∙◌, subst, arith, inl, inr, slice_set, slice_index_or, Option, Some, None}
use Rattle.std.specs.Prelude.{◌||◌, if◌then◌else◌}
use Rattle.std.specs.List.{list_any}
use Rattle.std.proofs.Math.ListN.{length-set}
use Rattle.std.proofs.lemmas.List.{get_or-set_same, get_or-set_other, take_more, append-nil}
use Rattle.std.proofs.lemmas.Bool.{cases_eq}
use Rattle.std.proofs.lemmas.Bool.Decides.{nat_tests}
use Rattle.script_lines.specs.declared.line.Line.{Line}
use Rattle.script_lines.specs.declared.line.What.{What}
use Rattle.script_lines.specs.Lines.{Says, said, is_rescind, is_close}
use Rattle.script_phases.specs.Says.{said_to, heard_by, is_rescinded, is_shut}
use Rattle.bus_script.specs.declared.outcome.LineResult.{LineResult}
use Rattle.bus_script.specs.declared.outcome.LineResult.TheVariants.{Gone as LineGone, Closed as LineClosed}
use Rattle.bus_model.specs.Run.{ended_as}
use Rattle.phase_plan.proofs.Hearing.{any_said}
use Rattle.bus_plan.specs.declared.ending.Ending.{Ending}
use Rattle.bus_plan.specs.Endings.{AreEnded, EndsOn, left_on, outcome_left}

left_same : (o : Option LineResult) → o ≡ left_on false false o
left_same None = refl
left_same (Some x) = refl

-- a line that ends nothing
pub ends_none : (what : What) (ended : List (Option Ending)) → ((k : ℕ) → list_any is_rescind (heard_by k (said what)) ≡ false) → ((k : ℕ) → list_any is_close (heard_by k (said what)) ≡ false) → EndsOn what ended ended
ends_none what ended not_gone not_shut = record {
  count = refl;
  each = λ k less.
      let old = outcome_left (slice_index_or ended k None) in
      left_same old ∙ ap (λ b. left_on b false old) (sym (not_gone k)) ∙ ap (λ b. left_on (list_any is_rescind (heard_by k (said what))) b old) (sym (not_shut k));
}

any_heard : (f : Says → Bool) (b : Bool) (s : Says) → list_any f (cond b (s ∷ []) []) ≡ cond b (f s) false
any_heard f true s = or_false (f s)
  where
    or_false : (b : Bool) → (b || false) ≡ b
    or_false true = refl
    or_false false = refl
any_heard f false s = refl

-- a line that speaks to one device, and says this
pub ends_one : (what : What) (ended : List (Option Ending)) (device : ℕ) (s : Says) (ending : Option Ending) → said what ≡ Some (device, s) → device < length ended
    → outcome_left ending ≡ left_on (is_rescind s) (is_close s) (outcome_left (slice_index_or ended device None)) → EndsOn what ended (slice_set ended device ending)
ends_one what ended device s ending says within is = record {
  count = length-set ended device ending;
  each = λ k less.
      let old = outcome_left (slice_index_or ended k None) in
      let heard : (f : Says → Bool) → cond (device == k) (f s) false ≡ list_any f (heard_by k (said what)) = λ f. sym (ap (λ o. list_any f (heard_by k o)) says ∙ any_heard f (device == k) s) in
      let both : left_on (cond (device == k) (is_rescind s) false) (cond (device == k) (is_close s) false) old ≡ left_on (list_any is_rescind (heard_by k (said what))) (list_any is_close (heard_by k (said what))) old =
      ap (λ b. left_on b (cond (device == k) (is_close s) false) old) (heard is_rescind) ∙ ap (λ b. left_on (list_any is_rescind (heard_by k (said what))) b old) (heard is_close) in
      elim (cases_eq k device) [
        | inl e ↦
            let same : (device == k) ≡ true = grind (arith, nat_tests) in
            subst (λ j. outcome_left (slice_index_or (slice_set ended device ending) j None) ≡ left_on (is_rescind s) (is_close s) (outcome_left (slice_index_or ended j None))) (sym e)
            (ap outcome_left (get_or-set_same ended device ending None within) ∙ is)
            ∙ (ap (λ b. left_on (cond b (is_rescind s) false) (cond b (is_close s) false) old) (sym same) ∙ both)
        | inr ne ↦
            let other : (device == k) ≡ false = grind (arith, nat_tests) in
            ap outcome_left (get_or-set_other ended device k ending None ne) ∙ left_same old
            ∙ (ap (λ b. left_on (cond b (is_rescind s) false) (cond b (is_close s) false) old) (sym other) ∙ both)
      ];
}

-- a line that speaks to a device of no ending
pub ends_asked : (what : What) (ended : List (Option Ending)) (device : ℕ) (s : Says) → said what ≡ Some (device, s) → is_rescind s ≡ false → is_close s ≡ false → EndsOn what ended ended
ends_asked what ended device s says not_gone not_shut =
    ends_none what ended (λ k. ap (λ o. list_any is_rescind (heard_by k o)) says ∙ (any_heard is_rescind (device == k) s ∙ (ap (λ b. cond (device == k) b false) not_gone ∙ never (device == k))))
    (λ k. ap (λ o. list_any is_close (heard_by k o)) says ∙ (any_heard is_close (device == k) s ∙ (ap (λ b. cond (device == k) b false) not_shut ∙ never (device == k))))
  where
    never : (b : Bool) → cond b false false ≡ false
    never true = refl
    never false = refl

pub ends_silent : (what : What) (ended : List (Option Ending)) → said what ≡ None → EndsOn what ended ended
ends_silent what ended silent = ends_none what ended (λ k. ap (λ o. list_any is_rescind (heard_by k o)) silent) (λ k. ap (λ o. list_any is_close (heard_by k o)) silent)

-- what earlier lines leave, with one more
abbrev left : Bool → Bool → Option LineResult
left gone shut = if gone then Some LineGone else if shut then Some LineClosed else None

one_left : (g s r c : Bool) → left_on r c (left g s) ≡ left (g || r) (s || c)
one_left true true true c = refl
one_left true true false c = refl
one_left true false true c = refl
one_left true false false c = refl
one_left false true true c = refl
one_left false true false c = refl
one_left false false true c = refl
one_left false false false true = refl
one_left false false false false = refl

ended_more : (k : ℕ) (earlier : List Line) (line : Line) → left_on (list_any is_rescind (heard_by k (said line.what))) (list_any is_close (heard_by k (said line.what))) (ended_as k earlier) ≡ ended_as k (earlier ++ line ∷ [])
ended_more k earlier line =
    let here : said_to k (line ∷ []) ≡ heard_by k (said line.what) = append-nil (heard_by k (said line.what)) in
    let more : (f : Says → Bool) → (list_any f (said_to k earlier) || list_any f (heard_by k (said line.what))) ≡ list_any f (said_to k (earlier ++ line ∷ [])) =
    λ f. ap (λ ss. list_any f (said_to k earlier) || list_any f ss) (sym here) ∙ sym (any_said f k earlier (line ∷ [])) in
    one_left (is_rescinded k earlier) (is_shut k earlier) (list_any is_rescind (heard_by k (said line.what))) (list_any is_close (heard_by k (said line.what)))
    ∙ (ap (λ b. left b (is_shut k earlier || list_any is_close (heard_by k (said line.what)))) (more is_rescind) ∙ ap (left (is_rescinded k (earlier ++ line ∷ []))) (more is_close))

ends_more : (earlier : List Line) (line : Line) (old new : List (Option Ending)) → AreEnded earlier old → EndsOn line.what old new → AreEnded (earlier ++ line ∷ []) new
ends_more earlier line old new are on k less =
    let within : k < length old = omega (arith, less, on.count) in
    on.each k within ∙ (ap (left_on (list_any is_rescind (heard_by k (said line.what))) (list_any is_close (heard_by k (said line.what)))) (are k within) ∙ ended_more k earlier line)

pub ended_next : (earlier part : List Line) (i : ℕ) (line : Line) (old new : List (Option Ending)) → i < length part → line ≡ get_or part i line → AreEnded (earlier ++ take i part) old → EndsOn line.what old new → AreEnded (earlier ++ take (i + 1) part) new
ended_next earlier part i line old new less is are on =
    let taken : take (i + 1) part ≡ take i part ++ line ∷ [] = take_more part i line less ∙ ap (λ x. take i part ++ x ∷ []) (sym is) in
    subst (λ l. AreEnded l new) (append_assoc earlier (take i part) (line ∷ []) ∙ ap (λ l. earlier ++ l) (sym taken)) (ends_more (earlier ++ take i part) line old new are on)
