-- Which devices the lines of a phase end.
use Rattle.std.proofs.Common.{◌≡◌, ℕ, ◌+◌, ◌<◌, ◌≤◌, ◌||◌, Bool, true, false, List, ◌++◌, length, get_or, refl, ap, sym, ◌∙◌, subst, arith, inl, inr}
use Rattle.std.specs.Prelude.{is_some, slice_set}
use Rattle.std.proofs.lemmas.List.{get_or-set_same, get_or-set_other}
use Rattle.std.proofs.lemmas.Bool.{cases_eq}
use Rattle.script_lines.specs.declared.line.Line.{Line}
use Rattle.script_lines.specs.Lines.{is_rescind, is_close}
use Rattle.script_phases.specs.Says.{said_to, is_rescinded, is_shut}
use Rattle.script_phases.specs.Openings.{is_ended}
use Rattle.phase_plan.specs.declared.device_lines.DeviceLines.{DeviceLines}
use Rattle.phase_plan.specs.Told.{IsTold, AreDealt}
use Rattle.phase_plan.specs.Opened.{AreEnded}
use Rattle.phase_plan.proofs.Hearing.{any_said}
use Rattle.phase_plan.proofs.Noting.{rescinded_is}

-- the first devices are noted as these lines leave them, and the others stand as they did
abbrev pub NotedTo : List Line → List Bool → ℕ → List Bool → Type 0
NotedTo lines old i now = (k : ℕ) (b : Bool) → k < length old → (k < i → get_or now k b ≡ is_ended k lines) × (i ≤ k → get_or now k b ≡ get_or old k b)

regroup : (a b p q : Bool) → ((a || b) || (p || q)) ≡ ((a || p) || (b || q))
regroup true b p q = refl
regroup false true true q = refl
regroup false true false q = refl
regroup false false p q = refl

-- with the lines of one more phase
ended_more : (k : ℕ) (earlier part : List Line) (d : DeviceLines) → IsTold (said_to k part) d → (is_ended k earlier || (is_some d.stop || d.is_closed)) ≡ is_ended k (earlier ++ part)
ended_more k earlier part d told =
    (λ i. is_ended k earlier || (rescinded_is (said_to k part) d told i || told.closed i)) ∙ regroup (is_rescinded k earlier) (is_shut k earlier) (is_rescinded k part) (is_shut k part)
    ∙ (λ i. sym (any_said is_rescind k earlier part) i || sym (any_said is_close k earlier part) i)

pub noted_next : (earlier part : List Line) (old now : List Bool) (devices : List DeviceLines) (i : ℕ) (was ends : Bool) (d : DeviceLines) → length old ≡ length devices → length now ≡ length old → i < length old → was ≡ get_or now i false → d ≡ get_or devices i d
    → ends ≡ (is_some d.stop || d.is_closed) → AreEnded earlier old → AreDealt part devices → NotedTo (earlier ++ part) old i now → NotedTo (earlier ++ part) old (i + 1) (slice_set now i (was || ends))
noted_next earlier part old now devices i was ends d many long less was_is d_is ends_is ended dealt noted k b within =
    elim (cases_eq k i) [
      | inl e ↦
          let before : was ≡ is_ended i earlier = was_is ∙ (noted i false less).1 (omega arith) ∙ ended i false less in
          let told : IsTold (said_to i part) d = subst (IsTold (said_to i part)) (sym d_is) (dealt i d (omega (arith, less, many))) in
          let value : (was || ends) ≡ is_ended i (earlier ++ part) = (λ j. before j || ends_is j) ∙ ended_more i earlier part d told in (
            λ up. ap (λ j. get_or (slice_set now i (was || ends)) j b) e ∙ get_or-set_same now i (was || ends) b (omega (arith, less, long)) ∙ value ∙ ap (λ j. is_ended j (earlier ++ part)) (sym e),
            λ past. absurd (omega (arith, past, e)),
          )
      | inr ne ↦
          let other = get_or-set_other now i k (was || ends) b ne in
          (λ up. other ∙ (noted k b within).0 (omega (arith, up, ne)), λ past. other ∙ (noted k b within).1 (omega (arith, past)))
    ]
