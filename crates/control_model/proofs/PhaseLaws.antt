-- The openings of all phases, one phase after the other.
use Rattle.std.proofs.Common.{◌≡◌, ◌∙◌, ℕ, zero, suc, ◌+◌, ◌<◌, ◌≤◌, false, List, [], ◌∷◌, ◌++◌, length, map, replicate, get_or, refl, sym, ap, subst, arith, append_assoc, Option, Some, None, Bool}
use Rattle.std.specs.Prelude.{All, slice_get}
use Rattle.std.specs.List.{AllByRecursion, range_with_len}
use Rattle.std.proofs.lemmas.List.{append-nil}
use Rattle.std.proofs.lemmas.List.Elements.{All-from_recursion}
use Rattle.std.proofs.lemmas.List.FromFn.{get_or-map-range_with_len, length-map-range_with_len}
use Rattle.script_lines.specs.declared.line.DeviceSpec.{DeviceSpec}
use Rattle.script_lines.specs.declared.line.Line.{Line}
use Rattle.script_lines.specs.Parts.{parts, offered, ring_pages_of}
use Rattle.script_lines.specs.WellFormed.{AllRight}
use Rattle.script_phases.specs.Agreed.{agreed_in}
use Rattle.script_phases.specs.Openings.{Opening as PhaseOpening, Phase, is_opened, opened_from, others, phases_from}
use Rattle.phase_plan.specs.declared.device_lines.DeviceLines.{DeviceLines}
use Rattle.phase_plan.specs.declared.opening.Opening.{Opening as Place}
use Rattle.phase_plan.specs.Told.{AreDealt}
use Rattle.phase_plan.specs.Opened.{AreEnded, parts_left, plain}
use Rattle.phase_plan.proofs.Channels.{HasItsSpec, specs_are as specs_are_of}
use Rattle.control_model.specs.declared.opening.Opening.{Opening}
use Rattle.control_model.specs.declared.planning.Next.{Next}
use Rattle.control_model.specs.Plan.{first_gpadl}
use Rattle.control_model.specs.Openings.{numbered, fate_of, plan_of}
use Rattle.control_model.specs.Numbering.{AreChannels, Numbered}
use Rattle.control_model.proofs.ScriptLaws.{size_of}

-- what was made so far, and what is left
pub record SoFar (lines : List Line) (left : Option ℕ) (made : List (List Opening)) (ended : List Bool) (next : Next) (relid : ℕ) : Type 0 where
  pub number : ℕ
  pub earlier : List Line
  pub all : (plan_of lines).phases ≡ made ++ numbered (λ d. ring_pages_of d lines) next.gpadl next.page (phases_from (agreed_in lines) (offered lines) number relid earlier (parts_left lines left))
  pub ended_are : AreEnded earlier ended

pub none_so_far : (lines : List Line) (made : List (List Opening)) (ended : List Bool) (relid : ℕ) → made ≡ [] → relid ≡ length (offered lines) + 1 → AreEnded [] ended → SoFar lines (Some 0) made ended (record { gpadl = first_gpadl; page = 0 }) relid
none_so_far lines made ended relid none is served = record {
  number = 0;
  earlier = [];
  all = (λ i. sym none i ++ numbered (λ d. ring_pages_of d lines) first_gpadl 0 (phases_from (agreed_in lines) (offered lines) 0 (sym is i) [] (parts lines)));
  ended_are = served;
}

-- one phase more
pub phase_on : (lines part : List Line) (at : ℕ) (left : Option ℕ) (made : List (List Opening)) (os : List Opening) (ended ended' : List Bool) (next next' : Next) (relid relid' : ℕ) (so_far : SoFar lines (Some at) made ended next relid) → parts_left lines (Some at) ≡ part ∷ parts_left lines left
    → Numbered (λ d. ring_pages_of d lines) (λ device. fate_of device part) (opened_from (is_opened so_far.earlier part) 0 relid (offered lines)) [] next os next'
    → relid' ≡ relid + length (others (opened_from (is_opened so_far.earlier part) 0 relid (offered lines))) → AreEnded (so_far.earlier ++ part) ended' → SoFar lines left (made ++ os ∷ []) ended' next' relid'
phase_on lines part at left made os ended ended' next next' relid relid' so_far cut now later over =
    let S : ℕ → ℕ = λ d. ring_pages_of d lines in
    let rest : ℕ → List Phase = λ r. phases_from (agreed_in lines) (offered lines) (so_far.number + 1) r (so_far.earlier ++ part) (parts_left lines left) in
    let here : numbered S next.gpadl next.page (phases_from (agreed_in lines) (offered lines) so_far.number relid so_far.earlier (parts_left lines (Some at))) ≡ os ∷ numbered S next'.gpadl next'.page (rest relid') =
    ap (λ ps. numbered S next.gpadl next.page (phases_from (agreed_in lines) (offered lines) so_far.number relid so_far.earlier ps)) cut
    ∙ (λ i. sym now.openings i ∷ numbered S (sym now.gpadl i) (sym now.page i) (rest (sym later i))) in
    record {
      number = so_far.number + 1;
      earlier = so_far.earlier ++ part;
      all = so_far.all ∙ ap (λ l. made ++ l) here ∙ sym (append_assoc made (os ∷ []) (numbered S next'.gpadl next'.page (rest relid')));
      ended_are = over;
    }

-- no device has ended before the first phase
pub none_over : (count : ℕ) → AreEnded [] (replicate count false)
none_over zero k b less = absurd (omega (arith, less))
none_over (suc n) zero b less = refl
none_over (suc n) (suc k) b less = none_over n k b (omega (arith, less))

-- what is known of the channels that a phase opens
pub channels_known : (lines part : List Line) (specs : List DeviceSpec) (sizes : List ℕ) (devices : List DeviceLines) (p : ℕ → Bool) (next : ℕ) (opened : List Place) → specs ≡ offered lines → sizes ≡ map (λ d. ring_pages_of d lines) (range_with_len 0 (length specs))
    → opened ≡ map plain (opened_from p 0 next specs) → AreDealt part devices → AreChannels (λ d. ring_pages_of d lines) part specs sizes devices (opened_from p 0 next (offered lines)) opened
channels_known lines part specs sizes devices p next opened specs_are sizes_are is dealt =
    let S : ℕ → ℕ = λ d. ring_pages_of d lines in
    let n = length specs in
    let each : All (λ (c : PhaseOpening). c.spec ≡ get_or specs c.device c.spec) (opened_from p 0 next specs) =
    All-from_recursion (λ (c : PhaseOpening). c.spec ≡ get_or specs c.device c.spec) (opened_from p 0 next specs) (have_specs specs (opened_from p 0 next specs) (specs_are_of p next specs)) in
    record {
      same = ap (λ (ss : List DeviceSpec). map plain (opened_from p 0 next ss)) (sym specs_are) ∙ sym is;
      specs_are = subst (λ (ss : List DeviceSpec). All (λ (c : PhaseOpening). c.spec ≡ get_or specs c.device c.spec) (opened_from p 0 next ss)) specs_are each;
      sizes_are = λ device m less.
          let within : device < n = let long = ap length sizes_are ∙ length-map-range_with_len S 0 n in omega (arith, less, long) in
          ap (λ (xs : List ℕ). get_or xs device m) sizes_are ∙ get_or-map-range_with_len S 0 n device device m within (omega arith);
      dealt = dealt;
    }
  where
    here : (specs : List DeviceSpec) (k : ℕ) (s : DeviceSpec) → slice_get specs k ≡ Some s → s ≡ get_or specs k s
    here [] k s e = absurd (cc)
    here (x ∷ specs) zero s e = cc
    here (x ∷ specs) (suc k) s e = here specs k s e

    have_specs : (specs : List DeviceSpec) (cs : List PhaseOpening) → AllByRecursion (HasItsSpec specs) cs → AllByRecursion (λ (c : PhaseOpening). c.spec ≡ get_or specs c.device c.spec) cs
    have_specs specs [] all = tt
    have_specs specs (c ∷ cs) all = (here specs c.device c.spec all.0, have_specs specs cs all.1)

-- rings have 16 pages at most
pub small_sizes : (lines : List Line) (count : ℕ) (sizes : List ℕ) → AllRight (offered lines) lines → sizes ≡ map (λ d. ring_pages_of d lines) (range_with_len 0 count) → All (λ n. n ≤ 16) sizes
small_sizes lines count sizes right is k d less =
    let S : ℕ → ℕ = λ d. ring_pages_of d lines in
    let long = ap length is ∙ length-map-range_with_len S 0 count in
    let item : get_or sizes k d ≡ S k = ap (λ (xs : List ℕ). get_or xs k d) is ∙ get_or-map-range_with_len S 0 count k k d (omega (arith, less, long)) (omega arith) in
    subst (λ n. n ≤ 16) (sym item) (size_of (offered lines) k lines right).1

-- no phase is left
pub none_left : (lines : List Line) (made : List (List Opening)) (ended : List Bool) (next : Next) (relid : ℕ) (left : Option ℕ) → SoFar lines left made ended next relid → left ≡ None → (plan_of lines).phases ≡ made
none_left lines made ended next relid left so_far none =
    so_far.all ∙ ap (λ l. made ++ numbered (λ d. ring_pages_of d lines) next.gpadl next.page (phases_from (agreed_in lines) (offered lines) so_far.number relid so_far.earlier (parts_left lines l))) none ∙ append-nil made
