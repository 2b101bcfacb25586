-- The channels that a phase opens, as the plan has them.
use Rattle.std.proofs.Common.{◌≡◌, ◌∙◌, ℕ, ◌+◌, ◌<◌, ◌≤◌, ◌&&◌, not, Bool, false, if◌then◌else◌, List, ◌++◌, length, map, take, get_or, ap, sym, subst, arith, refl}
use Rattle.std.proofs.lemmas.List.{length-map, get_or-map, map-append, take_all}
use Rattle.script_lines.specs.declared.line.Line.{Line}
use Rattle.script_lines.specs.declared.line.DeviceSpec.{DeviceSpec}
use Rattle.script_lines.specs.declared.line.DeviceSpec.TheVariants.{Beat}
use Rattle.script_phases.specs.Openings.{Opening, subs_of, opened_from, others, is_opened}
use Rattle.phase_plan.specs.declared.device_lines.DeviceLines.{DeviceLines}
use Rattle.phase_plan.specs.declared.opening.Opening.{Opening as Place}
use Rattle.phase_plan.specs.Opened.{AreDevices, channels_if, plain}
use Rattle.phase_plan.proofs.Channels.{if_others, opened_next, other_one}

-- all devices are
pub all_planned : (i : ℕ) (specs : List DeviceSpec) (subs : List ℕ) (P : List DeviceSpec → Type 0) → map subs_of specs ≡ subs → length subs ≤ i → P (take i specs) → P specs
all_planned i specs subs P are over so_far = subst P (take_all i specs (let long = length-map specs subs_of in omega (arith, over, long, ap length are))) so_far

-- one device more
module _ (earlier part : List Line) (specs : List DeviceSpec) (ended : List Bool) (devices : List DeviceLines) (subs : List ℕ) (are : AreDevices earlier part specs ended devices subs) (start next i n : ℕ) (opened : Bool) (e : Bool) (d : DeviceLines) (os : List Place)
    (ends_long : length ended ≡ length devices) (subs_long : length subs ≡ length devices) (less : i < length devices) (e_is : e ≡ get_or ended i false) (d_is : d ≡ get_or devices i d) (n_is : n ≡ get_or subs i 0) (flag : opened ≡ (not e && d.is_named))
    (so_far : os ≡ map plain (opened_from (is_opened earlier part) 0 start (take i specs))) (next_is : next ≡ start + length (others (opened_from (is_opened earlier part) 0 start (take i specs)))) where
  abbrev cs : List Opening
  cs = opened_from (is_opened earlier part) 0 start (take i specs)

  abbrev spec : DeviceSpec
  spec = get_or specs i Beat

  within : i < length specs
  within = let long = length-map specs subs_of in omega (arith, less, subs_long, long, ap length are.subs_are)

  subs_here : subs_of spec ≡ n
  subs_here = sym (get_or-map subs_of specs i Beat 0 within) ∙ ap (λ l. get_or l i 0) are.subs_are ∙ sym n_is

  is_flag : is_opened earlier part i ≡ opened
  is_flag =
      let served : e ≡ _ = e_is ∙ are.ended_are i false (omega (arith, less, ends_long)) in
      let named : d.is_named ≡ _ = ap (λ (x : DeviceLines). x.is_named) d_is ∙ (are.dealt i d less).named in
      sym (flag ∙ (λ j. not (served j) && named j))

  more : opened_from (is_opened earlier part) 0 start (take (i + 1) specs) ≡ cs ++ channels_if opened i spec next
  more = opened_next (is_opened earlier part) start next i specs within next_is ∙ ap (λ b. cs ++ channels_if b i spec next) is_flag

  pub opened_here : (os' : List Place) → ((s : DeviceSpec) → subs_of s ≡ n → os' ≡ os ++ map plain (channels_if opened i s next)) → os' ≡ map plain (opened_from (is_opened earlier part) 0 start (take (i + 1) specs))
  opened_here os' grown =
      grown spec subs_here ∙ ap (λ l. l ++ map plain (channels_if opened i spec next)) so_far ∙ sym (map-append plain cs (channels_if opened i spec next)) ∙ ap (map plain) (sym more)

  pub next_here : (later : ℕ) → later ≡ next + (if opened then n else 0) → later ≡ start + length (others (opened_from (is_opened earlier part) 0 start (take (i + 1) specs)))
  next_here later grown =
      let count = other_one (length (others cs)) cs (channels_if opened i spec next) refl in
      let mine : length (others (channels_if opened i spec next)) ≡ (if opened then n else 0) = if_others opened i next spec ∙ ap (λ k. if opened then k else 0) subs_here in
      let whole = ap (λ l. length (others l)) more in
      omega (arith, grown, next_is, count, mine, whole)
