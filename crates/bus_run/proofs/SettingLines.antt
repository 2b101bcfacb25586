-- Lines that set something of a device's channels, one by one.
use Rattle.std.proofs.Common.{◌≡◌, ℕ, ◌+◌, ◌<◌, ◌≤◌, ◌==◌, Bool, true, false, cond, List, [], ◌∷◌, ◌++◌, length, length-append, take, drop, get_or, ap, sym, ◌∙◌, subst, arith, inl, inr, slice_index_or}
use Rattle.std.specs.Prelude.{All}
use Rattle.std.specs.List.{flat_map}
use Rattle.std.proofs.lemmas.List.{take_more, take_all, drop_more, append-nil, take-append-drop, get_or_append_left, get_or_default}
use Rattle.std.proofs.Math.Seq.{get_or-append_seam}
use Rattle.std.proofs.lemmas.Grind.{flat_map-append}
use Rattle.std.proofs.lemmas.Bool.{cases_eq}
use Rattle.script_lines.specs.declared.line.Line.{Line}
use Rattle.script_lines.specs.declared.line.What.{What}
use Rattle.script_lines.specs.declared.line.What.TheVariants.{Contact as IsContact, Offer as IsOffer, Bad as IsBad, RingSize as IsRingSize, Window as IsWindow, Ask as IsAsk, Rescind as IsRescind, Shut as IsShut, Modify as IsModify, Phase as IsPhase}
use Rattle.script_lines.specs.declared.line.DeviceSpec.{DeviceSpec}
use Rattle.script_lines.specs.Parts.{pages_by, window_by}
use Rattle.script_lines.specs.WellFormed.{IsRight, AllRight}
use Rattle.bus_run.specs.Settings.{HasLimits, SettingsOf, settings_of, unset}
use Rattle.bus_run.specs.declared.settings.Settings.{Settings}

-- what these lines set, where a line sets this
abbrev set_in : (What → List ℕ) → List Line → List ℕ
set_in by lines = flat_map (λ l. by l.what) lines

pub settings_more : (lines : List Line) (n : ℕ) (settings new : List Settings) (x : Settings) → SettingsOf lines n settings → new ≡ settings ++ x ∷ [] → x ≡ settings_of lines n → SettingsOf lines (n + 1) new
settings_more lines n settings new x so_far grown is = subst (SettingsOf lines (n + 1)) (sym grown) (record {
  count = omega (arith, so_far.count, length-append settings (x ∷ []));
  each = λ k less. elim (cases_eq k n) [
    | inl e ↦ last k e
    | inr ne ↦ let before : k < n = omega (arith, less, ne) in get_or_append_left settings (x ∷ []) unset k (omega (arith, before, so_far.count)) ∙ so_far.each k before
  ];
})
  where
    last : (k : ℕ) → k ≡ n → slice_index_or (settings ++ x ∷ []) k unset ≡ settings_of lines k
    last k e =
        subst (λ j. slice_index_or (settings ++ x ∷ []) j unset ≡ settings_of lines j) (sym e) (ap (λ j. slice_index_or (settings ++ x ∷ []) j unset) (sym so_far.count) ∙ get_or-append_seam settings x [] unset ∙ is)

-- what right lines set lies within its limits

abbrev IsWithin : ℕ → ℕ → ℕ → List ℕ → Type 0
IsWithin least most default values = (least ≤ slice_index_or values 0 default) × (slice_index_or values 0 default ≤ most)

within_test : (b : Bool) (least most default value : ℕ) (rest : List ℕ) → least ≤ value → value ≤ most → IsWithin least most default rest → IsWithin least most default (cond b (value ∷ []) [] ++ rest)
within_test true least most default value rest some few fits = (some, few)
within_test false least most default value rest some few fits = fits

pages_line : (kinds : List DeviceSpec) (device : ℕ) (w : What) (rest : List ℕ) → IsRight kinds w → IsWithin 1 16 1 rest → IsWithin 1 16 1 (pages_by device w ++ rest)
pages_line kinds device (IsContact guest host) rest right fits = fits
pages_line kinds device (IsOffer name spec) rest right fits = fits
pages_line kinds device (IsRingSize d pages) rest right fits = within_test (d == device) 1 16 1 pages rest right.1 right.2 fits
pages_line kinds device (IsBad d lba) rest right fits = fits
pages_line kinds device (IsWindow d size) rest right fits = fits
pages_line kinds device (IsAsk d ask) rest right fits = fits
pages_line kinds device (IsRescind d after held) rest right fits = fits
pages_line kinds device (IsShut d) rest right fits = fits
pages_line kinds device (IsModify d vp) rest right fits = fits
pages_line kinds device IsPhase rest right fits = fits

window_line : (kinds : List DeviceSpec) (device : ℕ) (w : What) (rest : List ℕ) → IsRight kinds w → IsWithin 1 64 4 rest → IsWithin 1 64 4 (window_by device w ++ rest)
window_line kinds device (IsContact guest host) rest right fits = fits
window_line kinds device (IsOffer name spec) rest right fits = fits
window_line kinds device (IsRingSize d pages) rest right fits = fits
window_line kinds device (IsBad d lba) rest right fits = fits
window_line kinds device (IsWindow d size) rest right fits = within_test (d == device) 1 64 4 size rest right.1 right.2 fits
window_line kinds device (IsAsk d ask) rest right fits = fits
window_line kinds device (IsRescind d after held) rest right fits = fits
window_line kinds device (IsShut d) rest right fits = fits
window_line kinds device (IsModify d vp) rest right fits = fits
window_line kinds device IsPhase rest right fits = fits

pages_within : (kinds : List DeviceSpec) (device : ℕ) (lines : List Line) → AllRight kinds lines → IsWithin 1 16 1 (set_in (pages_by device) lines)
pages_within kinds device [] right = (omega arith, omega arith)
pages_within kinds device (l ∷ lines) right = pages_line kinds device l.what (set_in (pages_by device) lines) right.0 (pages_within kinds device lines right.1)

window_within : (kinds : List DeviceSpec) (device : ℕ) (lines : List Line) → AllRight kinds lines → IsWithin 1 64 4 (set_in (window_by device) lines)
window_within kinds device [] right = (omega arith, omega arith)
window_within kinds device (l ∷ lines) right = window_line kinds device l.what (set_in (window_by device) lines) right.0 (window_within kinds device lines right.1)

pub limits_of : (kinds : List DeviceSpec) (lines : List Line) (device : ℕ) → AllRight kinds lines → HasLimits (settings_of lines device)
limits_of kinds lines device right = record {
  some_pages = (pages_within kinds device lines right).0;
  few_pages = (pages_within kinds device lines right).1;
  some_open = (window_within kinds device lines right).0;
  few_open = (window_within kinds device lines right).1;
}

pub have_limits : (kinds : List DeviceSpec) (lines : List Line) (n : ℕ) (settings : List Settings) → AllRight kinds lines → SettingsOf lines n settings → All HasLimits settings
have_limits kinds lines n settings right are k d less =
    subst HasLimits (sym (get_or_default settings k d unset less ∙ are.each k (omega (arith, less, are.count)))) (limits_of kinds lines k right)
