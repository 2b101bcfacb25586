-- What the lines of a phase say suits its devices.
use Rattle.std.proofs.Common.{◌≡◌, ℕ, ◌+◌, ◌<◌, ◌≤◌, ◌==◌, Bool, true, false, cond, List, [], ◌∷◌, length, length-append, refl, ap, sym, ◌∙◌, subst, arith, slice_get, inl, inr, Option, Some, None}
use Rattle.std.specs.Prelude.{map, filter}
use Rattle.std.specs.Option.{IfSome, option_map_or}
use Rattle.std.specs.List.{flat_map, AllByRecursion}
use Rattle.std.proofs.lemmas.List.{length-map}
use Rattle.std.proofs.lemmas.List.Sums.{length-filter}
use Rattle.std.proofs.lemmas.Grind.{flat_map-append}
use Rattle.std.proofs.lemmas.Option.{slice_get_within, same_Some}
use Rattle.std.proofs.lemmas.Bool.Decides.{nat_tests}
use Rattle.contact.specs.declared.kind.DeviceKind.{DeviceKind}
use Rattle.contact.specs.declared.kind.DeviceKind.TheVariants.{Disk as KindDisk, Net as KindNet}
use Rattle.io_edge.specs.declared.side.Side.TheVariants.{Guest}
use Rattle.channel_model.specs.Roles.{side_that_asks}
use Rattle.script_lines.specs.declared.line.Line.{Line}
use Rattle.script_lines.specs.declared.line.What.{What}
use Rattle.script_lines.specs.declared.line.What.TheVariants.{Contact as IsContact, Offer as IsOffer, Bad as IsBad, RingSize as IsRingSize, Window as IsWindow, Ask as IsAsk, Rescind as IsRescind, Shut as IsShut, Modify as IsModify, Phase as IsPhase}
use Rattle.script_lines.specs.declared.line.DeviceSpec.{DeviceSpec}
use Rattle.script_lines.specs.Lines.{Says, Asks, Rescinds, Shuts, Modifies, said, is_request}
use Rattle.script_lines.specs.Parts.{is_ask, asks_in, kind_of, kind_asked}
use Rattle.script_lines.specs.WellFormed.{IsRescindable, IsRight, AllRight, CanGo, AskGoes, AllGo}
use Rattle.script_phases.specs.Says.{said_to, heard_by, asked, stops, asks_of}
use Rattle.bus_model.proofs.Lists.{each_append}
use Rattle.bus_plan.specs.Heard.{AllBelow}
use Rattle.worker_pair.specs.Plans.{AllCarried, CanStop}

-- what is said to a device is for one of its kind, and goes through its channel
abbrev pub FitsSays : List DeviceSpec → ℕ → Says → Type 0
FitsSays kinds device (Asks ask) = (slice_get (map kind_of kinds) device ≡ Some (kind_asked ask)) × CanGo ask
FitsSays kinds device (Rescinds after held) = IsRescindable (slice_get (map kind_of kinds) device) × (after ≤ 4096) × (held ≡ true → 1 ≤ after)
FitsSays kinds device Shuts = device < length kinds
FitsSays kinds device (Modifies vp) = device < length kinds

line_fits : (kinds : List DeviceSpec) (w : What) → IsRight kinds w → AskGoes w → IfSome (said w) (λ s. FitsSays kinds s.0 s.1)
line_fits kinds (IsContact guest host) right goes = tt
line_fits kinds (IsOffer name spec) right goes = tt
line_fits kinds (IsBad device lba) right goes = tt
line_fits kinds (IsRingSize device pages) right goes = tt
line_fits kinds (IsWindow device size) right goes = tt
line_fits kinds (IsAsk device ask) right goes = (right, goes)
line_fits kinds (IsRescind device after held) right goes = right
line_fits kinds (IsShut device) right goes = right
line_fits kinds (IsModify device vp) right goes = right.0
line_fits kinds IsPhase right goes = tt

-- it speaks of a device that is offered

offered_at : (kinds : List DeviceSpec) (device : ℕ) (kind : DeviceKind) → slice_get (map kind_of kinds) device ≡ Some kind → device < length kinds
offered_at kinds device kind fits = omega (arith, slice_get_within (map kind_of kinds) device kind fits, length-map kinds kind_of)

rescinded_at : (kinds : List DeviceSpec) (device : ℕ) → IsRescindable (slice_get (map kind_of kinds) device) → device < length kinds
rescinded_at kinds device (inl disk) = offered_at kinds device KindDisk disk
rescinded_at kinds device (inr net) = offered_at kinds device KindNet net

says_below : (kinds : List DeviceSpec) (device : ℕ) (s : Says) → FitsSays kinds device s → device < length kinds
says_below kinds device (Asks ask) fits = offered_at kinds device (kind_asked ask) fits.0
says_below kinds device (Rescinds after held) fits = rescinded_at kinds device fits.0
says_below kinds device Shuts fits = fits
says_below kinds device (Modifies vp) fits = fits

below_said : (kinds : List DeviceSpec) (o : Option (ℕ × Says)) → IfSome o (λ s. FitsSays kinds s.0 s.1) → IfSome o (λ s. s.0 < length kinds)
below_said kinds None fits = tt
below_said kinds (Some s) fits = says_below kinds s.0 s.1 fits

pub below_all : (kinds : List DeviceSpec) (part : List Line) → AllRight kinds part → AllGo part → AllBelow (length kinds) part
below_all kinds [] right go = tt
below_all kinds (l ∷ part) right go = (below_said kinds (said l.what) (line_fits kinds l.what right.0 go.0), below_all kinds part right.1 go.1)

-- what a device hears

heard_if : (kinds : List DeviceSpec) (k device : ℕ) (s : Says) (b : Bool) → (b ≡ true → device ≡ k) → FitsSays kinds device s → AllByRecursion (FitsSays kinds k) (cond b (s ∷ []) [])
heard_if kinds k device s true same fits = (subst (λ n. FitsSays kinds n s) (same refl) fits, tt)
heard_if kinds k device s false same fits = tt

heard_fits : (kinds : List DeviceSpec) (k : ℕ) (o : Option (ℕ × Says)) → IfSome o (λ s. FitsSays kinds s.0 s.1) → AllByRecursion (FitsSays kinds k) (heard_by k o)
heard_fits kinds k None fits = tt
heard_fits kinds k (Some s) fits = heard_if kinds k s.0 s.1 (s.0 == k) (λ yes. grind (arith, nat_tests, yes)) fits

pub said_fits : (kinds : List DeviceSpec) (k : ℕ) (part : List Line) → AllRight kinds part → AllGo part → AllByRecursion (FitsSays kinds k) (said_to k part)
said_fits kinds k [] right go = tt
said_fits kinds k (l ∷ part) right go =
    each_append (FitsSays kinds k) (heard_by k (said l.what)) (said_to k part) (heard_fits kinds k (said l.what) (line_fits kinds l.what right.0 go.0)) (said_fits kinds k part right.1 go.1)

-- so its channel carries its requests, and stops where one of its kind can

pub asks_fit : (kinds : List DeviceSpec) (k : ℕ) (kind : DeviceKind) (ss : List Says) → slice_get (map kind_of kinds) k ≡ Some kind → AllByRecursion (FitsSays kinds k) ss → AllCarried kind (flat_map asked ss)
asks_fit kinds k kind [] is fits = tt
asks_fit kinds k kind (Asks ask ∷ ss) is fits = (same_Some (kind_asked ask) kind (sym fits.0.0 ∙ is), fits.0.1, asks_fit kinds k kind ss is fits.1)
asks_fit kinds k kind (Rescinds after held ∷ ss) is fits = asks_fit kinds k kind ss is fits.1
asks_fit kinds k kind (Shuts ∷ ss) is fits = asks_fit kinds k kind ss is fits.1
asks_fit kinds k kind (Modifies vp ∷ ss) is fits = asks_fit kinds k kind ss is fits.1

-- what is rescinded is asked by the guest
guest_asks : (kinds : List DeviceSpec) (k : ℕ) (kind : DeviceKind) → slice_get (map kind_of kinds) k ≡ Some kind → IsRescindable (slice_get (map kind_of kinds) k) → side_that_asks kind ≡ Guest
guest_asks kinds k kind is (inl disk) = ap side_that_asks (same_Some kind KindDisk (sym is ∙ disk))
guest_asks kinds k kind is (inr net) = ap side_that_asks (same_Some kind KindNet (sym is ∙ net))

pub stop_fits : (kinds : List DeviceSpec) (k : ℕ) (kind : DeviceKind) (ss : List Says) → slice_get (map kind_of kinds) k ≡ Some kind → AllByRecursion (FitsSays kinds k) ss → CanStop kind (slice_get (flat_map stops ss) 0)
stop_fits kinds k kind [] is fits = tt
stop_fits kinds k kind (Asks ask ∷ ss) is fits = stop_fits kinds k kind ss is fits.1
stop_fits kinds k kind (Rescinds after held ∷ ss) is fits = (guest_asks kinds k kind is fits.0.0, fits.0.1, fits.0.2)
stop_fits kinds k kind (Shuts ∷ ss) is fits = stop_fits kinds k kind ss is fits.1
stop_fits kinds k kind (Modifies vp ∷ ss) is fits = stop_fits kinds k kind ss is fits.1

-- a device is asked no more than the phase asks

few_if : (b : Bool) (s : Says) (n : ℕ) → length (asked s) ≤ n → length (flat_map asked (cond b (s ∷ []) [])) ≤ n
few_if true s n few = omega (arith, length-append (asked s) [], few)
few_if false s n few = omega arith

heard_few : (k : ℕ) (o : Option (ℕ × Says)) → length (flat_map asked (heard_by k o)) ≤ cond (option_map_or (λ s. is_request s.1) o false) 1 0
heard_few k None = omega arith
heard_few k (Some (device, Asks ask)) = few_if (device == k) (Asks ask) 1 (omega arith)
heard_few k (Some (device, Rescinds after held)) = few_if (device == k) (Rescinds after held) 0 (omega arith)
heard_few k (Some (device, Shuts)) = few_if (device == k) Shuts 0 (omega arith)
heard_few k (Some (device, Modifies vp)) = few_if (device == k) (Modifies vp) 0 (omega arith)

long_if : (b : Bool) (l : Line) (ls : List Line) → length (cond b (l ∷ ls) ls) ≡ cond b 1 0 + length ls
long_if true l ls = omega arith
long_if false l ls = omega arith

few_shown : (k : ℕ) (part : List Line) → length (asks_of k part) ≤ length (filter (λ l. is_ask l.what) part)
few_shown k [] = omega arith
few_shown k (l ∷ part) =
    omega (
      arith,
      ap length (flat_map-append asked (heard_by k (said l.what)) (said_to k part)),
      length-append (flat_map asked (heard_by k (said l.what))) (asks_of k part),
      heard_few k (said l.what),
      few_shown k part,
      long_if (is_ask l.what) l (filter (λ l. is_ask l.what) part),
    )

pub few_all : (k : ℕ) (part : List Line) → length (asks_of k part) ≤ asks_in part
few_all k part = omega (arith, few_shown k part, length-filter (λ l. is_ask l.what) part)
