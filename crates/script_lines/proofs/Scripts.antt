-- A script stays right as its lines come.
use Rattle.std.proofs.Common.{◌≡◌, ℕ, zero, suc, ◌+◌, ◌<◌, ◌≤◌, Bool, true, false, List, [], ◌∷◌, ◌++◌, length, map, refl, sym, ap, ◌∙◌, subst, arith, All, length-append}
use Rattle.std.proofs.Common.{inl, inr, ⊎_elim}
use Rattle.std.specs.Prelude.{not, ◌&&◌, Option, Some, None, count_by, sum_by, slice_get, if◌then◌else◌}
use Rattle.std.specs.List.{list_all}
use Rattle.std.specs.Option.{option_map_or}
use Rattle.std.proofs.lemmas.List.{append-nil, map-append}
use Rattle.std.proofs.lemmas.Grind.{flat_map-append}
use Rattle.std.proofs.lemmas.List.Folds.{list_all-append}
use Rattle.std.proofs.lemmas.List.Sums.{sum_by-append, sum_by-cons}
use Rattle.contact.specs.declared.kind.DeviceKind.{DeviceKind}
use Rattle.contact.specs.declared.kind.DeviceKind.TheVariants.{Disk as KindDisk, Net as KindNet}
use Rattle.script_lines.specs.declared.line.Line.{Line}
use Rattle.script_lines.specs.declared.line.What.{What}
use Rattle.script_lines.specs.declared.line.What.TheVariants.{Contact as IsContact, Offer as IsOffer, Bad as IsBad, RingSize as IsRingSize, Window as IsWindow, Ask as IsAsk, Rescind as IsRescind, Shut as IsShut, Modify as IsModify, Phase as IsPhase}
use Rattle.script_lines.specs.declared.line.DeviceSpec.{DeviceSpec}
use Rattle.script_lines.specs.Parts.{ends_part, parts, is_settings, is_ask, asks_in, offered_by, offered, named_by, names, kind_of, kind_asked, rescinds, shuts, modifies, modifies_in, modified_here, this_part, phase_from, channels_of, channels, blocks_of, blocks_at}
use Rattle.script_lines.specs.WellFormed.{IsRight, AllRight, AskGoes, AllGo, is_contact, contact_first, settings_first, IsScript, Fits}
use Rattle.script_lines.proofs.Phases.{by_test, each_phase, each_other, this_has, count_yes, count_no, none_such, none_counted}

pub offered_more : (ls : List Line) (l : Line) → offered (ls ++ l ∷ []) ≡ offered ls ++ offered_by l.what
offered_more ls l = flat_map-append (λ (k : Line). offered_by k.what) ls (l ∷ []) ∙ ap (λ ds. offered ls ++ ds) (append-nil (offered_by l.what))

pub names_more : (ls : List Line) (l : Line) → names (ls ++ l ∷ []) ≡ names ls ++ named_by l.what
names_more ls l = flat_map-append (λ (k : Line). named_by k.what) ls (l ∷ []) ∙ ap (λ ds. names ls ++ ds) (append-nil (named_by l.what))

pub slice_get_front : {X : Type 0} (xs ys : List X) (i : ℕ) (x : X) → slice_get xs i ≡ Some x → slice_get (xs ++ ys) i ≡ Some x
slice_get_front [] ys i x is = absurd (cc)
slice_get_front (y ∷ xs) ys zero x is = is
slice_get_front (y ∷ xs) ys (suc i) x is = slice_get_front xs ys i x is

-- a block stays one with more devices behind
block_more : (kinds more : List DeviceSpec) (device lba : ℕ) → lba < blocks_at device kinds → lba < blocks_at device (kinds ++ more)
block_more kinds more device lba less = at (slice_get kinds device) refl less
  where
    at : (o : Option DeviceSpec) → slice_get kinds device ≡ o → lba < option_map_or blocks_of o 0 → lba < blocks_at device (kinds ++ more)
    at None same below = absurd (omega (arith, below))
    at (Some spec) same below = subst (λ (o : Option DeviceSpec). lba < option_map_or blocks_of o 0) (sym (slice_get_front kinds more device spec same)) below

-- a device keeps its kind
kind_more : (kinds more : List DeviceSpec) (device : ℕ) (kind : DeviceKind) → slice_get (map kind_of kinds) device ≡ Some kind → slice_get (map kind_of (kinds ++ more)) device ≡ Some kind
kind_more kinds more device kind is = ap (λ (ks : List DeviceKind). slice_get ks device) (map-append kind_of kinds more) ∙ slice_get_front (map kind_of kinds) (map kind_of more) device kind is

right_more : (kinds more : List DeviceSpec) (what : What) → IsRight kinds what → IsRight (kinds ++ more) what
right_more kinds more (IsContact guest host) right = right
right_more kinds more (IsOffer name device) right = right
right_more kinds more (IsBad device lba) right = block_more kinds more device lba right
right_more kinds more (IsRingSize device pages) right = (omega (arith, right.0, length-append kinds more), right.1, right.2)
right_more kinds more (IsWindow device size) right = (omega (arith, right.0, length-append kinds more), right.1, right.2)
right_more kinds more (IsAsk device ask) right = kind_more kinds more device (kind_asked ask) right
right_more kinds more (IsRescind device after held) right =
    (⊎_elim (λ is. inl (kind_more kinds more device KindDisk is)) (λ is. inr (kind_more kinds more device KindNet is)) right.0, right.1, right.2)
right_more kinds more (IsShut device) right = omega (arith, right, length-append kinds more)
right_more kinds more (IsModify device vp) right = (omega (arith, right.0, length-append kinds more), right.1)
right_more kinds more IsPhase right = tt

all_more : (kinds more : List DeviceSpec) (ls : List Line) → AllRight kinds ls → AllRight (kinds ++ more) ls
all_more kinds more [] right = tt
all_more kinds more (l ∷ ls) right = (right_more kinds more l.what right.0, all_more kinds more ls right.1)

all_push : (kinds : List DeviceSpec) (ls : List Line) (l : Line) → AllRight kinds ls → IsRight kinds l.what → AllRight kinds (ls ++ l ∷ [])
all_push kinds [] l all right = (right, tt)
all_push kinds (k ∷ ks) l all right = (all.0, all_push kinds ks l all.1 right)

go_push : (ls : List Line) (l : Line) → AllGo ls → AskGoes l.what → AllGo (ls ++ l ∷ [])
go_push [] l all goes = (goes, tt)
go_push (k ∷ ks) l all goes = (all.0, go_push ks l all.1 goes)

both_true : (a b : Bool) → (a && b) ≡ true → (a ≡ true) × (b ≡ true)
both_true true true is = (refl, refl)
both_true true false is = absurd (cc)
both_true false b is = absurd (cc)

and_true : (a b : Bool) → a ≡ true → b ≡ true → (a && b) ≡ true
and_true true b is more = more
and_true false b is more = absurd (cc)

-- a test that all lines pass, and one more
all_pass : (p : Line → Bool) (ls : List Line) (l : Line) → list_all p ls ≡ true → p l ≡ true → list_all p (ls ++ l ∷ []) ≡ true
all_pass p ls l all one = list_all-append p ls (l ∷ []) ∙ and_true (list_all p ls) (list_all p (l ∷ [])) all (and_true (p l) true one refl)

contact_push : (ls : List Line) (l : Line) → contact_first ls ≡ true → (is_contact l.what ≡ true → ls ≡ []) → contact_first (ls ++ l ∷ []) ≡ true
contact_push [] l first alone = refl
contact_push (k ∷ ks) l first alone = by_test (is_contact l.what)
    (λ e. absurd (cc (alone e)))
    (λ e. all_pass (λ m. not (is_contact m.what)) ks l first (ap not e))

settings_push : (ls : List Line) (l : Line) → settings_first ls ≡ true → (is_settings l.what ≡ true → list_all (λ m. is_settings m.what) ls ≡ true) → settings_first (ls ++ l ∷ []) ≡ true
settings_push [] l first all = by_test (is_settings l.what) (λ e. ap (λ b. if b then true else true) e) (λ e. ap (λ b. if b then true else true) e)
settings_push (k ∷ ks) l first all = by_test (is_settings k.what)
    (λ e. ap (λ b. if b then settings_first (ks ++ l ∷ []) else list_all (λ m. not (is_settings m.what)) (ks ++ l ∷ [])) e
    ∙ settings_push ks l (sym (ap (λ b. if b then settings_first ks else list_all (λ m. not (is_settings m.what)) ks) e) ∙ first) (λ is. (both_true (is_settings k.what) (list_all (λ m. is_settings m.what) ks) (all is)).1))
    (λ e. ap (λ b. if b then settings_first (ks ++ l ∷ []) else list_all (λ m. not (is_settings m.what)) (ks ++ l ∷ [])) e
    ∙ by_test (is_settings l.what)
    (λ is. let both = both_true (is_settings k.what) (list_all (λ m. is_settings m.what) ks) (all is) in absurd (cc (both.0, e)))
    (λ is. all_pass (λ m. not (is_settings m.what)) ks l (sym (ap (λ b. if b then settings_first ks else list_all (λ m. not (is_settings m.what)) ks) e) ∙ first) (ap not is)))

-- a device has a channel at least
pub length_channels : (ds : List DeviceSpec) → length ds ≤ sum_by channels_of ds
length_channels [] = omega arith
length_channels (d ∷ ds) = omega (arith, length_channels ds, sum_by-cons channels_of d ds)

pub channels_more : (ls : List Line) (l : Line) → channels (ls ++ l ∷ []) ≡ channels ls + sum_by channels_of (offered_by l.what)
channels_more ls l = ap (sum_by channels_of) (offered_more ls l) ∙ sum_by-append channels_of (offered ls) (offered_by l.what)

once_push : (kind : What → Bool) (ls : List Line) (l : Line) → count_by (λ k. kind k.what) ls ≤ 1 → (kind l.what ≡ true → phase_from kind 0 ls ≡ None) → count_by (λ k. kind k.what) (ls ++ l ∷ []) ≤ 1
once_push kind ls l most empty = by_test (kind l.what)
    (λ e. omega (arith, count_yes (λ k. kind k.what) ls l e, none_such kind 0 ls (empty e)))
    (λ e. omega (arith, count_no (λ k. kind k.what) ls l e, most))

abbrev FewAsks : List Line → Type 0
FewAsks part = asks_in part ≤ 4096

-- each phase still has at most 4,096 requests
asks_push : (ls : List Line) (l : Line) → All FewAsks (parts ls) → (is_ask l.what ≡ true → asks_in (this_part ls) < 4096) → All FewAsks (parts (ls ++ l ∷ []))
asks_push ls l few less = by_test (ends_part l)
    (λ ends. each_phase FewAsks (omega arith) ls l ends few)
    (λ other. each_other FewAsks ls l other (by_test (is_ask l.what)
    (λ e. omega (arith, count_yes (λ k. is_ask k.what) (this_part ls) l e, less e))
    (λ e. let most : asks_in (this_part ls) ≤ 4096 = this_has FewAsks ls few in omega (arith, count_no (λ k. is_ask k.what) (this_part ls) l e, most))) few)

abbrev MovedOnce : ℕ → List Line → Type 0
MovedOnce device part = modifies_in device part ≤ 1

-- and each moves a device at most once
modified_push : (device : ℕ) (ls : List Line) (l : Line) → All (MovedOnce device) (parts ls) → (modifies device l.what ≡ true → modified_here device ls ≡ false) → All (MovedOnce device) (parts (ls ++ l ∷ []))
modified_push device ls l once fresh = let moves = λ (k : Line). modifies device k.what in by_test (ends_part l)
    (λ ends. each_phase (MovedOnce device) (omega arith) ls l ends once)
    (λ other. each_other (MovedOnce device) ls l other (by_test (modifies device l.what)
    (λ e. omega (arith, count_yes moves (this_part ls) l e, none_counted moves (this_part ls) (fresh e)))
    (λ e. let most : modifies_in device (this_part ls) ≤ 1 = this_has (MovedOnce device) ls once in omega (arith, count_no moves (this_part ls) l e, most))) once)

-- with the devices of the line there are 16 channels at most
few_push : (before : List Line) (what : What) → channels before ≤ 16 → ((spec : DeviceSpec) → offered_by what ≡ spec ∷ [] → channels before + channels_of spec ≤ 16) → channels before + sum_by channels_of (offered_by what) ≤ 16
few_push before (IsContact guest host) most few = omega (arith, most)
few_push before (IsOffer name spec) most few = omega (arith, few spec refl, sum_by-cons channels_of spec [])
few_push before (IsBad device lba) most few = omega (arith, most)
few_push before (IsRingSize device pages) most few = omega (arith, most)
few_push before (IsWindow device size) most few = omega (arith, most)
few_push before (IsAsk device ask) most few = omega (arith, most)
few_push before (IsRescind device after held) most few = omega (arith, most)
few_push before (IsShut device) most few = omega (arith, most)
few_push before (IsModify device vp) most few = omega (arith, most)
few_push before IsPhase most few = omega (arith, most)

-- one more line that fits
pub script_push : (before : List Line) (l : Line) → IsScript before → Fits before l.what → IsScript (before ++ l ∷ [])
script_push before l script fits = record {
  right = subst (λ kinds. AllRight kinds (before ++ l ∷ [])) (sym (offered_more before l))
      (all_push (offered before ++ offered_by l.what) before l (all_more (offered before) (offered_by l.what) before script.right) fits.right);
  go = go_push before l script.go fits.goes;
  contact = contact_push before l script.contact fits.contact;
  settings = settings_push before l script.settings fits.settings;
  few = omega (arith, length_channels (offered (before ++ l ∷ [])), channels_more before l, few_push before l.what script.channels fits.few);
  channels = omega (arith, channels_more before l, few_push before l.what script.channels fits.few);
  short = omega (arith, length-append before (l ∷ []), fits.short);
  asks = asks_push before l script.asks fits.asks;
  rescinded = λ device. once_push (rescinds device) before l (script.rescinded device) (fits.rescinded device);
  closed = λ device. once_push (shuts device) before l (script.closed device) (fits.closed device);
  modified = λ device. modified_push device before l (script.modified device) (fits.modified device);
}
