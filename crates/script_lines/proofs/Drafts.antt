-- What is kept of the lines before stays right as lines come.
use Rattle.std.proofs.Common.{◌≡◌, ◌≢◌, ℕ, ◌+◌, ◌<◌, ◌≤◌, Bool, true, false, List, [], ◌∷◌, ◌++◌, length, refl, sym, ap, ◌∙◌, subst, arith, length-append}
use Rattle.std.proofs.Common.{◌⊎◌, inl, inr, ⊎_elim, zero, suc}
use Rattle.std.specs.Prelude.{◌||◌, ◌&&◌, ◌==◌, not, Option, Some, None, IfSome, slice_get, slice_index_or, slice_set, sum_by, position, nat_lt, cond, map}
use Rattle.std.specs.List.{list_any, list_all, position_or_len}
use Rattle.std.specs.Option.{option_or}
use Rattle.std.proofs.lemmas.Bool.Decides.{nat_tests}
use Rattle.std.proofs.lemmas.List.{append-nil, length-set}
use Rattle.std.proofs.lemmas.Option.{slice_get-get_or}
use Rattle.std.proofs.lemmas.List.Sums.{sum_by-cons}
use Rattle.contact.specs.declared.version.Version.{Version}
use Rattle.contact.specs.declared.kind.DeviceKind.{DeviceKind}
use Rattle.contact.specs.declared.kind.DeviceKind.TheVariants.{Disk as KindDisk, Net as KindNet}
use Rattle.script_lines.specs.declared.line.Ask.{Ask}
use Rattle.std.proofs.lemmas.List.Folds.{list_any-append, list_all-append}
use Rattle.std.proofs.lemmas.Grind.{flat_map-append}
use Rattle.script_lines.specs.declared.line.Line.{Line}
use Rattle.script_lines.specs.declared.line.What.{What}
use Rattle.script_lines.specs.declared.line.What.TheVariants.{Contact as IsContact, Offer as IsOffer, Bad as IsBad, RingSize as IsRingSize, Window as IsWindow, Ask as IsAsk, Rescind as IsRescind, Shut as IsShut, Modify as IsModify, Phase as IsPhase}
use Rattle.script_lines.specs.declared.line.DeviceSpec.{DeviceSpec}
use Rattle.script_lines.specs.declared.bad_place.BadPlace.{BadPlace}
use Rattle.script_lines.specs.declared.draft.Seen.{Seen}
use Rattle.script_lines.specs.Parts.{is_settings, is_ask, asks_in, this_part, offered, offered_by, names, named_by, channels, channels_of, ends_part, sets_ring, sets_window, sets_bad, rescinds, shuts, modifies, modified_here, has_bad, has_ring, has_window, phases_over, phase_behind, phase_from, rescinded_in, closed_in, kind_of}
use Rattle.script_lines.specs.Faults.{is_now}
use Rattle.script_lines.specs.WellFormed.{IsRescindable, IsRight, AllRight, Fits}
use Rattle.script_lines.specs.Draft.{IsSeen, places_by, places, Keeps}
use Rattle.script_lines.proofs.Phases.{by_test, phase_on, phase_more, phase_at, this_phase, this_other, count_yes, count_no, none_this}
use Rattle.script_lines.proofs.Scripts.{offered_more, names_more, channels_more, slice_get_front, script_push}

-- a line that says nothing of a device that was offered before
pub record Quiet (device : ℕ) (what : What) : Type 0 where
  pub ring : sets_ring device what ≡ false
  pub window : sets_window device what ≡ false
  pub rescind : rescinds device what ≡ false
  pub shut : shuts device what ≡ false
  pub modify : modifies device what ≡ false

or_false : (b : Bool) → (b || false) ≡ b
or_false true = refl
or_false false = refl

ring_more : (device : ℕ) (ls : List Line) (l : Line) (said : Bool) → sets_ring device l.what ≡ said → has_ring device (ls ++ l ∷ []) ≡ (has_ring device ls || said)
ring_more device ls l said is = list_any-append (λ (k : Line). sets_ring device k.what) ls (l ∷ []) ∙ ap (λ b. has_ring device ls || b) (or_false (sets_ring device l.what) ∙ is)

window_more : (device : ℕ) (ls : List Line) (l : Line) (said : Bool) → sets_window device l.what ≡ said → has_window device (ls ++ l ∷ []) ≡ (has_window device ls || said)
window_more device ls l said is = list_any-append (λ (k : Line). sets_window device k.what) ls (l ∷ []) ∙ ap (λ b. has_window device ls || b) (or_false (sets_window device l.what) ∙ is)

or_true : (b : Bool) → (b || true) ≡ true
or_true true = refl
or_true false = refl

or_none : (o : Option ℕ) → option_or o None ≡ o
or_none None = refl
or_none (Some n) = refl

ring_kept : (device : ℕ) (ls : List Line) (l : Line) → sets_ring device l.what ≡ false → has_ring device ls ≡ has_ring device (ls ++ l ∷ [])
ring_kept device ls l is = sym (ring_more device ls l false is ∙ or_false _)

window_kept : (device : ℕ) (ls : List Line) (l : Line) → sets_window device l.what ≡ false → has_window device ls ≡ has_window device (ls ++ l ∷ [])
window_kept device ls l is = sym (window_more device ls l false is ∙ or_false _)

phase_kept : (kind : What → Bool) (ls : List Line) (l : Line) → kind l.what ≡ false → phase_from kind 0 ls ≡ phase_from kind 0 (ls ++ l ∷ [])
phase_kept kind ls l is =
    sym (phase_more kind ls l ∙ ap (λ b. option_or (phase_from kind 0 ls) (phase_at (phases_over ls) b)) is ∙ or_none (phase_from kind 0 ls))

-- the first line of a kind, in the phase that goes on
phase_new : (kind : What → Bool) (ls : List Line) (l : Line) (phase : ℕ) → kind l.what ≡ true → phase_from kind 0 ls ≡ None → phase ≡ phases_over ls → Some phase ≡ phase_from kind 0 (ls ++ l ∷ [])
phase_new kind ls l phase is none same =
    ap Some same ∙ sym (phase_more kind ls l ∙ ap (λ b. option_or (phase_from kind 0 ls) (phase_at (phases_over ls) b)) is ∙ ap (λ o. option_or o (Some (phases_over ls))) none)

-- how many phases are over, behind one line more
over_more : (ls : List Line) (l : Line) → phases_over ls ≤ phases_over (ls ++ l ∷ [])
over_more ls l = by_test (ends_part l) (λ e. omega (arith, count_yes ends_part ls l e)) (λ e. omega (arith, count_no ends_part ls l e))

by_kept : (ls : List Line) (l : Line) (phase : Option ℕ) → IfSome phase (λ p. p ≤ phases_over ls) → IfSome phase (λ p. p ≤ phases_over (ls ++ l ∷ []))
by_kept ls l None by = tt
by_kept ls l (Some p) by = omega (arith, by, over_more ls l)

past_now : (now next : ℕ) (phase : Option ℕ) → IfSome phase (λ p. p ≤ now) → next ≡ now + 1 → is_now next phase ≡ false
past_now now next None by is = refl
past_now now next (Some p) by is = grind (arith, nat_tests, by, is)

moved_more : (device : ℕ) (ls : List Line) (l : Line) (said : Bool) → ends_part l ≡ false → modifies device l.what ≡ said → modified_here device (ls ++ l ∷ []) ≡ (modified_here device ls || said)
moved_more device ls l said other is =
    let moves = λ (k : Line). modifies device k.what in
    ap (list_any moves) (this_other ls l other) ∙ list_any-append moves (this_part ls) (l ∷ []) ∙ ap (λ b. modified_here device ls || b) (or_false (modifies device l.what) ∙ is)

moved_kept : (device : ℕ) (ls : List Line) (l : Line) (phase : Option ℕ) → modifies device l.what ≡ false → IfSome phase (λ p. p ≤ phases_over ls) → is_now (phases_over ls) phase ≡ modified_here device ls
    → is_now (phases_over (ls ++ l ∷ [])) phase ≡ modified_here device (ls ++ l ∷ [])
moved_kept device ls l phase quiet by is = by_test (ends_part l)
    (λ e. past_now (phases_over ls) (phases_over (ls ++ l ∷ [])) phase by (count_yes ends_part ls l e) ∙ sym (ap (list_any (λ (k : Line). modifies device k.what)) (this_phase ls l e)))
    (λ e. ap (λ n. is_now n phase) (count_no ends_part ls l e) ∙ is ∙ sym (moved_more device ls l false e quiet ∙ or_false _))

spec_kept : (device : ℕ) (ls : List Line) (l : Line) (spec : DeviceSpec) → slice_get (offered ls) device ≡ Some spec → slice_get (offered (ls ++ l ∷ [])) device ≡ Some spec
spec_kept device ls l spec is = ap (λ ds. slice_get ds device) (offered_more ls l) ∙ slice_get_front (offered ls) (offered_by l.what) device spec is

pub seen_kept : (ls : List Line) (l : Line) (device : ℕ) (seen : Seen) → Quiet device l.what → IsSeen ls device seen → IsSeen (ls ++ l ∷ []) device seen
seen_kept ls l device seen quiet is = record {
  spec = spec_kept device ls l seen.spec is.spec;
  ring = is.ring ∙ ring_kept device ls l quiet.ring;
  window = is.window ∙ window_kept device ls l quiet.window;
  rescinded = is.rescinded ∙ phase_kept (rescinds device) ls l quiet.rescind;
  closed = is.closed ∙ phase_kept (shuts device) ls l quiet.shut;
  modified = moved_kept device ls l seen.modified quiet.modify is.by_now is.modified;
  by_now = by_kept ls l seen.modified is.by_now;
}

eq_self : (n : ℕ) → (n == n) ≡ true
eq_self n = grind (arith, nat_tests)

eq_else : (m n : ℕ) → n ≢ m → (m == n) ≡ false
eq_else m n other = grind (arith, nat_tests, other)

pub ring_here : (ls : List Line) (number device pages : ℕ) (seen : Seen) → IsSeen ls device seen → IsSeen (ls ++ record { number = number; what = IsRingSize device pages } ∷ []) device (record seen { ring = true })
ring_here ls number device pages seen is = let l : Line = record { number = number; what = IsRingSize device pages } in record {
  spec = spec_kept device ls l seen.spec is.spec;
  ring = sym (ring_more device ls l true (eq_self device) ∙ or_true _);
  window = is.window ∙ window_kept device ls l refl;
  rescinded = is.rescinded ∙ phase_kept (rescinds device) ls l refl;
  closed = is.closed ∙ phase_kept (shuts device) ls l refl;
  modified = moved_kept device ls l seen.modified refl is.by_now is.modified;
  by_now = by_kept ls l seen.modified is.by_now;
}

pub window_here : (ls : List Line) (number device size : ℕ) (seen : Seen) → IsSeen ls device seen → IsSeen (ls ++ record { number = number; what = IsWindow device size } ∷ []) device (record seen { window = true })
window_here ls number device size seen is = let l : Line = record { number = number; what = IsWindow device size } in record {
  spec = spec_kept device ls l seen.spec is.spec;
  ring = is.ring ∙ ring_kept device ls l refl;
  window = sym (window_more device ls l true (eq_self device) ∙ or_true _);
  rescinded = is.rescinded ∙ phase_kept (rescinds device) ls l refl;
  closed = is.closed ∙ phase_kept (shuts device) ls l refl;
  modified = moved_kept device ls l seen.modified refl is.by_now is.modified;
  by_now = by_kept ls l seen.modified is.by_now;
}

pub rescind_here : (ls : List Line) (number device after : ℕ) (held : Bool) (phase : ℕ) (seen : Seen) → rescinded_in device ls ≡ None → phase ≡ phases_over ls → IsSeen ls device seen
    → IsSeen (ls ++ record { number = number; what = IsRescind device after held } ∷ []) device (record seen { rescinded = Some phase })
rescind_here ls number device after held phase seen none same is = let l : Line = record { number = number; what = IsRescind device after held } in record {
  spec = spec_kept device ls l seen.spec is.spec;
  ring = is.ring ∙ ring_kept device ls l refl;
  window = is.window ∙ window_kept device ls l refl;
  rescinded = phase_new (rescinds device) ls l phase (eq_self device) none same;
  closed = is.closed ∙ phase_kept (shuts device) ls l refl;
  modified = moved_kept device ls l seen.modified refl is.by_now is.modified;
  by_now = by_kept ls l seen.modified is.by_now;
}

pub shut_here : (ls : List Line) (number device phase : ℕ) (seen : Seen) → closed_in device ls ≡ None → phase ≡ phases_over ls → IsSeen ls device seen
    → IsSeen (ls ++ record { number = number; what = IsShut device } ∷ []) device (record seen { closed = Some phase })
shut_here ls number device phase seen none same is = let l : Line = record { number = number; what = IsShut device } in record {
  spec = spec_kept device ls l seen.spec is.spec;
  ring = is.ring ∙ ring_kept device ls l refl;
  window = is.window ∙ window_kept device ls l refl;
  rescinded = is.rescinded ∙ phase_kept (rescinds device) ls l refl;
  closed = phase_new (shuts device) ls l phase (eq_self device) none same;
  modified = moved_kept device ls l seen.modified refl is.by_now is.modified;
  by_now = by_kept ls l seen.modified is.by_now;
}

pub modify_here : (ls : List Line) (number device vp phase : ℕ) (seen : Seen) → phase ≡ phases_over ls → IsSeen ls device seen
    → IsSeen (ls ++ record { number = number; what = IsModify device vp } ∷ []) device (record seen { modified = Some phase })
modify_here ls number device vp phase seen same is = let l : Line = record { number = number; what = IsModify device vp } in record {
  spec = spec_kept device ls l seen.spec is.spec;
  ring = is.ring ∙ ring_kept device ls l refl;
  window = is.window ∙ window_kept device ls l refl;
  rescinded = is.rescinded ∙ phase_kept (rescinds device) ls l refl;
  closed = is.closed ∙ phase_kept (shuts device) ls l refl;
  modified = ap (λ n. is_now n (Some phase)) (count_no ends_part ls l refl) ∙ ap (λ n. n == phases_over ls) same ∙ eq_self (phases_over ls) ∙ sym (moved_more device ls l true refl (eq_self device) ∙ or_true _);
  by_now = omega (arith, same, over_more ls l);
}

pub ring_else : (device other pages : ℕ) → other ≢ device → Quiet other (IsRingSize device pages)
ring_else device other pages not = record { ring = eq_else device other not; window = refl; rescind = refl; shut = refl; modify = refl }

pub window_else : (device other size : ℕ) → other ≢ device → Quiet other (IsWindow device size)
window_else device other size not = record { ring = refl; window = eq_else device other not; rescind = refl; shut = refl; modify = refl }

pub rescind_else : (device other after : ℕ) (held : Bool) → other ≢ device → Quiet other (IsRescind device after held)
rescind_else device other after held not = record { ring = refl; window = refl; rescind = eq_else device other not; shut = refl; modify = refl }

pub shut_else : (device other : ℕ) → other ≢ device → Quiet other (IsShut device)
shut_else device other not = record { ring = refl; window = refl; rescind = refl; shut = eq_else device other not; modify = refl }

pub modify_else : (device other vp : ℕ) → other ≢ device → Quiet other (IsModify device vp)
modify_else device other vp not = record { ring = refl; window = refl; rescind = refl; shut = refl; modify = eq_else device other not }

-- the places of a list with one element changed
slice_get_set : {X : Type 0} (xs : List X) (i j : ℕ) (x y : X) → slice_get (slice_set xs i x) j ≡ Some y → ((i ≡ j) × (x ≡ y)) ⊎ ((j ≢ i) × (slice_get xs j ≡ Some y))
slice_get_set [] i j x y is = absurd (cc)
slice_get_set (z ∷ xs) zero zero x y is = inl (refl, cc)
slice_get_set (z ∷ xs) zero (suc j) x y is = inr (λ same. absurd (omega (arith, same)), is)
slice_get_set (z ∷ xs) (suc i) zero x y is = inr (λ same. absurd (omega (arith, same)), is)
slice_get_set (z ∷ xs) (suc i) (suc j) x y is = ⊎_elim (λ here. inl (ap suc here.0, here.1)) (λ rest. inr ((λ same. rest.0 (omega (arith, same))), rest.1)) (slice_get_set xs i j x y is)

-- a line that speaks of one device leaves what is kept of the others
pub seen_set : (ls : List Line) (l : Line) (device : ℕ) (new : Seen) (seen : List Seen) → ((d : ℕ) (s : Seen) → slice_get seen d ≡ Some s → IsSeen ls d s)
    → IsSeen (ls ++ l ∷ []) device new → ((d : ℕ) → d ≢ device → Quiet d l.what) → (d : ℕ) (s : Seen) → slice_get (slice_set seen device new) d ≡ Some s → IsSeen (ls ++ l ∷ []) d s
seen_set ls l device new seen all here quiet d s is = ⊎_elim
    (λ same. subst (λ e. IsSeen (ls ++ l ∷ []) d e) same.1 (subst (λ e. IsSeen (ls ++ l ∷ []) e new) same.0 here))
    (λ rest. seen_kept ls l d s (quiet d rest.0) (all d s rest.1))
    (slice_get_set seen device d new s is)

-- a device that has a kind is offered
of_kind_within : (kinds : List DeviceSpec) (device : ℕ) (kind : DeviceKind) → slice_get (map kind_of kinds) device ≡ Some kind → device < length kinds
of_kind_within [] device kind is = absurd (cc)
of_kind_within (k ∷ kinds) zero kind is = omega arith
of_kind_within (k ∷ kinds) (suc device) kind is = omega (arith, of_kind_within kinds device kind is)

rescindable_within : (kinds : List DeviceSpec) (device : ℕ) → IsRescindable (slice_get (map kind_of kinds) device) → device < length kinds
rescindable_within kinds device is = ⊎_elim (of_kind_within kinds device KindDisk) (of_kind_within kinds device KindNet) is

-- a line that is right says nothing of a device that isn't offered
unsaid : (kinds : List DeviceSpec) (what : What) (device : ℕ) → IsRight kinds what → length kinds ≤ device → Quiet device what
unsaid kinds (IsContact guest host) device right more = record { ring = refl; window = refl; rescind = refl; shut = refl; modify = refl }
unsaid kinds (IsOffer name spec) device right more = record { ring = refl; window = refl; rescind = refl; shut = refl; modify = refl }
unsaid kinds (IsBad d lba) device right more = record { ring = refl; window = refl; rescind = refl; shut = refl; modify = refl }
unsaid kinds (IsRingSize d pages) device right more = ring_else d device pages (λ same. absurd (omega (arith, same, right.0)))
unsaid kinds (IsWindow d size) device right more = window_else d device size (λ same. absurd (omega (arith, same, right.0)))
unsaid kinds (IsAsk d ask) device right more = record { ring = refl; window = refl; rescind = refl; shut = refl; modify = refl }
unsaid kinds (IsRescind d after held) device right more = rescind_else d device after held (λ same. absurd (omega (arith, same, rescindable_within kinds d right.0)))
unsaid kinds (IsShut d) device right more = shut_else d device (λ same. absurd (omega (arith, same, right)))
unsaid kinds (IsModify d vp) device right more = modify_else d device vp (λ same. absurd (omega (arith, same, right.0)))
unsaid kinds IsPhase device right more = record { ring = refl; window = refl; rescind = refl; shut = refl; modify = refl }

or_both : (a b : Bool) → a ≡ false → b ≡ false → (a || b) ≡ false
or_both false b is more = more
or_both true b is more = absurd (cc)

-- no line speaks of a device that isn't offered yet
none_ring : (kinds : List DeviceSpec) (ls : List Line) (device : ℕ) → AllRight kinds ls → length kinds ≤ device → has_ring device ls ≡ false
none_ring kinds [] device right more = refl
none_ring kinds (l ∷ ls) device right more = or_both _ _ (unsaid kinds l.what device right.0 more).ring (none_ring kinds ls device right.1 more)

none_window : (kinds : List DeviceSpec) (ls : List Line) (device : ℕ) → AllRight kinds ls → length kinds ≤ device → has_window device ls ≡ false
none_window kinds [] device right more = refl
none_window kinds (l ∷ ls) device right more = or_both _ _ (unsaid kinds l.what device right.0 more).window (none_window kinds ls device right.1 more)

none_moved : (kinds : List DeviceSpec) (ls : List Line) (device : ℕ) → AllRight kinds ls → length kinds ≤ device → list_any (λ l. modifies device l.what) ls ≡ false
none_moved kinds [] device right more = refl
none_moved kinds (l ∷ ls) device right more = or_both _ _ (unsaid kinds l.what device right.0 more).modify (none_moved kinds ls device right.1 more)

none_phase : (kind : What → Bool) (kinds : List DeviceSpec) (ls : List Line) (phase : ℕ) → AllRight kinds ls → ((what : What) → IsRight kinds what → kind what ≡ false) → phase_from kind phase ls ≡ None
none_phase kind kinds [] phase right none = refl
none_phase kind kinds (l ∷ ls) phase right none = phase_on kind phase l ls (none l.what right.0) ∙ none_phase kind kinds ls (phase_behind phase l) right.1 none

slice_get_snoc : {X : Type 0} (xs : List X) (x y : X) (i : ℕ) → slice_get (xs ++ x ∷ []) i ≡ Some y → ((i ≡ length xs) × (x ≡ y)) ⊎ (slice_get xs i ≡ Some y)
slice_get_snoc [] x y zero is = inl (refl, cc)
slice_get_snoc [] x y (suc i) is = absurd (cc)
slice_get_snoc (z ∷ xs) x y zero is = inr is
slice_get_snoc (z ∷ xs) x y (suc i) is = ⊎_elim (λ here. inl (ap suc here.0, here.1)) (λ rest. inr rest) (slice_get_snoc xs x y i is)

slice_get_end : {X : Type 0} (xs : List X) (x : X) → slice_get (xs ++ x ∷ []) (length xs) ≡ Some x
slice_get_end [] x = refl
slice_get_end (z ∷ xs) x = slice_get_end xs x

-- a new device, of which no line speaks yet
pub seen_new : (ls : List Line) (number : ℕ) (name : List ℕ) (spec : DeviceSpec) (new : Seen) (seen : List Seen) → AllRight (offered ls) ls → length seen ≡ length (offered ls)
    → new ≡ record { spec = spec; ring = false; window = false; rescinded = None; closed = None; modified = None }
    → ((d : ℕ) (s : Seen) → slice_get seen d ≡ Some s → IsSeen ls d s)
    → (d : ℕ) (s : Seen) → slice_get (seen ++ new ∷ []) d ≡ Some s → IsSeen (ls ++ record { number = number; what = IsOffer name spec } ∷ []) d s
seen_new ls number name spec new seen right count made all d s is =
    let l : Line = record { number = number; what = IsOffer name spec } in
    let kinds = offered ls in
    ⊎_elim
    (λ here.
    let place : d ≡ length kinds = here.0 ∙ count in
    let past : length kinds ≤ d = omega (arith, place) in
    let same : record { spec = spec; ring = false; window = false; rescinded = None; closed = None; modified = None } ≡ s = sym made ∙ here.1 in
    subst (λ e. IsSeen (ls ++ l ∷ []) d e) same (record {
      spec = ap (λ ds. slice_get ds d) (offered_more ls l) ∙ ap (λ i. slice_get (kinds ++ spec ∷ []) i) place ∙ slice_get_end kinds spec;
      ring = sym (none_ring kinds ls d right past) ∙ ring_kept d ls l refl;
      window = sym (none_window kinds ls d right past) ∙ window_kept d ls l refl;
      rescinded = sym (none_phase (rescinds d) kinds ls 0 right (λ what is. (unsaid kinds what d is past).rescind)) ∙ phase_kept (rescinds d) ls l refl;
      closed = sym (none_phase (shuts d) kinds ls 0 right (λ what is. (unsaid kinds what d is past).shut)) ∙ phase_kept (shuts d) ls l refl;
      modified = sym (moved_more d ls l false refl refl ∙ or_false _ ∙ none_this (λ (k : Line). modifies d k.what) ls (none_moved kinds ls d right past));
      by_now = tt;
    }))
    (λ rest. seen_kept ls l d s (record { ring = refl; window = refl; rescind = refl; shut = refl; modify = refl }) (all d s rest))
    (slice_get_snoc seen new s d is)

and_false : (b : Bool) → (b && (false && true)) ≡ false
and_false true = refl
and_false false = refl

and_true : (b : Bool) → (b && (true && true)) ≡ b
and_true true = refl
and_true false = refl

settings_no : (ls : List Line) (l : Line) → is_settings l.what ≡ false → list_all (λ k. is_settings k.what) (ls ++ l ∷ []) ≡ false
settings_no ls l is =
    list_all-append (λ (k : Line). is_settings k.what) ls (l ∷ []) ∙ ap (λ b. list_all (λ (k : Line). is_settings k.what) ls && (b && true)) is ∙ and_false (list_all (λ (k : Line). is_settings k.what) ls)

settings_yes : (ls : List Line) (l : Line) → is_settings l.what ≡ true → list_all (λ k. is_settings k.what) (ls ++ l ∷ []) ≡ list_all (λ k. is_settings k.what) ls
settings_yes ls l is =
    list_all-append (λ (k : Line). is_settings k.what) ls (l ∷ []) ∙ ap (λ b. list_all (λ (k : Line). is_settings k.what) ls && (b && true)) is ∙ and_true (list_all (λ (k : Line). is_settings k.what) ls)

-- a line that offers nothing
offers_none : (ls : List Line) (l : Line) → offered_by l.what ≡ [] → offered (ls ++ l ∷ []) ≡ offered ls
offers_none ls l is = offered_more ls l ∙ ap (λ ds. offered ls ++ ds) is ∙ append-nil (offered ls)

names_none : (ls : List Line) (l : Line) → named_by l.what ≡ [] → names (ls ++ l ∷ []) ≡ names ls
names_none ls l is = names_more ls l ∙ ap (λ ds. names ls ++ ds) is ∙ append-nil (names ls)

places_more : (ls : List Line) (l : Line) → places (ls ++ l ∷ []) ≡ places ls ++ places_by l.what
places_more ls l = flat_map-append (λ (k : Line). places_by k.what) ls (l ∷ []) ∙ ap (λ ps. places ls ++ ps) (append-nil (places_by l.what))

places_none : (ls : List Line) (l : Line) → places_by l.what ≡ [] → places (ls ++ l ∷ []) ≡ places ls
places_none ls l is = places_more ls l ∙ ap (λ ps. places ls ++ ps) is ∙ append-nil (places ls)

-- this place
abbrev pub is_place : ℕ → ℕ → BadPlace → Bool
is_place device lba p = (device == p.device) && (lba == p.lba)

any_placed : (device lba : ℕ) (what : What) (rest : List BadPlace) → list_any (is_place device lba) (places_by what ++ rest) ≡ (sets_bad device lba what || list_any (is_place device lba) rest)
any_placed device lba (IsContact guest host) rest = refl
any_placed device lba (IsOffer name spec) rest = refl
any_placed device lba (IsBad d l) rest = refl
any_placed device lba (IsRingSize d pages) rest = refl
any_placed device lba (IsWindow d size) rest = refl
any_placed device lba (IsAsk d ask) rest = refl
any_placed device lba (IsRescind d after held) rest = refl
any_placed device lba (IsShut d) rest = refl
any_placed device lba (IsModify d vp) rest = refl
any_placed device lba IsPhase rest = refl

-- a block is among the bad places where a line makes it bad
pub any_places : (device lba : ℕ) (ls : List Line) → list_any (is_place device lba) (places ls) ≡ has_bad device lba ls
any_places device lba [] = refl
any_places device lba (l ∷ ls) = any_placed device lba l.what (places ls) ∙ ap (λ b. sets_bad device lba l.what || b) (any_places device lba ls)

module _ (ls : List Line) (keys : List (List ℕ)) (seen : List Seen) (count asks phase : ℕ) (settings : Bool) (bad : List BadPlace) (kept : Keeps ls keys seen count asks phase settings bad) where
  -- what is kept of a device that was offered
  pub seen_at : (device : ℕ) (s : Seen) → device < length (offered ls) → s ≡ slice_index_or seen device s → IsSeen ls device s
  seen_at device s less is =
      let within : device < length seen = omega (arith, less, kept.many) in
      kept.each device s (slice_get-get_or seen device s within ∙ ap Some (sym is))

module _ (ls : List Line) (keys : List (List ℕ)) (seen : List Seen) (count asks phase : ℕ) (settings : Bool) (bad : List BadPlace) (kept : Keeps ls keys seen count asks phase settings bad) (number : ℕ) where
  -- a line that speaks of a device, or asks it, where what is kept of the devices fits
  placed : (device : ℕ) (s : Seen) → device < length (offered ls ++ []) → s ≡ slice_index_or seen device s → slice_get seen device ≡ Some s
  placed device s less is =
      let within : device < length seen = omega (arith, less, kept.many, ap length (append-nil (offered ls))) in
      slice_get-get_or seen device s within ∙ ap Some (sym is)

  settles : (what : What) (new : List Seen) → Fits ls what → offered_by what ≡ [] → named_by what ≡ [] → places_by what ≡ [] → length new ≡ length seen
      → ((d : ℕ) (s : Seen) → slice_get new d ≡ Some s → IsSeen (ls ++ record { number = number; what = what } ∷ []) d s)
      → (more next : ℕ) (all : Bool) → more ≡ asks_in (this_part (ls ++ record { number = number; what = what } ∷ [])) → next ≡ phases_over (ls ++ record { number = number; what = what } ∷ [])
      → all ≡ list_all (λ k. is_settings k.what) (ls ++ record { number = number; what = what } ∷ [])
      → Keeps (ls ++ record { number = number; what = what } ∷ []) keys new count more next all bad
  settles what new fits none_offered none_named none_bad long each more next all asked over set = let l : Line = record { number = number; what = what } in record {
    script = script_push ls l kept.script fits;
    names = kept.names ∙ sym (names_none ls l none_named);
    bad_places = kept.bad_places ∙ sym (places_none ls l none_bad);
    many = long ∙ kept.many ∙ sym (ap length (offers_none ls l none_offered));
    each = each;
    channels = kept.channels ∙ sym (ap (sum_by channels_of) (offers_none ls l none_offered));
    asked = asked;
    over = over;
    all_settings = set;
  }

  quietly : (what : What) → ((d : ℕ) → Quiet d what) → (d : ℕ) (s : Seen) → slice_get seen d ≡ Some s → IsSeen (ls ++ record { number = number; what = what } ∷ []) d s
  quietly what quiet d s is = seen_kept ls (record { number = number; what = what }) d s (quiet d) (kept.each d s is)

  pub keeps_ask : (device : ℕ) (ask : Ask) → Fits ls (IsAsk device ask) → Keeps (ls ++ record { number = number; what = IsAsk device ask } ∷ []) keys seen count (asks + 1) phase false bad
  keeps_ask device ask fits = let l : Line = record { number = number; what = IsAsk device ask } in
      settles (IsAsk device ask) seen fits refl refl refl refl (quietly (IsAsk device ask) (λ d. record { ring = refl; window = refl; rescind = refl; shut = refl; modify = refl })) (asks + 1) phase false
      (ap (λ n. n + 1) kept.asked ∙ sym (ap asks_in (this_other ls l refl) ∙ count_yes (λ k. is_ask k.what) (this_part ls) l refl))
      (kept.over ∙ sym (count_no ends_part ls l refl))
      (sym (settings_no ls l refl))

  pub keeps_phase : Fits ls IsPhase → Keeps (ls ++ record { number = number; what = IsPhase } ∷ []) keys seen count 0 (phase + 1) false bad
  keeps_phase fits = let l : Line = record { number = number; what = IsPhase } in
      settles IsPhase seen fits refl refl refl refl (quietly IsPhase (λ d. record { ring = refl; window = refl; rescind = refl; shut = refl; modify = refl })) 0 (phase + 1) false
      (sym (ap asks_in (this_phase ls l refl)))
      (ap (λ n. n + 1) kept.over ∙ sym (count_yes ends_part ls l refl))
      (sym (settings_no ls l refl))

  pub keeps_contact : (guest host : Version) → Fits ls (IsContact guest host) → Keeps (ls ++ record { number = number; what = IsContact guest host } ∷ []) keys seen count asks phase settings bad
  keeps_contact guest host fits = let l : Line = record { number = number; what = IsContact guest host } in
      settles (IsContact guest host) seen fits refl refl refl refl (quietly (IsContact guest host) (λ d. record { ring = refl; window = refl; rescind = refl; shut = refl; modify = refl })) asks phase settings
      (kept.asked ∙ sym (ap asks_in (this_other ls l refl) ∙ count_no (λ k. is_ask k.what) (this_part ls) l refl))
      (kept.over ∙ sym (count_no ends_part ls l refl))
      (kept.all_settings ∙ sym (settings_yes ls l refl))

  pub keeps_bad : (device lba : ℕ) (p : BadPlace) → Fits ls (IsBad device lba) → p ≡ record { device = device; lba = lba }
      → Keeps (ls ++ record { number = number; what = IsBad device lba } ∷ []) keys seen count asks phase settings (bad ++ p ∷ [])
  keeps_bad device lba p fits made = let l : Line = record { number = number; what = IsBad device lba } in record {
    script = script_push ls l kept.script fits;
    names = kept.names ∙ sym (names_none ls l refl);
    bad_places = ap (λ ps. ps ++ p ∷ []) kept.bad_places ∙ ap (λ q. places ls ++ q ∷ []) made ∙ sym (places_more ls l);
    many = kept.many ∙ sym (ap length (offers_none ls l refl));
    each = quietly (IsBad device lba) (λ d. record { ring = refl; window = refl; rescind = refl; shut = refl; modify = refl });
    channels = kept.channels ∙ sym (ap (sum_by channels_of) (offers_none ls l refl));
    asked = kept.asked ∙ sym (ap asks_in (this_other ls l refl) ∙ count_no (λ k. is_ask k.what) (this_part ls) l refl);
    over = kept.over ∙ sym (count_no ends_part ls l refl);
    all_settings = kept.all_settings ∙ sym (settings_yes ls l refl);
  }

  pub keeps_ring : (device pages : ℕ) (s : Seen) → Fits ls (IsRingSize device pages) → s ≡ slice_index_or seen device s
      → Keeps (ls ++ record { number = number; what = IsRingSize device pages } ∷ []) keys (slice_set seen device (record s { ring = true })) count asks phase settings bad
  keeps_ring device pages s fits at = let l : Line = record { number = number; what = IsRingSize device pages } in
      settles (IsRingSize device pages) (slice_set seen device (record s { ring = true })) fits refl refl refl (length-set seen device (record s { ring = true }))
      (seen_set ls l device (record s { ring = true }) seen kept.each (ring_here ls number device pages s (kept.each device s (placed device s fits.right.0 at))) (λ d other. ring_else device d pages other)) asks phase settings
      (kept.asked ∙ sym (ap asks_in (this_other ls l refl) ∙ count_no (λ k. is_ask k.what) (this_part ls) l refl))
      (kept.over ∙ sym (count_no ends_part ls l refl))
      (kept.all_settings ∙ sym (settings_yes ls l refl))

  pub keeps_window : (device size : ℕ) (s : Seen) → Fits ls (IsWindow device size) → s ≡ slice_index_or seen device s
      → Keeps (ls ++ record { number = number; what = IsWindow device size } ∷ []) keys (slice_set seen device (record s { window = true })) count asks phase settings bad
  keeps_window device size s fits at = let l : Line = record { number = number; what = IsWindow device size } in
      settles (IsWindow device size) (slice_set seen device (record s { window = true })) fits refl refl refl (length-set seen device (record s { window = true }))
      (seen_set ls l device (record s { window = true }) seen kept.each (window_here ls number device size s (kept.each device s (placed device s fits.right.0 at))) (λ d other. window_else device d size other)) asks phase settings
      (kept.asked ∙ sym (ap asks_in (this_other ls l refl) ∙ count_no (λ k. is_ask k.what) (this_part ls) l refl))
      (kept.over ∙ sym (count_no ends_part ls l refl))
      (kept.all_settings ∙ sym (settings_yes ls l refl))

  pub keeps_rescind : (device after : ℕ) (held : Bool) (s : Seen) → Fits ls (IsRescind device after held) → s ≡ slice_index_or seen device s
      → Keeps (ls ++ record { number = number; what = IsRescind device after held } ∷ []) keys (slice_set seen device (record s { rescinded = Some phase })) count asks phase false bad
  keeps_rescind device after held s fits at = let l : Line = record { number = number; what = IsRescind device after held } in
      settles (IsRescind device after held) (slice_set seen device (record s { rescinded = Some phase })) fits refl refl refl (length-set seen device (record s { rescinded = Some phase }))
      (seen_set ls l device (record s { rescinded = Some phase }) seen kept.each
      (rescind_here ls number device after held phase s (fits.rescinded device (eq_self device)) kept.over
      (kept.each device s (placed device s (rescindable_within (offered ls ++ []) device fits.right.0) at))) (λ d other. rescind_else device d after held other)) asks phase false
      (kept.asked ∙ sym (ap asks_in (this_other ls l refl) ∙ count_no (λ k. is_ask k.what) (this_part ls) l refl))
      (kept.over ∙ sym (count_no ends_part ls l refl))
      (sym (settings_no ls l refl))

  pub keeps_shut : (device : ℕ) (s : Seen) → Fits ls (IsShut device) → s ≡ slice_index_or seen device s
      → Keeps (ls ++ record { number = number; what = IsShut device } ∷ []) keys (slice_set seen device (record s { closed = Some phase })) count asks phase false bad
  keeps_shut device s fits at = let l : Line = record { number = number; what = IsShut device } in
      settles (IsShut device) (slice_set seen device (record s { closed = Some phase })) fits refl refl refl (length-set seen device (record s { closed = Some phase }))
      (seen_set ls l device (record s { closed = Some phase }) seen kept.each
      (shut_here ls number device phase s (fits.closed device (eq_self device)) kept.over (kept.each device s (placed device s fits.right at))) (λ d other. shut_else device d other)) asks phase false
      (kept.asked ∙ sym (ap asks_in (this_other ls l refl) ∙ count_no (λ k. is_ask k.what) (this_part ls) l refl))
      (kept.over ∙ sym (count_no ends_part ls l refl))
      (sym (settings_no ls l refl))

  pub keeps_modify : (device vp : ℕ) (s : Seen) → Fits ls (IsModify device vp) → s ≡ slice_index_or seen device s
      → Keeps (ls ++ record { number = number; what = IsModify device vp } ∷ []) keys (slice_set seen device (record s { modified = Some phase })) count asks phase false bad
  keeps_modify device vp s fits at = let l : Line = record { number = number; what = IsModify device vp } in
      settles (IsModify device vp) (slice_set seen device (record s { modified = Some phase })) fits refl refl refl (length-set seen device (record s { modified = Some phase }))
      (seen_set ls l device (record s { modified = Some phase }) seen kept.each
      (modify_here ls number device vp phase s kept.over (kept.each device s (placed device s fits.right.0 at))) (λ d other. modify_else device d vp other)) asks phase false
      (kept.asked ∙ sym (ap asks_in (this_other ls l refl) ∙ count_no (λ k. is_ask k.what) (this_part ls) l refl))
      (kept.over ∙ sym (count_no ends_part ls l refl))
      (sym (settings_no ls l refl))

  pub keeps_offer : (name : List ℕ) (spec : DeviceSpec) (new : Seen) (more : ℕ) → Fits ls (IsOffer name spec) → new ≡ record { spec = spec; ring = false; window = false; rescinded = None; closed = None; modified = None } → more ≡ channels_of spec
      → Keeps (ls ++ record { number = number; what = IsOffer name spec } ∷ []) (keys ++ name ∷ []) (seen ++ new ∷ []) (count + more) asks phase settings bad
  keeps_offer name spec new more fits made is = let l : Line = record { number = number; what = IsOffer name spec } in record {
    script = script_push ls l kept.script fits;
    names = ap (λ ks. ks ++ name ∷ []) kept.names ∙ sym (names_more ls l);
    bad_places = kept.bad_places ∙ sym (places_none ls l refl);
    many = length-push seen new ∙ ap (λ n. n + 1) kept.many ∙ sym (ap length (offered_more ls l) ∙ length-push (offered ls) spec);
    each = seen_new ls number name spec new seen kept.script.right kept.many made kept.each;
    channels = one_more ∙ sym (channels_more ls l);
    asked = kept.asked ∙ sym (ap asks_in (this_other ls l refl) ∙ count_no (λ k. is_ask k.what) (this_part ls) l refl);
    over = kept.over ∙ sym (count_no ends_part ls l refl);
    all_settings = kept.all_settings ∙ sym (settings_yes ls l refl);
  }
    where
      length-push : {X : Type 0} (xs : List X) (x : X) → length (xs ++ x ∷ []) ≡ length xs + 1
      length-push xs x = length-append xs (x ∷ [])

      one_more : count + more ≡ channels ls + sum_by channels_of (spec ∷ [])
      one_more = omega (arith, kept.channels, is, sum_by-cons channels_of spec [])

one_each : (what : What) → length (named_by what) ≡ length (offered_by what)
one_each (IsContact guest host) = refl
one_each (IsOffer name spec) = refl
one_each (IsBad device lba) = refl
one_each (IsRingSize device pages) = refl
one_each (IsWindow device size) = refl
one_each (IsAsk device ask) = refl
one_each (IsRescind device after held) = refl
one_each (IsShut device) = refl
one_each (IsModify device vp) = refl
one_each IsPhase = refl

-- a device has one name
pub names_length : (ls : List Line) → length (names ls) ≡ length (offered ls)
names_length [] = refl
names_length (l ∷ ls) = omega (arith, length-append (named_by l.what) (names ls), length-append (offered_by l.what) (offered ls), one_each l.what, names_length ls)

any_found : {X : Type 0} (p : X → Bool) (xs : List X) → list_any p xs ≡ true → position_or_len p xs < length xs
any_found p [] is = absurd (cc)
any_found p (x ∷ xs) is = by_test (p x)
    (λ e. let zero : position_or_len p (x ∷ xs) ≡ 0 = ap (λ b. cond {A = ℕ} (not b) (1 + position_or_len p xs) 0) e in omega (arith, zero))
    (λ e. let next : position_or_len p (x ∷ xs) ≡ 1 + position_or_len p xs = ap (λ b. cond {A = ℕ} (not b) (1 + position_or_len p xs) 0) e in
    omega (arith, next, any_found p xs (sym (ap (λ b. b || list_any p xs) e) ∙ is)))

-- what has no place is none of them
pub none_placed : {X : Type 0} (p : X → Bool) (xs : List X) → position p xs ≡ None → list_any p xs ≡ false
none_placed p xs is = by_test (list_any p xs)
    (λ e. let found : nat_lt (position_or_len p xs) (length xs) ≡ true = grind (arith, nat_tests, any_found p xs e) in
    let there : position p xs ≡ Some (position_or_len p xs) = ap (λ b. cond b (Some (position_or_len p xs)) None) found in absurd (cc (there, is)))
    (λ e. e)
