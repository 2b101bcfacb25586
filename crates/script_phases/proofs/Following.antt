-- Which relids the channels of a script have.
use Rattle.std.proofs.Common.{◌≡◌, ℕ, zero, suc, ◌+◌, ◌≤◌, Bool, true, false, cond, not, List, [], ◌∷◌, ◌++◌, map, length, length-append, nat_eq, refl, sym, ap, ◌∙◌, subst, arith}
use Rattle.std.specs.Prelude.{if◌then◌else◌}
use Rattle.std.specs.List.{AllByRecursion, flat_map, range_with_len}
use Rattle.std.proofs.lemmas.List.{map-append}
use Rattle.std.proofs.lemmas.List.Elements.{filter-append}
use Rattle.std.proofs.lemmas.Bool.Decides.{nat_tests}
use Rattle.script_lines.specs.declared.line.Line.{Line}
use Rattle.script_lines.specs.declared.line.DeviceSpec.{DeviceSpec}
use Rattle.script_lines.specs.Parts.{parts, offered}
use Rattle.script_phases.specs.Openings.{Opening, subs_of, is_opened, subs_from, channels_from, opened_from, is_first, firsts, others, phases_from}
use Rattle.script_phases.specs.Agreed.{agreed_in}
use Rattle.script_phases.specs.Laws.{OfferedRelids, NextRelids}

range_join : (a m n : ℕ) → range_with_len a m ++ range_with_len (a + m) n ≡ range_with_len a (m + n)
range_join a zero n = let e : a + 0 ≡ a = omega arith in let f : n ≡ 0 + n = omega arith in ap (λ k. range_with_len k n) e ∙ ap (range_with_len a) f
range_join a (suc m) n =
    let e : a + suc m ≡ (a + 1) + m = omega arith in
    let f : suc (m + n) ≡ suc m + n = omega arith in
    ap (λ k. a ∷ (range_with_len (a + 1) m ++ range_with_len k n)) e ∙ (ap (λ l. a ∷ l) (range_join (a + 1) m n) ∙ ap (range_with_len a) f)

abbrev relids : List Opening → List ℕ
relids os = map (λ o. o.relid) os

-- the sub-channels of a device

module _ (device : ℕ) (spec : DeviceSpec) where
  sub_relids : (sub relid n : ℕ) → relids (subs_from device spec sub relid n) ≡ range_with_len relid n
  sub_relids sub relid zero = refl
  sub_relids sub relid (suc n) = ap (λ l. relid ∷ l) (sub_relids (sub + 1) (relid + 1) n)

  sub_count : (sub relid n : ℕ) → length (subs_from device spec sub relid n) ≡ n
  sub_count sub relid zero = refl
  sub_count sub relid (suc n) = ap suc (sub_count (sub + 1) (relid + 1) n)

  not_first : (sub : ℕ) → 1 ≤ sub → nat_eq sub 0 ≡ false
  not_first sub some = grind (arith, nat_tests, some)

  all_others : (sub relid n : ℕ) → 1 ≤ sub → others (subs_from device spec sub relid n) ≡ subs_from device spec sub relid n
  all_others sub relid zero some = refl
  all_others sub relid (suc n) some =
      let o : Opening = record { relid = relid; device = device; spec = spec; sub = sub } in
      let rest = subs_from device spec (sub + 1) (relid + 1) n in
      ap (λ b. cond (not b) (o ∷ others rest) (others rest)) (not_first sub some) ∙ ap (λ l. o ∷ l) (all_others (sub + 1) (relid + 1) n (omega arith))

  no_firsts : (sub relid n : ℕ) → 1 ≤ sub → firsts (subs_from device spec sub relid n) ≡ []
  no_firsts sub relid zero some = refl
  no_firsts sub relid (suc n) some =
      let o : Opening = record { relid = relid; device = device; spec = spec; sub = sub } in
      let rest = subs_from device spec (sub + 1) (relid + 1) n in
      ap (λ b. cond b (o ∷ firsts rest) (firsts rest)) (not_first sub some) ∙ no_firsts (sub + 1) (relid + 1) n (omega arith)

-- those of a phase

abbrev Next : ℕ → List Opening → Type 0
Next next os = relids os ≡ range_with_len next (length os)

others_of_device : (place next : ℕ) (spec : DeviceSpec) (on : List Opening) → others (channels_from place spec next ++ on) ≡ subs_from place spec 1 next (subs_of spec) ++ others on
others_of_device place next spec on =
    filter-append (λ (o : Opening). not (is_first o)) (channels_from place spec next) on ∙ ap (λ l. l ++ others on) (all_others place spec 1 next (subs_of spec) (omega arith))

next_joined : (next n : ℕ) (xs ys : List Opening) → length xs ≡ n → Next next xs → Next (next + n) ys → Next next (xs ++ ys)
next_joined next n xs ys count first second =
    let all : n + length ys ≡ length (xs ++ ys) = omega (arith, count, length-append xs ys) in
    map-append (λ (o : Opening). o.relid) xs ys
    ∙ (ap (λ l. l ++ relids ys) (first ∙ ap (range_with_len next) count)
    ∙ (ap (λ l. range_with_len next n ++ l) second ∙ (range_join next n (length ys) ∙ ap (range_with_len next) all)))

next_if : (b : Bool) (place next : ℕ) (spec : DeviceSpec) (on off : List Opening) → Next (next + subs_of spec) (others on) → Next next (others off) → Next next (others (if b then channels_from place spec next ++ on else off))
next_if true place next spec on off e f =
    let subs = subs_from place spec 1 next (subs_of spec) in
    let count = sub_count place spec 1 next (subs_of spec) in
    let whole = others_of_device place next spec on in
    ap relids whole
    ∙ (next_joined next (subs_of spec) subs (others on) count (sub_relids place spec 1 next (subs_of spec) ∙ ap (range_with_len next) (sym count)) e
    ∙ ap (λ l. range_with_len next (length l)) (sym whole))
next_if false place next spec on off e f = f

next_opened : (opened : ℕ → Bool) (place next : ℕ) (specs : List DeviceSpec) → Next next (others (opened_from opened place next specs))
next_opened opened place next [] = refl
next_opened opened place next (spec ∷ specs) = next_if (opened place) place next spec _ _ (next_opened opened (place + 1) (next + subs_of spec) specs) (next_opened opened (place + 1) next specs)

abbrev Offered : List Opening → Type 0
Offered os = AllByRecursion (λ (o : Opening). o.relid ≡ o.device + 1) (firsts os)

offered_if : (b : Bool) (place next : ℕ) (spec : DeviceSpec) (on off : List Opening) → Offered on → Offered off → Offered (if b then channels_from place spec next ++ on else off)
offered_if true place next spec on off e f =
    let subs = subs_from place spec 1 next (subs_of spec) in
    (refl, subst (AllByRecursion (λ (o : Opening). o.relid ≡ o.device + 1)) (sym (filter-append is_first subs on ∙ ap (λ l. l ++ firsts on) (no_firsts place spec 1 next (subs_of spec) (omega arith)))) e)
offered_if false place next spec on off e f = f

pub offered_relids_lem : OfferedRelids
offered_relids_lem opened next specs = from 0 next specs
  where
    from : (place next : ℕ) (specs : List DeviceSpec) → Offered (opened_from opened place next specs)
    from place next [] = tt
    from place next (spec ∷ specs) = offered_if (opened place) place next spec _ _ (from (place + 1) (next + subs_of spec) specs) (from (place + 1) next specs)

-- those of all phases

all_next : (version : ℕ) (specs : List DeviceSpec) (number next : ℕ) (earlier : List Line) (ps : List (List Line)) → Next next (flat_map (λ p. others p.opened) (phases_from version specs number next earlier ps))
all_next version specs number next earlier [] = refl
all_next version specs number next earlier (part ∷ rest) =
    let os = others (opened_from (is_opened earlier part) 0 next specs) in
    next_joined next (length os) os _ refl (next_opened (is_opened earlier part) 0 next specs) (all_next version specs (number + 1) (next + length os) (earlier ++ part) rest)

pub next_relids_lem : NextRelids
next_relids_lem lines = all_next (agreed_in lines) (offered lines) 0 (length (offered lines) + 1) [] (parts lines)
